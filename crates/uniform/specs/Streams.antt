-- What is left of a uniform stream. `of` says what the source below means.
use Rattle.std.specs.Prelude.{◌≡◌, false, List, [], ◌++◌, Some, None, Option, Float}
use Rattle.common.specs.declared.format.Format.{Format}
use Rattle.source.specs.Meanings.{Meaning, Spans, silent, open_from, samples_of}
use Rattle.source.specs.Spans.{listed}
use Rattle.channels.specs.Converters.{converted as channels_left}
use Rattle.channels.specs.declared.ChannelCountConverter.{ChannelCountConverter}
use Rattle.sample_rate.specs.Converters.{converted as rate_left, inner}
use Rattle.sample_rate.specs.declared.SampleRateConverter.{SampleRateConverter}
use Rattle.uniform.specs.Takes.{taken, behind}
use Rattle.uniform.specs.Uniform.{uniform}
use Rattle.uniform.specs.declared.UniformSourceIterator.{UniformSourceIterator}
use Rattle.uniform.specs.declared.take.Take.{Take}

-- The two converters over a piece of a source.
abbrev pub Chain : Type 0 → Type 0
Chain S = ChannelCountConverter (SampleRateConverter (Take S))

module _ {S : Type 0} (of : S → Meaning) where
  -- What is left of the piece, converted.
  abbrev pub piece_left : Take S → List Float
  piece_left p = taken p.n (samples_of (of p.iter))

  abbrev pub chain_left : Chain S → List Float
  chain_left c = channels_left (rate_left piece_left) c

  -- The source behind the piece.
  abbrev pub chain_beyond : Chain S → Meaning
  chain_beyond c = behind (inner c.input).n (of (inner c.input).iter)

  -- What is left of the piece, and then the uniform stream of the source behind it.
  abbrev pub stream_left : Format → Option (Chain S) → List Float
  stream_left f None = []
  stream_left f (Some c) = chain_left c ++ uniform f.channels.count f.rate.rate (listed (chain_beyond c).spans)

  abbrev pub left_of : UniformSourceIterator S → List Float
  left_of s = stream_left s.format s.inner

  -- What is left of the piece, where there is one.
  abbrev pub piece_of : Option (Chain S) → List Float
  piece_of None = []
  piece_of (Some c) = chain_left c

  -- The spans of the source as it stands, and those behind the piece.
  abbrev pub below_of : Option (Chain S) → Spans
  below_of None = silent
  below_of (Some c) = (of (inner c.input).iter).spans

  abbrev pub behind_of : Option (Chain S) → Spans
  behind_of None = silent
  behind_of (Some c) = (chain_beyond c).spans

  -- A uniform stream is one open span in its format, rests the same, and lasts as long as its source.
  abbrev pub uniform_meaning : UniformSourceIterator S → Meaning
  uniform_meaning s = record {
    spans = open_from s.format (stream_left s.format s.inner);
    rests_at = s.format;
    rests_known = false;
    duration = s.total_duration;
  }

-- The source that a stream reads from, as it stands.
abbrev pub HoldsSource : {S : Type 0} → Option (Chain S) → S → Type 0
HoldsSource None s = ⊥
HoldsSource (Some c) s = s ≡ (inner c.input).iter

-- A source that is one open span in the target format already is heard as it is.
abbrev pub Untouched : Format → Meaning → Meaning → Type 0
Untouched f m n = (xs : List Float) → m.spans ≡ open_from f xs → n.spans ≡ open_from f xs

-- A source as it is heard in one format.
abbrev pub in_one_format : Format → Meaning → Meaning
in_one_format f m = record {
  spans = open_from f (uniform f.channels.count f.rate.rate (listed m.spans));
  rests_at = f;
  rests_known = false;
  duration = m.duration;
}
