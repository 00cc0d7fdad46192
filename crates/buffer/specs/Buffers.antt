-- What a buffer means.
use Rattle.std.specs.Prelude.{◌≡◌, ℕ, ◌*◌, ◌/◌, false, List, map, length, drop, Some, Float}
use Rattle.std.specs.Option.{option_map}
use Rattle.common.specs.declared.duration.Duration.{Duration}
use Rattle.common.specs.declared.format.Format.{Format}
use Rattle.source.specs.Meanings.{Meaning, open_from}
use Rattle.buffer.specs.declared.SamplesBuffer.{SamplesBuffer}

-- A buffer has the cells from its position on as one open span, and then rests at its own format, open. `of` says what a cell stands for.
abbrev pub buffer_meaning : {K : Type 0} → (K → Float) → SamplesBuffer K → Meaning
buffer_meaning of s =
    record { spans = open_from s.format (map of (drop s.pos s.cells.now)); rests_at = s.format; rests_known = false; duration = Some s.duration }

-- How long n samples of a format last in nanoseconds, each division rounded down.
abbrev pub lasting : Format → ℕ → ℕ
lasting f n = 1000000000 * n / f.rate.rate / f.channels.count

-- A source that is one open span of these samples, rests at the same format, open, and lasts as long as they do.
pub record OneOpenSpan (f : Format) (xs : List Float) (m : Meaning) : Type 0 where
  pub spans : m.spans ≡ open_from f xs
  pub rests_at : m.rests_at ≡ f
  pub rests_open : m.rests_known ≡ false
  pub lasts : option_map (λ (d : Duration). d.nanos) m.duration ≡ Some (lasting f (length xs))
