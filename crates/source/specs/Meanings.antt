-- What a source means: its spans, what it answers once they are gone, and its total duration or none.
use Rattle.std.specs.Prelude.{ℕ, ◌≤◌, Bool, cond, List, [], ◌∷◌, ◌++◌, length, Some, None, Option, Float}
use Rattle.std.proofs.Math.Nat.{le_of_suc-le}
use Rattle.common.specs.declared.duration.Duration.{Duration}
use Rattle.common.specs.declared.format.Format.{Format}

-- A known span has at most this many samples.
abbrev pub longest_known : ℕ
longest_known = 4294967295

-- The spans that a source still has. Each has a format and at least one sample, a first one and more; only the last may be
-- open, and a known one holds no more samples than the limit. Nothing else can be written down.
pub data Spans : Type 0 where
  silent : Spans
  open_span : Format → Float → List Float → Spans
  known_span : Format → (x : Float) (xs : List Float) → length (x ∷ xs) ≤ longest_known → Spans → Spans

-- A source: its spans, the format that it rests at and whether it rests at known 0 or open, its total duration or none.
pub record Meaning : Type 0 where
  pub spans : Spans
  pub rests_at : Format
  pub rests_known : Bool
  pub duration : Option Duration

-- An open span of some samples; there is none where there are no samples.
abbrev pub open_from : Format → List Float → Spans
open_from f [] = silent
open_from f (x ∷ xs) = open_span f x xs

-- A known span of some samples before others; there is none where there are no samples.
abbrev pub known_from : Format → (xs : List Float) → length xs ≤ longest_known → Spans → Spans
known_from f [] h ss = ss
known_from f (x ∷ xs) h ss = known_span f x xs h ss

-- The samples of all spans, joined.
abbrev pub all_samples : Spans → List Float
all_samples silent = []
all_samples (open_span f x xs) = x ∷ xs
all_samples (known_span f x xs h ss) = x ∷ (xs ++ all_samples ss)

-- The spans less the first sample; a span left empty goes.
abbrev pub less_first : Spans → Spans
less_first silent = silent
less_first (open_span f x xs) = open_from f xs
less_first (known_span f x xs h ss) = known_from f xs (le_of_suc-le h) ss

-- The format of the first span, with no span left the one given.
abbrev pub format_or : Format → Spans → Format
format_or rests silent = rests
format_or rests (open_span f x xs) = f
format_or rests (known_span f x xs h ss) = f

-- The samples left in the first span if it is known, none if it is open, with no span left the answer given.
abbrev pub length_or : Option ℕ → Spans → Option ℕ
length_or rests silent = rests
length_or rests (open_span f x xs) = None
length_or rests (known_span f x xs h ss) = Some (length (x ∷ xs))

-- What a source's questions answer: for the first span, and with no span left for the rest.
abbrev pub format_now : Meaning → Format
format_now m = format_or m.rests_at m.spans

abbrev pub span_len_now : Meaning → Option ℕ
span_len_now m = length_or (cond m.rests_known (Some 0) None) m.spans

-- The samples that a source has yet to give.
abbrev pub samples_of : Meaning → List Float
samples_of m = all_samples m.spans

-- A source with other spans.
abbrev pub with_spans : Meaning → Spans → Meaning
with_spans m ss = record { spans = ss; rests_at = m.rests_at; rests_known = m.rests_known; duration = m.duration }

-- A source once its first sample is drawn.
abbrev pub after_next : Meaning → Meaning
after_next m = with_spans m (less_first m.spans)

-- A source once all its samples are drawn.
abbrev pub at_end : Meaning → Meaning
at_end m = with_spans m silent
