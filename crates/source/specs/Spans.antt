-- A source's spans as a plain list, for definitions over whole sources.
use Rattle.std.specs.Prelude.{ℕ, Bool, true, false, List, [], ◌∷◌, Float}
use Rattle.common.specs.declared.format.Format.{Format}
use Rattle.source.specs.Meanings.{Spans, silent, open_span, known_span}

-- One span: its format, whether its length is known, and its samples.
pub record Span : Type 0 where
  pub channels : ℕ
  pub rate : ℕ
  pub known : Bool
  pub samples : List Float

-- A span of some samples in a format, known or not.
abbrev pub span_of : Format → Bool → List Float → Span
span_of f k xs = record { channels = f.channels.count; rate = f.rate.rate; known = k; samples = xs }

-- The spans in order.
abbrev pub listed : Spans → List Span
listed silent = []
listed (open_span f x xs) = span_of f false (x ∷ xs) ∷ []
listed (known_span f x xs h ss) = span_of f true (x ∷ xs) ∷ listed ss
