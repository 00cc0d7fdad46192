-- The pieces that a source is converted in.
use Rattle.std.specs.Prelude.{ℕ, ◌+◌, ◌-◌, ◌*◌, ◌/◌, cond, List, [], ◌∷◌, map, length, take, drop, Float}
use Rattle.std.specs.List.{range_with_len, flat_map}
use Rattle.source.specs.Spans.{Span}

-- A list cut after every n: the pieces in order, the last maybe shorter, and none of an empty list.
abbrev pub pieces_of : {A : Type 0} → ℕ → List A → List (List A)
pieces_of n xs = map (λ j. take n (drop (j * n) xs)) (range_with_len 0 ((length xs + (n - 1)) / n))

-- Samples in one format that are converted by themselves.
pub record Piece : Type 0 where
  pub channels : ℕ
  pub rate : ℕ
  pub samples : List Float

-- A known span is cut after this many samples, whatever its format.
abbrev pub cut_length : ℕ
cut_length = 32768

-- A known span is cut, and an open one is one piece.
abbrev pub span_pieces : Span → List Piece
span_pieces s =
    map (λ xs. record { channels = s.channels; rate = s.rate; samples = xs })
    (cond s.known (pieces_of cut_length s.samples) (s.samples ∷ []))

-- The pieces of all spans, in order.
abbrev pub pieces : List Span → List Piece
pieces ss = flat_map span_pieces ss
