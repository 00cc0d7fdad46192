-- The uniform stream: a source in one format.
use Rattle.std.specs.Prelude.{ℕ, List, Float}
use Rattle.std.specs.List.{flat_map}
use Rattle.source.specs.Spans.{Span}
use Rattle.channels.specs.Channels.{channels_converted}
use Rattle.rates.specs.Rates.{rate_converted}
use Rattle.uniform.specs.Pieces.{Piece, pieces}

-- A piece goes through rate conversion, and then through channel conversion.
abbrev pub piece_converted : ℕ → ℕ → Piece → List Float
piece_converted t rate p = channels_converted p.channels t (rate_converted p.rate rate p.channels p.samples)

-- Each piece of a source is converted afresh to t channels at a rate, and the results are joined.
abbrev pub uniform : ℕ → ℕ → List Span → List Float
uniform t rate ss = flat_map (piece_converted t rate) (pieces ss)
