-- The front of a source: its first samples, and what the source is behind them.
use Rattle.std.specs.Prelude.{ℕ, zero, suc, min, List, take, Some, None, Option, Float}
use Rattle.source.specs.Meanings.{Spans, silent, Meaning, less_first, with_spans}
use Rattle.uniform.specs.Pieces.{cut_length}

-- The first n samples, or all.
abbrev pub taken : Option ℕ → List Float → List Float
taken None xs = xs
taken (Some n) xs = take n xs

-- Spans less their first n samples.
abbrev pub less : ℕ → Spans → Spans
less zero ss = ss
less (suc n) ss = less n (less_first ss)

-- Spans behind their first n samples, or behind all.
abbrev pub behind_spans : Option ℕ → Spans → Spans
behind_spans None ss = silent
behind_spans (Some n) ss = less n ss

-- A source behind its first n samples, or at its end.
abbrev pub behind : Option ℕ → Meaning → Meaning
behind o m = with_spans m (behind_spans o m.spans)

-- How many samples of a span make its first piece: all of an open one, of a known one no more than the cut.
abbrev pub piece_length : Option ℕ → Option ℕ
piece_length None = None
piece_length (Some n) = Some (min n cut_length)
