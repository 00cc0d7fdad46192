-- Sources cut from cells.
use Rattle.std.specs.Prelude.{ℕ, zero, suc, cond, ◌&&◌, List, [], ◌∷◌, map, length, take, drop, nat_le, Float}
use Rattle.common.specs.declared.format.Format.{Format}
use Rattle.source.specs.Meanings.{Spans, open_from}
use Rattle.buffer.specs.Refusals.{max_cells}

-- The spans of k sources in a format, each of n cells behind the ones before it, while there are as many cells and no more than are taken.
-- `of` says what a cell stands for.
abbrev pub parts_of : {K : Type 0} → (K → Float) → Format → ℕ → ℕ → List K → List Spans
parts_of of f n zero cells = []
parts_of of f n (suc k) cells =
    cond (nat_le n (length cells) && nat_le n max_cells) (open_from f (map of (take n cells)) ∷ parts_of of f n k (drop n cells)) []
