-- One part cut from cells.
use Rattle.std.proofs.Common.{◌≡◌, ℕ, zero, suc, ◌-◌, ◌<◌, ◌≤◌, ◌&&◌, leb, List, [], ◌∷◌, map, length, take, drop, refl, arith}
use lib.Ieee.{Float}
use Rattle.std.proofs.lemmas.Bool.{le-leb, lt-leb, and_right, and_from, cond-true, cond-false}
use Rattle.common.specs.declared.format.Format.{Format}
use Rattle.source.specs.Meanings.{open_from}
use Rattle.buffer.specs.Refusals.{max_cells}
use Rattle.parts.specs.Cut.{parts_of}

module _ {K : Type 0} (of : K → Float) (f : Format) (n : ℕ) (cells : List K) where
  -- a part has too many cells
  pub large_part : (k : ℕ) → max_cells < n → parts_of of f n k cells ≡ []
  large_part zero h = refl
  large_part (suc k) h = cond-false (leb n (length cells) && leb n max_cells) _ _ (and_right (leb n (length cells)) (leb n max_cells) (lt-leb n max_cells h))

  -- one part, and then the others
  pub one_part : (k : ℕ) → 0 < k → n ≤ length cells → n ≤ max_cells →
      parts_of of f n k cells ≡ open_from f (map of (take n cells)) ∷ parts_of of f n (k - 1) (drop n cells)
  one_part zero some long few = absurd (omega arith)
  one_part (suc k) some long few =
      let last : suc k - 1 ≡ k = omega arith in
      rw last (cond-true (leb n (length cells) && leb n max_cells) _ _ (and_from (leb n (length cells)) (leb n max_cells) (le-leb n (length cells) long) (le-leb n max_cells few)))
