-- A sample drawn from a bank is one sample less in its lists.
use Rattle.std.proofs.Common.{◌≡◌, ℕ, zero, suc, ◌+◌, List, [], ◌∷◌, get_or, Some, None, Option, refl, arith}
use lib.Ieee.{Float}
use Rattle.source.specs.Samples.{first}
use Rattle.bank.specs.Banks.{drawn_at}
use Rattle.replay.specs.Left.{all_left}

abbrev pub one_if : {A : Type 0} → Option A → ℕ
one_if None = 0
one_if (Some x) = 1

pub drawn-left : (ls : List (List Float)) (i : ℕ) → all_left (drawn_at ls i) + one_if (first (get_or ls i [])) ≡ all_left ls
drawn-left [] i = refl
drawn-left ([] ∷ ls) zero = omega arith
drawn-left ((x ∷ xs) ∷ ls) zero = omega arith
drawn-left (l ∷ ls) (suc i) = omega (arith, drawn-left ls i)
