-- The first sources had their turn, and their terms are summed.
use Rattle.std.proofs.Common.{◌≡◌, ℕ, suc, List, length}
use lib.Ieee.{Float}
use Rattle.law.specs.declared.Call.{Call}
use Rattle.law.specs.Mixing.{answers}
use Rattle.bank.specs.Banks.{most_lists}
use Rattle.mixer.specs.Following.{Partway}
use Rattle.mixer.proofs.Answering.{sum_so_far}
use Rattle.mixer.proofs.Stepping.{seen}
use Rattle.mixer.proofs.table.Table.turns.Given as goal

abbrev pub invariant-loop-number : goal.invariant-loop-number
invariant-loop-number g l =
    (length l.places ≡ most_lists)
    × (g.B.Bank.shape l.bank ≡ g.B.Bank.shape l.initial.bank)
    × ((m : ℕ) (made : List (List Float)) (h : List Call) → Partway m made h (suc (answers h)) (λ _. answers h) l.initial.places l.order (g.B.Bank.lists l.initial.bank) →
    (l.sum ≡ sum_so_far m made h l.number-index) × Partway m made h (suc (answers h)) (seen (answers h) l.number-index) l.places l.order (g.B.Bank.lists l.bank))
