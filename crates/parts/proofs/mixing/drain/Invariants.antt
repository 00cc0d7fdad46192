-- The first i answers are written, and the cells behind them are as they were.
use Rattle.std.proofs.Common.{ℕ, List, length}
use lib.Ieee.{Float}
use Rattle.mixer.specs.Following.{Follows}
use Rattle.parts.specs.Sums.{adds, begun}
use Rattle.parts.proofs.Draining.{Written}
use Rattle.parts.proofs.mixing.drain.Given as goal

abbrev pub invariant-loop-i : goal.invariant-loop-i
invariant-loop-i g l =
    (m : ℕ) (made : List (List Float)) → Follows g.B.Bank.lists m made (adds (length made)) l.initial.mixer →
    Written m made l.initial.out l.i l.out × Follows g.B.Bank.lists m made (begun (length made) l.i) l.mixer
