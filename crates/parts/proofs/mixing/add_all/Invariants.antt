-- The numbers below i are added.
use Rattle.std.proofs.Common.{ℕ, List, []}
use lib.Ieee.{Float}
use Rattle.mixer.specs.Following.{Follows}
use Rattle.parts.specs.Sums.{adds}
use Rattle.parts.proofs.mixing.add_all.Given as goal

abbrev pub invariant-loop-i : goal.invariant-loop-i
invariant-loop-i g l = (m : ℕ) (made : List (List Float)) → Follows g.B.Bank.lists m made [] l.initial.mixer → Follows g.B.Bank.lists m made (adds l.i) l.mixer
