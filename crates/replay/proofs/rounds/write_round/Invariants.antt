-- The lists hold no more than before the round, and less where something came.
use Rattle.std.proofs.Common.{◌≡◌, ◌<◌, ◌≤◌, true}
use Rattle.replay.specs.Left.{all_left}
use Rattle.replay.proofs.rounds.write_round.Given as goal

abbrev pub invariant-loop-i : goal.invariant-loop-i
invariant-loop-i g l =
    (all_left (g.B.Bank.lists l.bank) ≤ all_left (g.B.Bank.lists l.initial.bank))
    × (l.drawn ≡ true → all_left (g.B.Bank.lists l.bank) < all_left (g.B.Bank.lists l.initial.bank))
