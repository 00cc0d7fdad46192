-- Each round but the last draws something.
use Rattle.replay.specs.Left.{all_left}
use Rattle.replay.proofs.rounds.write_rounds.Given as goal

abbrev pub decreases-loop : goal.decreases-loop
decreases-loop g l = all_left (g.B.Bank.lists l.bank)
