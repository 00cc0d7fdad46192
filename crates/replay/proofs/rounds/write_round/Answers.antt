-- A sample that came is one less in the lists.
use Rattle.std.proofs.Common.{arith}
use Rattle.std.proofs.lemmas.Grind.{common_steps}
use Rattle.replay.proofs.Left.{drawn-left}
use Rattle.replay.proofs.rounds.write_round.Goals as goal

pub loop-i-preserved : goal.loop-i-preserved
loop-i-preserved g c =
    let left = drawn-left (g.B.Bank.lists c.loop-i.bank) c.loop-i.i in
    grind (arith, common_steps)
