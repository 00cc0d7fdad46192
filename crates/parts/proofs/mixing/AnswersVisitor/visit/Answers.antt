-- Every source of the bank is added, and then the answers are written.
use Rattle.std.proofs.Common.{arith}
use Rattle.std.proofs.lemmas.Grind.{common_steps}
use Rattle.parts.proofs.mixing.AnswersVisitor.visit.Goals as goal

pub returns : goal.returns
returns g c =
    let added = c.add_all.ensures.law _ _ c.new-mixer.ensures.law in
    let drained = c.drain-self.ensures.law (g.B.Bank.shape c.args.bank).channels.count (g.B.Bank.lists c.args.bank) in
    grind (arith, common_steps)
