-- Seventeen are as many as can be heard, and one more.
use Rattle.joining.proofs.Joining.{beyond_unheard}
use Rattle.std.proofs.Common.{subst}
use Rattle.joining.proofs.seventeen.join_all.Goals as goal

pub returns : goal.returns
returns g c =
    let f = g.B.Bank.shape c.args.bank in
    let ls = g.B.Bank.lists c.args.bank in
    let ms = g.Q.Queue.waiting c.args.queue.now in
    record {
      law = subst (λ l. g.V.Visitor.visited f l c.args.visitor.now c.join.new.visitor) (beyond_unheard f ls ms) c.join.ensures.law;
      after = c.join.ensures.after;
    }
