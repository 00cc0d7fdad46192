-- A source handed out is the first that waits; the others are joined to the bank that has it.
use Rattle.std.proofs.Common.{◌≡◌, suc, ◌∷◌, drop, sym, ap, ◌∙◌}
use Rattle.source.specs.Samples.{rest}
use Rattle.joining.specs.Joining.{spans_of}
use Rattle.joining.proofs.Joining.{some_first, joined_first}
use Rattle.joining.proofs.more.OneMoreJoins.join.Goals as goal

pub returns-in-Some : goal.returns-in-Some
returns-in-Some g c =
    let f = g.B.Bank.shape c.args.bank in
    let ls = g.B.Bank.lists c.args.bank in
    let n = g.N.Joins.most in
    let ms = g.Q.Queue.waiting c.args.queue.now in
    let m = (g.Q.Item.Source.meaning c.in-Some.source).spans in
    let e : ms ≡ m ∷ rest ms = some_first ms m (ap (spans_of g.Q.Item.Source.meaning) (sym c.in-Some.is) ∙ c.next_source.ensures.answer) in
    record {
      law =
          joined_first (λ s l. g.V.Visitor.visited s l c.args.visitor.now c.join-joined.new.visitor) f _ ls _ m n ms _
          (ap g.B.Bank.shape c.new.ensures.below) c.new.ensures.answer e c.next_source.ensures.after
          c.join-joined.ensures.law;
      after = c.join-joined.ensures.after ∙ ap (drop n) c.next_source.ensures.after ∙ sym (ap (drop (suc n)) e);
    }
