-- The mixer was made over the bank just now, so its replies are the law's.
use Rattle.std.proofs.Common.{[], IfOk, vec_items, subst}
use Rattle.law.specs.Told.{Told}
use Rattle.mixer.proofs.Performs.{told_of}
use Rattle.replay.proofs.mixer_word.MixVisitor.visit.Goals as goal

pub returns : goal.returns
returns g c =
    let m = (g.B.Bank.shape c.args.bank).channels.count in
    let ls = g.B.Bank.lists c.args.bank in
    record {
      after = subst (λ cs. IfOk c.perform.result (λ rs. Told m ls [] cs (vec_items rs))) c.as_slice.ensures.value
          (told_of g.B.Bank.lists _ vec_items _ _ _ c.perform.result c.perform.ensures.law m ls [] c.new-mixer.ensures.law);
    }
