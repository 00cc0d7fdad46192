-- One call more is answered, and in the end all are.
use Rattle.std.proofs.Common.{◌+◌, List, vec_items, sym, subst, arith}
use Rattle.law.specs.declared.Call.TheVariants.{Add}
use Rattle.law.specs.declared.Reply.{Reply}
use Rattle.mixer.proofs.Performs.{Answered, answered_more, answered_all}
use Rattle.mixer.proofs.Mixer.perform.Goals as goal

pub loop-call-preserved : goal.loop-call-preserved
loop-call-preserved g c =
    let lists = g.B.Bank.lists in
    let i = c.loop-call.call-index in
    let cs = c.args.calls.now in
    let x = c.args.self.now in
    let z = c.call.new.self in
    let v = c.loop-call.invariant in
    let e = c.push_reserved.ensures in (
      omega (arith, e.len, v.0),
      omega (arith, e.capacity, v.1),
      subst (λ (rs : List Reply). Answered lists cs (i + 1) x rs z) (sym e.items)
          (answered_more lists cs i (Add 0) x c.loop-call.self z (vec_items c.loop-call.replies) c.call.result c.loop-call-test.true v.2 c.call.ensures.law),
    )

pub returns : goal.returns
returns g c = record {
  law = answered_all g.B.Bank.lists c.args.calls.now c.loop-call.call-index c.args.self.now c.loop-call.self
      (vec_items c.loop-call.replies) c.loop-call-test.false c.loop-call.invariant.2;
}
