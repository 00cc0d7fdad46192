-- Both keep the law of mixing, and the law of isolation holds of the law's replies.
use Rattle.std.proofs.Common.{◌+◌, ◌≤◌, List, ◌++◌, map, get_or, take, vec_items, sym, subst, arith}
use Rattle.law.specs.declared.Call.TheVariants.{Add, Next}
use Rattle.law.specs.declared.Reply.{Reply}
use Rattle.uniform.specs.Uniform.{uniform}
use Rattle.mixer.proofs.Performs.{Answered, answered_more, answered_all}
use Rattle.isolation.proofs.Mixers.{isolated}
use Rattle.isolation.proofs.both.perform_both.Goals as goal

pub loop-call-preserved : goal.loop-call-preserved
loop-call-preserved g c =
    let i = c.loop-call.call-index in
    let cs = c.args.calls.now in
    let v = c.loop-call.invariant in
    let e = c.push_reserved.ensures in
    let f = c.push_reserved-in-loop-call.ensures in (
      omega (arith, e.len, v.0),
      omega (arith, e.capacity, v.1),
      omega (arith, f.len, v.2),
      omega (arith, f.capacity, v.3),
      subst (λ (rs : List Reply). Answered g.P.Bank.lists cs (i + 1) c.args.first.now rs c.call.new.self) (sym e.items)
          (answered_more g.P.Bank.lists cs i (Add 0) c.args.first.now c.loop-call.first c.call.new.self
          (vec_items c.loop-call.of_first) c.call.result c.loop-call-test.true v.4 c.call.ensures.law),
      subst (λ (rs : List Reply). Answered g.Q.Bank.lists cs (i + 1) c.args.second.now rs c.call-in-loop-call.new.self) (sym f.items)
          (answered_more g.Q.Bank.lists cs i (Add 0) c.args.second.now c.loop-call.second c.call-in-loop-call.new.self
          (vec_items c.loop-call.of_second) c.call-in-loop-call.result c.loop-call-test.true v.5 c.call-in-loop-call.ensures.law),
    )

pub returns : goal.returns
returns g c =
    let cs = c.args.calls.now in
    let v = c.loop-call.invariant in
    let i = c.loop-call.call-index in
    let one = answered_all g.P.Bank.lists cs i c.args.first.now c.loop-call.first (vec_items c.loop-call.of_first) c.loop-call-test.false v.4 in
    let two = answered_all g.Q.Bank.lists cs i c.args.second.now c.loop-call.second (vec_items c.loop-call.of_second) c.loop-call-test.false v.5 in
    record {
      law = λ m rate S d ps qs h like p q k lt.
          let some : 1 ≤ m = omega (arith, c.args.first.now.channels.low, p.channels) in
          let a = (one m (map (uniform m rate) ps) h p).0.reply_is k lt in
          let b = (two m (map (uniform m rate) qs) h q).0.reply_is k lt in
          rw (a, b) (isolated m rate S d ps qs (h ++ take k cs) (get_or cs k Next) some like);
      first = one;
      second = two;
    }
