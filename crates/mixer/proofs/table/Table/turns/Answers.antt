-- Each source's turn adds its term, and once all had theirs the sum is the law's.
use Rattle.std.proofs.Common.{◌≡◌, ℕ, ◌<◌, ◌≤◌, List, length, get_or, set, ap, ◌∙◌, arith, length-set}
use Rattle.std.specs.Option.{option_to_list}
use Rattle.std.proofs.lemmas.List.{get_or-map, length-map}
use Rattle.law.specs.Mixing.{Accepted, accepted, nobody}
use Rattle.mixer.specs.Turns.{plus}
use Rattle.mixer.proofs.Answering.{sum_more, sum_all, all_turned}
use Rattle.mixer.proofs.Stepping.{Took, partway_more, gave_term}
use Rattle.mixer.proofs.table.Table.turns.Goals as goal

pub loop-number-preserved : goal.loop-number-preserved
loop-number-preserved g c =
    let x = c.args.self.now in
    let v = c.loop-number.invariant in
    let e = c.turn-term.ensures in
    let j = c.loop-number.number-index in
    let order = c.as_slice-order.result.now in
    let i : ℕ = get_or order j 0 in
    let ps = c.loop-number.places in
    let qs = set ps i c.turn-term.new.self in
    let ls = g.B.Bank.lists c.loop-number.bank in
    let ks = g.B.Bank.lists c.turn-term.new.bank in
    let t : Took i ps qs ls ks = record { places = ap (set ps i) e.place; lists_are = e.lists } in
    let below : i < 16 = rw c.as_slice-order.ensures.value (x.numbers j 0 (omega (arith, c.loop-number-test.true, ap length c.as_slice-order.ensures.value))) in
    let wide : i < length ps = omega (arith, below, v.0) in (
      length-set ps i _ ∙ v.0,
      e.same ∙ v.1,
      λ m made h f.
          let r = v.2 m made h f in
          let took = accepted (length made) h in
          let lt : j < length took = omega (arith, c.loop-number-test.true, ap length r.1.order_is, length-map took (λ (a : Accepted). a.number)) in
          let is : i ≡ (get_or took j nobody).number = ap (λ (ns : List ℕ). get_or ns j 0) r.1.order_is ∙ get_or-map (λ (a : Accepted). a.number) took j nobody 0 lt in (
            c.plus_term-sum.ensures.answer ∙ ap (λ s. plus s c.turn-term.result) r.0
                ∙ sum_more m made h j c.turn-term.result lt (ap option_to_list e.answer ∙ gave_term m made h j i ps qs order ls ks t wide lt is r.1),
            partway_more m made h j i ps qs order ls ks t wide lt is r.1,
          ),
    )

pub returns-clause-law : goal.returns-clause-law
returns-clause-law g c m made h f =
    let value = c.as_slice-order.ensures.value in
    let j = c.loop-number.number-index in
    let took = accepted (length made) h in
    let r = c.loop-number.invariant.2 m made h (rw value f) in
    let all : length took ≤ j = omega (arith, c.loop-number-test.false, ap length r.1.order_is, length-map took (λ (a : Accepted). a.number)) in (
      r.0 ∙ sum_all m made h j all,
      rw (← value) (all_turned m made h j c.loop-number.places c.as_slice-order.result.now (g.B.Bank.lists c.loop-number.bank) all r.1),
    )
