-- Each turn draws one sample more; at the end of the list nothing is left.
use Rattle.std.proofs.Common.{◌≡◌, ◌≤◌, false, length, drop, is_some, sym, ap, ◌∙◌, arith, drop_of_length-le}
use Rattle.source.specs.Samples.{first, rest}
use Rattle.source.proofs.Draws.{rest-drop, first_none}
use Rattle.source.proofs.Samples.discard.Goals as goal

pub loop-preserved : goal.loop-preserved
loop-preserved g c = (
  c.next.ensures.after ∙ ap rest c.loop.invariant.0 ∙ rest-drop c.loop.counter (g.Self.Samples.samples c.args.self.now),
  c.next.ensures.same ∙ c.loop.invariant.1,
)

pub returns-then-is_none : goal.returns-then-is_none
returns-then-is_none g c =
    let s = g.Self.Samples.samples c.args.self.now in
    let i = c.loop.counter in
    let none : is_some (first (drop i s)) ≡ false = ap (λ l. is_some (first l)) (sym c.loop.invariant.0) ∙ ap is_some (sym c.next.ensures.answer) ∙ c.if-is_none.ensures in
    let e : length s ≤ i = first_none i s none in
    record {
      after =
          c.next.ensures.after ∙ ap rest (c.loop.invariant.0 ∙ drop_of_length-le s e)
          ∙ sym (drop_of_length-le s (omega (arith, e, c.loop-test.true)));
      same = c.next.ensures.same ∙ c.loop.invariant.1;
    }
