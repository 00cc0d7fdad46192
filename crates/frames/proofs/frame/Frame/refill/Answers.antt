-- Each turn fills one more cell; at the end of the input the frame is as long as what was read.
use Rattle.std.proofs.Common.{◌≡◌, suc, ◌<◌, ◌≤◌, [], ◌∷◌, ◌++◌, length, take, drop, set, sym, ap, ◌∙◌, add-one, arith, length-set, drop_of_length-le, take_all, take-suc-set}
use Rattle.source.specs.Samples.{first, rest}
use Rattle.frames.proofs.Heads.{Here, here, over}
use Rattle.frames.proofs.frame.Frame.refill.Goals as goal

pub returns-in-None : goal.returns-in-None
returns-in-None g c =
    let s = g.I.Samples.samples c.args.input.now in
    let n = c.args.channels.count in
    let i = c.loop-i.i in
    let v = c.loop-i.invariant in
    let e : length s ≤ i = over s i (sym c.in-None.is ∙ c.next.ensures.answer ∙ ap first v.3) in
    let ec : length s ≤ n = omega (arith, e, c.loop-i-test.true) in
    let d : drop i s ≡ [] = drop_of_length-le s e in
    record {
      filled = v.2 ∙ take_all i s e ∙ sym (take_all n s ec);
      after = c.next.ensures.after ∙ ap rest (v.3 ∙ d) ∙ sym (drop_of_length-le s ec);
      same = c.next.ensures.same ∙ v.4;
    }

pub loop-i-preserved : goal.loop-i-preserved
loop-i-preserved g c =
    let s = g.I.Samples.samples c.args.input.now in
    let x = c.in-Some.x in
    let i = c.loop-i.i in
    let cells = c.loop-i.self.samples in
    let v = c.loop-i.invariant in
    let h : Here s i x = here s i x (sym c.in-Some.is ∙ c.next.ensures.answer ∙ ap first v.3) in
    let lt : i < length cells = omega (arith, v.0, c.loop-i-test.true) in
    let t : take (suc i) (set cells i x) ≡ take (suc i) s =
    take-suc-set cells i x lt ∙ ap (λ l. l ++ (x ∷ [])) v.2 ∙ sym h.front in (
      length-set cells i x ∙ v.0,
      omega (arith, h.less),
      rw add-one t,
      rw add-one (c.next.ensures.after ∙ ap rest v.3 ∙ h.back),
      c.next.ensures.same ∙ v.4,
    )
