-- Past both frames, either nothing is left, or the window is read anew.
use Rattle.std.proofs.Common.{◌≡◌, ◌*◌, ◌≤◌, ◌++◌, length, take, drop, sym, refl, ap, ◌∙◌, ap₂, arith}
use Rattle.frames.specs.Frames.{framed}
use Rattle.rates.specs.Onward.{behind}
use Rattle.rates.proofs.Helds.{read_two}
use Rattle.frames.proofs.Walks.{leapt, read_ended}
use Rattle.frames.proofs.window.Window.leap.Goals as goal

pub returns-else-len-count : goal.returns-else-len-count
returns-else-len-count g c =
    let w = c.args.self.now in
    let n = w.channels.count in
    let f = c.args.frames in
    let of = g.I.Samples.samples in
    let xs = of c.discard.new.self in
    let nxt' = framed c.refill-else-len-count.new.self in
    let inp' = of c.refill-else-len-count.new.input in
    let h : n ≤ length (framed w.next) = omega (arith, c.len.ensures.answer, c.get-count.ensures.answer, c.if-len-count.false) in
    let a : framed c.refill.new.self ≡ take n xs = c.refill.ensures.filled in
    let b : nxt' ≡ take n (drop n xs) = c.refill-else-len-count.ensures.filled ∙ ap (take n) c.refill.ensures.after in
    let d : inp' ≡ drop n (drop n xs) = c.refill-else-len-count.ensures.after ∙ ap (drop n) c.refill.ensures.after in
    let gone : xs ≡ drop (f * n) (of w.input) = c.discard.ensures.after ∙ ap (λ k. drop (f * k) (of w.input)) c.get-count.ensures.answer in
    record {
      after =
          ap₂ (λ x y. x ++ y) a (ap₂ (λ x y. x ++ behind n x y) b d)
          ∙ read_two n xs
          ∙ gone
          ∙ sym (leapt n f (framed w.current) (framed w.next) (of w.input) w.channels.low w.lined h);
      same = c.refill-else-len-count.ensures.same ∙ c.refill.ensures.same ∙ c.discard.ensures.same;
      channels = refl;
      law = λ e p.
          read_ended n (of c.refill.new.input) nxt' inp' c.refill-else-len-count.ensures.filled c.refill-else-len-count.ensures.after p;
    }
