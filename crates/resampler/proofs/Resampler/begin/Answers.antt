-- The steps and the rest carried along are the quotient and the remainder of the next place.
use Rattle.std.proofs.Common.{◌≡◌, ◌+◌, ◌*◌, ◌/◌, ◌%◌, ◌<◌, drop, sym, refl, ap, ◌∙◌, ap₂, add-mul, one-mul, arith}
use lib.Arith.{digits_div, digits_mod}
use Rattle.frames.specs.Frames.{framed}
use Rattle.rates.specs.Onward.{onward}
use Rattle.rates.proofs.Helds.{begun, onward_past}
use Rattle.frames.specs.Windows.{seen}
use Rattle.resampler.proofs.Resampler.begin.Goals as goal
use Rattle.resampler.proofs.Resampler.begin.Goals.{then-n-self, else-n-self}

pub returns : goal.returns
returns g c =
    let s = c.args.self.now in
    let p = s.pace in
    let w = c.skip.new.self in
    let n = c.if-n-self.n in
    let steps = c.if-n-self.steps in
    let q : n + steps * p.to ≡ s.n + p.from =
    elim c.if-n-self.branch [
      | then-n-self v ↦ omega (arith, v.n-is, v.if-n-self.true, ap (λ t. t * p.to) v.steps-is, add-mul p.whole 1 p.to, one-mul p.to, p.divided)
      | else-n-self v ↦ omega (arith, v.n-is, ap (λ t. t * p.to) v.steps-is, p.divided)
    ] in
    let b : n < p.to =
    elim c.if-n-self.branch [
      | then-n-self v ↦ omega (arith, v.n-is, v.if-n-self.true, s.below, p.below)
      | else-n-self v ↦ omega (arith, v.n-is, v.if-n-self.false)
    ] in
    let v : s.n + p.from ≡ steps * p.to + n = omega (arith, q) in
    record {
      after =
          sym (begun n p.from p.to w.channels.count (framed w.current) (framed w.next) (g.I.Samples.samples w.input) b p.from_low w.channels.low w.lined)
          ∙ ap₂ (onward n p.from p.to) (ap (λ k. k.count) c.skip.ensures.channels) c.skip.ensures.after
          ∙ sym (onward_past steps n p.from p.to s.window.channels.count (seen g.I.Samples.samples s.window) p.to_low s.window.channels.low)
          ∙ ap (λ r. onward r p.from p.to s.window.channels.count (seen g.I.Samples.samples s.window)) q;
      at = refl;
      pace = refl;
      place = sym (ap (λ x. x % p.to) v ∙ digits_mod steps b);
      passed = c.skip.ensures.after ∙ ap (λ x. drop (x * s.window.channels.count) (seen g.I.Samples.samples s.window)) (sym (ap (λ x. x / p.to) v ∙ digits_div steps b));
      channels = c.skip.ensures.channels;
      law = c.skip.ensures.law;
      same = c.skip.ensures.same;
    }
