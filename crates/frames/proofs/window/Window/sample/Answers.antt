-- A place that both frames have is put together; past either there is none.
use Rattle.std.proofs.Common.{◌≡◌, ℕ, ◌<◌, List, length, drop, Some, sym, ap, ◌∙◌, arith}
use lib.Ieee.{Float}
use Rattle.frames.specs.Frames.{framed}
use Rattle.source.specs.Samples.{first}
use Rattle.rates.specs.Rates.{lerp_by, both}
use Rattle.rates.specs.Onward.{shown_by}
use Rattle.frames.proofs.Walks.{shown-both, both_at, both_none}
use Rattle.frames.proofs.Heads.{over}
use Rattle.frames.proofs.window.Window.sample.Goals as goal

-- the place in an output frame with a next frame
at_both : (n to : Float) (cur nxt : List Float) (i : ℕ) → 0 < length nxt → first (drop i (both (lerp_by n to) cur nxt)) ≡ first (drop i (shown_by n to cur nxt))
at_both n to cur nxt i h = ap (λ l. first (drop i l)) (sym (shown-both n to cur nxt h))

pub returns-in_err-first : goal.returns-in_err-first
returns-in_err-first g c =
    let cur = framed c.args.self.now.current in
    let nxt = framed c.args.self.now.next in
    let n = c.args.numerator in
    let to = c.args.denominator in
    let i = c.args.i in
    let h : 0 < length nxt = omega arith in
    let none = over cur i c.in_err-first.ensures.answer in
    record { answer = c.from_residual.ensures ∙ both_none (lerp_by n to) cur nxt i (omega arith) ∙ at_both n to cur nxt i h }

pub returns-in_err-second : goal.returns-in_err-second
returns-in_err-second g c =
    let cur = framed c.args.self.now.current in
    let nxt = framed c.args.self.now.next in
    let n = c.args.numerator in
    let to = c.args.denominator in
    let i = c.args.i in
    let h : 0 < length nxt = omega arith in
    let none = over nxt i c.in_err-second.ensures.answer in
    record { answer = c.from_residual-in_err-second.ensures ∙ both_none (lerp_by n to) cur nxt i (omega arith) ∙ at_both n to cur nxt i h }

pub returns : goal.returns
returns g c =
    let cur = framed c.args.self.now.current in
    let nxt = framed c.args.self.now.next in
    let n = c.args.numerator in
    let to = c.args.denominator in
    let i = c.args.i in
    let h : 0 < length nxt = omega arith in
    let a = c.in_ok-first.ensures.answer in
    let b = c.in_ok-second.ensures.answer in
    record {
      answer =
          ap Some c.lerp.ensures.answer
          ∙ both_at (lerp_by n to) cur nxt i c.in_ok-first.first c.in_ok-second.second a b
          ∙ at_both n to cur nxt i h;
    }
