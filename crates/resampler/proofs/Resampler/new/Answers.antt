-- A resampler at its start has all of its input before it.
use Rattle.std.proofs.Common.{sym, refl, ap, ◌∙◌, ap₂}
use Rattle.frames.specs.Frames.{framed}
use Rattle.rates.specs.Onward.{onward}
use Rattle.rates.proofs.Places.{onward_start}
use Rattle.rates.proofs.Helds.{begun}
use Rattle.resampler.proofs.Draws.{drawn_start}
use Rattle.resampler.proofs.Resampler.new.Goals as goal

pub returns : goal.returns
returns g c =
    let w = c.new.result in
    let p = c.args.pace in
    let e = c.new.ensures in
    let of = g.I.Samples.samples in
    let cur = framed w.current in
    let nxt = framed w.next in
    record {
      answer =
          sym (begun 0 p.from p.to w.channels.count cur nxt (of w.input) p.to_low p.from_low w.channels.low w.lined)
          ∙ ap₂ (onward 0 p.from p.to) (ap (λ k. k.count) e.channels) e.answer
          ∙ onward_start p.from p.to c.args.channels.count (of c.args.input);
      same = e.same;
      law = record { walk = drawn_start of (of c.args.input) p w e.answer; ended = e.law };
      pace = refl;
      channels = e.channels;
    }
