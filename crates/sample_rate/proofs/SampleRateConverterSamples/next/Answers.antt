-- A call is one of the input itself or of the resampler.
use Rattle.std.proofs.Common.{sym, ap, ◌∙◌}
use Rattle.source.specs.Samples.{rest}
use Rattle.source.proofs.Draws.{rest-drop}
use Rattle.frames.proofs.Walks.{rest_none}
use Rattle.sample_rate.proofs.SampleRateConverterSamples.next.Goals as goal

pub returns-in-Same : goal.returns-in-Same
returns-in-Same g c =
    let of = g.I.Samples.samples in
    let a = c.next.ensures in
    simp c.in-Same.is (record {
      answer = a.answer;
      after = a.after;
      same = a.same;
      spent = a.spent;
      drained = λ p. a.after ∙ rest_none (of c.in-Same.input) (sym p ∙ a.answer);
      law = λ from to n xs m d y. (d.0, a.after ∙ ap rest d.1 ∙ rest-drop m xs);
    })

pub returns-in-Between : goal.returns-in-Between
returns-in-Between g c =
    let a = c.next-in-Between.ensures in
    simp c.in-Between.is (record {
      answer = a.answer;
      after = a.after;
      same = a.same;
      spent = a.spent;
      drained = a.drained;
      law = λ from to n xs m d y. (
        d.0,
        record {
          from = ap (λ p. p.from) a.pace ∙ d.1.from;
          to = ap (λ p. p.to) a.pace ∙ d.1.to;
          channels = ap (λ k. k.count) a.channels ∙ d.1.channels;
        },
        a.law xs m d.2 y,
      );
    })
