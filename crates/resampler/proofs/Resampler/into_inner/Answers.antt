-- The input is what the walk left.
use Rattle.std.proofs.Common.{ap, ◌∙◌}
use Rattle.resampler.proofs.Draws.{drawn-left}
use Rattle.resampler.proofs.Resampler.into_inner.Goals as goal

pub returns : goal.returns
returns g c =
    record {
      answer = c.into_inner.ensures.answer;
      law = λ xs m d. ap g.I.Samples.samples c.into_inner.ensures.answer ∙ drawn-left g.I.Samples.samples xs m c.args.self d;
    }
