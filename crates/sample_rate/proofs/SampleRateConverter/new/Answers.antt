-- What is promised as a closed form is promised frame by frame too.
use Rattle.std.proofs.Common.{◌≡◌, sym, subst, rules}
use Rattle.rates.specs.Law.{RateLaw}
use Rattle.rates.specs.Rates.{rate_converted}
use Rattle.rates.proofs.ByFrames.{rate_law}
use Rattle.resampler.specs.Resamplers.{remaining}
use Rattle.sample_rate.proofs.SampleRateConverter.new.Goals as goal

pub returns : goal.returns
returns g c =
    let from = c.args.from in
    let to = c.args.to in
    let channels = c.args.channels in
    let xs = g.I.Samples.samples c.args.input in
    let all : remaining g.I.Samples.samples c.new.result ≡ rate_converted from.rate to.rate channels.count xs = search rules in
    record {
      answer = all;
      same = search rules;
      law = search rules;
      frames = subst (RateLaw from.rate to.rate channels.count xs) (sym all) (rate_law from.rate to.rate channels.count xs from.low to.low channels.low);
    }
