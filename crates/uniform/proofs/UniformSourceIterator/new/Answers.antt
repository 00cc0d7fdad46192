-- The chain over the first piece has the whole stream before it.
use Rattle.std.proofs.Common.{ap, ◌∙◌, rules}
use Rattle.source.specs.Meanings.{open_from}
use Rattle.source.specs.Spans.{listed}
use Rattle.uniform.specs.Uniform.{uniform}
use Rattle.uniform.proofs.Piecewise.{own_stream}
use Rattle.uniform.proofs.UniformSourceIterator.new.Goals as goal

pub returns : goal.returns
returns g c =
    let f = c.args.format in
    record {
      answer = search rules;
      law = λ xs e. ap (open_from f) (c.bootstrap.ensures.stream ∙ ap (λ ss. uniform f.channels.count f.rate.rate (listed ss)) e ∙ own_stream f xs);
    }
