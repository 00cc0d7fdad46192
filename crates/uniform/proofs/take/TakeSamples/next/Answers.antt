-- At its end the source is behind all that it was to give.
use Rattle.std.proofs.Common.{Some, sym, ap, ◌∙◌}
use Rattle.source.specs.Meanings.{samples_of}
use Rattle.source.specs.Samples.{first}
use Rattle.uniform.proofs.Fronts.{samples_less_first, ended_behind, still_ended}
use Rattle.uniform.proofs.take.TakeSamples.next.Goals as goal

pub returns-in_ok-checked_sub-in-Some-clause-spent :
    goal.returns-in_ok-checked_sub-in-Some-clause-spent
returns-in_ok-checked_sub-in-Some-clause-spent g c =
    let m = g.S.Source.meaning c.args.self.now.iter in
    let m' = g.S.Source.meaning c.next-in-Some.new.self in λ e.
    let none = still_ended (samples_of m) (sym c.next-in-Some.ensures.answer ∙ e) in
    ended_behind (Some c.in_ok-checked_sub-in-Some.field-0) m'
    (ap (λ x. first (samples_of x)) c.next-in-Some.ensures.after ∙ ap first (samples_less_first m.spans) ∙ none)
