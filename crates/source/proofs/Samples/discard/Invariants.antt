-- After some turns, as many samples are gone.
use Rattle.std.proofs.Common.{◌≡◌, drop}
use Rattle.source.proofs.Samples.discard.Given as goal

abbrev pub invariant-loop : goal.invariant-loop
invariant-loop g l =
    (g.Self.Samples.samples l.self ≡ drop l.counter (g.Self.Samples.samples l.initial.self))
    × (g.Self.Samples.beyond l.self ≡ g.Self.Samples.beyond l.initial.self)
