-- After some turns as many samples are gone, and there were as many.
use Rattle.std.proofs.Common.{◌≡◌, ◌≤◌, length, drop}
use Rattle.replay.proofs.drawing.draw.Given as goal

abbrev pub invariant-loop : goal.invariant-loop
invariant-loop g l =
    (g.S.Samples.samples l.input ≡ drop l.counter (g.S.Samples.samples l.initial.input))
    × (l.counter ≤ length (g.S.Samples.samples l.initial.input))
