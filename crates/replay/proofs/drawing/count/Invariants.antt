-- What was counted and what is left make the whole.
use Rattle.std.proofs.Common.{◌≡◌, ◌-◌, ◌^◌, ◌≤◌, min, length}
use Rattle.replay.proofs.drawing.count.Given as goal

abbrev pub invariant-loop-n : goal.invariant-loop-n
invariant-loop-n g l =
    (length (g.S.Samples.samples l.input) ≤ length (g.S.Samples.samples l.initial.input))
    × (l.n ≡ min (length (g.S.Samples.samples l.initial.input) - length (g.S.Samples.samples l.input)) (2 ^ 64 - 1))

abbrev pub decreases-loop-n : goal.decreases-loop-n
decreases-loop-n g l = length (g.S.Samples.samples l.input)
