-- After some turns as many samples stand in the front cells, and the others are as they were.
use Rattle.std.proofs.Common.{◌≡◌, ◌≤◌, ◌++◌, length, take, drop}
use Rattle.exports.proofs.drain.drain.Given as goal

abbrev pub invariant-loop-i : goal.invariant-loop-i
invariant-loop-i g l =
    (l.i ≤ length (g.S.Samples.samples l.initial.input))
    × (l.out ≡ take l.i (g.S.Samples.samples l.initial.input) ++ drop l.i l.initial.out)
    × (g.S.Samples.samples l.input ≡ drop l.i (g.S.Samples.samples l.initial.input))
