-- Before i, the cells are taken over and filled anew; from i on, the next frame holds what it held.
use Rattle.std.proofs.Common.{◌≡◌, min, length, take, drop}
use Rattle.frames.proofs.frame.Frame.shift.Given as goal

abbrev pub invariant-loop-i : goal.invariant-loop-i
invariant-loop-i g l =
    (length l.self.samples ≡ 8)
    × (length l.next.samples ≡ 8)
    × (take l.i l.self.samples ≡ take l.i l.initial.next.samples)
    × (drop l.i l.next.samples ≡ drop l.i l.initial.next.samples)
    × (l.read ≡ min l.i (length (g.I.Samples.samples l.initial.input)))
    × (take l.read l.next.samples ≡ take l.i (g.I.Samples.samples l.initial.input))
    × (g.I.Samples.samples l.input ≡ drop l.i (g.I.Samples.samples l.initial.input))
    × (g.I.Samples.beyond l.input ≡ g.I.Samples.beyond l.initial.input)
