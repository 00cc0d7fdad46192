-- The cells before i are filled with the first i samples, which are gone from the input.
use Rattle.std.proofs.Common.{◌≡◌, ◌≤◌, length, take, drop}
use Rattle.frames.proofs.frame.Frame.refill.Given as goal

abbrev pub invariant-loop-i : goal.invariant-loop-i
invariant-loop-i g l =
    (length l.self.samples ≡ 8)
    × (l.i ≤ length (g.I.Samples.samples l.initial.input))
    × (take l.i l.self.samples ≡ take l.i (g.I.Samples.samples l.initial.input))
    × (g.I.Samples.samples l.input ≡ drop l.i (g.I.Samples.samples l.initial.input))
    × (g.I.Samples.beyond l.input ≡ g.I.Samples.beyond l.initial.input)
