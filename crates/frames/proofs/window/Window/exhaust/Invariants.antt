-- A turn changes only the input, and makes it shorter.
use Rattle.std.proofs.Common.{◌≡◌, length}
use Rattle.frames.proofs.window.Window.exhaust.Given as goal

abbrev pub invariant-loop : goal.invariant-loop
invariant-loop g l =
    (g.I.Samples.beyond l.self.input ≡ g.I.Samples.beyond l.initial.self.input)
    × (l.self.current ≡ l.initial.self.current)
    × (l.self.next ≡ l.initial.self.next)
    × (l.self.channels ≡ l.initial.self.channels)

abbrev pub decreases-loop : goal.decreases-loop
decreases-loop g l = length (g.I.Samples.samples l.self.input)
