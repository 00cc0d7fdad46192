-- Each turn draws a sample.
use Rattle.std.proofs.Common.{length}
use Rattle.replay.proofs.lists.Listing.write_all.Given as goal

abbrev pub decreases-loop-sample : goal.decreases-loop-sample
decreases-loop-sample g l = length (g.S.Samples.samples l.input)
