-- A fresh buffer stands before all its cells, and its duration is that of as many samples.
use Rattle.std.proofs.Common.{refl, arith}
use lib.ListN.{length-map}
use Rattle.buffer.proofs.SamplesBuffer.new.Goals as goal

pub returns : goal.returns
returns g c = record {
  answer = (omega arith, record { spans = refl; rests_at = refl; rests_open = refl; lasts = simp length-map (cc) });
}
