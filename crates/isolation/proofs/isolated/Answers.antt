use Rattle.std.proofs.Common.{refl}
use Rattle.isolation.proofs.Mixers.{isolated}
use Rattle.isolation.proofs.isolated.Goals as goal

pub returns : goal.returns
returns c = record { answer = refl; law = isolated }
