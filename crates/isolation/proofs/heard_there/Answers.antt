use Rattle.std.proofs.Common.{refl}
use Rattle.isolation.proofs.Witness.{heard_there_lem}
use Rattle.isolation.proofs.heard_there.Goals as goal

pub returns : goal.returns
returns c = record { answer = refl; law = heard_there_lem }
