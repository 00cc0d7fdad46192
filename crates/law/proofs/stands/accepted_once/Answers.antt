use Rattle.law.proofs.Acceptance.{accepted_once_lem}
use Rattle.law.proofs.stands.accepted_once.Goals as goal

pub returns-clause-law : goal.returns-clause-law
returns-clause-law c = accepted_once_lem
