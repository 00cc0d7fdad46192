-- Each call is the mixer's own.
use Rattle.mixer.proofs.Mixer.call.Goals as goal

pub returns-in-Add : goal.returns-in-Add
returns-in-Add g c = rw c.in-Add.is (record { law = c.add.ensures.law })

pub returns-in-Next : goal.returns-in-Next
returns-in-Next g c = rw c.in-Next.is (record { law = c.next.ensures.law })
