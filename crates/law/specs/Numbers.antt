-- The number that the panel shows for each refusal of an add.
use Rattle.std.specs.Prelude.{ℕ, Some, None, Ok, Err, Option}
use Rattle.law.specs.declared.refusal.AddRefusal.{AddRefusal}
use Rattle.law.specs.declared.refusal.AddRefusal.TheVariants.{NoSuchSource, AlreadyAdded}
use Rattle.law.specs.declared.Reply.{Reply}
use Rattle.law.specs.declared.Reply.TheVariants.{Add, Next}

abbrev pub number_of : AddRefusal → ℕ
number_of NoSuchSource = 4
number_of AlreadyAdded = 5

-- The number of the refusal that a reply is, if it is one.
abbrev pub refusal_number : Reply → Option ℕ
refusal_number (Add (Ok u)) = None
refusal_number (Add (Err r)) = Some (number_of r)
refusal_number (Next o) = None
