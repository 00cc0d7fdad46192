-- Lists of samples: the first one, what is left behind it, and the sample of silence.
use Rattle.std.specs.Prelude.{false, List, [], ◌∷◌, pos, Some, None, Option, Float}
use Rattle.std.specs.Float.{fin}

-- The first of a list; the end where it is empty.
abbrev pub first : {A : Type 0} → List A → Option A
first [] = None
first (x ∷ xs) = Some x

-- The list without its first; the empty list as it is.
abbrev pub rest : {A : Type 0} → List A → List A
rest [] = []
rest (x ∷ xs) = xs

-- The sample 0.0.
abbrev pub silence : Float
silence = fin false 0 (pos 0)
