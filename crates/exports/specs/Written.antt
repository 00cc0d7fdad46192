-- What cells hold once a list was written into them.
use Rattle.std.specs.Prelude.{List, ◌++◌, length, take, drop}

-- A list written over the front of cells, as far as they go.
abbrev pub written : {A : Type 0} → List A → List A → List A
written xs o = take (length o) xs ++ drop (length xs) o
