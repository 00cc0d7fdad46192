-- How much lists still hold.
use Rattle.std.specs.Prelude.{ℕ, ◌+◌, List, [], ◌∷◌, length, Float}

-- The samples of all lists together.
abbrev pub all_left : List (List Float) → ℕ
all_left [] = 0
all_left (l ∷ ls) = length l + all_left ls
