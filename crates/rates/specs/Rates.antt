-- Rate conversion of a whole list of frames of c samples.
use Rattle.std.specs.Prelude.{ℕ, zero, suc, ◌+◌, ◌-◌, ◌*◌, ◌/◌, ◌%◌, cond, List, [], ◌∷◌, ◌++◌, length, take, drop, pos, ◌==◌, Float}
use Rattle.std.specs.Float.{binary32}
use Rattle.std.specs.Float.Ieee.{add, sub, mul, div, of_int}
use Rattle.std.specs.List.{range_with_len, flat_map}

-- The greatest common divisor, by Euclid; the first argument bounds the turns.
abbrev pub euclid : ℕ → ℕ → ℕ → ℕ
euclid zero a b = a
euclid (suc t) a zero = a
euclid (suc t) a (suc b) = euclid t (suc b) (a % suc b)

-- The greatest number that divides both.
abbrev pub gcd : ℕ → ℕ → ℕ
gcd a b = euclid (suc b) a b

-- a + ((b - a) * n) / to, each operation rounded once.
abbrev pub lerp_by : Float → Float → Float → Float → Float
lerp_by n to a b = add binary32 a (div binary32 (mul binary32 (sub binary32 b a) n) to)

-- The same for two whole numbers.
abbrev pub lerp : ℕ → ℕ → Float → Float → Float
lerp n to a b = lerp_by (of_int binary32 (pos n)) (of_int binary32 (pos to)) a b

-- Two frames put together channel by channel, as far as both have samples.
abbrev pub both : {A : Type 0} → (A → A → A) → List A → List A → List A
both f [] ys = []
both f (x ∷ xs) [] = []
both f (x ∷ xs) (y ∷ ys) = f x y ∷ both f xs ys

-- Frame j of a list; the last may be short.
abbrev pub frame : ℕ → List Float → ℕ → List Float
frame c xs j = take c (drop (j * c) xs)

-- How many frames of c samples a list has, the short one included.
abbrev pub frames : ℕ → List Float → ℕ
frames c xs = (length xs + (c - 1)) / c

-- Output frame k lies (k * from % to) / to of the way from input frame k * from / to to the next. From here on `from` and `to`
-- have no common divisor.
abbrev pub interpolated : ℕ → ℕ → ℕ → List Float → ℕ → List Float
interpolated from to c xs k = both (lerp (k * from % to) to) (frame c xs (k * from / to)) (frame c xs (k * from / to + 1))

-- How many output frames lie before the last of n input frames.
abbrev pub before_last : ℕ → ℕ → ℕ → ℕ
before_last from to n = ((n - 1) * to + (from - 1)) / from

-- The output frames before the last input frame, and then that frame once, as it is, if an output frame falls on or behind it.
abbrev pub resampled : ℕ → ℕ → ℕ → List Float → List Float
resampled from to c xs =
    let last = frames c xs - 1 in
    let k = before_last from to (frames c xs) in
    flat_map (interpolated from to c xs) (range_with_len 0 k) ++ cond (k * from / to == last) (frame c xs last) []

-- At equal rates no sample is touched; otherwise both rates are divided by their greatest common divisor first.
abbrev pub rate_converted : ℕ → ℕ → ℕ → List Float → List Float
rate_converted from to c xs = cond (from == to) xs (resampled (from / gcd from to) (to / gcd from to) c xs)
