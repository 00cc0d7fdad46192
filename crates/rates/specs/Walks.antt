-- how far a converter has read, by the samples that it gave
use Rattle.std.specs.Prelude.{◌≡◌, ℕ, ◌+◌, ◌-◌, ◌*◌, ◌/◌, ◌%◌, ◌<◌, ◌≤◌, cond, ◌⊎◌, List, length, drop, ◌==◌, Float}
use Rattle.rates.specs.Rates.{gcd}

-- the input beyond the two frames that sample m - 1 of the output lies between
abbrev pub beyond_frames : ℕ → ℕ → ℕ → List Float → ℕ → List Float
beyond_frames from to c xs m = drop (((m - 1) / c * from / to + 2) * c) xs

-- what is left of the input xs once m samples of the output were given
abbrev pub rate_left : ℕ → ℕ → ℕ → List Float → ℕ → List Float
rate_left from to c xs m = cond (from == to) (drop m xs) (beyond_frames (from / gcd from to) (to / gcd from to) c xs m)

-- with m samples of the output given, `given` of them of the output frame `turn` at n / to, the list ys begins at that place of xs
pub record Walk (from to c : ℕ) (xs : List Float) (m n given : ℕ) (ys : List Float) : Type 0 where
  pub turn : ℕ
  pub place : n ≡ turn * from % to
  pub here : ys ≡ drop (turn * from / to * c) xs
  pub within : given ≤ c
  pub most : m ≤ turn * c + given
  pub first : (turn ≡ 0) ⊎ (0 < given)
  pub count : (m ≡ turn * c + given) ⊎ (length xs ≤ ((m - 1) / c * from / to + 2) * c)
