-- Rate conversion told by its frames: how many come out, and what each is made of.
use Rattle.std.specs.Prelude.{◌≡◌, ℕ, ◌+◌, ◌-◌, ◌*◌, ◌/◌, ◌<◌, ◌≤◌, ◌⊎◌, List, [], length, ◌≢◌, slice_index_or, Float}
use Rattle.std.specs.List.{flat_map}
use Rattle.rates.specs.Rates.{frame, frames, interpolated, gcd}

-- Output frame k lies between input frame k * from / to and the one behind it; or that frame is the last, and goes out as it is.
abbrev pub MadeOf : ℕ → ℕ → ℕ → List Float → ℕ → List Float → Type 0
MadeOf from to c xs k f =
    ((k * from / to + 1 < frames c xs) × (f ≡ interpolated from to c xs k))
    ⊎ ((k * from / to + 1 ≡ frames c xs) × (f ≡ frame c xs (k * from / to)))

-- The list ys is the conversion of xs: it joins output frames, each made as above; the last input frame goes out only as the
-- last output frame; and there are no more output frames because the next would lie behind the input, or the last input frame is out.
pub record ByFrames (from to c : ℕ) (xs ys : List Float) : Type 0 where
  pub output : List (List Float)
  pub joins : ys ≡ flat_map (λ f. f) output
  pub each : (k : ℕ) → k < length output → MadeOf from to c xs k (slice_index_or output k [])
  pub last_once : (k : ℕ) → k + 1 < length output → k * from / to + 1 < frames c xs
  pub complete : (frames c xs ≤ length output * from / to) ⊎ ((0 < length output) × ((length output - 1) * from / to + 1 ≡ frames c xs))

-- At equal rates the list itself; otherwise frame by frame, with both rates divided by their greatest common divisor.
pub record RateLaw (from to c : ℕ) (xs ys : List Float) : Type 0 where
  pub equal : from ≡ to → ys ≡ xs
  pub other : (from ≢ to) → ByFrames (from / gcd from to) (to / gcd from to) c xs ys
