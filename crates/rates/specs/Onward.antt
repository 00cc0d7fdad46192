-- The same closed form from any place on: an output frame k stands at place r + k * from, counted in parts of which an input frame has `to`.
use Rattle.std.specs.Prelude.{◌≡◌, ℕ, ◌+◌, ◌-◌, ◌*◌, ◌/◌, ◌%◌, ◌<◌, ◌≤◌, cond, List, [], ◌∷◌, ◌++◌, length, drop, pos, ◌==◌, nat_lt, Float}
use Rattle.std.specs.Float.{binary32}
use Rattle.std.specs.Float.Ieee.{of_int}
use Rattle.std.specs.List.{range_with_len, flat_map}
use Rattle.rates.specs.Rates.{both, lerp, lerp_by, frame, frames}

-- the output frame at a place
abbrev pub shown_at : ℕ → ℕ → List Float → ℕ → List Float
shown_at to c xs p = both (lerp (p % to) to) (frame c xs (p / to)) (frame c xs (p / to + 1))

-- how many output frames from place r on lie before the last of n input frames
abbrev pub ahead : ℕ → ℕ → ℕ → ℕ → ℕ
ahead r from to n = ((n - 1) * to - r + (from - 1)) / from

-- the last input frame, if place p lies in it
abbrev pub last_at : ℕ → ℕ → List Float → ℕ → List Float
last_at to c xs p = cond (p / to == frames c xs - 1) (frame c xs (frames c xs - 1)) []

-- all output samples from place r on
unfoldable pub onward : ℕ → ℕ → ℕ → ℕ → List Float → List Float
onward r from to c xs =
    let k = ahead r from to (frames c xs) in
    flat_map (λ i. shown_at to c xs (r + i * from)) (range_with_len 0 k) ++ last_at to c xs (r + k * from)

-- the output frame between two input frames. Without a next one, the current one goes out as it is
abbrev pub shown_by : Float → Float → List Float → List Float → List Float
shown_by n to cur [] = cur
shown_by n to cur (b ∷ nxt) = both (lerp_by n to) cur (b ∷ nxt)

-- the same for two whole numbers
abbrev pub shown : ℕ → ℕ → List Float → List Float → List Float
shown n to cur nxt = shown_by (of_int binary32 (pos n)) (of_int binary32 (pos to)) cur nxt

-- what follows that output frame
abbrev pub later : ℕ → ℕ → ℕ → ℕ → List Float → List Float → List Float → List Float
later n from to c cur [] inp = []
later n from to c cur (b ∷ nxt) inp = onward (n + from) from to c (cur ++ ((b ∷ nxt) ++ inp))

-- what is left to give, where `given` samples of the output frame went out
abbrev pub held : ℕ → ℕ → ℕ → ℕ → ℕ → List Float → List Float → List Float → List Float
held n from to c given cur nxt inp = drop given (shown n to cur nxt) ++ later n from to c cur nxt inp

-- what is left of an input behind a frame: a short frame says that it ended
abbrev pub behind : ℕ → List Float → List Float → List Float
behind c nxt inp = cond (nat_lt (length nxt) c) [] inp

-- two frames, one behind the other: before a frame with samples stands a whole one
abbrev pub Lined : ℕ → List Float → List Float → Type 0
Lined c cur nxt = (length cur ≤ c) × (length nxt ≤ c) × (0 < length nxt → length cur ≡ c)
