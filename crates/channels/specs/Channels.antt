-- Channel conversion of a whole list, from c channels to t.
use Rattle.std.specs.Prelude.{ℕ, ◌+◌, ◌*◌, ◌/◌, ◌%◌, min, cond, ◌&&◌, List, map, length, drop, ◌==◌, nat_lt, slice_index_or, Float}
use Rattle.std.specs.List.{range_with_len}
use Rattle.source.specs.Samples.{silence}

-- What goes out at place p of an output frame, of the input frame that xs begins with: its own sample at each place that the
-- input has, a mono input's sample again at place 1, and silence elsewhere.
abbrev pub placed : ℕ → List Float → ℕ → Float
placed c xs p = cond (nat_lt p c) (slice_index_or xs p silence) (cond (c == 1 && p == 1) (slice_index_or xs 0 silence) silence)

-- How many samples come of n: a whole output frame of each whole input frame, and of a short last one as many as it has and
-- an output frame holds.
abbrev pub converted_count : ℕ → ℕ → ℕ → ℕ
converted_count c t n = n / c * t + min (n % c) t

-- Sample i of the output stands at place i % t of output frame i / t, and is made of the input frame of the same number.
abbrev pub channels_converted : ℕ → ℕ → List Float → List Float
channels_converted c t xs = map (λ i. placed c (drop (i / t * c) xs) (i % t)) (range_with_len 0 (converted_count c t (length xs)))

-- How many input samples are gone once m output samples were given: an input frame with each whole output frame, and of the
-- frame begun as many as went out, at most those that the input frame has.
abbrev pub channels_used : ℕ → ℕ → ℕ → ℕ
channels_used c t m = m / t * c + min (m % t) c
