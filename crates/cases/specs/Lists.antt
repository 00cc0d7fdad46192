-- The lists that a case can ask for by their length.
use Rattle.std.specs.Prelude.{ℕ, List, map, pos, Float}
use Rattle.std.specs.Float.{binary32}
use Rattle.std.specs.Float.Ieee.{of_int}
use Rattle.std.specs.List.{range_with_len}

-- At most this many samples are made.
abbrev pub longest_list : ℕ
longest_list = 16777217

-- The samples 0, 1, 2 .., n of them.
abbrev pub ramp_samples : ℕ → List Float
ramp_samples n = map (λ i. of_int binary32 (pos i)) (range_with_len 0 n)
