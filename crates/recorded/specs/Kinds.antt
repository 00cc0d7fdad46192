-- What the values of each recorded kind stand for.
use Rattle.std.specs.Prelude.{Float, ℤ, pos}
use Rattle.std.specs.Float.{binary32}
use Rattle.std.specs.Float.Ieee.{div, of_int}

-- A signed 16-bit k stands for k / 32768.
abbrev pub of_i16 : ℤ → Float
of_i16 k = div binary32 (of_int binary32 k) (of_int binary32 (pos 32768))
