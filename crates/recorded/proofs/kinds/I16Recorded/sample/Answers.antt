-- The divisor that the code writes is the number 32768, and the cast of a signed 16-bit number is exact.
use mathlib.Core.Path.{◌≡◌, refl}
use lib.Ieee.{of_bits, of_int, binary32}
use lib.IntN.{pos}
use mir.Facts.{to_z-of_z}
use Rattle.recorded.proofs.kinds.I16Recorded.sample.Goals as goal

divisor : of_bits binary32 1191182336 ≡ of_int binary32 (pos 32768)
unfolding of_int of_bits
divisor = refl

pub returns : goal.returns
returns c = let exact = to_z-of_z c.ranges.self in record { answer = cc divisor }
