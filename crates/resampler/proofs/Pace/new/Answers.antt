-- A common divisor of two rates from 1 on is above zero, and leaves them within the limits.
use Rattle.std.proofs.Common.{◌/◌, ◌<◌, mod-lt, div-add-mod', div-le_self, arith}
use Rattle.rates.proofs.Divisors.{reduced_low}
use Rattle.resampler.proofs.Pace.new.Goals as goal

pub nonzero_div-result : goal.nonzero_div-result
nonzero_div-result c = reduced_low c.get-to_rate.result c.gcd-divisor.result c.get-to_rate.ensures.low c.gcd-divisor.ensures.divides.1

pub nonzero_rem-result : goal.nonzero_rem-result
nonzero_rem-result c = reduced_low c.get-to_rate.result c.gcd-divisor.result c.get-to_rate.ensures.low c.gcd-divisor.ensures.divides.1

pub invariant_of-result : goal.invariant_of-result
invariant_of-result c =
    let a = c.get-from_rate.result in
    let b = c.get-to_rate.result in
    let d = c.gcd-divisor.result in
    let x = a / d in
    let y = b / d in
    let low : 0 < y = reduced_low b d c.get-to_rate.ensures.low c.gcd-divisor.ensures.divides.1 in record {
      from_low = reduced_low a d c.get-from_rate.ensures.low c.gcd-divisor.ensures.divides.0;
      from_high = omega (arith, div-le_self a d);
      to_low = low;
      to_high = omega (arith, div-le_self b d);
      divided = omega (arith, div-add-mod' x y);
      below = mod-lt x low;
    }
