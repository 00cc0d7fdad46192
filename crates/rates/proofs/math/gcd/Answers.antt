use Prim.Native.Nat.{◌∣◌}
use Rattle.std.proofs.Common.{◌≡◌, sym, ap, ◌∙◌, subst, arith}
use Rattle.rates.specs.Rates.{gcd}
use Rattle.rates.proofs.Divisors.{gcd_turn, gcd_divides, gcd_greatest}
use Rattle.rates.proofs.math.gcd.Goals as goal

pub loop-y-preserved : goal.loop-y-preserved
loop-y-preserved c = gcd_turn c.loop-y.x c.loop-y.y (omega arith) ∙ c.loop-y.invariant

pub returns : goal.returns
returns c =
    let a = c.args.a in
    let b = c.args.b in
    let e : c.loop-y.x ≡ gcd a b = sym (ap (gcd c.loop-y.x) c.loop-y-test.false) ∙ c.loop-y.invariant in
    record {
      answer = e;
      divides = (subst (λ r. r ∣ a) (sym e) (gcd_divides a b).0, subst (λ r. r ∣ b) (sym e) (gcd_divides a b).1);
      greatest = λ d p q. subst (λ r. d ∣ r) (sym e) (gcd_greatest a b d p q);
    }
