-- One number more is added, and in the end all are.
use Rattle.std.proofs.Common.{◌≡◌, ℕ, subst, add-one, arith}
use Rattle.mixer.specs.Following.{Follows}
use Rattle.parts.specs.Sums.{adds}
use Rattle.parts.proofs.mixing.add_all.Goals as goal

pub loop-i-preserved : goal.loop-i-preserved
loop-i-preserved g c m made f =
    rw (add-one c.loop-i.i) (c.add.ensures.law m made (adds c.loop-i.i) (c.loop-i.invariant m made f)).1

pub returns : goal.returns
returns g c =
    let all : c.loop-i.i ≡ c.args.n = omega (arith, c.loop-i-test.false, c.loop-i.auto.i-end) in
    record { law = λ m made f. subst (λ (n : ℕ). Follows g.B.Bank.lists m made (adds n) c.loop-i.mixer) all (c.loop-i.invariant m made f) }
