use Rattle.std.proofs.Common.{◌≡◌, ℕ, zero, suc, ◌/◌, ◌%◌, ◌<◌, ◌≤◌, refl, mod-lt, one-mul, arith}
use Prim.Native.Nat.{◌∣◌}
use native.Mathlib.Nat.{dvd_refl, dvd-zero, dvd-mod_iff, pos_of_dvd_of_pos, le_of_dvd}
use Rattle.std.proofs.lemmas.Nat.{le-div}
use Rattle.rates.specs.Rates.{euclid, gcd}

-- the bound does not matter once it passes b
pub euclid_turns : (t u a b : ℕ) → b < t → b < u → euclid t a b ≡ euclid u a b
euclid_turns zero u a b h k = absurd (omega arith)
euclid_turns (suc t) zero a b h k = absurd (omega arith)
euclid_turns (suc t) (suc u) a zero h k = refl
euclid_turns (suc t) (suc u) a (suc b) h k =
    let l : a % suc b < suc b = mod-lt a (omega arith) in
    euclid_turns t u (suc b) (a % suc b) (omega arith) (omega arith)

pub gcd_turn : (a b : ℕ) → 0 < b → gcd b (a % b) ≡ gcd a b
gcd_turn a zero h = absurd (omega arith)
gcd_turn a (suc b) h =
    let l : a % suc b < suc b = mod-lt a (omega arith) in
    euclid_turns (suc (a % suc b)) (suc b) (suc b) (a % suc b) (omega arith) (omega arith)

euclid_divides : (t a b : ℕ) → b < t → (euclid t a b ∣ a) × (euclid t a b ∣ b)
euclid_divides zero a b h = absurd (omega arith)
euclid_divides (suc t) a zero h = (dvd_refl a, dvd-zero a)
euclid_divides (suc t) a (suc b) h =
    let l : a % suc b < suc b = mod-lt a (omega arith) in
    let r = euclid_divides t (suc b) (a % suc b) (omega arith) in
    ((dvd-mod_iff (euclid t (suc b) (a % suc b)) {m = a} r.0).0 r.1, r.0)

pub gcd_divides : (a b : ℕ) → (gcd a b ∣ a) × (gcd a b ∣ b)
gcd_divides a b = euclid_divides (suc b) a b (omega arith)

euclid_greatest : (t a b d : ℕ) → b < t → d ∣ a → d ∣ b → d ∣ euclid t a b
euclid_greatest zero a b d h p q = absurd (omega arith)
euclid_greatest (suc t) a zero d h p q = p
euclid_greatest (suc t) a (suc b) d h p q =
    let l : a % suc b < suc b = mod-lt a (omega arith) in
    euclid_greatest t (suc b) (a % suc b) d (omega arith) q ((dvd-mod_iff d {m = a} q).1 p)

pub gcd_greatest : (a b d : ℕ) → d ∣ a → d ∣ b → d ∣ gcd a b
gcd_greatest a b d p q = euclid_greatest (suc b) a b d (omega arith) p q

-- a number without the common divisor
pub reduced_low : (a d : ℕ) → 0 < a → d ∣ a → 1 ≤ a / d
reduced_low a d h p =
    let q : 0 < d = pos_of_dvd_of_pos p h in
    le-div 1 a d q (omega (arith, one-mul d, le_of_dvd h p))
