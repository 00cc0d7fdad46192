-- The frame start: a multiple of m, not below n, and the least such.
use Rattle.std.proofs.Common.{◌≡◌, ℕ, suc, ◌+◌, ◌-◌, ◌*◌, ◌/◌, ◌%◌, ◌<◌, ◌≤◌, ap, ◌∙◌, mul-le-mul_right, mod-lt, add-mul, one-mul, arith}
use native.Mathlib.Nat.{mul-mod_left}
use Rattle.std.proofs.lemmas.Nat.{div-add-mod', div_below, mod-mul-add}
use Rattle.law.specs.Asked.{StartsAtFrame}
use Rattle.law.specs.Mixing.{frame_start}

pub start_whole : (m n : ℕ) → frame_start m n % m ≡ 0
start_whole m n = mul-mod_left ((n + (m - 1)) / m) m

pub start_not_before : (m n : ℕ) → 1 ≤ m → n ≤ frame_start m n
start_not_before m n one =
    let x = n + (m - 1) in
    let below : x % m < m = mod-lt x one in
    omega (arith, div-add-mod' x m)

pub start_least : (m n q : ℕ) → 1 ≤ m → n ≤ q → q % m ≡ 0 → frame_start m n ≤ q
start_least m n q one le whole =
    let d : q / m * m + q % m ≡ q = div-add-mod' q m in
    let wide : (q / m + 1) * m ≡ q / m * m + m = add-mul (q / m) 1 m ∙ ap (λ (k : ℕ). q / m * m + k) (one-mul m) in
    let quot : (n + (m - 1)) / m ≤ q / m = omega (arith, div_below (n + (m - 1)) m (q / m + 1) one (omega arith)) in
    let prod : (n + (m - 1)) / m * m ≤ q / m * m = mul-le-mul_right m quot in
    omega arith

pub starts_at_frame_lem : StartsAtFrame
starts_at_frame_lem m n one = (start_not_before m n one, start_whole m n, λ q le whole. start_least m n q one le whole)

-- the place in a frame that follows another
pub phase_turns : (m q : ℕ) → q % m + 1 ≡ m → suc q % m ≡ 0
phase_turns m q e =
    let d : q / m * m + q % m ≡ q = div-add-mod' q m in
    let p : suc q ≡ (q / m + 1) * m = rw (add-mul (q / m) 1 m, one-mul m) (omega arith) in
    ap (λ (k : ℕ). k % m) p ∙ mul-mod_left (q / m + 1) m

pub phase_goes : (m q : ℕ) → q % m + 1 < m → suc q % m ≡ q % m + 1
phase_goes m q lt =
    let d : q / m * m + q % m ≡ q = div-add-mod' q m in
    let p : suc q ≡ q / m * m + (q % m + 1) = omega arith in
    ap (λ (k : ℕ). k % m) p ∙ mod-mul-add (q / m) m (q % m + 1) lt
