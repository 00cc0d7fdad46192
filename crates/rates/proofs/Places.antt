use Rattle.std.proofs.Common.{◌≡◌, ℕ, zero, suc, ◌+◌, ◌-◌, ◌*◌, ◌/◌, ◌<◌, ◌≤◌, Bool, true, false, cond, eqb, List, [], ◌++◌, length, take, drop, sym, refl, ap, ◌∙◌, ap₂, ⊎_elim, append_assoc, mul-le-mul_right, mod-eq_of_lt, div-lt_iff_lt-mul, add-mul, one-mul, zero-add, zero-mul, arith, length-drop, drop_of_length-le}
use mathlib.Core.Path.{fun_ext}
use native.Mathlib.Nat.{div-eq_of_lt, add-div_right, add-mod_right, sub-zero}
use lib.Ieee.{Float}
use Rattle.std.specs.List.{range_with_len, flat_map}
use Rattle.std.proofs.lemmas.Nat.{le-div}
use Rattle.std.proofs.lemmas.List.{drop-drop, take_all}
use Rattle.std.proofs.lemmas.Bool.{cases_lt, cases_eq, eq-eqb, ne_eqb, cond-true, cond-false}
use Rattle.rates.specs.Rates.{both, lerp, frame, frames, resampled}
use Rattle.rates.specs.Onward.{shown_at, ahead, last_at, onward}

-- a quotient that is rounded up, one divisor less
pub ceil_less : (a b : ℕ) → 0 < b → (a - b + (b - 1)) / b ≡ (a + (b - 1)) / b - 1
ceil_less a b h = ⊎_elim low high (cases_lt a b)
  where
    low : a < b → (a - b + (b - 1)) / b ≡ (a + (b - 1)) / b - 1
    low l =
        let m : a - b + (b - 1) < b = omega arith in
        let u : (a + (b - 1)) / b < 2 = (div-lt_iff_lt-mul h).1 (omega arith) in
        omega (arith, div-eq_of_lt m)

    high : b ≤ a → (a - b + (b - 1)) / b ≡ (a + (b - 1)) / b - 1
    high l =
        let e : a + (b - 1) ≡ (a - b + (b - 1)) + b = omega arith in
        omega (arith, ap (λ t. t / b) e, add-div_right (a - b + (b - 1)) h)

ceil_pos : (a b : ℕ) → 0 < a → 0 < b → 0 < (a + (b - 1)) / b
ceil_pos a b p h = le-div 1 (a + (b - 1)) b h (omega arith)

ceil_none : (a b : ℕ) → a ≤ b → 0 < b → (a + (b - 1)) / b - 1 ≡ 0
ceil_none a b p h =
    let u : (a + (b - 1)) / b < 2 = (div-lt_iff_lt-mul h).1 (omega arith) in
    omega arith

ceil_many : (a b : ℕ) → b < a → 0 < b → 0 < (a + (b - 1)) / b - 1
ceil_many a b p h = omega (arith, le-div 2 (a + (b - 1)) b h (omega arith))

pub frames-drop : (c : ℕ) (xs : List Float) → 0 < c → frames c (drop c xs) ≡ frames c xs - 1
frames-drop c xs h = ap (λ n. (n + (c - 1)) / c) (length-drop c xs) ∙ ceil_less (length xs) c h

next_mul : (j c : ℕ) → (j + 1) * c ≡ c + j * c
next_mul j c = omega (arith, add-mul j 1 c, one-mul c)

pub frame_next : (c : ℕ) (xs : List Float) (j : ℕ) → frame c xs (j + 1) ≡ frame c (drop c xs) j
frame_next c xs j = ap (λ n. take c (drop n xs)) (next_mul j c) ∙ ap (take c) (sym (drop-drop (j * c) c xs))

pub shown_next : (to c : ℕ) (xs : List Float) (p : ℕ) → 0 < to → shown_at to c xs (p + to) ≡ shown_at to c (drop c xs) p
shown_next to c xs p h = simp (add-mod_right, add-div_right p h, frame_next)

pub eqb_same : (a b d e : ℕ) → (a ≡ b → d ≡ e) → (d ≡ e → a ≡ b) → eqb a b ≡ eqb d e
eqb_same a b d e f g = ⊎_elim (λ p. eq-eqb a b p ∙ sym (eq-eqb d e (f p))) (λ p. ne_eqb a b p ∙ sym (ne_eqb d e (λ q. p (g q)))) (cases_eq a b)

cond_none : (b : Bool) → cond {A = List Float} b [] [] ≡ []
cond_none true = refl
cond_none false = refl

frame_none : (c j : ℕ) → frame c [] j ≡ []
frame_none c j = ap (take c) (drop_of_length-le [] {i = j * c} (omega arith)) ∙ take_all c [] (omega arith)

last_none : (to c p : ℕ) → last_at to c [] p ≡ []
last_none to c p = ap (λ fr. cond (eqb (p / to) (frames c [] - 1)) fr []) (frame_none c (frames c [] - 1)) ∙ cond_none (eqb (p / to) (frames c [] - 1))

pub last_next : (to c : ℕ) (xs : List Float) (p : ℕ) → 0 < to → 0 < c → last_at to c xs (p + to) ≡ last_at to c (drop c xs) p
last_next to c xs p h k = ⊎_elim few many (cases_lt c (length xs))
  where
    many : length xs ≤ c → last_at to c xs (p + to) ≡ last_at to c (drop c xs) p
    many l =
        let z : frames c xs - 1 ≡ 0 = ceil_none (length xs) c l k in
        let q : (p + to) / to ≡ p / to + 1 = add-div_right p h in
        let d : drop c xs ≡ [] = drop_of_length-le xs l in
        let n : eqb ((p + to) / to) (frames c xs - 1) ≡ false = ne_eqb ((p + to) / to) (frames c xs - 1) (λ e. omega arith) in
        cond-false _ (frame c xs (frames c xs - 1)) [] n ∙ sym (ap (λ ys. last_at to c ys p) d ∙ last_none to c p)

    few : c < length xs → last_at to c xs (p + to) ≡ last_at to c (drop c xs) p
    few l =
        let z : 0 < frames c xs - 1 = ceil_many (length xs) c l k in
        let q : (p + to) / to ≡ p / to + 1 = add-div_right p h in
        let f : frames c (drop c xs) ≡ frames c xs - 1 = frames-drop c xs k in
        let s : frames c xs - 1 ≡ frames c (drop c xs) - 1 + 1 = omega arith in
        let t : eqb ((p + to) / to) (frames c xs - 1) ≡ eqb (p / to) (frames c (drop c xs) - 1) =
        eqb_same ((p + to) / to) (frames c xs - 1) (p / to) (frames c (drop c xs) - 1) (λ e. omega arith) (λ e. omega arith) in
        ap₂ (λ b fr. cond b fr []) t (ap (frame c xs) s ∙ frame_next c xs (frames c (drop c xs) - 1))

ahead_next : (r from to n : ℕ) → ahead (r + to) from to n ≡ ahead r from to (n - 1)
ahead_next r from to n =
    let e : (n - 1) * to - (r + to) ≡ (n - 1 - 1) * to - r = at (n - 1) in
    ap (λ t. (t + (from - 1)) / from) e
  where
    at : (m : ℕ) → m * to - (r + to) ≡ (m - 1) * to - r
    at zero = omega (arith, zero-mul to)
    at (suc m) =
        let a : suc m - 1 ≡ m = omega arith in
        omega (arith, next_mul m to, ap (λ t. t * to) a)

-- one input frame on
pub onward_next : (r from to c : ℕ) (xs : List Float) → 0 < to → 0 < c → onward (r + to) from to c xs ≡ onward r from to c (drop c xs)
unfolding onward
onward_next r from to c xs h k =
    let e : ahead (r + to) from to (frames c xs) ≡ ahead r from to (frames c (drop c xs)) = ahead_next r from to (frames c xs) ∙ ap (ahead r from to) (sym (frames-drop c xs k)) in
    let g : (i : ℕ) → shown_at to c xs (r + to + i * from) ≡ shown_at to c (drop c xs) (r + i * from) = λ i. ap (shown_at to c xs) (swapped i) ∙ shown_next to c xs (r + i * from) h in
    let m = ahead r from to (frames c (drop c xs)) in
    ap₂ ◌++◌
    (ap₂ (λ f n. flat_map f (range_with_len 0 n)) (fun_ext g) e)
    (ap (λ n. last_at to c xs (r + to + n * from)) e ∙ ap (last_at to c xs) (swapped m) ∙ last_next to c xs (r + m * from) h k)
  where
    swapped : (i : ℕ) → r + to + i * from ≡ r + i * from + to
    swapped i = omega arith

joined_shift : (f : ℕ → List Float) (a n : ℕ) → flat_map f (range_with_len (a + 1) n) ≡ flat_map (λ i. f (i + 1)) (range_with_len a n)
joined_shift f a zero = refl
joined_shift f a (suc n) = ap (λ t. f (a + 1) ++ t) (joined_shift f (a + 1) n)

shown-first : (r to c : ℕ) (xs : List Float) → r < to → shown_at to c xs r ≡ both (lerp r to) (take c xs) (take c (drop c xs))
shown-first r to c xs h =
    let z : 0 * c ≡ 0 = zero-mul c in
    let o : (0 + 1) * c ≡ c = one-mul c in
    simp (mod-eq_of_lt h, div-eq_of_lt h, z, o)

-- one output frame on
pub onward-frame : (r from to c : ℕ) (xs : List Float) → r < to → 0 < from → 0 < c → c < length xs →
    onward r from to c xs ≡ both (lerp r to) (take c xs) (take c (drop c xs)) ++ onward (r + from) from to c xs
unfolding onward
onward-frame r from to c xs h q k l =
    let n = frames c xs in
    let m = ahead (r + from) from to n in
    let z : 0 < n - 1 = ceil_many (length xs) c l k in
    let w : 1 * to ≤ (n - 1) * to = mul-le-mul_right to (omega arith) in
    let p : 0 < (n - 1) * to - r = omega (arith, one-mul to) in
    let s : (n - 1) * to - (r + from) ≡ (n - 1) * to - r - from = omega arith in
    let e : ahead r from to n ≡ suc m = omega (arith, ap (λ t. (t + (from - 1)) / from) s, ceil_less ((n - 1) * to - r) from q, ceil_pos ((n - 1) * to - r) from p q) in
    let f : ℕ → List Float = λ i. shown_at to c xs (r + i * from) in
    let g : (i : ℕ) → f (i + 1) ≡ shown_at to c xs (r + from + i * from) = λ i. ap (shown_at to c xs) (moved i) in
    let a : f 0 ≡ both (lerp r to) (take c xs) (take c (drop c xs)) = ap (shown_at to c xs) (omega (arith, zero-mul from)) ∙ shown-first r to c xs h in
    ap (λ t. flat_map f (range_with_len 0 t) ++ last_at to c xs (r + t * from)) e
    ∙ ap₂ ◌++◌ (ap₂ ◌++◌ a (joined_shift f 0 m ∙ ap (λ u. flat_map u (range_with_len 0 m)) (fun_ext g))) (ap (last_at to c xs) (ap (λ t. r + t * from) (sym_suc m) ∙ moved m))
    ∙ append_assoc (both (lerp r to) (take c xs) (take c (drop c xs))) (flat_map (λ i. shown_at to c xs (r + from + i * from)) (range_with_len 0 m)) (last_at to c xs (r + from + m * from))
  where
    moved : (i : ℕ) → r + (i + 1) * from ≡ r + from + i * from
    moved i = omega (arith, next_mul i from)

    sym_suc : (m : ℕ) → suc m ≡ m + 1
    sym_suc m = omega arith

-- the last frame goes out as it is
pub onward_last : (r from to c : ℕ) (xs : List Float) → r < to → 0 < from → 0 < c → length xs ≤ c → onward r from to c xs ≡ xs
unfolding onward
onward_last r from to c xs h q k l =
    let z : frames c xs - 1 ≡ 0 = ceil_none (length xs) c l k in
    let y : 0 * to - r + (from - 1) < from = omega (arith, zero-mul to) in
    let e : ahead r from to (frames c xs) ≡ 0 = ap (λ t. (t * to - r + (from - 1)) / from) z ∙ div-eq_of_lt y in
    let p : r + 0 * from ≡ r = omega (arith, zero-mul from) in
    let t : eqb (r / to) 0 ≡ true = eq-eqb (r / to) 0 (div-eq_of_lt h) in
    let d : 0 * c ≡ 0 = zero-mul c in
    ap (λ n. flat_map (λ i. shown_at to c xs (r + i * from)) (range_with_len 0 n) ++ last_at to c xs (r + n * from)) e
    ∙ ap (last_at to c xs) p
    ∙ ap (λ n. cond (eqb (r / to) n) (frame c xs n) []) z
    ∙ cond-true (eqb (r / to) 0) (frame c xs 0) [] t
    ∙ ap (λ n. take c (drop n xs)) d
    ∙ take_all c xs l

pub onward_start : (from to c : ℕ) (xs : List Float) → onward 0 from to c xs ≡ resampled from to c xs
unfolding onward
onward_start from to c xs = simp (zero-add, sub-zero)
