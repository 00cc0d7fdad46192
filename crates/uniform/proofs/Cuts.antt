-- A list cut into pieces, one piece on.
use Rattle.std.proofs.Common.{◌≡◌, ℕ, zero, suc, ◌+◌, ◌-◌, ◌*◌, ◌/◌, ◌<◌, ◌≤◌, min, List, [], ◌∷◌, map, length, take, drop, sym, refl, ap, ◌∙◌, ap₂, ⊎_elim, add-mul, one-mul, zero-mul, arith, length-drop}
use mathlib.Core.Path.{fun_ext}
use native.Mathlib.Nat.{div-eq_of_lt}
use Rattle.std.specs.List.{range_with_len}
use Rattle.std.proofs.lemmas.Nat.{le-div}
use Rattle.std.proofs.lemmas.List.{drop-drop, drop_all, take_all}
use Rattle.std.proofs.lemmas.Bool.{cases_lt}
use Rattle.rates.proofs.Places.{ceil_less}
use Rattle.uniform.specs.Pieces.{pieces_of}

map_shift : {A : Type 0} (f : ℕ → A) (a n : ℕ) → map f (range_with_len (a + 1) n) ≡ map (λ i. f (i + 1)) (range_with_len a n)
map_shift f a zero = refl
map_shift f a (suc n) = ap (λ t. f (a + 1) ∷ t) (map_shift f (a + 1) n)

pub pieces_none : {A : Type 0} (n : ℕ) → 0 < n → pieces_of {A = A} n [] ≡ []
pieces_none {A = A} n h =
    let l : 0 + (n - 1) < n = omega arith in
    let e : (0 + (n - 1)) / n ≡ 0 = div-eq_of_lt l in
    ap (λ k. map (λ j. take n (drop (j * n) [])) (range_with_len 0 k)) e

-- the first piece, and then those of what is left
pub pieces-cons : {A : Type 0} (n : ℕ) (xs : List A) → 0 < n → 0 < length xs → pieces_of n xs ≡ take n xs ∷ pieces_of n (drop n xs)
pieces-cons n xs h p =
    let k = (length (drop n xs) + (n - 1)) / n in
    let e : (length xs + (n - 1)) / n ≡ suc k =
    omega (arith, ceil_less (length xs) n h, ap (λ m. (m + (n - 1)) / n) (length-drop n xs), le-div 1 (length xs + (n - 1)) n h (omega arith)) in
    ap (λ m. map (λ j. take n (drop (j * n) xs)) (range_with_len 0 m)) e
    ∙ ap₂ ◌∷◌ (ap (λ m. take n (drop m xs)) (zero-mul n)) (map_shift (λ j. take n (drop (j * n) xs)) 0 k ∙ ap (λ f. map f (range_with_len 0 k)) (fun_ext next))
  where
    next : (j : ℕ) → take n (drop ((j + 1) * n) xs) ≡ take n (drop (j * n) (drop n xs))
    next j =
        let q : (j + 1) * n ≡ n + j * n = omega (arith, add-mul j 1 n, one-mul n) in
        ap (λ m. take n (drop m xs)) q ∙ ap (take n) (sym (drop-drop (j * n) n xs))

-- a cut behind the end cuts nothing more
pub take_min : {A : Type 0} (n : ℕ) (xs : List A) → take (min (length xs) n) xs ≡ take n xs
take_min n xs = ⊎_elim
    (λ (l : length xs < n). let e : min (length xs) n ≡ length xs = omega arith in ap (λ m. take m xs) e ∙ take_all (length xs) xs (omega arith) ∙ sym (take_all n xs (omega arith)))
    (λ (l : n ≤ length xs). let e : min (length xs) n ≡ n = omega arith in ap (λ m. take m xs) e)
    (cases_lt (length xs) n)

pub drop_min : {A : Type 0} (n : ℕ) (xs : List A) → drop (min (length xs) n) xs ≡ drop n xs
drop_min n xs = ⊎_elim
    (λ (l : length xs < n). let e : min (length xs) n ≡ length xs = omega arith in ap (λ m. drop m xs) e ∙ drop_all (length xs) xs (omega arith) ∙ sym (drop_all n xs (omega arith)))
    (λ (l : n ≤ length xs). let e : min (length xs) n ≡ n = omega arith in ap (λ m. drop m xs) e)
    (cases_lt (length xs) n)
