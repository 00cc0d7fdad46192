-- Drawing from a list, and the sample of silence as the code writes it.
use Rattle.std.proofs.Common.{◌≡◌, ℕ, zero, suc, ◌+◌, ◌<◌, ◌≤◌, true, false, List, [], ◌∷◌, length, drop, is_some, sym, refl, ap, ◌∙◌, add-one, arith}
use lib.Ieee.{of_bits, binary32}
use Rattle.std.proofs.lemmas.Bool.{true≢false}
use Rattle.source.specs.Samples.{first, rest, silence}

-- `0.0` in the code
pub zero_bits : of_bits binary32 0 ≡ silence
unfolding of_bits
zero_bits = refl

-- one more drawn
pub rest-drop : {A : Type 0} (n : ℕ) (xs : List A) → rest (drop n xs) ≡ drop (n + 1) xs
rest-drop {A = A} n xs = at n xs ∙ ap (λ k. drop k xs) (sym (add-one n))
  where
    at : (n : ℕ) (xs : List A) → rest (drop n xs) ≡ drop (suc n) xs
    at zero [] = refl
    at zero (x ∷ xs) = refl
    at (suc n) [] = refl
    at (suc n) (x ∷ xs) = at n xs

-- nothing to draw, nothing drawn
pub rest_none : {A : Type 0} (xs : List A) → is_some (first xs) ≡ false → rest xs ≡ xs
rest_none [] e = refl
rest_none (x ∷ xs) e = absurd (true≢false e)

-- where nothing can be drawn behind n, there are no more than n; and else there are more
pub first_none : {A : Type 0} (n : ℕ) (xs : List A) → is_some (first (drop n xs)) ≡ false → length xs ≤ n
first_none zero [] e = omega arith
first_none zero (x ∷ xs) e = absurd (true≢false e)
first_none (suc n) [] e = omega arith
first_none (suc n) (x ∷ xs) e = omega (arith, first_none n xs e)

pub first_some : {A : Type 0} (n : ℕ) (xs : List A) → is_some (first (drop n xs)) ≡ true → n < length xs
first_some zero [] e = absurd (true≢false (sym e))
first_some zero (x ∷ xs) e = omega arith
first_some (suc n) [] e = absurd (true≢false (sym e))
first_some (suc n) (x ∷ xs) e = omega (arith, first_some n xs e)
