-- Two lists that hold the same at each marked place, place by place from place p on.
use Rattle.std.proofs.Common.{◌≡◌, ℕ, zero, suc, ◌+◌, ◌<◌, min, List, [], ◌∷◌, ◌++◌, map, length, get_or, take, drop, refl, ap, subst, ap₂, arith}
use Rattle.std.specs.List.{range_with_len}
use Rattle.rates.specs.Rates.{both}

abbrev pub Beside : {A : Type 0} → (ℕ → Type 0) → ℕ → List A → List A → Type 0
Beside Mark p [] [] = Unit {0}
Beside Mark p [] (y ∷ ys) = ⊥
Beside Mark p (x ∷ xs) [] = ⊥
Beside Mark p (x ∷ xs) (y ∷ ys) = (Mark p → x ≡ y) × Beside Mark (p + 1) xs ys

module _ {A : Type 0} (Mark : ℕ → Type 0) where
  pub beside_length : (p : ℕ) (xs ys : List A) → Beside Mark p xs ys → length xs ≡ length ys
  beside_length p [] [] h = refl
  beside_length p [] (y ∷ ys) h = elim h [ ]
  beside_length p (x ∷ xs) [] h = elim h [ ]
  beside_length p (x ∷ xs) (y ∷ ys) h = ap suc (beside_length (p + 1) xs ys h.1)

  pub beside_get_or : (p : ℕ) (xs ys : List A) → Beside Mark p xs ys → (i : ℕ) (e : A) → Mark (p + i) → get_or xs i e ≡ get_or ys i e
  beside_get_or p [] [] h i e m = refl
  beside_get_or p [] (y ∷ ys) h i e m = elim h [ ]
  beside_get_or p (x ∷ xs) [] h i e m = elim h [ ]
  beside_get_or p (x ∷ xs) (y ∷ ys) h zero e m = h.0 (subst Mark (omega arith) m)
  beside_get_or p (x ∷ xs) (y ∷ ys) h (suc i) e m = beside_get_or (p + 1) xs ys h.1 i e (subst Mark (omega arith) m)

  pub beside_from : (p : ℕ) (xs ys : List A) (e : A) → length xs ≡ length ys →
      ((i : ℕ) → i < length xs → Mark (p + i) → get_or xs i e ≡ get_or ys i e) → Beside Mark p xs ys
  beside_from p [] [] e l h = tt
  beside_from p [] (y ∷ ys) e l h = omega arith
  beside_from p (x ∷ xs) [] e l h = omega arith
  beside_from p (x ∷ xs) (y ∷ ys) e l h = (
    λ m. h 0 (omega arith) (subst Mark (omega arith) m),
    beside_from (p + 1) xs ys e (omega arith) (λ i b m. h (suc i) (omega arith) (subst Mark (omega arith) m)),
  )

  pub beside_append : (p q : ℕ) (xs ys us vs : List A) → p + length xs ≡ q → Beside Mark p xs ys → Beside Mark q us vs →
      Beside Mark p (xs ++ us) (ys ++ vs)
  beside_append p q [] [] us vs l h k = subst (λ (n : ℕ). Beside Mark n us vs) (omega arith) k
  beside_append p q [] (y ∷ ys) us vs l h k = elim h [ ]
  beside_append p q (x ∷ xs) [] us vs l h k = elim h [ ]
  beside_append p q (x ∷ xs) (y ∷ ys) us vs l h k = (h.0, beside_append (p + 1) q xs ys us vs (omega arith) h.1 k)

  pub beside_take : (n p : ℕ) (xs ys : List A) → Beside Mark p xs ys → Beside Mark p (take n xs) (take n ys)
  beside_take zero p xs ys h = tt
  beside_take (suc n) p [] [] h = tt
  beside_take (suc n) p [] (y ∷ ys) h = elim h [ ]
  beside_take (suc n) p (x ∷ xs) [] h = elim h [ ]
  beside_take (suc n) p (x ∷ xs) (y ∷ ys) h = (h.0, beside_take n (p + 1) xs ys h.1)

  pub beside_drop : (n p q : ℕ) (xs ys : List A) → p + n ≡ q → Beside Mark p xs ys → Beside Mark q (drop n xs) (drop n ys)
  beside_drop zero p q xs ys l h = subst (λ (n : ℕ). Beside Mark n xs ys) (omega arith) h
  beside_drop (suc n) p q [] [] l h = tt
  beside_drop (suc n) p q [] (y ∷ ys) l h = elim h [ ]
  beside_drop (suc n) p q (x ∷ xs) [] l h = elim h [ ]
  beside_drop (suc n) p q (x ∷ xs) (y ∷ ys) l h = beside_drop n (p + 1) q xs ys (omega arith) h.1

  pub beside_both : (f : A → A → A) (p : ℕ) (xs ys us vs : List A) → Beside Mark p xs ys → Beside Mark p us vs →
      Beside Mark p (both f xs us) (both f ys vs)
  beside_both f p [] [] us vs h k = tt
  beside_both f p [] (y ∷ ys) us vs h k = elim h [ ]
  beside_both f p (x ∷ xs) [] us vs h k = elim h [ ]
  beside_both f p (x ∷ xs) (y ∷ ys) [] [] h k = tt
  beside_both f p (x ∷ xs) (y ∷ ys) [] (b ∷ vs) h k = elim k [ ]
  beside_both f p (x ∷ xs) (y ∷ ys) (a ∷ us) [] h k = elim k [ ]
  beside_both f p (x ∷ xs) (y ∷ ys) (a ∷ us) (b ∷ vs) h k =
      (λ m. ap₂ f (h.0 m) (k.0 m), beside_both f (p + 1) xs ys us vs h.1 k.1)

  -- seen from place q, where the marks from q on are marks from p on
  pub beside_shift : (p q : ℕ) (xs ys : List A) → ((i : ℕ) → Mark (q + i) → Mark (p + i)) → Beside Mark p xs ys → Beside Mark q xs ys
  beside_shift p q [] [] s h = tt
  beside_shift p q [] (y ∷ ys) s h = elim h [ ]
  beside_shift p q (x ∷ xs) [] s h = elim h [ ]
  beside_shift p q (x ∷ xs) (y ∷ ys) s h = (
    λ m. h.0 (subst Mark (omega arith) (s 0 (subst Mark (omega arith) m))),
    beside_shift (p + 1) (q + 1) xs ys (λ i m. subst Mark (omega arith) (s (suc i) (subst Mark (omega arith) m))) h.1,
  )

  pub beside_counting : (f g : ℕ → A) (n p : ℕ) → ((i : ℕ) → Mark i → f i ≡ g i) → Beside Mark p (map f (range_with_len p n)) (map g (range_with_len p n))
  beside_counting f g zero p h = tt
  beside_counting f g (suc n) p h = (h p, beside_counting f g n (p + 1) h)

pub length_both : {A : Type 0} (f : A → A → A) (n m : ℕ) (xs ys : List A) → length xs ≡ n → length ys ≡ m → length (both f xs ys) ≡ min n m
length_both f n m [] ys h k = omega arith
length_both f n m (x ∷ xs) [] h k = omega arith
length_both f n m (x ∷ xs) (y ∷ ys) h k =
    let r : length (both f xs ys) ≡ min (length xs) (length ys) = length_both f (length xs) (length ys) xs ys refl refl in omega arith
