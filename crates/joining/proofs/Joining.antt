-- Lists with no source joined, and with one before others.
use Rattle.std.proofs.Common.{◌≡◌, ℕ, zero, suc, ◌-◌, ◌<◌, ◌≤◌, Bool, true, false, cond, ltb, List, [], ◌∷◌, ◌++◌, map, length, take, is_some, Some, None, Option, sym, refl, ap, ◌∙◌, subst, append_assoc, append-nil, arith, length-append}
use lib.Ieee.{Float}
use lib.Seq.{take-nil}
use Rattle.std.proofs.lemmas.Bool.{ltb-true, ltb-false, true≢false}
use Rattle.common.specs.declared.format.Format.{Format}
use Rattle.source.specs.Meanings.{Spans}
use Rattle.source.specs.Samples.{first, rest}
use Rattle.bank.specs.Banks.{most_lists, with_list}
use Rattle.joining.specs.Joining.{heard, with_sources}

pub with_none : (f : Format) (ls : List (List Float)) → with_sources f ls [] ≡ ls
with_none f ls = ap (λ t. ls ++ t) (take-nil (16 - length ls)) ∙ append-nil ls

-- lists up to the limit, in two steps and in one
filled : (b : Bool) (ls : List (List Float)) (x : List Float) (xs : List (List Float)) → ltb (length ls) most_lists ≡ b
    → cond b (ls ++ (x ∷ [])) ls ++ take (16 - length (cond b (ls ++ (x ∷ [])) ls)) xs ≡ ls ++ take (16 - length ls) (x ∷ xs)
filled true ls x xs e =
    let h : length ls < 16 = ltb-true (length ls) 16 e in
    let one : 16 - length (ls ++ (x ∷ [])) ≡ 15 - length ls = rw (length-append ls (x ∷ [])) (omega arith) in
    let room : 16 - length ls ≡ suc (15 - length ls) = omega arith in
    rw (one, room) (append_assoc ls (x ∷ []) (take (15 - length ls) xs))
filled false ls x xs e =
    let h = ltb-false (length ls) 16 e in
    let full : 16 - length ls ≡ 0 = omega arith in
    rw full refl

pub with_one : (f : Format) (ls : List (List Float)) (m : Spans) (ms : List Spans) → with_sources f (with_list ls (heard f m)) ms ≡ with_sources f ls (m ∷ ms)
with_one f ls m ms = filled (ltb (length ls) most_lists) ls (heard f m) (map (heard f) ms) refl

-- where the first of a list is missing, and where it is some value
pub none_first : {A : Type 0} (xs : List A) → None ≡ first xs → xs ≡ []
none_first [] e = refl
none_first (x ∷ xs) e = absurd (true≢false (sym (ap is_some e)))

pub some_first : {A : Type 0} (xs : List A) (x : A) → Some x ≡ first xs → xs ≡ x ∷ rest xs
some_first [] x e = absurd (true≢false (ap is_some e))
some_first (y ∷ ys) x e = ap (λ o. or_else y o ∷ ys) (sym e)
  where
    or_else : {A : Type 0} → A → Option A → A
    or_else y None = y
    or_else y (Some x) = x

-- what holds once the first source is joined and then n of the rest, holds of joining the first n + 1
pub joined_first : (V : Format → List (List Float) → Type 0) (f f' : Format) (ls ks : List (List Float)) (m : Spans) (n : ℕ) (ms ns : List Spans)
    → f' ≡ f → ks ≡ with_list ls (heard f m) → ms ≡ m ∷ rest ms → ns ≡ rest ms
    → V f' (with_sources f' ks (take n ns)) → V f (with_sources f ls (take (suc n) ms))
joined_first V f f' ls ks m n ms ns ef ek em en v =
    let all : with_sources f' ks (take n ns) ≡ with_sources f ls (take (suc n) ms) =
    ap (λ s. with_sources s ks (take n ns)) ef
    ∙ ap (λ l. with_sources f l (take n ns)) ek
    ∙ ap (λ w. with_sources f (with_list ls (heard f m)) (take n w)) en
    ∙ with_one f ls m (take n (rest ms))
    ∙ sym (ap (λ w. with_sources f ls (take (suc n) w)) em) in
    subst (λ s. V s (with_sources f ls (take (suc n) ms))) ef (subst (V f') all v)

-- sources beyond the limit are not heard
front : {A C : Type 0} (h : A → C) (n k : ℕ) (xs : List A) → n ≤ k → take n (map h (take k xs)) ≡ take n (map h xs)
front h zero k xs le = refl
front h (suc n) zero xs le = absurd (omega (arith, le))
front h (suc n) (suc k) [] le = refl
front h (suc n) (suc k) (x ∷ xs) le = ap (λ t. h x ∷ t) (front h n k xs (omega (arith, le)))

pub beyond_unheard : (f : Format) (ls : List (List Float)) (ms : List Spans) → with_sources f ls (take (suc most_lists) ms) ≡ with_sources f ls ms
beyond_unheard f ls ms = ap (λ t. ls ++ t) (front (heard f) (16 - length ls) 17 ms (omega arith))
