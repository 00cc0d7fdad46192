-- Writing a list over cells.
use Rattle.std.proofs.Common.{◌≡◌, ℕ, zero, suc, ◌+◌, ◌<◌, ◌≤◌, min, List, [], ◌∷◌, ◌++◌, length, take, drop, set, Some, sym, ap, ◌∙◌, ⊎_elim, add-one, arith}
use Rattle.std.proofs.lemmas.List.{take_all, drop_all}
use Rattle.std.proofs.lemmas.Bool.{cases_lt}
use Rattle.source.specs.Samples.{first}
use Rattle.exports.specs.Written.{written}

-- one more written
pub write_more : {A : Type 0} (i : ℕ) (xs o : List A) (x : A) → Some x ≡ first (drop i xs) → i < length o → set (take i xs ++ drop i o) i x ≡ take (i + 1) xs ++ drop (i + 1) o
write_more {A = A} i xs o x e h = at i xs o e h ∙ ap (λ k. take k xs ++ drop k o) (sym (add-one i))
  where
    at : (i : ℕ) (xs o : List A) → Some x ≡ first (drop i xs) → i < length o → set (take i xs ++ drop i o) i x ≡ take (suc i) xs ++ drop (suc i) o
    at zero [] [] e h = absurd (omega arith)
    at zero [] (z ∷ o) e h = cc
    at zero (y ∷ xs) [] e h = absurd (omega arith)
    at zero (y ∷ xs) (z ∷ o) e h = cc
    at (suc i) [] [] e h = absurd (omega arith)
    at (suc i) [] (z ∷ o) e h = cc
    at (suc i) (y ∷ xs) [] e h = absurd (omega arith)
    at (suc i) (y ∷ xs) (z ∷ o) e h = ap (λ l. y ∷ l) (at i xs o e (omega arith))

-- all written, or all cells full
pub write_end : {A : Type 0} (i : ℕ) (xs o : List A) → i ≡ min (length o) (length xs) → take i xs ++ drop i o ≡ written xs o
write_end i xs o e = ⊎_elim (λ h. full h) (λ h. through h) (cases_lt (length o) (length xs))
  where
    full : length o < length xs → take i xs ++ drop i o ≡ written xs o
    full h =
        let l : i ≡ length o = omega arith in
        ap (λ k. take k xs ++ drop k o) l
        ∙ ap (λ l. take (length o) xs ++ l) (drop_all (length o) o (omega arith) ∙ sym (drop_all (length xs) o (omega arith)))

    through : length xs ≤ length o → take i xs ++ drop i o ≡ written xs o
    through h =
        let l : i ≡ length xs = omega arith in
        ap (λ k. take k xs ++ drop k o) l
        ∙ ap (λ l. l ++ drop (length xs) o) (take_all (length xs) xs (omega arith) ∙ sym (take_all (length o) xs (omega arith)))
