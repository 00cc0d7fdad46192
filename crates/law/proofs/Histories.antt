-- What one more call does to the answers, the names and the accepted sources of a list of calls.
use Rattle.std.proofs.Common.{◌≡◌, ℕ, suc, ◌+◌, Bool, true, false, cond, not, ◌&&◌, ◌||◌, eqb, ltb, List, [], ◌∷◌, ◌++◌, sym, refl, ap, ◌∙◌, add-zero, zero-add, arith}
use Rattle.std.proofs.lemmas.List.{append-nil, append_assoc}
use Rattle.std.proofs.Math.Bool.{or-false, or_assoc}
use Rattle.law.specs.declared.Call.{Call}
use Rattle.law.specs.declared.Call.TheVariants.{Add, Next}
use Rattle.law.specs.Mixing.{answers, names, Accepted, accepted_since, accepted}

pub answers_add : (h : List Call) (i : ℕ) → answers (h ++ (Add i ∷ [])) ≡ answers h
answers_add [] i = refl
answers_add (Add j ∷ h) i = answers_add h i
answers_add (Next ∷ h) i = ap suc (answers_add h i)

pub answers_next : (h : List Call) → answers (h ++ (Next ∷ [])) ≡ suc (answers h)
answers_next [] = refl
answers_next (Add j ∷ h) = answers_next h
answers_next (Next ∷ h) = ap suc (answers_next h)

pub or_swaps : (a b c : Bool) → ((a || b) || c) ≡ (b || (a || c))
or_swaps true true c = refl
or_swaps true false c = refl
or_swaps false b c = refl

pub names_add : (i j : ℕ) (h : List Call) → names i (h ++ (Add j ∷ [])) ≡ (names i h || eqb i j)
names_add i j [] = or-false (eqb i j)
names_add i j (Add k ∷ h) = ap (λ (b : Bool). eqb i k || b) (names_add i j h) ∙ sym (or_assoc (eqb i k) (names i h) (eqb i j))
names_add i j (Next ∷ h) = names_add i j h

pub names_next : (i : ℕ) (h : List Call) → names i (h ++ (Next ∷ [])) ≡ names i h
names_next i [] = refl
names_next i (Add k ∷ h) = ap (λ (b : Bool). eqb i k || b) (names_next i h)
names_next i (Next ∷ h) = names_next i h

-- what an add of i adds to the accepted ones, after n answers, if b says that i was named before
abbrev pub newly : ℕ → ℕ → Bool → ℕ → List Accepted
newly count i b n = cond (ltb i count && not b) (record { number = i; after = n } ∷ []) []

since_add : (count i : ℕ) (past h : List Call) →
    accepted_since count past (h ++ (Add i ∷ [])) ≡ accepted_since count past h ++ newly count i (names i past || names i h) (answers past + answers h)
since_add count i past [] = rw (append-nil, or-false (names i past), add-zero (answers past))
since_add count i past (Next ∷ h) = since_add count i (Next ∷ past) h ∙
    ap (λ (n : ℕ). accepted_since count (Next ∷ past) h ++ newly count i (names i past || names i h) n) (omega arith)
since_add count i past (Add j ∷ h) =
    let head = newly count j (names j past) (answers past) in
    ap (λ (ks : List Accepted). head ++ ks) (since_add count i (Add j ∷ past) h ∙
    ap (λ (b : Bool). accepted_since count (Add j ∷ past) h ++ newly count i b (answers past + answers h)) (or_swaps (eqb i j) (names i past) (names i h)))
    ∙ sym (append_assoc head (accepted_since count (Add j ∷ past) h) (newly count i (names i past || (eqb i j || names i h)) (answers past + answers h)))

pub accepted_add : (count i : ℕ) (h : List Call) → accepted count (h ++ (Add i ∷ [])) ≡ accepted count h ++ newly count i (names i h) (answers h)
accepted_add count i h = since_add count i [] h ∙ ap (λ (n : ℕ). accepted count h ++ newly count i (names i h) n) (zero-add (answers h))

since_next : (count : ℕ) (past h : List Call) → accepted_since count past (h ++ (Next ∷ [])) ≡ accepted_since count past h
since_next count past [] = refl
since_next count past (Next ∷ h) = since_next count (Next ∷ past) h
since_next count past (Add j ∷ h) = ap (λ (ks : List Accepted). newly count j (names j past) (answers past) ++ ks) (since_next count (Add j ∷ past) h)

pub accepted_next : (count : ℕ) (h : List Call) → accepted count (h ++ (Next ∷ [])) ≡ accepted count h
accepted_next count h = since_next count [] h
