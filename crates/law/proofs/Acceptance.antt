-- The accepted sources: each below the count, named, accepted no later than now, and accepted once.
use Rattle.std.proofs.Common.{◌≡◌, ℕ, zero, suc, ◌+◌, ◌<◌, ◌≤◌, Bool, true, false, cond, not, ◌&&◌, ◌||◌, eqb, ltb, List, [], ◌∷◌, ◌++◌, length, get_or, sym, refl, ap, subst, arith}
use Rattle.std.specs.List.{AllByRecursion}
use Rattle.std.proofs.ByRecursion.{All-get_or, All-weaker}
use Rattle.std.proofs.lemmas.Bool.{ltb-true, lt-ltb, eqb-true, eqb-false, eq-eqb, not-true, and_parts, and_from, not_from_false, or_parts, or_right}
use Rattle.law.specs.declared.Call.{Call}
use Rattle.law.specs.declared.Call.TheVariants.{Add, Next}
use Rattle.law.specs.Asked.{Within, Found, AcceptedOnce}
use Rattle.law.specs.Mixing.{answers, names, Accepted, nobody, accepted_since, accepted}

-- of one accepted in h, after the calls of past
pub record Sound (count : ℕ) (past h : List Call) (a : Accepted) : Type 0 where
  pub below : a.number < count
  pub fresh : names a.number past ≡ false
  pub named : names a.number h ≡ true
  pub early : a.after ≤ answers past + answers h

sound_on : (count i : ℕ) (past h : List Call) (a : Accepted) → Sound count (Add i ∷ past) h a → Sound count past (Add i ∷ h) a
sound_on count i past h a s = record {
  below = s.below;
  fresh = (or_parts (eqb a.number i) (names a.number past) s.fresh).1;
  named = or_right (eqb a.number i) (names a.number h) s.named;
  early = s.early;
}

pub all_sound : (count : ℕ) (past h : List Call) → AllByRecursion (Sound count past h) (accepted_since count past h)
all_sound count past [] = tt
all_sound count past (Next ∷ h) =
    All-weaker (Sound count (Next ∷ past) h) (Sound count past (Next ∷ h))
    (λ a s. record { below = s.below; fresh = s.fresh; named = s.named; early = omega (arith, s.early) })
    (accepted_since count (Next ∷ past) h) (all_sound count (Next ∷ past) h)
all_sound count past (Add i ∷ h) =
    head (All-weaker (Sound count (Add i ∷ past) h) (Sound count past (Add i ∷ h)) (sound_on count i past h)
    (accepted_since count (Add i ∷ past) h) (all_sound count (Add i ∷ past) h))
    (ltb i count && not (names i past)) refl
  where
    head : AllByRecursion (Sound count past (Add i ∷ h)) (accepted_since count (Add i ∷ past) h) → (b : Bool) → (ltb i count && not (names i past)) ≡ b →
        AllByRecursion (Sound count past (Add i ∷ h)) (cond b (record { number = i; after = answers past } ∷ []) [] ++ accepted_since count (Add i ∷ past) h)
    head later true e =
        let p = and_parts (ltb i count) (not (names i past)) e in
        let same : eqb i i ≡ true = eq-eqb i i refl in
        (record { below = ltb-true i count p.0; fresh = not-true (names i past) p.1; named = ap (λ (b : Bool). b || names i h) same; early = omega arith }, later)
    head later false e = later

pub sound : (count : ℕ) (h : List Call) (k : ℕ) → k < length (accepted count h) → Sound count [] h (get_or (accepted count h) k nobody)
sound count h k lt = All-get_or (Sound count [] h) (accepted count h) k nobody lt (all_sound count [] h)

pub early : (count : ℕ) (h : List Call) (k : ℕ) → k < length (accepted count h) → (get_or (accepted count h) k nobody).after ≤ answers h
early count h k lt = omega (arith, (sound count h k lt).early)

-- no two with one number
abbrev pub Apart : List Accepted → Type 0
Apart [] = Unit {0}
Apart (a ∷ ks) = AllByRecursion (λ (b : Accepted). b.number ≡ a.number → ⊥) ks × Apart ks

pub apart_since : (count : ℕ) (past h : List Call) → Apart (accepted_since count past h)
apart_since count past [] = tt
apart_since count past (Next ∷ h) = apart_since count (Next ∷ past) h
apart_since count past (Add i ∷ h) = head (apart_since count (Add i ∷ past) h) (ltb i count && not (names i past))
  where
    head : Apart (accepted_since count (Add i ∷ past) h) → (b : Bool) → Apart (cond b (record { number = i; after = answers past } ∷ []) [] ++ accepted_since count (Add i ∷ past) h)
    head later true = (
      All-weaker (Sound count (Add i ∷ past) h) (λ (b : Accepted). b.number ≡ i → ⊥)
          (λ b s e. eqb-false b.number i (or_parts (eqb b.number i) (names b.number past) s.fresh).0 e)
          (accepted_since count (Add i ∷ past) h) (all_sound count (Add i ∷ past) h),
      later,
    )
    head later false = later

apart_at : (ks : List Accepted) (j k : ℕ) → Apart ks → j < length ks → k < length ks → (get_or ks j nobody).number ≡ (get_or ks k nobody).number → j ≡ k
apart_at [] j k p l r e = omega arith
apart_at (a ∷ ks) zero zero p l r e = refl
apart_at (a ∷ ks) zero (suc k) p l r e =
    absurd (All-get_or (λ (b : Accepted). b.number ≡ a.number → ⊥) ks k nobody (omega arith) p.0 (sym e))
apart_at (a ∷ ks) (suc j) zero p l r e =
    absurd (All-get_or (λ (b : Accepted). b.number ≡ a.number → ⊥) ks j nobody (omega arith) p.0 e)
apart_at (a ∷ ks) (suc j) (suc k) p l r e = ap suc (apart_at ks j k p.1 (omega arith) (omega arith) e)

pub one_place : (count : ℕ) (h : List Call) (j k : ℕ) → j < length (accepted count h) → k < length (accepted count h) →
    (get_or (accepted count h) j nobody).number ≡ (get_or (accepted count h) k nobody).number → j ≡ k
one_place count h j k l r e = apart_at (accepted count h) j k (apart_since count [] h) l r e

-- a number below the count that was named was accepted
found_since : (count i : ℕ) (past h : List Call) → i < count → names i past ≡ false → names i h ≡ true → Found i (accepted_since count past h)
found_since count i past [] lt unnamed was = let z : ◌≡◌ {A = ℕ} 0 1 = cc in let f : ⊥ = omega arith in absurd f
found_since count i past (Next ∷ h) lt unnamed was = found_since count i (Next ∷ past) h lt unnamed was
found_since count i past (Add j ∷ h) lt unnamed was =
    by (λ e. found_since count i (Add j ∷ past) h lt (rw e unnamed) (rw e at was)) (eqb i j) refl
  where
    later : (b : Bool) → Found i (accepted_since count (Add j ∷ past) h) →
        Found i (cond b (record { number = j; after = answers past } ∷ []) [] ++ accepted_since count (Add j ∷ past) h)
    later true (k, l, e) = (suc k, omega arith, e)
    later false f = f

    by : (eqb i j ≡ false → Found i (accepted_since count (Add j ∷ past) h)) → (b : Bool) → eqb i j ≡ b → Found i (accepted_since count past (Add j ∷ h))
    by on true e =
        let same : i ≡ j = eqb-true i j e in
        let no-j : names j past ≡ false = subst (λ (n : ℕ). names n past ≡ false) same unnamed in
        let ok : (ltb j count && not (names j past)) ≡ true =
        and_from (ltb j count) (not (names j past)) (lt-ltb j count (omega arith)) (not_from_false (names j past) no-j) in
        rw ok (0, omega arith, sym same)
    by on false e = later (ltb j count && not (names j past)) (on e)

pub found : (count i : ℕ) (h : List Call) → i < count → names i h ≡ true → Found i (accepted count h)
found count i h lt was = found_since count i [] h lt refl was

pub accepted_once_lem : AcceptedOnce
accepted_once_lem count h = (
  All-weaker (Sound count [] h) (Within count h)
      (λ a s. (s.below, s.named, omega (arith, s.early))) (accepted count h) (all_sound count [] h),
  λ i below was. found count i h below was,
  λ j k l r e. one_place count h j k l r e,
)
