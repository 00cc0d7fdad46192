-- There are no more accepted sources than numbers below the count, so one that was not named still finds room.
use Rattle.std.proofs.Common.{◌≡◌, ℕ, zero, suc, ◌<◌, ◌≤◌, Bool, true, false, cond, not, eqb, List, [], ◌∷◌, length, filter, refl, ap, subst, inl, inr, arith}
use Rattle.std.specs.List.{AllByRecursion}
use Rattle.std.proofs.ByRecursion.{All-weaker, all_kept_by}
use Rattle.std.proofs.lemmas.Bool.{eq-eqb, ne_eqb, cases_eq}
use Rattle.law.specs.declared.Call.{Call}
use Rattle.law.specs.Mixing.{names, Accepted, accepted}
use Rattle.law.proofs.Acceptance.{Sound, all_sound, Apart, apart_since}

-- whether a source has another number
abbrev not_at : ℕ → Accepted → Bool
not_at n a = not (eqb a.number n)

all_kept : (n : ℕ) (ks : List Accepted) → AllByRecursion (λ (b : Accepted). b.number ≡ n → ⊥) ks → filter (not_at n) ks ≡ ks
all_kept n [] p = refl
all_kept n (a ∷ ks) p = rw (ne_eqb a.number n p.0) (ap (λ (bs : List Accepted). a ∷ bs) (all_kept n ks p.1))

one_less : (n : ℕ) (ks : List Accepted) → Apart ks → length ks ≤ suc (length (filter (not_at n) ks))
one_less n [] p = omega arith
one_less n (a ∷ ks) p = elim (cases_eq a.number n) [
  | inl e ↦ rw (eq-eqb a.number n e, all_kept n ks (subst (λ (k : ℕ). AllByRecursion (λ (b : Accepted). b.number ≡ k → ⊥) ks) e p.0)) (omega arith)
  | inr ne ↦ rw (ne_eqb a.number n ne) (omega (arith, one_less n ks p.1))
]

apart_kept : (n : ℕ) (ks : List Accepted) → Apart ks → Apart (filter (not_at n) ks)
apart_kept n [] p = tt
apart_kept n (a ∷ ks) p = by (apart_kept n ks p.1) (not_at n a)
  where
    by : Apart (filter (not_at n) ks) → (b : Bool) → Apart (cond b (a ∷ filter (not_at n) ks) (filter (not_at n) ks))
    by rest true = (all_kept_by (not_at n) (λ (b : Accepted). b.number ≡ a.number → ⊥) ks p.0, rest)
    by rest false = rest

below_kept : (n : ℕ) (ks : List Accepted) → AllByRecursion (λ (b : Accepted). b.number < suc n) ks → AllByRecursion (λ (b : Accepted). b.number < n) (filter (not_at n) ks)
below_kept n [] p = tt
below_kept n (a ∷ ks) p = elim (cases_eq a.number n) [
  | inl e ↦ rw (eq-eqb a.number n e) (below_kept n ks p.1)
  | inr ne ↦ rw (ne_eqb a.number n ne) (omega (arith, p.0), below_kept n ks p.1)
]

-- there are no more of them than numbers
no_more_than : (n : ℕ) (ks : List Accepted) → Apart ks → AllByRecursion (λ (b : Accepted). b.number < n) ks → length ks ≤ n
no_more_than zero [] p b = omega arith
no_more_than zero (a ∷ ks) p b = let z : ⊥ = omega (arith, b.0) in absurd z
no_more_than (suc n) ks p b =
    omega (arith, one_less n ks p, no_more_than n (filter (not_at n) ks) (apart_kept n ks p) (below_kept n ks b))

-- a number that was not named leaves room
pub room : (count i : ℕ) (h : List Call) → i < count → names i h ≡ false → length (accepted count h) < count
room count i h lt unnamed =
    no_more_than count (record { number = i; after = 0 } ∷ accepted count h)
    (All-weaker (Sound count [] h) (λ (b : Accepted). b.number ≡ i → ⊥) (λ b s e. let z : ◌≡◌ {A = ℕ} 0 1 = cc (s.named, ap (λ (k : ℕ). names k h) e, unnamed) in omega arith) (accepted count h) (all_sound count [] h), apart_since count [] h)
    (lt, All-weaker (Sound count [] h) (λ (b : Accepted). b.number < count) (λ b s. s.below) (accepted count h) (all_sound count [] h))
