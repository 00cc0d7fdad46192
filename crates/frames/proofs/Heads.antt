-- What a sample at a place of a list says of the list.
use Rattle.std.proofs.Common.{◌≡◌, ℕ, zero, suc, ◌<◌, ◌≤◌, List, [], ◌∷◌, ◌++◌, length, get_or, take, drop, is_some, Some, None, sym, refl, ap, arith}
use lib.Ieee.{Float}
use Rattle.source.proofs.Draws.{first_none}
use Rattle.source.specs.Samples.{first, rest}

-- a sample x at place i
pub record Here (s : List Float) (i : ℕ) (x : Float) : Type 0 where
  pub less : i < length s
  pub front : take (suc i) s ≡ take i s ++ (x ∷ [])
  pub back : rest (drop i s) ≡ drop (suc i) s

pub here : (s : List Float) (i : ℕ) (x : Float) → Some x ≡ first (drop i s) → Here s i x
here [] zero x h = let z : ◌≡◌ {A = ℕ} 0 1 = cc in absurd (omega arith)
here [] (suc i) x h = let z : ◌≡◌ {A = ℕ} 0 1 = cc in absurd (omega arith)
here (y ∷ s) zero x h =
    let e : y ≡ x = cc in
    record { less = omega arith; front = ap (λ t. t ∷ []) e; back = refl }
here (y ∷ s) (suc i) x h =
    let r = here s i x h in
    record { less = omega (arith, r.less); front = ap (λ t. y ∷ t) r.front; back = r.back }

-- none at place i
pub over : (s : List Float) (i : ℕ) → None ≡ first (drop i s) → length s ≤ i
over s i h = first_none i s (ap is_some (sym h))

pub none_past : (s : List Float) (i : ℕ) → length s ≤ i → None ≡ first (drop i s)
none_past [] zero h = refl
none_past [] (suc i) h = refl
none_past (y ∷ s) zero h = absurd (omega arith)
none_past (y ∷ s) (suc i) h = none_past s i (omega arith)

-- reading a place
pub first_at : (l : List Float) (i : ℕ) (d : Float) → i < length l → Some (get_or l i d) ≡ first (drop i l)
first_at [] i d h = absurd (omega arith)
first_at (x ∷ l) zero d h = refl
first_at (x ∷ l) (suc i) d h = first_at l i d (omega arith)
