-- One list more, and drawing from it or from the lists before it.
use Rattle.std.proofs.Common.{◌≡◌, ℕ, zero, suc, ◌<◌, ◌≤◌, Bool, true, false, cond, ltb, ◌⊎◌, List, [], ◌∷◌, ◌++◌, length, get_or, set, sym, refl, ap, inl, inr}
use lib.Ieee.{Float}
use Rattle.std.proofs.lemmas.Bool.{lt-ltb, le-ltb}
use Rattle.common.specs.declared.format.Format.{Format}
use Rattle.source.specs.Meanings.{open_from, all_samples, less_first}
use Rattle.source.specs.Samples.{rest}
use Rattle.uniform.proofs.Piecewise.{own_stream}
use Rattle.bank.specs.Banks.{most_lists, drawn_at, with_list, OwnStreams}

pub own_streams : (f : Format) (ls : List (List Float)) → OwnStreams f ls
own_streams f ls i = own_stream f (get_or ls i [])

pub with_room : (ls : List (List Float)) (l : List Float) → length ls < most_lists → with_list ls l ≡ ls ++ (l ∷ [])
with_room ls l h = rw (lt-ltb (length ls) 16 h)

no_room : (ls : List (List Float)) (l : List Float) → most_lists ≤ length ls → with_list ls l ≡ ls
no_room ls l h = rw (le-ltb (length ls) 16 h)

at_end : (ls : List (List Float)) (l : List Float) → get_or (ls ++ (l ∷ [])) (length ls) [] ≡ l
at_end [] l = refl
at_end (k ∷ ls) l = at_end ls l

drawn_end : (ls : List (List Float)) (l : List Float) → drawn_at (ls ++ (l ∷ [])) (length ls) ≡ ls ++ (rest l ∷ [])
drawn_end [] l = refl
drawn_end (k ∷ ls) l = ap (λ t. k ∷ t) (drawn_end ls l)

at_other : (ls : List (List Float)) (l : List Float) (i : ℕ) → (i ≡ length ls → ⊥) → get_or (ls ++ (l ∷ [])) i [] ≡ get_or ls i []
at_other [] l zero h = absurd (h refl)
at_other [] l (suc i) h = refl
at_other (k ∷ ls) l zero h = refl
at_other (k ∷ ls) l (suc i) h = at_other ls l i (λ e. h (ap suc e))

drawn_other : (ls : List (List Float)) (l : List Float) (i : ℕ) → (i ≡ length ls → ⊥) → drawn_at (ls ++ (l ∷ [])) i ≡ drawn_at ls i ++ (l ∷ [])
drawn_other [] l zero h = absurd (h refl)
drawn_other [] l (suc i) h = refl
drawn_other (k ∷ ls) l zero h = refl
drawn_other (k ∷ ls) l (suc i) h = ap (λ t. k ∷ t) (drawn_other ls l i (λ e. h (ap suc e)))

length-set : (ls : List (List Float)) (i : ℕ) (l : List Float) → length (set ls i l) ≡ length ls
length-set [] i l = refl
length-set (k ∷ ls) zero l = refl
length-set (k ∷ ls) (suc i) l = ap suc (length-set ls i l)

pub own_at : (ls : List (List Float)) (l : List Float) → length ls < most_lists → get_or (with_list ls l) (length ls) [] ≡ l
own_at ls l h = rw (lt-ltb (length ls) 16 h) (at_end ls l)

pub own_drawn : (ls : List (List Float)) (l : List Float) → length ls < most_lists → with_list ls (rest l) ≡ drawn_at (with_list ls l) (length ls)
own_drawn ls l h = rw (lt-ltb (length ls) 16 h) (sym (drawn_end ls l))

-- a number that the joined list does not have
abbrev pub Other : ℕ → List (List Float) → Type 0
Other i ls = (i ≡ length ls → ⊥) ⊎ (most_lists ≤ length ls)

pub other_at : (ls : List (List Float)) (l : List Float) (i : ℕ) → Other i ls → get_or (with_list ls l) i [] ≡ get_or ls i []
other_at ls l i (inl n) = by (ltb (length ls) most_lists)
  where
    by : (b : Bool) → get_or (cond b (ls ++ (l ∷ [])) ls) i [] ≡ get_or ls i []
    by true = at_other ls l i n
    by false = refl
other_at ls l i (inr h) = ap (λ ks. get_or ks i []) (no_room ls l h)

pub other_drawn : (ls : List (List Float)) (l : List Float) (i : ℕ) → Other i ls → with_list (drawn_at ls i) l ≡ drawn_at (with_list ls l) i
other_drawn ls l i (inl n) = rw (length-set ls i (rest (get_or ls i []))) (by (ltb (length ls) most_lists))
  where
    by : (b : Bool) → cond b (drawn_at ls i ++ (l ∷ [])) (drawn_at ls i) ≡ drawn_at (cond b (ls ++ (l ∷ [])) ls) i
    by true = sym (drawn_other ls l i n)
    by false = refl
other_drawn ls l i (inr h) = rw (length-set ls i (rest (get_or ls i [])), le-ltb (length ls) 16 h)

-- a stream's samples once one is drawn
pub stream_drawn : (f : Format) (xs : List Float) → all_samples (less_first (open_from f xs)) ≡ rest (all_samples (open_from f xs))
stream_drawn f [] = refl
stream_drawn f (x ∷ []) = refl
stream_drawn f (x ∷ (y ∷ xs)) = refl
