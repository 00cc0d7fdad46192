-- What one source adds to an answer, and when an answer has nothing in it.
use Rattle.std.proofs.Common.{◌≡◌, ℕ, ◌+◌, ◌-◌, ◌<◌, ◌≤◌, leb, List, [], ◌∷◌, ◌++◌, length, get_or, take, drop, None, sym, refl, ap, ◌∙◌, ap₂, inl, inr, ⊎_elim, arith, length-append}
use lib.Ieee.{Float}
use Rattle.std.specs.List.{flat_map, AllByRecursion}
use Rattle.std.proofs.lemmas.List.{drop_more, drop_all, nil_from_length}
use Rattle.std.proofs.lemmas.Bool.{cases_lt, cond-true, cond-false, le-leb, lt-leb}
use Rattle.source.specs.Samples.{silence}
use Rattle.law.specs.declared.Reply.TheVariants.{Next as NextReply}
use Rattle.law.specs.Asked.{EntersOnce, Silent, EndsWhenSilent}
use Rattle.law.specs.Mixing.{Accepted, answers, accepted, frame_start, term, terms, sum_or_end}

-- a list's sample at a place, as a term
one_at : (xs : List Float) (i : ℕ) → i < length xs → take 1 (drop i xs) ≡ get_or xs i silence ∷ []
one_at xs i h = ap (take 1) (drop_more xs i silence h)

none_at : (xs : List Float) (i : ℕ) → length xs ≤ i → take 1 (drop i xs) ≡ []
none_at xs i h = ap (take 1) (drop_all i xs h)

module _ (m : ℕ) (lists : List (List Float)) (a : Accepted) where
  abbrev s : ℕ
  s = frame_start m a.after

  abbrev xs : List Float
  xs = get_or lists a.number []

  before_start : (q : ℕ) → q < s → term m lists q a ≡ []
  before_start q h = cond-false (leb s q) _ _ (lt-leb s q h)

  from_start : (q : ℕ) → s ≤ q → term m lists q a ≡ take 1 (drop (q - s) xs)
  from_start q h = cond-true (leb s q) _ _ (le-leb s q h)

  silent_none : (q : ℕ) → Silent m lists q a → term m lists q a ≡ []
  silent_none q w = ⊎_elim (before_start q) (λ (h : s + length xs ≤ q). from_start q (omega arith) ∙ none_at xs (q - s) (omega arith)) w

  none_silent : (q : ℕ) → term m lists q a ≡ [] → Silent m lists q a
  none_silent q e = ⊎_elim inl (λ (h : s ≤ q). ⊎_elim
      (λ (l : q - s < length xs). absurd (omega (arith, ap length (sym (from_start q h ∙ one_at xs (q - s) l) ∙ e))))
      (λ (l : length xs ≤ q - s). inr (omega arith))
      (cases_lt (q - s) (length xs))) (cases_lt q s)

  one_from : (i : ℕ) → i < length xs → term m lists (s + i) a ≡ get_or xs i silence ∷ []
  one_from i h = let e : s + i - s ≡ i = omega arith in from_start (s + i) (omega arith) ∙ ap (λ n. take 1 (drop n xs)) e ∙ one_at xs i h

  from_one : (q : ℕ) (x : Float) → term m lists q a ≡ x ∷ [] → (s ≤ q) × (q - s < length xs) × (x ≡ get_or xs (q - s) silence)
  from_one q x e = ⊎_elim
      (λ (h : q < s). absurd (omega (arith, ap length (sym (before_start q h) ∙ e))))
      (λ (h : s ≤ q). ⊎_elim
      (λ (l : q - s < length xs). (h, l, ap (λ t. get_or t 0 silence) (sym e ∙ from_start q h ∙ one_at xs (q - s) l)))
      (λ (l : length xs ≤ q - s). absurd (omega (arith, ap length (sym (from_start q h ∙ none_at xs (q - s) l) ∙ e))))
      (cases_lt (q - s) (length xs)))
      (cases_lt q s)

pub enters_once_lem : EntersOnce
enters_once_lem m lists a = (one_from m lists a, from_one m lists a)

-- a join is empty exactly where each part is
joined_none : {X : Type 0} (f : X → List Float) (P : X → Type 0) → ((x : X) → f x ≡ [] → P x) → (xs : List X) → flat_map f xs ≡ [] → AllByRecursion P xs
joined_none f P g [] e = tt
joined_none f P g (x ∷ xs) e =
    let l = length-append (f x) (flat_map f xs) in
    let n : length (f x ++ flat_map f xs) ≡ 0 = ap length e in
    (g x (nil_from_length (f x) (omega arith)), joined_none f P g xs (nil_from_length (flat_map f xs) (omega arith)))

none_joined : {X : Type 0} (f : X → List Float) (P : X → Type 0) → ((x : X) → P x → f x ≡ []) → (xs : List X) → AllByRecursion P xs → flat_map f xs ≡ []
none_joined f P g [] h = refl
none_joined f P g (x ∷ xs) h = ap₂ (λ a b. a ++ b) (g x h.0) (none_joined f P g xs h.1)

sum_end : (l : List Float) → NextReply (sum_or_end l) ≡ NextReply None → l ≡ []
sum_end [] e = refl
sum_end (x ∷ l) e = let z : ◌≡◌ {A = ℕ} 0 1 = cc in absurd (omega arith)

pub ends_when_silent_lem : EndsWhenSilent
ends_when_silent_lem m lists h =
    let q = answers h in
    let took = accepted (length lists) h in (
      λ e. joined_none (term m lists q) (Silent m lists q) (λ a. none_silent m lists a q) took (sum_end (terms m lists h q) e),
      λ w. ap (λ l. NextReply (sum_or_end l)) (none_joined (term m lists q) (Silent m lists q) (λ a. silent_none m lists a q) took w),
    )
