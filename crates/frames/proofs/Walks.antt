-- A window one frame on and several frames on, and the output frame that it shows.
use Rattle.std.proofs.Common.{◌≡◌, ℕ, zero, suc, ◌+◌, ◌*◌, ◌<◌, ◌≤◌, min, List, [], ◌∷◌, ◌++◌, length, take, drop, Some, None, sym, refl, ap, ◌∙◌, ap₂, add-mul, arith, length-append, drop_of_length-le, length-take}
use lib.Ieee.{Float}
use Rattle.std.proofs.lemmas.List.{drop-drop, drop_at}
use Rattle.source.specs.Samples.{first, rest}
use Rattle.rates.specs.Rates.{both, lerp_by}
use Rattle.rates.specs.Onward.{behind, Lined, shown_by}
use Rattle.rates.proofs.Helds.{behind_short, behind_whole, passed}
use Rattle.frames.proofs.Heads.{none_past}

-- one frame on: the next frame becomes the current one, and behind a whole frame another is read
module _ (c : ℕ) (cur nxt inp cur' nxt' inp' : List Float) (k : 0 < c) (l : Lined c cur nxt) (e : cur' ≡ nxt) where
  pub short_passed : nxt' ≡ [] → length cur' < c → cur' ++ (nxt' ++ behind c nxt' inp) ≡ drop c (cur ++ (nxt ++ behind c nxt inp))
  short_passed f h =
      let a : length cur' ≡ length nxt = ap length e in
      let w : length nxt < c = omega arith in
      ap₂ (λ x y. x ++ y) e (ap (λ x. x ++ behind c x inp) f ∙ behind_short c [] inp k ∙ sym (behind_short c nxt inp w)) ∙ passed c cur nxt inp k l

-- behind a short frame that was read, the input is at its end
pub read_ended : (c : ℕ) (inp nxt' inp' : List Float) → nxt' ≡ take c inp → inp' ≡ drop c inp → length nxt' < c → inp' ≡ []
read_ended c inp nxt' inp' f i h =
    let b : length nxt' ≡ min c (length inp) = ap length f ∙ length-take c inp in
    i ∙ drop_of_length-le inp (omega arith)

-- past both frames and f more
pub leapt : (c f : ℕ) (cur nxt inp : List Float) → 0 < c → Lined c cur nxt → c ≤ length nxt →
    drop ((f + 2) * c) (cur ++ (nxt ++ behind c nxt inp)) ≡ drop (f * c) inp
leapt c f cur nxt inp k l h =
    let e : c + (c + f * c) ≡ (f + 2) * c = omega (arith, add-mul f 2 c) in
    let rest = nxt ++ behind c nxt inp in
    ap (λ t. drop t (cur ++ rest)) (sym e)
    ∙ sym (drop-drop (c + f * c) c (cur ++ rest))
    ∙ ap (drop (c + f * c)) (drop_at cur rest c (l.2 (omega arith)))
    ∙ sym (drop-drop (f * c) c rest)
    ∙ ap (drop (f * c)) (drop_at nxt (behind c nxt inp) c (omega (arith, l.1)) ∙ behind_whole c nxt inp h)

pub leapt_short : (c f : ℕ) (cur nxt inp : List Float) → Lined c cur nxt → length nxt < c →
    drop ((f + 2) * c) (cur ++ (nxt ++ behind c nxt inp)) ≡ []
leapt_short c f cur nxt inp l h =
    let none = ap length (behind_short c nxt inp h) in
    let all = length-append cur (nxt ++ behind c nxt inp) in
    let more = length-append nxt (behind c nxt inp) in
    let n : length (cur ++ (nxt ++ behind c nxt inp)) ≤ (f + 2) * c = omega (arith, add-mul f 2 c, l.0, l.1) in
    drop_of_length-le (cur ++ (nxt ++ behind c nxt inp)) n

length_both : (f : Float → Float → Float) (xs ys : List Float) → length (both f xs ys) ≡ min (length xs) (length ys)
length_both f [] ys = omega arith
length_both f (x ∷ xs) [] = omega arith
length_both f (x ∷ xs) (y ∷ ys) = omega (arith, length_both f xs ys)

-- with a next frame, an output frame is the two put together, and as long as the next
pub shown-both : (n to : Float) (cur nxt : List Float) → 0 < length nxt → shown_by n to cur nxt ≡ both (lerp_by n to) cur nxt
shown-both n to cur [] h = absurd (omega arith)
shown-both n to cur (b ∷ nxt) h = refl

pub length-shown : (c : ℕ) (n to : Float) (cur nxt : List Float) → Lined c cur nxt → 0 < length nxt → length (shown_by n to cur nxt) ≡ length nxt
length-shown c n to cur nxt l h =
    omega (arith, ap length (shown-both n to cur nxt h), length_both (lerp_by n to) cur nxt, l.2 h, l.1)

-- a place of two frames put together, and where one of them has no such place
pub both_at : (f : Float → Float → Float) (xs ys : List Float) (i : ℕ) (a b : Float) →
    Some a ≡ first (drop i xs) → Some b ≡ first (drop i ys) → Some (f a b) ≡ first (drop i (both f xs ys))
both_at f [] ys zero a b p q = let z : ◌≡◌ {A = ℕ} 0 1 = cc in absurd (omega arith)
both_at f [] ys (suc i) a b p q = let z : ◌≡◌ {A = ℕ} 0 1 = cc in absurd (omega arith)
both_at f (x ∷ xs) [] zero a b p q = let z : ◌≡◌ {A = ℕ} 0 1 = cc in absurd (omega arith)
both_at f (x ∷ xs) [] (suc i) a b p q = let z : ◌≡◌ {A = ℕ} 0 1 = cc in absurd (omega arith)
both_at f (x ∷ xs) (y ∷ ys) zero a b p q = cc
both_at f (x ∷ xs) (y ∷ ys) (suc i) a b p q = both_at f xs ys i a b p q

pub both_none : (f : Float → Float → Float) (xs ys : List Float) (i : ℕ) → min (length xs) (length ys) ≤ i → None ≡ first (drop i (both f xs ys))
both_none f xs ys i h = none_past (both f xs ys) i (omega (arith, length_both f xs ys))

-- drawing the end leaves nothing
pub rest_none : (l : List Float) → None ≡ first l → rest l ≡ []
rest_none [] h = refl
rest_none (y ∷ l) h = let z : ◌≡◌ {A = ℕ} 0 1 = cc in absurd (omega arith)
