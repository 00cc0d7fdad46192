-- An output frame in the middle and at its end.
use Rattle.std.proofs.Common.{◌≡◌, ℕ, ◌+◌, ◌<◌, ◌≤◌, List, [], ◌∷◌, ◌++◌, length, drop, pos, Some, sym, refl, ap, ◌∙◌, add-one, arith, drop_of_length-le}
use lib.Ieee.{Float, binary32, of_int}
use Rattle.source.specs.Samples.{first, rest}
use Rattle.rates.specs.Onward.{Lined, shown, later, held, onward}
use Rattle.frames.proofs.Heads.{here}
use Rattle.frames.proofs.Walks.{length-shown}

-- the sample that goes out is the first of all that is left
pub first_front : (l m : List Float) (i : ℕ) (x : Float) → Some x ≡ first (drop i l) → Some x ≡ first (drop i l ++ m)
first_front l m i x h = at (drop i l) h
  where
    at : (k : List Float) → Some x ≡ first k → Some x ≡ first (k ++ m)
    at [] p = let z : ◌≡◌ {A = ℕ} 0 1 = cc in absurd (omega arith)
    at (y ∷ k) p = p

pub rest_front : (l m : List Float) (i : ℕ) (x : Float) → Some x ≡ first (drop i l) → drop (i + 1) l ++ m ≡ rest (drop i l ++ m)
rest_front l m i x h =
    let b : rest (drop i l) ≡ drop (i + 1) l = rw add-one (here l i x h).back in
    ap (λ k. k ++ m) (sym b) ∙ at (drop i l) h
  where
    at : (k : List Float) → Some x ≡ first k → rest k ++ m ≡ rest (k ++ m)
    at [] p = let z : ◌≡◌ {A = ℕ} 0 1 = cc in absurd (omega arith)
    at (y ∷ k) p = refl

-- with a next frame an output frame is as long as that one
pub shown_long : (c n to : ℕ) (cur nxt : List Float) → Lined c cur nxt → 0 < length nxt → length (shown n to cur nxt) ≡ length nxt
shown_long c n to cur nxt l h = length-shown c (of_int binary32 (pos n)) (of_int binary32 (pos to)) cur nxt l h

-- an output frame has no more samples than the channels
pub shown-within : (c n to : ℕ) (cur nxt : List Float) → Lined c cur nxt → length (shown n to cur nxt) ≤ c
shown-within c n to cur [] l = l.0
shown-within c n to cur (b ∷ nxt) l =
    let h : 0 < length (b ∷ nxt) = omega arith in
    omega (arith, shown_long c n to cur (b ∷ nxt) l h, l.1)

-- only past the last frame there is nothing to show
pub shown_none : (c n to : ℕ) (cur nxt : List Float) → Lined c cur nxt → length (shown n to cur nxt) ≡ 0 → length nxt ≡ 0
shown_none c n to cur [] l e = refl
shown_none c n to cur (b ∷ nxt) l e =
    let h : 0 < length (b ∷ nxt) = omega arith in
    absurd (omega (arith, shown_long c n to cur (b ∷ nxt) l h))

-- at the end of an output frame the next follows, or nothing behind the last
pub held_on : (n from to c given : ℕ) (cur nxt inp : List Float) → length (shown n to cur nxt) ≤ given → 0 < length nxt →
    held n from to c given cur nxt inp ≡ onward (n + from) from to c (cur ++ (nxt ++ inp))
held_on n from to c given cur [] inp h k = absurd (omega arith)
held_on n from to c given cur (b ∷ nxt) inp h k =
    ap (λ t. t ++ later n from to c cur (b ∷ nxt) inp) (drop_of_length-le (shown n to cur (b ∷ nxt)) h)

pub held_end : (n from to c given : ℕ) (cur nxt inp : List Float) → length (shown n to cur nxt) ≤ given → length nxt ≡ 0 →
    held n from to c given cur nxt inp ≡ []
held_end n from to c given cur [] inp h k = ap (λ t. t ++ []) (drop_of_length-le cur h)
held_end n from to c given cur (b ∷ nxt) inp h k = absurd (omega arith)
