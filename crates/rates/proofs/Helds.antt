use Rattle.std.proofs.Common.{◌≡◌, ℕ, zero, suc, ◌+◌, ◌*◌, ◌<◌, ◌≤◌, min, ltb, List, [], ◌∷◌, ◌++◌, length, take, drop, sym, ap, ◌∙◌, ap₂, ⊎_elim, append-nil, suc-mul, zero-mul, arith, length-append, length-drop, drop_of_length-le, length-take}
use lib.Ieee.{Float}
use Rattle.std.proofs.lemmas.List.{take_all, take_at, drop_at, take-append-drop, drop-drop}
use Rattle.std.proofs.lemmas.Bool.{cases_lt, lt-ltb, le-ltb, cond-true, cond-false}
use Rattle.rates.specs.Rates.{both, lerp}
use Rattle.rates.specs.Onward.{onward, held, behind, Lined}
use Rattle.rates.proofs.Places.{onward_next, onward-frame, onward_last}

pub behind_short : (c : ℕ) (nxt inp : List Float) → length nxt < c → behind c nxt inp ≡ []
behind_short c nxt inp h = cond-true (ltb (length nxt) c) [] inp (lt-ltb (length nxt) c h)

pub behind_whole : (c : ℕ) (nxt inp : List Float) → c ≤ length nxt → behind c nxt inp ≡ inp
behind_whole c nxt inp h = cond-false (ltb (length nxt) c) [] inp (le-ltb (length nxt) c h)

-- a frame that was read, and what is left behind it
pub read : (c : ℕ) (inp : List Float) → take c inp ++ behind c (take c inp) (drop c inp) ≡ inp
read c inp =
    ⊎_elim
    (λ l.
    let n : length (take c inp) ≡ min c (length inp) = length-take c inp in
    ap (λ t. take c inp ++ t) (behind_short c (take c inp) (drop c inp) (omega arith)) ∙ append-nil (take c inp) ∙ take_all c inp (omega arith))
    (λ l.
    let n : length (take c inp) ≡ min c (length inp) = length-take c inp in
    ap (λ t. take c inp ++ t) (behind_whole c (take c inp) (drop c inp) (omega arith)) ∙ take-append-drop c inp)
    (cases_lt (length inp) c)

-- two frames that were read
pub read_lined : (c : ℕ) (inp : List Float) → Lined c (take c inp) (take c (drop c inp))
read_lined c inp =
    let n = length-take c inp in
    let m = length-take c (drop c inp) in
    let d = length-drop c inp in
    (omega arith, omega arith, λ h. omega arith)

pub read_two : (c : ℕ) (inp : List Float) → take c inp ++ (take c (drop c inp) ++ behind c (take c (drop c inp)) (drop c (drop c inp))) ≡ inp
read_two c inp = ap (λ t. take c inp ++ t) (read c (drop c inp)) ∙ take-append-drop c inp

-- a frame on
pub passed : (c : ℕ) (cur nxt inp : List Float) → 0 < c → Lined c cur nxt → nxt ++ behind c nxt inp ≡ drop c (cur ++ (nxt ++ behind c nxt inp))
passed c cur [] inp k l =
    let e : behind c [] inp ≡ [] = behind_short c [] inp k in
    e ∙ sym (ap (λ t. drop c (cur ++ t)) e ∙ ap (drop c) (append-nil cur) ∙ drop_of_length-le cur l.0)
passed c cur (b ∷ nxt) inp k l = sym (drop_at cur ((b ∷ nxt) ++ behind c (b ∷ nxt) inp) c (l.2 (omega arith)))

next_frame : (c : ℕ) (nxt inp : List Float) → length nxt ≤ c → take c (nxt ++ behind c nxt inp) ≡ nxt
next_frame c nxt inp h =
    ⊎_elim
    (λ l. ap (λ t. take c (nxt ++ t)) (behind_short c nxt inp l) ∙ ap (take c) (append-nil nxt) ∙ take_all c nxt h)
    (λ l. take_at nxt (behind c nxt inp) c (omega arith))
    (cases_lt (length nxt) c)

-- an output frame begins
pub begun : (n from to c : ℕ) (cur nxt inp : List Float) → n < to → 0 < from → 0 < c → Lined c cur nxt →
    onward n from to c (cur ++ (nxt ++ behind c nxt inp)) ≡ held n from to c 0 cur nxt (behind c nxt inp)
begun n from to c cur [] inp h q k l =
    let e : behind c [] inp ≡ [] = behind_short c [] inp k in
    ap (λ t. onward n from to c (cur ++ t)) e ∙ ap (onward n from to c) (append-nil cur) ∙ onward_last n from to c cur h q k l.0 ∙ sym (append-nil cur)
begun n from to c cur (b ∷ nxt) inp h q k l =
    let rest = (b ∷ nxt) ++ behind c (b ∷ nxt) inp in
    let w : length cur ≡ c = l.2 (omega arith) in
    let t : take c (cur ++ rest) ≡ cur = take_at cur rest c w in
    let d : take c (drop c (cur ++ rest)) ≡ b ∷ nxt = ap (take c) (drop_at cur rest c w) ∙ next_frame c (b ∷ nxt) inp l.1 in
    let m : c < length (cur ++ rest) = omega (arith, length-append cur rest) in
    onward-frame n from to c (cur ++ rest) h q k m
    ∙ ap (λ u. u ++ onward (n + from) from to c (cur ++ rest)) (ap₂ (both (lerp n to)) t d)

-- several input frames on
pub onward_past : (s r from to c : ℕ) (xs : List Float) → 0 < to → 0 < c → onward (r + s * to) from to c xs ≡ onward r from to c (drop (s * c) xs)
onward_past zero r from to c xs h k =
    let e : r + 0 * to ≡ r = omega (arith, zero-mul to) in
    let d : 0 * c ≡ 0 = zero-mul c in
    ap₂ (λ p m. onward p from to c (drop m xs)) e (sym d)
onward_past (suc s) r from to c xs h k =
    let e : r + suc s * to ≡ r + s * to + to = omega (arith, suc-mul s to) in
    let d : c + s * c ≡ suc s * c = omega (arith, suc-mul s c) in
    ap (λ p. onward p from to c xs) e
    ∙ onward_next (r + s * to) from to c xs h k
    ∙ onward_past s r from to c (drop c xs) h k
    ∙ ap (onward r from to c) (drop-drop (s * c) c xs ∙ ap (λ m. drop m xs) d)
