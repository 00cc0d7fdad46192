-- One sample on: what a converter gives at a place, and what is left to give from the next place on.
use Rattle.std.proofs.Common.{◌≡◌, ℕ, zero, suc, ◌+◌, ◌-◌, ◌*◌, ◌/◌, ◌%◌, ◌<◌, ◌≤◌, min, cond, ◌&&◌, eqb, ltb, List, [], ◌∷◌, ◌++◌, length, get_or, drop, replicate, sym, ap, ◌∙◌, ⊎_elim, mul-le-mul_right, mod-eq_of_lt, one-mul, div-add-mod', zero-mul, arith, length-append, length-drop}
use native.Mathlib.Nat.{div-eq_of_lt}
use lib.Ieee.{Float}
use lib.ListN.{length-replicate}
use lib.Seq.{drop-append-add}
use Rattle.std.proofs.lemmas.List.{drop_all, drop_at, drop_more, ext_get_or, get_or-drop, get_or_at, get_or-replicate, get_or_append_left, get_or-append_right}
use Rattle.std.proofs.lemmas.Bool.{cases_lt, cases_eq, cond-true, cond-false, lt-ltb, le-ltb, eq-eqb, ne_eqb, and_right, and_from}
use Rattle.source.specs.Samples.{silence}
use Rattle.channels.specs.Channels.{placed, converted_count, channels_converted}
use Rattle.channels.specs.Steps.{from_frame, left_to_give}
use Rattle.channels.proofs.Frames.{count_whole, count_short, converted-length, converted_at, converted-frame, placed_own, placed_other}

length-from_frame : (c p : ℕ) (held : Float) (ys : List Float) → length (from_frame c p held ys) ≡ min p c + length ys
length-from_frame c p held ys =
    length-append (replicate (min p c) held) ys
    ∙ ap (λ n. n + length ys) (length-replicate (min p c) held)

-- place p of the first output frame
first_frame : (c t p : ℕ) (xs : List Float) → p < t → p < converted_count c t (length xs) →
    drop p (channels_converted c t xs) ≡ placed c xs p ∷ drop (p + 1) (channels_converted c t xs)
first_frame c t p xs l h =
    drop_more (channels_converted c t xs) p silence (rw (converted-length c t xs) h)
    ∙ ap (λ x. x ∷ drop (p + 1) (channels_converted c t xs)) (converted_at c t xs p h ∙ rw (div-eq_of_lt l, mod-eq_of_lt l, zero-mul c))

-- a place is reached where the input has as much, or a whole frame
reach_whole : (c t p n : ℕ) → 0 < c → p < t → c ≤ n → p < converted_count c t n
reach_whole c t p n hc l h = omega (arith, count_whole c t n hc h)

pub reach : (c t p n : ℕ) → 0 < c → p < t → p < n → p < converted_count c t n
reach c t p n hc l h = ⊎_elim (λ (s : n < c). omega (arith, count_short c t n s)) (reach_whole c t p n hc l) (cases_lt n c)

-- at a place that the input has, with nothing left, nothing is left to give
pub taken_none : (c t p : ℕ) (held : Float) → p < t → p < c → left_to_give c t p held [] ≡ []
taken_none c t p held l h =
    drop_all p (channels_converted c t (from_frame c p held []))
    (omega (arith, converted-length c t (from_frame c p held []), ap (converted_count c t) (length-from_frame c p held []), count_short c t (min p c + 0) (omega arith)))

-- and else the next sample goes out
pub taken : (c t p : ℕ) (held : Float) (y : Float) (ys : List Float) → 0 < c → p < t → p < c →
    left_to_give c t p held (y ∷ ys) ≡ y ∷ drop (p + 1) (channels_converted c t (from_frame c p held (y ∷ ys)))
taken c t p held y ys hc l h =
    let xs = from_frame c p held (y ∷ ys) in
    let n : p < length xs = omega (arith, length-from_frame c p held (y ∷ ys)) in
    let m : length (replicate (min p c) held) ≡ p = length-replicate (min p c) held ∙ omega arith in
    first_frame c t p xs l (reach c t p (length xs) hc l n)
    ∙ ap (λ x. x ∷ drop (p + 1) (channels_converted c t xs)) (cond-true (ltb p c) _ _ (lt-ltb p c h) ∙ get_or_at (replicate (min p c) held) y ys silence p m)

-- what goes out at a place that the input has not
abbrev pub filler : ℕ → Float → Float
filler p held = cond (eqb p 1) held silence

pub filled : (c t p : ℕ) (held : Float) (ys : List Float) → 0 < c → p < t → c ≤ p →
    left_to_give c t p held ys ≡ filler p held ∷ drop (p + 1) (channels_converted c t (from_frame c p held ys))
filled c t p held ys hc l h =
    let xs = from_frame c p held ys in
    let n : c ≤ length xs = omega (arith, length-from_frame c p held ys) in
    first_frame c t p xs l (reach_whole c t p (length xs) hc l n)
    ∙ ap (λ x. x ∷ drop (p + 1) (channels_converted c t xs)) (cond-false (ltb p c) _ _ (le-ltb p c h) ∙ ⊎_elim again other (cases_eq p 1))
  where
    again : p ≡ 1 → cond (eqb c 1 && eqb p 1) (get_or (from_frame c p held ys) 0 silence) silence ≡ cond (eqb p 1) held silence
    again e =
        let one : c ≡ 1 = omega arith in
        let m : 0 < min p c = omega arith in
        cond-true (eqb c 1 && eqb p 1) _ _ (and_from (eqb c 1) (eqb p 1) (eq-eqb c 1 one) (eq-eqb p 1 e))
        ∙ get_or_append_left (replicate (min p c) held) ys silence 0 (rw (length-replicate (min p c) held) m)
        ∙ get_or-replicate (min p c) 0 held silence m
        ∙ sym (cond-true (eqb p 1) _ _ (eq-eqb p 1 e))

    other : (p ≡ 1 → ⊥) → cond (eqb c 1 && eqb p 1) (get_or (from_frame c p held ys) 0 silence) silence ≡ cond (eqb p 1) held silence
    other e =
        let f = ne_eqb p 1 e in
        cond-false (eqb c 1 && eqb p 1) _ _ (and_right (eqb c 1) (eqb p 1) f) ∙ sym (cond-false (eqb p 1) _ _ f)

-- from place k of a frame on, what stands before the input's place k is not heard, with two channels or more
unheard : (c t k : ℕ) (xs ys : List Float) → 2 ≤ c → 0 < t → k ≤ c → length xs ≡ length ys →
    ((i : ℕ) → k ≤ i → get_or xs i silence ≡ get_or ys i silence) → drop k (channels_converted c t xs) ≡ drop k (channels_converted c t ys)
unheard c t k xs ys two ht h e same = ext_get_or silence (drop k (channels_converted c t xs)) (drop k (channels_converted c t ys)) lengths places
  where
    counts : length (channels_converted c t xs) ≡ length (channels_converted c t ys)
    counts = converted-length c t xs ∙ ap (converted_count c t) e ∙ sym (converted-length c t ys)

    lengths : length (drop k (channels_converted c t xs)) ≡ length (drop k (channels_converted c t ys))
    lengths = length-drop k (channels_converted c t xs) ∙ ap (λ n. n - k) counts ∙ sym (length-drop k (channels_converted c t ys))

    -- place i of the output is made of the input at k or later
    later : (i : ℕ) → k ≤ i → k ≤ i / t * c + i % t
    later i l = ⊎_elim
        (λ (z : i / t < 1). let z' : i / t ≡ 0 = omega arith in omega (arith, div-add-mod' i t, ap (λ n. n * t) z', zero-mul t))
        (λ (z : 1 ≤ i / t). omega (arith, mul-le-mul_right c z, one-mul c))
        (cases_lt (i / t) 1)

    heard : (i : ℕ) → k ≤ i → placed c (drop (i / t * c) xs) (i % t) ≡ placed c (drop (i / t * c) ys) (i % t)
    heard i l = ⊎_elim
        (λ (s : i % t < c). placed_own c xs (i / t * c) (i % t) s ∙ same (i / t * c + i % t) (later i l) ∙ sym (placed_own c ys (i / t * c) (i % t) s))
        (λ (s : c ≤ i % t). placed_other c _ (i % t) two s ∙ sym (placed_other c _ (i % t) two s))
        (cases_lt (i % t) c)

    places : (i : ℕ) → i < length (drop k (channels_converted c t xs)) → get_or (drop k (channels_converted c t xs)) i silence ≡ get_or (drop k (channels_converted c t ys)) i silence
    places i l =
        let a : k + i < converted_count c t (length xs) = omega (arith, length-drop k (channels_converted c t xs), converted-length c t xs) in
        let b : k + i < converted_count c t (length ys) = omega (arith, ap (converted_count c t) e) in
        get_or-drop k (channels_converted c t xs) i silence ∙ converted_at c t xs (k + i) a ∙ heard (k + i) (omega arith)
        ∙ sym (get_or-drop k (channels_converted c t ys) i silence ∙ converted_at c t ys (k + i) b)

-- with one sample more used up, the input from the start of the frame on sounds the same from the next place on
used_first : (c t : ℕ) (held : Float) (y : Float) (ys : List Float) → 0 < c → from_frame c 0 held (y ∷ ys) ≡ from_frame c 1 y ys
used_first c t held y ys h =
    let none : min 0 c ≡ 0 = omega arith in
    let one : min 1 c ≡ 1 = omega arith in
    ap (λ n. replicate n held ++ y ∷ ys) none ∙ sym (ap (λ n. replicate n y ++ ys) one)

used_more : (c t p : ℕ) (held : Float) (y : Float) (ys : List Float) → 0 < t → 0 < p → p < c →
    drop (p + 1) (channels_converted c t (from_frame c p held (y ∷ ys))) ≡ drop (p + 1) (channels_converted c t (from_frame c (p + 1) held ys))
used_more c t p held y ys ht hp h =
    unheard c t (p + 1) (from_frame c p held (y ∷ ys)) (from_frame c (p + 1) held ys) (omega arith) ht (omega arith)
    (omega (arith, length-from_frame c p held (y ∷ ys), length-from_frame c (p + 1) held ys)) same
  where
    same : (i : ℕ) → p + 1 ≤ i → get_or (from_frame c p held (y ∷ ys)) i silence ≡ get_or (from_frame c (p + 1) held ys) i silence
    same i l =
        let a : length (replicate (min p c) held) ≡ p = length-replicate (min p c) held ∙ omega arith in
        let b : length (replicate (min (p + 1) c) held) ≡ p + 1 = length-replicate (min (p + 1) c) held ∙ omega arith in
        let d : i - p ≡ suc (i - (p + 1)) = omega arith in
        get_or-append_right (replicate (min p c) held) (y ∷ ys) p i silence a (omega arith)
        ∙ ap (λ n. get_or (y ∷ ys) n silence) d
        ∙ sym (get_or-append_right (replicate (min (p + 1) c) held) ys (p + 1) i silence b l)

pub used_up : (c t p : ℕ) (held : Float) (y : Float) (ys : List Float) → 0 < t → p < c →
    drop (p + 1) (channels_converted c t (from_frame c p held (y ∷ ys)))
    ≡ drop (p + 1) (channels_converted c t (from_frame c (p + 1) (cond (eqb p 0) y held) ys))
used_up c t zero held y ys ht h = ap (λ l. drop 1 (channels_converted c t l)) (used_first c t held y ys h)
used_up c t (suc q) held y ys ht h =
    let p = suc q in
    used_more c t p held y ys ht (omega arith) h
    ∙ ap (λ o. drop (p + 1) (channels_converted c t (from_frame c (p + 1) o ys))) (sym (cond-false (eqb p 0) y held (ne_eqb p 0 (λ e. omega arith))))

-- from the last place of an output frame on: the next input frame
pub frame_over_taken : (c t p : ℕ) (held : Float) (y : Float) (ys : List Float) → p + 1 ≡ t → p < c →
    drop (p + 1) (channels_converted c t (from_frame c p held (y ∷ ys))) ≡ channels_converted c t (drop (c - t) ys)
frame_over_taken c t p held y ys e h =
    let v = held in
    let m : length (replicate (min p c) v) + suc (c - t) ≡ c = ap (λ n. n + suc (c - t)) (length-replicate (min p c) v) ∙ omega arith in
    ap (λ n. drop n (channels_converted c t (from_frame c p held (y ∷ ys)))) e
    ∙ converted-frame c t (from_frame c p held (y ∷ ys)) (omega arith) (omega arith)
    ∙ ap (channels_converted c t) (ap (λ n. drop n (from_frame c p held (y ∷ ys))) (sym m) ∙ drop-append-add (replicate (min p c) v) (y ∷ ys) (suc (c - t)))

pub frame_over_filled : (c t p : ℕ) (held : Float) (ys : List Float) → p + 1 ≡ t → 0 < c → c ≤ p →
    drop (p + 1) (channels_converted c t (from_frame c p held ys)) ≡ channels_converted c t (drop (c - t) ys)
frame_over_filled c t p held ys e hc h =
    let v = held in
    let m : length (replicate (min p c) v) ≡ c = length-replicate (min p c) v ∙ omega arith in
    let z : c - t ≡ 0 = omega arith in
    ap (λ n. drop n (channels_converted c t (from_frame c p held ys))) e
    ∙ converted-frame c t (from_frame c p held ys) hc (omega arith)
    ∙ ap (channels_converted c t) (drop_at (replicate (min p c) v) ys c m ∙ sym (ap (λ n. drop n ys) z))
