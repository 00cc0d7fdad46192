-- The converted list by its places, and one input frame on.
use Rattle.std.proofs.Common.{◌≡◌, ℕ, ◌+◌, ◌-◌, ◌*◌, ◌/◌, ◌%◌, ◌<◌, ◌≤◌, min, ◌&&◌, eqb, ltb, List, length, get_or, drop, sym, ap, ◌∙◌, ⊎_elim, mod-lt, mod-eq_of_lt, add-mul, one-mul, div-add-mod', zero-mul, arith, length-drop}
use native.Mathlib.Nat.{div-eq_of_lt, div-eq-sub-div, mod-eq-sub-mod, add-div_left, add-mod_left}
use lib.Ieee.{Float}
use Rattle.std.proofs.lemmas.List.FromFn.{length-map-range_with_len, get_or-map-range_with_len}
use Rattle.std.proofs.lemmas.List.{drop-drop, ext_get_or, get_or-drop}
use Rattle.std.proofs.lemmas.Bool.{cases_lt, cond-true, cond-false, lt-ltb, le-ltb, ne_eqb, and_left}
use Rattle.source.specs.Samples.{silence}
use Rattle.channels.specs.Channels.{placed, converted_count, channels_converted}

-- a whole input frame makes an output frame
pub count_whole : (c t n : ℕ) → 0 < c → c ≤ n → converted_count c t n ≡ t + converted_count c t (n - c)
count_whole c t n h l =
    let q : n / c ≡ (n - c) / c + 1 = div-eq-sub-div h l in
    let r : n % c ≡ (n - c) % c = mod-eq-sub-mod l in
    rw (q, r) (omega (arith, add-mul ((n - c) / c) 1 t, one-mul t))

-- a short frame makes as many as it has and fit
pub count_short : (c t n : ℕ) → n < c → converted_count c t n ≡ min n t
count_short c t n l = rw (div-eq_of_lt l, mod-eq_of_lt l) (omega (arith, zero-mul t))

pub converted-length : (c t : ℕ) (xs : List Float) → length (channels_converted c t xs) ≡ converted_count c t (length xs)
converted-length c t xs = length-map-range_with_len _ 0 _

pub converted_at : (c t : ℕ) (xs : List Float) (i : ℕ) → i < converted_count c t (length xs) →
    get_or (channels_converted c t xs) i silence ≡ placed c (drop (i / t * c) xs) (i % t)
converted_at c t xs i h = get_or-map-range_with_len _ 0 _ i i silence h (omega arith)

-- one output frame on is one input frame on
pub converted-frame : (c t : ℕ) (xs : List Float) → 0 < c → 0 < t →
    drop t (channels_converted c t xs) ≡ channels_converted c t (drop c xs)
converted-frame c t xs hc ht = ext_get_or silence (drop t (channels_converted c t xs)) (channels_converted c t (drop c xs)) lengths places
  where
    counts : converted_count c t (length xs) - t ≡ converted_count c t (length xs - c)
    counts = ⊎_elim
        (λ (l : length xs < c). let z : length xs - c < c = omega arith in omega (arith, count_short c t (length xs) l, count_short c t (length xs - c) z))
        (λ (l : c ≤ length xs). omega (arith, count_whole c t (length xs) hc l))
        (cases_lt (length xs) c)

    lengths : length (drop t (channels_converted c t xs)) ≡ length (channels_converted c t (drop c xs))
    lengths =
        length-drop t (channels_converted c t xs) ∙ ap (λ n. n - t) (converted-length c t xs) ∙ counts
        ∙ sym (converted-length c t (drop c xs) ∙ ap (converted_count c t) (length-drop c xs))

    places : (i : ℕ) → i < length (drop t (channels_converted c t xs)) → get_or (drop t (channels_converted c t xs)) i silence ≡ get_or (channels_converted c t (drop c xs)) i silence
    places i l =
        let a : i < converted_count c t (length xs) - t = subst_lt l in
        let b : t + i < converted_count c t (length xs) = omega arith in
        let d : i < converted_count c t (length (drop c xs)) = rw (length-drop c xs) (omega (arith, counts)) in
        let q : (t + i) / t ≡ i / t + 1 = add-div_left i ht in
        let r : (t + i) % t ≡ i % t = add-mod_left t i in
        let s : (i / t + 1) * c ≡ c + i / t * c = omega (arith, add-mul (i / t) 1 c, one-mul c) in
        get_or-drop t (channels_converted c t xs) i silence
        ∙ converted_at c t xs (t + i) b
        ∙ rw (q, r, s) (ap (λ ys. placed c ys (i % t)) (sym (drop-drop (i / t * c) c xs)))
        ∙ sym (converted_at c t (drop c xs) i d)
      where
        subst_lt : i < length (drop t (channels_converted c t xs)) → i < converted_count c t (length xs) - t
        subst_lt h = omega (arith, length-drop t (channels_converted c t xs), converted-length c t xs)

-- at a place that the input has, its own sample
pub placed_own : (c : ℕ) (xs : List Float) (j p : ℕ) → p < c → placed c (drop j xs) p ≡ get_or xs (j + p) silence
placed_own c xs j p h = cond-true (ltb p c) _ _ (lt-ltb p c h) ∙ get_or-drop j xs p silence

-- at any other place, with two channels or more, silence
pub placed_other : (c : ℕ) (xs : List Float) (p : ℕ) → 2 ≤ c → c ≤ p → placed c xs p ≡ silence
placed_other c xs p two h =
    cond-false (ltb p c) _ _ (le-ltb p c h)
    ∙ cond-false (eqb c 1 && eqb p 1) _ _ (and_left (eqb c 1) (eqb p 1) (ne_eqb c 1 (omega arith)))

-- to as many channels, the list itself
pub converted_same : (c : ℕ) (xs : List Float) → 0 < c → channels_converted c c xs ≡ xs
converted_same c xs h = ext_get_or silence (channels_converted c c xs) xs (converted-length c c xs ∙ count) places
  where
    count : converted_count c c (length xs) ≡ length xs
    count = omega (arith, div-add-mod' (length xs) c, mod-lt (length xs) h)

    places : (i : ℕ) → i < length (channels_converted c c xs) → get_or (channels_converted c c xs) i silence ≡ get_or xs i silence
    places i l =
        converted_at c c xs i (omega (arith, converted-length c c xs))
        ∙ placed_own c xs (i / c * c) (i % c) (mod-lt i h)
        ∙ ap (λ n. get_or xs n silence) (div-add-mod' i c)
