-- One call of `next` over plain values: the sample, and what is left to give after it.
use Rattle.std.proofs.Common.{◌≡◌, ℕ, ◌+◌, ◌-◌, ◌<◌, ◌≤◌, min, true, false, eqb, ltb, List, [], ◌∷◌, ◌++◌, drop, replicate, is_some, Some, None, sym, ap, ◌∙◌, ⊎_elim, arith}
use lib.Ieee.{Float}
use Rattle.std.proofs.lemmas.Bool.{true≢false, cases_lt, cases_eq, cond-true, cond-false, lt-ltb, le-ltb, eq-eqb, ne_eqb}
use Rattle.source.specs.Samples.{first, rest}
use Rattle.channels.specs.Channels.{channels_converted}
use Rattle.channels.specs.Steps.{from_frame, left_to_give, sample_at, input_past, held_past, next_place, input_at_next}
use Rattle.channels.proofs.Places.{taken_none, taken, filler, filled, used_up, frame_over_taken, frame_over_filled}

-- what a call gives, what is left to give where a sample went out, and where none did
pub record Turn (c t p : ℕ) (held : Float) (ys : List Float) : Type 0 where
  pub gives : sample_at c p held ys ≡ first (left_to_give c t p held ys)
  pub goes_on : is_some (sample_at c p held ys) ≡ true →
      left_to_give c t (next_place t p) (held_past p held ys) (input_at_next c t p (input_past c p ys)) ≡ rest (left_to_give c t p held ys)
  pub ends : is_some (sample_at c p held ys) ≡ false →
      left_to_give c t p (held_past p held ys) (input_past c p ys) ≡ rest (left_to_give c t p held ys)

-- a new frame
start : (c t : ℕ) (held : Float) (ys : List Float) → left_to_give c t 0 held ys ≡ channels_converted c t ys
start c t held ys = let z : min 0 c ≡ 0 = omega arith in ap (λ n. channels_converted c t (replicate n held ++ ys)) z

-- a place that the input has, and no sample left
turn_none : (c t p : ℕ) (held : Float) → p < t → p < c → Turn c t p held []
turn_none c t p held l h =
    let b = lt-ltb p c h in
    let s : sample_at c p held [] ≡ None = cond-true (ltb p c) _ _ b in
    let i : input_past c p [] ≡ [] = cond-true (ltb p c) _ _ b in
    record {
      gives = s ∙ sym (ap first (taken_none c t p held l h));
      goes_on = λ some. absurd (true≢false (sym some ∙ ap is_some s));
      ends = λ _. ap (left_to_give c t p (held_past p held [])) i ∙ taken_none c t p (held_past p held []) l h ∙ sym (ap rest (taken_none c t p held l h));
    }

-- a place that the input has, and a sample for it
turn_taken : (c t p : ℕ) (held : Float) (y : Float) (ys : List Float) → 0 < c → p < t → p < c → Turn c t p held (y ∷ ys)
turn_taken c t p held y ys hc l h = record {
  gives = s ∙ sym (ap first (taken c t p held y ys hc l h));
  goes_on = λ _. ap (λ n. left_to_give c t (next_place t p) (held_past p held (y ∷ ys)) (input_at_next c t p n)) i
      ∙ ⊎_elim over within (cases_eq (p + 1) t)
      ∙ sym (ap rest (taken c t p held y ys hc l h));
  ends = λ none. absurd (true≢false (sym (ap is_some s) ∙ none));
}
  where
    s : sample_at c p held (y ∷ ys) ≡ Some y
    s = cond-true (ltb p c) _ _ (lt-ltb p c h)

    i : input_past c p (y ∷ ys) ≡ ys
    i = cond-true (ltb p c) _ _ (lt-ltb p c h)

    over : p + 1 ≡ t → left_to_give c t (next_place t p) (held_past p held (y ∷ ys)) (input_at_next c t p ys) ≡ drop (p + 1) (channels_converted c t (from_frame c p held (y ∷ ys)))
    over e =
        let b = eq-eqb (p + 1) t e in
        ap (λ q. left_to_give c t q (held_past p held (y ∷ ys)) (input_at_next c t p ys)) (cond-true (eqb (p + 1) t) 0 (p + 1) b)
        ∙ start c t (held_past p held (y ∷ ys)) (input_at_next c t p ys)
        ∙ ap (channels_converted c t) (cond-true (eqb (p + 1) t) (drop (c - t) ys) ys b)
        ∙ sym (frame_over_taken c t p held y ys e h)

    within : (p + 1 ≡ t → ⊥) → left_to_give c t (next_place t p) (held_past p held (y ∷ ys)) (input_at_next c t p ys) ≡ drop (p + 1) (channels_converted c t (from_frame c p held (y ∷ ys)))
    within e =
        let b = ne_eqb (p + 1) t e in
        ap (λ q. left_to_give c t q (held_past p held (y ∷ ys)) (input_at_next c t p ys)) (cond-false (eqb (p + 1) t) 0 (p + 1) b)
        ∙ ap (left_to_give c t (p + 1) (held_past p held (y ∷ ys))) (cond-false (eqb (p + 1) t) (drop (c - t) ys) ys b)
        ∙ sym (used_up c t p held y ys (omega arith) h)

-- a place that the input has not
turn_filled : (c t p : ℕ) (held : Float) (ys : List Float) → 0 < c → p < t → c ≤ p → Turn c t p held ys
turn_filled c t p held ys hc l h = record {
  gives = s ∙ sym (ap first (filled c t p held ys hc l h));
  goes_on = λ _. ap (λ o. left_to_give c t (next_place t p) o (input_at_next c t p (input_past c p ys))) o
      ∙ ap (λ n. left_to_give c t (next_place t p) held (input_at_next c t p n)) i
      ∙ ⊎_elim over within (cases_eq (p + 1) t) ∙ sym (ap rest (filled c t p held ys hc l h));
  ends = λ none. absurd (true≢false (sym (ap is_some s) ∙ none));
}
  where
    s : sample_at c p held ys ≡ Some (filler p held)
    s = cond-false (ltb p c) _ _ (le-ltb p c h)

    i : input_past c p ys ≡ ys
    i = cond-false (ltb p c) _ _ (le-ltb p c h)

    o : held_past p held ys ≡ held
    o = cond-false (eqb p 0) _ _ (ne_eqb p 0 (λ e. omega arith))

    over : p + 1 ≡ t → left_to_give c t (next_place t p) held (input_at_next c t p ys) ≡ drop (p + 1) (channels_converted c t (from_frame c p held ys))
    over e =
        let b = eq-eqb (p + 1) t e in
        ap (λ q. left_to_give c t q held (input_at_next c t p ys)) (cond-true (eqb (p + 1) t) 0 (p + 1) b)
        ∙ start c t held (input_at_next c t p ys)
        ∙ ap (channels_converted c t) (cond-true (eqb (p + 1) t) (drop (c - t) ys) ys b)
        ∙ sym (frame_over_filled c t p held ys e hc h)

    within : (p + 1 ≡ t → ⊥) → left_to_give c t (next_place t p) held (input_at_next c t p ys) ≡ drop (p + 1) (channels_converted c t (from_frame c p held ys))
    within e =
        let b = ne_eqb (p + 1) t e in
        let m : min (p + 1) c ≡ min p c = omega arith in
        ap (λ q. left_to_give c t q held (input_at_next c t p ys)) (cond-false (eqb (p + 1) t) 0 (p + 1) b)
        ∙ ap (left_to_give c t (p + 1) held) (cond-false (eqb (p + 1) t) (drop (c - t) ys) ys b)
        ∙ ap (λ n. drop (p + 1) (channels_converted c t (replicate n held ++ ys))) m

pub turn : (c t p : ℕ) (held : Float) (ys : List Float) → 0 < c → p < t → Turn c t p held ys
turn c t p held ys hc l = ⊎_elim (by ys) (λ (h : c ≤ p). turn_filled c t p held ys hc l h) (cases_lt p c)
  where
    by : (zs : List Float) → p < c → Turn c t p held zs
    by [] h = turn_none c t p held l h
    by (z ∷ zs) h = turn_taken c t p held z zs hc l h
