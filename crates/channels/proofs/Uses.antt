-- How many input samples are gone, one output sample on.
use Rattle.std.proofs.Common.{◌≡◌, ℕ, ◌+◌, ◌-◌, ◌*◌, ◌/◌, ◌%◌, ◌<◌, ◌≤◌, min, false, eqb, ltb, List, drop, is_some, sym, ap, ◌∙◌, ⊎_elim, mod-lt, add-mul, one-mul, arith}
use lib.Ieee.{Float}
use Rattle.std.proofs.lemmas.Nat.{div-add-mod', div-mul-add, mod-mul-add}
use Rattle.std.proofs.lemmas.List.{drop-drop}
use Rattle.std.proofs.lemmas.Bool.{cases_lt, cases_eq, cond-true, cond-false, lt-ltb, le-ltb, eq-eqb, ne_eqb}
use Rattle.source.proofs.Draws.{rest-drop, rest_none}
use Rattle.channels.specs.Channels.{channels_used}
use Rattle.channels.specs.Steps.{sample_at, input_past, next_place, input_at_next}

module _ (t m : ℕ) (ht : 0 < t) where
  -- the next sample closes an output frame
  over_div : m % t + 1 ≡ t → (m + 1) / t ≡ m / t + 1
  over_div e =
      let s : m + 1 ≡ (m / t + 1) * t + 0 = omega (arith, div-add-mod' m t, add-mul (m / t) 1 t, one-mul t) in
      ap (λ n. n / t) s ∙ div-mul-add (m / t + 1) t 0 ht

  over_mod : m % t + 1 ≡ t → (m + 1) % t ≡ 0
  over_mod e =
      let s : m + 1 ≡ (m / t + 1) * t + 0 = omega (arith, div-add-mod' m t, add-mul (m / t) 1 t, one-mul t) in
      ap (λ n. n % t) s ∙ mod-mul-add (m / t + 1) t 0 ht

  -- or stays within it
  within_div : (m % t + 1 ≡ t → ⊥) → (m + 1) / t ≡ m / t
  within_div e =
      let s : m + 1 ≡ m / t * t + (m % t + 1) = omega (arith, div-add-mod' m t) in
      ap (λ n. n / t) s ∙ div-mul-add (m / t) t (m % t + 1) (omega (arith, mod-lt m ht))

  within_mod : (m % t + 1 ≡ t → ⊥) → (m + 1) % t ≡ m % t + 1
  within_mod e =
      let s : m + 1 ≡ m / t * t + (m % t + 1) = omega (arith, div-add-mod' m t) in
      ap (λ n. n % t) s ∙ mod-mul-add (m / t) t (m % t + 1) (omega (arith, mod-lt m ht))

  pub place_on : next_place t (m % t) ≡ (m + 1) % t
  place_on = ⊎_elim
      (λ (e : m % t + 1 ≡ t). cond-true (eqb (m % t + 1) t) 0 (m % t + 1) (eq-eqb (m % t + 1) t e) ∙ sym (over_mod e))
      (λ (e : m % t + 1 ≡ t → ⊥). cond-false (eqb (m % t + 1) t) 0 (m % t + 1) (ne_eqb (m % t + 1) t e) ∙ sym (within_mod e))
      (cases_eq (m % t + 1) t)

  module _ (c : ℕ) (xs : List Float) where
    past : input_past c (m % t) (drop (channels_used c t m) xs) ≡ drop (m / t * c + min (m % t + 1) c) xs
    past = ⊎_elim
        (λ (h : m % t < c). cond-true (ltb (m % t) c) _ _ (lt-ltb (m % t) c h) ∙ rest-drop (channels_used c t m) xs ∙ ap (λ n. drop n xs) (omega arith))
        (λ (h : c ≤ m % t). cond-false (ltb (m % t) c) _ _ (le-ltb (m % t) c h) ∙ ap (λ n. drop n xs) (omega arith))
        (cases_lt (m % t) c)

    -- an output sample on, the input stands where the next one asks
    pub use_on : input_at_next c t (m % t) (input_past c (m % t) (drop (channels_used c t m) xs)) ≡ drop (channels_used c t (m + 1)) xs
    use_on = ap (input_at_next c t (m % t)) past ∙ ⊎_elim
        (λ (e : m % t + 1 ≡ t).
        cond-true (eqb (m % t + 1) t) _ _ (eq-eqb (m % t + 1) t e)
        ∙ drop-drop (c - t) (m / t * c + min (m % t + 1) c) xs
        ∙ ap (λ n. drop n xs) (simp (over_div e, over_mod e) (omega (arith, add-mul (m / t) 1 c, one-mul c))))
        (λ (e : m % t + 1 ≡ t → ⊥).
        cond-false (eqb (m % t + 1) t) _ _ (ne_eqb (m % t + 1) t e)
        ∙ ap (λ n. drop n xs) (simp (within_div e, within_mod e)))
        (cases_eq (m % t + 1) t)

-- the end takes nothing from the input
pub use_none : (c q : ℕ) (held : Float) (ys : List Float) → is_some (sample_at c q held ys) ≡ false → input_past c q ys ≡ ys
use_none c q held ys e = ⊎_elim
    (λ (h : q < c).
    cond-true (ltb q c) _ _ (lt-ltb q c h)
    ∙ rest_none ys (sym (ap is_some (cond-true (ltb q c) _ _ (lt-ltb q c h))) ∙ e))
    (λ (h : c ≤ q). cond-false (ltb q c) _ _ (le-ltb q c h))
    (cases_lt q c)
