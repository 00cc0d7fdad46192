-- Whole frames of t samples that hold the same in each channel but d, and what keeps them so.
use Rattle.std.proofs.Common.{◌≡◌, ℕ, ◌+◌, ◌-◌, ◌*◌, ◌/◌, ◌%◌, ◌≤◌, min, Bool, true, false, cond, eqb, List, [], ◌∷◌, ◌++◌, length, drop, sym, refl, ap, ◌∙◌, inl, inr, mul-le-mul_right, mul-div_cancel, arith, length-append, length-drop, length-take}
use native.Mathlib.Nat.{mul-mod_left, mul-add-mod_self_right}
use lib.Ieee.{Float}
use Rattle.std.specs.List.{range_with_len, flat_map}
use Rattle.std.proofs.lemmas.Nat.{mod-mul-add}
use Rattle.std.proofs.lemmas.List.FromFn.{length-map-range_with_len}
use Rattle.std.proofs.lemmas.Bool.{cases_lt}
use Rattle.channels.proofs.Frames.{placed_own, placed_other}
use Rattle.channels.specs.Channels.{placed, channels_converted}
use Rattle.rates.specs.Rates.{both, lerp, frame, interpolated, before_last, resampled, rate_converted, gcd}
use Rattle.source.specs.Samples.{silence}
use Rattle.isolation.proofs.Beside.{Beside, beside_length, beside_get_or, beside_append, beside_take, beside_drop, beside_both, beside_shift, beside_counting, length_both}

-- Not of channel d, in frames of t.
abbrev pub Off : ℕ → ℕ → ℕ → Type 0
Off t d i = i % t ≡ d → ⊥

-- Whole frames that agree in each channel but d.
pub record AgreeOff (t d : ℕ) (xs ys : List Float) : Type 0 where
  pub count : ℕ
  pub whole : length xs ≡ count * t
  pub same : Beside (Off t d) 0 xs ys

-- a start of whole frames changes no channel
mod_start : (t s n i : ℕ) → s ≡ n * t → (s + i) % t ≡ (0 + i) % t
mod_start t s n i e = rw e (mul-add-mod_self_right n t i ∙ ap (λ (k : ℕ). k % t) (omega arith))

module _ (t d : ℕ) where
  pub agree_length : (xs ys : List Float) → AgreeOff t d xs ys → length xs ≡ length ys
  agree_length xs ys h = beside_length (Off t d) 0 xs ys h.same

  pub agree_none : AgreeOff t d [] []
  agree_none = record { count = 0; whole = omega arith; same = tt }

  pub agree_append : (xs ys us vs : List Float) → AgreeOff t d xs ys → AgreeOff t d us vs → AgreeOff t d (xs ++ us) (ys ++ vs)
  agree_append xs ys us vs h k = record {
    count = h.count + k.count;
    whole = simp length-append (omega arith);
    same = beside_append (Off t d) 0 (length xs) xs ys us vs (omega arith) h.same
        (beside_shift (Off t d) 0 (length xs) us vs (λ i m e. m (mod_start t (length xs) h.count i h.whole ∙ e)) k.same);
  }

  pub agree_joined : {X : Type 0} (f g : X → List Float) (ks : List X) → ((k : X) → AgreeOff t d (f k) (g k)) →
      AgreeOff t d (flat_map f ks) (flat_map g ks)
  agree_joined f g [] h = agree_none
  agree_joined f g (k ∷ ks) h = agree_append (f k) (g k) (flat_map f ks) (flat_map g ks) (h k) (agree_joined f g ks h)

  pub agree_cond : (b : Bool) (xs ys us vs : List Float) → AgreeOff t d xs ys → AgreeOff t d us vs → AgreeOff t d (cond b xs us) (cond b ys vs)
  agree_cond true xs ys us vs h k = h
  agree_cond false xs ys us vs h k = k

  pub agree_both : (f : Float → Float → Float) (xs ys us vs : List Float) → AgreeOff t d xs ys → AgreeOff t d us vs →
      AgreeOff t d (both f xs us) (both f ys vs)
  agree_both f xs ys us vs h k = elim (cases_lt h.count k.count) [
    | inl l ↦ record { count = h.count; whole = omega (arith, lengths, mul-le-mul_right t l); same = beside_both (Off t d) f 0 xs ys us vs h.same k.same }
    | inr l ↦ record { count = k.count; whole = omega (arith, lengths, mul-le-mul_right t l); same = beside_both (Off t d) f 0 xs ys us vs h.same k.same }
  ]
    where
      lengths : length (both f xs us) ≡ min (h.count * t) (k.count * t)
      lengths = length_both f (h.count * t) (k.count * t) xs us h.whole k.whole

  pub agree_frame : (xs ys : List Float) (j : ℕ) → AgreeOff t d xs ys → AgreeOff t d (frame t xs j) (frame t ys j)
  agree_frame xs ys j h = elim (cases_lt j h.count) [
    | inl l ↦ record { count = 1; whole = simp (length-take, length-drop) (omega (arith, mul-le-mul_right t l, h.whole)); same = kept }
    | inr l ↦ record { count = 0; whole = simp (length-take, length-drop) (omega (arith, mul-le-mul_right t l, h.whole)); same = kept }
  ]
    where
      kept : Beside (Off t d) 0 (frame t xs j) (frame t ys j)
      kept = beside_take (Off t d) t 0 (drop (j * t) xs) (drop (j * t) ys)
          (beside_shift (Off t d) (j * t) 0 (drop (j * t) xs) (drop (j * t) ys) (λ i m e. m (sym (mod_start t (j * t) j i refl) ∙ e))
          (beside_drop (Off t d) (j * t) 0 (j * t) xs ys (omega arith) h.same))

  pub agree_resampled : (from to : ℕ) (xs ys : List Float) → AgreeOff t d xs ys → AgreeOff t d (resampled from to t xs) (resampled from to t ys)
  agree_resampled from to xs ys h = rw (← (agree_length xs ys h))
      (let n = (length xs + (t - 1)) / t in
      let k = before_last from to n in
      agree_append (flat_map (interpolated from to t xs) (range_with_len 0 k)) (flat_map (interpolated from to t ys) (range_with_len 0 k)) _ _
      (agree_joined (interpolated from to t xs) (interpolated from to t ys) (range_with_len 0 k) (λ i.
      agree_both (lerp (i * from % to) to) _ _ _ _ (agree_frame xs ys (i * from / to) h) (agree_frame xs ys (i * from / to + 1) h)))
      (agree_cond (eqb (k * from / to) (n - 1)) _ _ _ _ (agree_frame xs ys (n - 1) h) agree_none))

  pub agree_rate_converted : (from to : ℕ) (xs ys : List Float) → AgreeOff t d xs ys → AgreeOff t d (rate_converted from to t xs) (rate_converted from to t ys)
  agree_rate_converted from to xs ys h =
      agree_cond (eqb from to) xs ys _ _ h (agree_resampled (from / gcd from to) (to / gcd from to) xs ys h)

pub agree_channels_converted : (c t d : ℕ) (xs ys : List Float) → 2 ≤ c → AgreeOff c d xs ys →
    AgreeOff t d (channels_converted c t xs) (channels_converted c t ys)
agree_channels_converted c t d xs ys two h = record {
  count = h.count;
  whole = length-map-range_with_len _ 0 _ ∙ rw (h.whole, mul-div_cancel h.count {n = c} (omega arith), mul-mod_left) (omega arith);
  same = rw (← (agree_length c d xs ys h)) (beside_counting (Off t d) _ _ _ 0 same_place);
}
  where
    same_place : (i : ℕ) → Off t d i → placed c (drop (i / t * c) xs) (i % t) ≡ placed c (drop (i / t * c) ys) (i % t)
    same_place i m = elim (cases_lt (i % t) c) [
      | inl l ↦ placed_own c xs (i / t * c) (i % t) l ∙
          beside_get_or (Off c d) 0 xs ys h.same (i / t * c + i % t) silence (λ e. m (sym (mod-mul-add (i / t) c (i % t) l) ∙ (ap (λ (k : ℕ). k % c) (omega arith) ∙ e))) ∙
          sym (placed_own c ys (i / t * c) (i % t) l)
      | inr l ↦ placed_other c _ (i % t) two l ∙ sym (placed_other c _ (i % t) two l)
    ]
