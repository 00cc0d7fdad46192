-- The closed form meets the law of its frames.
use Rattle.std.proofs.Common.{◌≡◌, ℕ, ◌+◌, ◌-◌, ◌*◌, ◌/◌, ◌<◌, ◌≤◌, eqb, List, [], ◌∷◌, ◌++◌, map, length, get_or, sym, refl, ap, ◌∙◌, subst, ap₂, inl, inr, ⊎_elim, append_assoc, append-nil, mul-le-mul_right, mod-lt, div-lt_iff_lt-mul, add-mul, one-mul, div-add-mod', div-mul-le_self, arith, length-append}
use lib.Ieee.{Float}
use Rattle.std.specs.List.{range_with_len, flat_map}
use Rattle.std.proofs.lemmas.Nat.{le-div}
use Rattle.std.proofs.lemmas.List.FromFn.{length-map-range_with_len, get_or-map-range_with_len}
use Rattle.std.proofs.lemmas.List.{get_or_append_left, get_or_at, nil_from_length}
use Rattle.std.proofs.lemmas.Bool.{cases_lt, cases_eq, cond-true, cond-false, eq-eqb, ne_eqb}
use Rattle.rates.specs.Law.{MadeOf, ByFrames, RateLaw}
use Rattle.rates.specs.Rates.{frame, frames, interpolated, before_last, resampled, rate_converted, gcd}
use Rattle.rates.proofs.Places.{onward_start, onward_last}
use Rattle.rates.proofs.Divisors.{gcd_divides, reduced_low}

joined_map : {X : Type 0} (f : X → List Float) (xs : List X) → flat_map f xs ≡ flat_map (λ l. l) (map f xs)
joined_map f [] = refl
joined_map f (x ∷ xs) = ap (λ t. f x ++ t) (joined_map f xs)

joined_append : (xs ys : List (List Float)) → flat_map (λ l. l) (xs ++ ys) ≡ flat_map (λ l. l) xs ++ flat_map (λ l. l) ys
joined_append [] ys = refl
joined_append (x ∷ xs) ys = ap (λ t. x ++ t) (joined_append xs ys) ∙ sym (append_assoc x (flat_map (λ l. l) xs) (flat_map (λ l. l) ys))

module _ (from to c : ℕ) (xs : List Float) (hf : 0 < from) (ht : 0 < to) (hc : 0 < c) where
  abbrev F : ℕ
  F = frames c xs

  abbrev K : ℕ
  K = before_last from to (frames c xs)

  abbrev between : List (List Float)
  between = map (interpolated from to c xs) (range_with_len 0 K)

  abbrev N : ℕ
  N = (F - 1) * to + (from - 1)

  -- an output frame before the K-th lies before the last input frame
  before : (k : ℕ) → k < K → k * from / to + 1 < F
  before k l =
      let m : (k + 1) * from ≤ N / from * from = mul-le-mul_right from (omega arith) in
      let b : k * from < (F - 1) * to = omega (arith, m, div-mul-le_self N from, add-mul k 1 from, one-mul from) in
      let d : k * from / to < F - 1 = (div-lt_iff_lt-mul ht).1 b in
      omega arith

  -- and the K-th on it or behind it
  behind : F - 1 ≤ K * from / to
  behind = le-div (F - 1) (K * from) to ht (omega (arith, div-add-mod' N from, mod-lt N hf))

  at_between : (k : ℕ) → k < K → get_or between k [] ≡ interpolated from to c xs k
  at_between k l = get_or-map-range_with_len (interpolated from to c xs) 0 K k k [] l (omega arith)

  count : length between ≡ K
  count = length-map-range_with_len (interpolated from to c xs) 0 K

  -- the last input frame goes out behind them
  with_last : 0 < F → K * from / to ≡ F - 1 → ByFrames from to c xs (resampled from to c xs)
  with_last some on = record {
    output = between ++ (frame c xs (F - 1) ∷ []);
    joins = ap₂ (λ a b. a ++ b) (joined_map (interpolated from to c xs) (range_with_len 0 K))
        (cond-true (eqb (K * from / to) (F - 1)) _ _ (eq-eqb (K * from / to) (F - 1) on) ∙ sym (append-nil (frame c xs (F - 1))))
        ∙ sym (joined_append between (frame c xs (F - 1) ∷ []));
    each = λ k l. ⊎_elim (inside k) (λ (h : K ≤ k). final k (omega (arith, size))) (cases_lt k K);
    last_once = λ k l. before k (omega (arith, size));
    complete = inr (omega (arith, size), ap (λ n. n * from / to + 1) less ∙ omega (arith, on));
  }
    where
      size : length (between ++ (frame c xs (F - 1) ∷ [])) ≡ K + 1
      size = length-append between (frame c xs (F - 1) ∷ []) ∙ omega (arith, count)

      less : length (between ++ (frame c xs (F - 1) ∷ [])) - 1 ≡ K
      less = omega (arith, size)

      inside : (k : ℕ) → k < K → MadeOf from to c xs k (get_or (between ++ (frame c xs (F - 1) ∷ [])) k [])
      inside k l = inl (before k l, get_or_append_left between (frame c xs (F - 1) ∷ []) [] k (omega (arith, count)) ∙ at_between k l)

      final : (k : ℕ) → k ≡ K → MadeOf from to c xs k (get_or (between ++ (frame c xs (F - 1) ∷ [])) k [])
      final k e =
          inr (
            ap (λ n. n * from / to + 1) e ∙ omega (arith, on),
            get_or_at between (frame c xs (F - 1)) [] [] k (count ∙ sym e) ∙ ap (frame c xs) (sym (ap (λ n. n * from / to) e ∙ on)),
          )

  -- the next output frame would lie behind the input
  without_last : 0 < F → (K * from / to ≡ F - 1 → ⊥) → ByFrames from to c xs (resampled from to c xs)
  without_last some off = record {
    output = between;
    joins = ap (λ l. flat_map (interpolated from to c xs) (range_with_len 0 K) ++ l) (cond-false (eqb (K * from / to) (F - 1)) _ _ (ne_eqb (K * from / to) (F - 1) off))
        ∙ append-nil (flat_map (interpolated from to c xs) (range_with_len 0 K)) ∙ joined_map (interpolated from to c xs) (range_with_len 0 K);
    each = λ k l. inl (before k (omega (arith, count)), at_between k (omega (arith, count)));
    last_once = λ k l. before k (omega (arith, count));
    complete = inl (subst (λ n. F ≤ n * from / to) (sym count) past);
  }
    where
      past : F ≤ K * from / to
      past = ⊎_elim (λ (h : K * from / to < F). absurd (off (omega (arith, behind)))) (λ (h : F ≤ K * from / to). h) (cases_lt (K * from / to) F)

  -- nothing comes of nothing
  of_none : F ≡ 0 → ByFrames from to c xs (resampled from to c xs)
  of_none z = record {
    output = [];
    joins = sym (onward_start from to c xs) ∙ onward_last 0 from to c xs ht hf hc (omega (arith, empty)) ∙ nil_from_length xs empty;
    each = λ k l. absurd (omega arith);
    last_once = λ k l. absurd (omega arith);
    complete = inl (omega (arith, z));
  }
    where
      empty : length xs ≡ 0
      empty = ⊎_elim (λ (h : length xs < 1). omega arith) (λ (h : 1 ≤ length xs). absurd (omega (arith, z, le-div 1 (length xs + (c - 1)) c hc (omega arith)))) (cases_lt (length xs) 1)

  pub by_frames : ByFrames from to c xs (resampled from to c xs)
  by_frames = ⊎_elim of_none (λ (n : F ≡ 0 → ⊥).
      let some : 0 < F = omega arith in
      ⊎_elim (with_last some) (without_last some) (cases_eq (K * from / to) (F - 1))) (cases_eq F 0)

pub rate_law : (from to c : ℕ) (xs : List Float) → 0 < from → 0 < to → 0 < c → RateLaw from to c xs (rate_converted from to c xs)
rate_law from to c xs hf ht hc =
    let d = gcd_divides from to in
    record {
      equal = λ e. cond-true (eqb from to) xs _ (eq-eqb from to e);
      other = λ e. subst (ByFrames (from / gcd from to) (to / gcd from to) c xs) (sym (cond-false (eqb from to) xs _ (ne_eqb from to e)))
          (by_frames (from / gcd from to) (to / gcd from to) c xs (reduced_low from (gcd from to) hf d.0) (reduced_low to (gcd from to) ht d.1) hc);
    }
