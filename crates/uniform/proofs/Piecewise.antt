-- The uniform stream, one piece on.
use Rattle.std.proofs.Common.{◌≡◌, ℕ, ◌+◌, ◌/◌, ◌<◌, ◌≤◌, min, true, false, eqb, List, [], ◌∷◌, ◌++◌, map, length, take, drop, Some, None, Option, sym, refl, ap, ◌∙◌, ap₂, ⊎_elim, append-nil, arith, length-append, length-drop, length-take}
use lib.Ieee.{Float}
use Rattle.std.specs.List.{flat_map}
use Rattle.std.proofs.lemmas.List.{nil_from_length, take-append-le}
use Rattle.std.proofs.lemmas.Bool.{cases_lt, cases_Bool, cond-true, cond-false, eq-eqb}
use Rattle.common.specs.declared.format.Format.{Format}
use Rattle.source.specs.Meanings.{Spans, silent, open_span, known_span, open_from, known_from, all_samples, format_or, length_or, longest_known}
use Rattle.source.specs.Samples.{first}
use Rattle.source.specs.Spans.{listed, span_of}
use Rattle.channels.specs.Channels.{channels_converted}
use Rattle.channels.proofs.Frames.{converted-length, converted_same, count_short}
use Rattle.channels.proofs.Places.{reach}
use Rattle.rates.specs.Rates.{rate_converted, resampled, gcd, both, lerp}
use Rattle.rates.specs.Onward.{onward}
use Rattle.rates.proofs.Places.{onward_start, onward_last, onward-frame}
use Rattle.rates.proofs.Divisors.{gcd_divides, reduced_low}
use Rattle.uniform.specs.Pieces.{Piece, pieces, cut_length}
use Rattle.uniform.specs.Takes.{taken, less, behind_spans, piece_length}
use Rattle.uniform.specs.Uniform.{piece_converted, uniform}
use Rattle.uniform.proofs.Cuts.{pieces_none, pieces-cons, take_min, drop_min}
use Rattle.uniform.proofs.Fronts.{less_silent, less_known}

-- samples in a format, converted to t channels at a rate
abbrev pub in_format : ℕ → ℕ → Format → List Float → List Float
in_format t rate f xs = channels_converted f.channels.count t (rate_converted f.rate.rate rate f.channels.count xs)

-- what comes of some samples is some samples
longer : (xs ys : List Float) → 0 < length xs → 0 < length (xs ++ ys)
longer xs ys h = omega (arith, length-append xs ys)

both_some : (f : Float → Float → Float) (xs ys : List Float) → 0 < length xs → 0 < length ys → 0 < length (both f xs ys)
both_some f [] ys h k = absurd (omega arith)
both_some f (x ∷ xs) [] h k = absurd (omega arith)
both_some f (x ∷ xs) (y ∷ ys) h k = omega arith

onward_some : (from to c : ℕ) (xs : List Float) → 0 < from → 0 < to → 0 < c → 0 < length xs → 0 < length (onward 0 from to c xs)
onward_some from to c xs hf ht hc h = ⊎_elim more last (cases_lt c (length xs))
  where
    last : length xs ≤ c → 0 < length (onward 0 from to c xs)
    last l = omega (arith, ap length (onward_last 0 from to c xs ht hf hc l))

    more : c < length xs → 0 < length (onward 0 from to c xs)
    more l =
        let a : 0 < length (take c xs) = omega (arith, length-take c xs) in
        let b : 0 < length (take c (drop c xs)) = omega (arith, length-take c (drop c xs), length-drop c xs) in
        let f = both (lerp 0 to) (take c xs) (take c (drop c xs)) in
        omega (arith, ap length (onward-frame 0 from to c xs ht hf hc l), longer f (onward (0 + from) from to c xs) (both_some (lerp 0 to) (take c xs) (take c (drop c xs)) a b))

rate_some : (from to c : ℕ) (xs : List Float) → 0 < from → 0 < to → 0 < c → 0 < length xs → 0 < length (rate_converted from to c xs)
rate_some from to c xs hf ht hc h = ⊎_elim
    (λ (e : eqb from to ≡ true). omega (arith, ap length (cond-true (eqb from to) xs (resampled (from / gcd from to) (to / gcd from to) c xs) e)))
    (λ (e : eqb from to ≡ false).
    let d = gcd_divides from to in
    omega (
      arith,
      ap length (cond-false (eqb from to) xs (resampled (from / gcd from to) (to / gcd from to) c xs) e),
      ap length (onward_start (from / gcd from to) (to / gcd from to) c xs),
      onward_some (from / gcd from to) (to / gcd from to) c xs (reduced_low from (gcd from to) hf d.0) (reduced_low to (gcd from to) ht d.1) hc h,
    ))
    (cases_Bool (eqb from to))

pub in_format_some : (t rate : ℕ) (f : Format) (xs : List Float) → 0 < t → 0 < rate → 0 < length xs → 0 < length (in_format t rate f xs)
in_format_some t rate f xs ht hr h =
    let ys = rate_converted f.rate.rate rate f.channels.count xs in
    let s = rate_some f.rate.rate rate f.channels.count xs f.rate.low hr f.channels.low h in
    omega (arith, converted-length f.channels.count t ys, reach f.channels.count t 0 (length ys) f.channels.low ht s)

-- nothing comes of nothing
rate_none : (from to c : ℕ) → 0 < from → 0 < to → 0 < c → rate_converted from to c [] ≡ []
rate_none from to c hf ht hc = ⊎_elim
    (λ (e : eqb from to ≡ true). cond-true (eqb from to) [] _ e)
    (λ (e : eqb from to ≡ false).
    let d = gcd_divides from to in
    cond-false (eqb from to) [] _ e
    ∙ sym (onward_start (from / gcd from to) (to / gcd from to) c [])
    ∙ onward_last 0 (from / gcd from to) (to / gcd from to) c [] (reduced_low to (gcd from to) ht d.1) (reduced_low from (gcd from to) hf d.0) hc (omega arith))
    (cases_Bool (eqb from to))

pub in_format_none : (t rate : ℕ) (f : Format) → 0 < rate → in_format t rate f [] ≡ []
in_format_none t rate f hr =
    ap (channels_converted f.channels.count t) (rate_none f.rate.rate rate f.channels.count f.rate.low hr f.channels.low)
    ∙ nil_from_length (channels_converted f.channels.count t []) (converted-length f.channels.count t [] ∙ count_short f.channels.count t 0 f.channels.low ∙ omega arith)

-- the stream of a known span before others
known_stream : (t rate : ℕ) (f : Format) (xs : List Float) (h : length xs ≤ longest_known) (ss : Spans) →
    uniform t rate (listed (known_from f xs h ss)) ≡ uniform t rate (span_of f true xs ∷ listed ss)
known_stream t rate f [] h ss =
    let mk : List Float → Piece = λ ys. record { channels = f.channels.count; rate = f.rate.rate; samples = ys } in
    sym (ap (λ ps. flat_map (piece_converted t rate) (map mk ps ++ pieces (listed ss))) (pieces_none cut_length (omega arith)))
known_stream t rate f (x ∷ xs) h ss = refl

-- a source's stream is that of its first piece and that of the source behind it
pub first_piece : (t rate : ℕ) (rests : Format) (o : Option ℕ) (ss : Spans) → 0 < rate →
    uniform t rate (listed ss)
    ≡ in_format t rate (format_or rests ss) (taken (piece_length (length_or o ss)) (all_samples ss)) ++ uniform t rate (listed (behind_spans (piece_length (length_or o ss)) ss))
first_piece t rate rests None silent hr = sym (ap (λ l. l ++ []) (in_format_none t rate rests hr))
first_piece t rate rests (Some n) silent hr =
    let k = min n cut_length in
    sym (ap₂ (λ l ss. in_format t rate rests l ++ uniform t rate (listed ss)) (nil_from_length (take k []) (omega (arith, length-take {A = Float} k []))) (less_silent k)
    ∙ ap (λ l. l ++ []) (in_format_none t rate rests hr))
first_piece t rate rests o (open_span f x xs) hr = refl
first_piece t rate rests o (known_span f x xs h ss) hr =
    let l = x ∷ xs in
    let k = min (length l) cut_length in
    let h' : length (drop k l) ≤ longest_known = omega (arith, length-drop k l) in
    let mk : List Float → Piece = λ ys. record { channels = f.channels.count; rate = f.rate.rate; samples = ys } in
    let front : take k (l ++ all_samples ss) ≡ take cut_length l = take-append-le k l (all_samples ss) (omega arith) ∙ take_min cut_length l in
    let back : listed (less k (known_span f x xs h ss)) ≡ listed (known_from f (drop k l) h' ss) = ap listed (less_known k f l h ss h' (omega arith)) in
    ap (λ ps. flat_map (piece_converted t rate) (map mk ps ++ pieces (listed ss))) (pieces-cons cut_length l (omega arith) (omega arith))
    ∙ ap₂ (λ a b. in_format t rate f a ++ b) (sym front)
    (ap (λ ys. uniform t rate (span_of f true ys ∷ listed ss)) (sym (drop_min cut_length l))
    ∙ sym (known_stream t rate f (drop k l) h' ss)
    ∙ ap (uniform t rate) (sym back))

first-append : (xs ys : List Float) → 0 < length xs → first xs ≡ first (xs ++ ys)
first-append [] ys h = absurd (omega arith)
first-append (x ∷ xs) ys h = refl

-- a stream begins with its first piece
pub first_of_piece : (t rate : ℕ) (rests : Format) (o : Option ℕ) (ss : Spans) → 0 < t → 0 < rate →
    first (in_format t rate (format_or rests ss) (taken (piece_length (length_or o ss)) (all_samples ss))) ≡ first (uniform t rate (listed ss))
first_of_piece t rate rests None silent ht hr = ap first (in_format_none t rate rests hr)
first_of_piece t rate rests (Some n) silent ht hr =
    let k = min n cut_length in
    ap (λ l. first (in_format t rate rests l)) (nil_from_length (take k []) (omega (arith, length-take {A = Float} k []))) ∙ ap first (in_format_none t rate rests hr)
first_of_piece t rate rests o (open_span f x xs) ht hr =
    first-append (in_format t rate f (x ∷ xs)) [] (in_format_some t rate f (x ∷ xs) ht hr (omega arith))
first_of_piece t rate rests o (known_span f x xs h ss) ht hr =
    let k = min (length (x ∷ xs)) cut_length in
    let piece = take k (x ∷ (xs ++ all_samples ss)) in
    let some : 0 < length piece = omega (arith, length-take k (x ∷ (xs ++ all_samples ss))) in
    first-append (in_format t rate f piece) (uniform t rate (listed (less k (known_span f x xs h ss)))) (in_format_some t rate f piece ht hr some)
    ∙ ap first (sym (first_piece t rate rests o (known_span f x xs h ss) hr))

-- one open span in the target format is its own stream
pub own_stream : (f : Format) (xs : List Float) → uniform f.channels.count f.rate.rate (listed (open_from f xs)) ≡ xs
own_stream f [] = refl
own_stream f (x ∷ xs) =
    append-nil (in_format f.channels.count f.rate.rate f (x ∷ xs))
    ∙ ap (channels_converted f.channels.count f.channels.count) (cond-true (eqb f.rate.rate f.rate.rate) (x ∷ xs) _ (eq-eqb f.rate.rate f.rate.rate refl))
    ∙ converted_same f.channels.count (x ∷ xs) f.channels.low
