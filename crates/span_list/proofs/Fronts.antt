-- The span that a list of spans stands in.
use Rattle.std.proofs.Common.{◌≡◌, ℕ, ◌+◌, ◌-◌, ◌<◌, ◌≤◌, List, [], ◌∷◌, length, get_or, drop, Some, vec_items, vec_len, Option, sym, refl, ap, ◌∙◌, ap₂, subst, arith, length-drop}
use native.Mathlib.Bridge.{le_prop}
use native.Mathlib.Nat.{le_of_suc-le}
use lib.Ieee.{Float}
use Rattle.std.proofs.lemmas.List.{drop_more, get_or_default, nil_from_length}
use Rattle.common.specs.declared.format.Format.{Format}
use Rattle.source.specs.Meanings.{Spans, open_span, known_span, open_from, known_from, longest_known, less_first, format_or, length_or}
use Rattle.source.specs.Samples.{silence}
use Rattle.span_list.specs.Fits.{left_fits}
use Rattle.span_list.specs.SpanLists.{spans_from}
use Rattle.span_list.specs.declared.open_span.OpenSpan.{OpenSpan}
use Rattle.span_list.specs.declared.SpanList.{SpanList}
use Rattle.span_list.specs.declared.known_span.KnownSpan.{KnownSpan}

-- a known span by its samples, however they are shown to fit
pub known_same : (f : Format) (xs ys : List Float) (h : length xs ≤ longest_known) (k : length ys ≤ longest_known) (ss : Spans) → xs ≡ ys →
    known_from f xs h ss ≡ known_from f ys k ss
known_same f xs ys h k ss e =
    let P : List Float → Type 0 = λ zs. (p : length zs ≤ longest_known) → known_from f xs h ss ≡ known_from f zs p ss in
    subst P e (λ p. ap (λ q. known_from f xs q ss) (le_prop h p)) k

module _ (pos : ℕ) (k : KnownSpan) (ks : List KnownSpan) (o : Option OpenSpan) (h : pos < vec_len k.samples) where
  room : pos < length (vec_items k.samples)
  room = omega (arith, k.samples.ok.0)

  pub fits : (x : Float) → length (x ∷ drop (pos + 1) (vec_items k.samples)) ≤ longest_known
  fits x = omega (arith, length-drop (pos + 1) (vec_items k.samples), k.samples.ok.0, k.short)

  -- it has a sample at the position
  pub known_front : (x : Float) → x ≡ get_or (vec_items k.samples) pos x →
      spans_from pos (k ∷ ks) o ≡ known_span k.format x (drop (pos + 1) (vec_items k.samples)) (fits x) (spans_from 0 ks o)
  known_front x e =
      known_same k.format (drop pos (vec_items k.samples)) (x ∷ drop (pos + 1) (vec_items k.samples)) (left_fits pos k) (fits x) (spans_from 0 ks o)
      (drop_more (vec_items k.samples) pos x room ∙ ap (λ y. y ∷ drop (pos + 1) (vec_items k.samples)) (sym e))

  -- what it answers for itself
  abbrev any : Float
  any = get_or (vec_items k.samples) pos silence

  front : spans_from pos (k ∷ ks) o ≡ known_span k.format any (drop (pos + 1) (vec_items k.samples)) (fits any) (spans_from 0 ks o)
  front = known_front any (get_or_default (vec_items k.samples) pos silence any room)

  pub known_format : (rests : Format) → format_or rests (spans_from pos (k ∷ ks) o) ≡ k.format
  known_format rests = ap (format_or rests) front

  pub known_length : (d : Option ℕ) → length_or d (spans_from pos (k ∷ ks) o) ≡ Some (vec_len k.samples - pos)
  known_length d = ap (length_or d) front ∙ ap Some (omega (arith, length-drop (pos + 1) (vec_items k.samples), k.samples.ok.0))

  -- that sample drawn, and more left
  pub known_on : (x : Float) → x ≡ get_or (vec_items k.samples) pos x → less_first (spans_from pos (k ∷ ks) o) ≡ spans_from (pos + 1) (k ∷ ks) o
  known_on x e =
      ap less_first (known_front x e)
      ∙ known_same k.format (drop (pos + 1) (vec_items k.samples)) (drop (pos + 1) (vec_items k.samples)) (le_of_suc-le (fits x)) (left_fits (pos + 1) k) (spans_from 0 ks o) refl

-- the open span at the front
pub open_front : (pos : ℕ) (o : OpenSpan) (x : Float) → pos < vec_len o.samples → x ≡ get_or (vec_items o.samples) pos x →
    spans_from pos [] (Some o) ≡ open_span o.format x (drop (pos + 1) (vec_items o.samples))
open_front pos o x h e =
    ap (open_from o.format) (drop_more (vec_items o.samples) pos x (omega (arith, o.samples.ok.0)) ∙ ap (λ y. y ∷ drop (pos + 1) (vec_items o.samples)) (sym e))

-- the first of the known spans that are left
pub in_known : (s : SpanList) (k : KnownSpan) → 0 < length s.known.items → k ≡ get_or s.known.items 0 k →
    (s.known.items ≡ k ∷ drop 1 s.known.items) × (s.pos < vec_len k.samples)
in_known s k h e = (stands s.known.items h e, subst (λ (x : KnownSpan). s.pos < vec_len x.samples) (sym e) (s.inside k h))
  where
    stands : (ks : List KnownSpan) → 0 < length ks → k ≡ get_or ks 0 k → ks ≡ k ∷ drop 1 ks
    stands [] l q = absurd (omega arith)
    stands (j ∷ ks) l q = ap (λ x. x ∷ ks) (sym q)

-- with no known span left, the open one
pub in_open : (s : SpanList) (o : OpenSpan) → length s.known.items ≤ 0 → s.«open» ≡ Some o →
    spans_from s.pos s.known.items s.«open» ≡ open_span o.format (get_or (vec_items o.samples) s.pos silence) (drop (s.pos + 1) (vec_items o.samples))
in_open s o h e =
    let none : length s.known.items ≡ 0 = omega arith in
    let l : s.pos < vec_len o.samples = s.inside_open none o e in
    let x = get_or (vec_items o.samples) s.pos silence in
    ap₂ (λ ks p. spans_from s.pos ks p) (nil_from_length s.known.items none) e
    ∙ open_front s.pos o x l (get_or_default (vec_items o.samples) s.pos silence x (omega (arith, o.samples.ok.0)))
