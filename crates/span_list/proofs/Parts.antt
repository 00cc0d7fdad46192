-- Spans with an open one told by its format and samples.
use Rattle.std.proofs.Common.{◌≡◌, List, [], ◌∷◌, drop, vec_items, Some, None, Option, MatchOption, sym, refl, ap, ◌∙◌, ap₂}
use lib.Ieee.{Float}
use Rattle.common.specs.declared.format.Format.{Format}
use Rattle.source.specs.Meanings.{known_from}
use Rattle.span_list.specs.Fits.{left_fits}
use Rattle.span_list.specs.SpanLists.{spans_from, spans_of}
use Rattle.span_list.specs.declared.open_span.OpenSpan.{OpenSpan}
use Rattle.span_list.specs.declared.known_span.KnownSpan.{KnownSpan}

none_told : (ks : List KnownSpan) (f : Format) → spans_from 0 ks None ≡ spans_of ks f []
none_told [] f = refl
none_told (k ∷ ks) f = ap (known_from k.format (drop 0 (vec_items k.samples)) (left_fits 0 k)) (none_told ks f)

open_told : (ks : List KnownSpan) (o : OpenSpan) → spans_from 0 ks (Some o) ≡ spans_of ks o.format (vec_items o.samples)
open_told [] o = refl
open_told (k ∷ ks) o = ap (known_from k.format (drop 0 (vec_items k.samples)) (left_fits 0 k)) (open_told ks o)

-- whatever says of an open span that it has this format and these samples, and of none that there are no samples
pub told : (ks : List KnownSpan) (f : Format) (ys : List Float) (o : Option OpenSpan) (P : Type 0) (Q : OpenSpan → Type 0) →
    MatchOption o P Q → (P → ys ≡ []) → ((s : OpenSpan) → Q s → (s.format ≡ f) × (vec_items s.samples ≡ ys)) →
    spans_from 0 ks o ≡ spans_of ks f ys
told ks f ys None P Q h none some = none_told ks f ∙ ap (spans_of ks f) (sym (none h))
told ks f ys (Some s) P Q h none some = open_told ks s ∙ ap₂ (spans_of ks) (some s h).0 (some s h).1
