-- What a list of spans means.
use Rattle.std.specs.Prelude.{ℕ, Bool, List, [], ◌∷◌, drop, vec_items, Some, None, Option, Float}
use Rattle.common.specs.declared.duration.Duration.{Duration}
use Rattle.common.specs.declared.format.Format.{Format}
use Rattle.source.specs.Meanings.{Spans, Meaning, silent, open_from, known_from}
use Rattle.span_list.specs.Fits.{left_fits}
use Rattle.span_list.specs.declared.open_span.OpenSpan.{OpenSpan}
use Rattle.span_list.specs.declared.Rest.{Rest}
use Rattle.span_list.specs.declared.SpanList.{SpanList}
use Rattle.span_list.specs.declared.known_span.KnownSpan.{KnownSpan}

-- Known spans, the first of them from a position on, and then an open one if there is one; with no known span left the position is
-- in the open one.
abbrev pub spans_from : ℕ → List KnownSpan → Option OpenSpan → Spans
spans_from pos [] None = silent
spans_from pos [] (Some o) = open_from o.format (drop pos (vec_items o.samples))
spans_from pos (k ∷ ks) o = known_from k.format (drop pos (vec_items k.samples)) (left_fits pos k) (spans_from 0 ks o)

-- A source of known spans, an open one or none, what it rests at and a duration.
abbrev pub list_of_spans : List KnownSpan → Option OpenSpan → Rest → Option Duration → Meaning
list_of_spans ks o r d = record { spans = spans_from 0 ks o; rests_at = r.format; rests_known = r.known; duration = d }

-- Known spans, and then an open one told by its format and its samples: there is none where it has no samples.
abbrev pub spans_of : List KnownSpan → Format → List Float → Spans
spans_of [] f ys = open_from f ys
spans_of (k ∷ ks) f ys = known_from k.format (drop 0 (vec_items k.samples)) (left_fits 0 k) (spans_of ks f ys)

-- A source of known spans, an open one so told, what it rests at, told by a format and a flag, and a duration.
abbrev pub list_of : List KnownSpan → Format → List Float → Format → Bool → Option Duration → Meaning
list_of ks f ys rests_at rests_known d = record { spans = spans_of ks f ys; rests_at = rests_at; rests_known = rests_known; duration = d }

-- What is left of a list of spans.
abbrev pub list_meaning : SpanList → Meaning
list_meaning s = record {
  spans = spans_from s.pos s.known.items s.open;
  rests_at = s.rest.format;
  rests_known = s.rest.known;
  duration = s.duration;
}
