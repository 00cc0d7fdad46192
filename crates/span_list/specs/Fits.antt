-- What is left of a known span is no longer than the span.
use Rattle.std.specs.Prelude.{ℕ, ◌≤◌, length, drop, vec_items}
use Rattle.std.proofs.Common.{arith, length-drop}
use Rattle.source.specs.Meanings.{longest_known}
use Rattle.span_list.specs.declared.known_span.KnownSpan.{KnownSpan}

pub left_fits : (pos : ℕ) (k : KnownSpan) → length (drop pos (vec_items k.samples)) ≤ longest_known
left_fits pos k = omega (arith, length-drop pos (vec_items k.samples), k.samples.ok.0, k.short)
