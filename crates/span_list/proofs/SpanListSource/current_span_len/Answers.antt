-- The length is that of the span that the list stands in.
use Rattle.std.proofs.Common.{ℕ, ◌-◌, cond, drop, Some, None, Option, sym, ap, ◌∙◌}
use Rattle.source.specs.Meanings.{length_or}
use Rattle.span_list.specs.SpanLists.{spans_from}
use Rattle.span_list.proofs.Fronts.{in_known, known_length, in_open}
use Rattle.span_list.proofs.SpanListSource.current_span_len.Goals as goal

pub returns-in-Some : goal.returns-in-Some
returns-in-Some c =
    let s = c.args.self.now in
    let k = c.in-Some.span.now in
    let here = in_known s k c.in-Some.ensures.item.3.0 c.in-Some.ensures.item.1 in
    let d : Option ℕ = cond s.rest.known (Some 0) None in
    record {
      answer = ap (λ n. Some (n - s.pos)) c.len.ensures
          ∙ sym (ap (λ l. length_or d (spans_from s.pos l s.«open»)) here.0
          ∙ known_length s.pos k (drop 1 s.known.items) s.«open» here.1 d);
    }

pub returns-in_default-open-2 : goal.returns-in_default-open-2
returns-in_default-open-2 c =
    let s = c.args.self.now in
    let d : Option ℕ = cond s.rest.known (Some 0) None in
    record { answer = sym (ap (length_or d) (in_open s c.in_default-open.field-0 c.in_default.ensures.item.3 c.in_default-open.is)) }
