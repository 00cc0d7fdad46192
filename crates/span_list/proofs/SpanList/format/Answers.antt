-- The format is that of the span that the list stands in.
use Rattle.std.proofs.Common.{drop, sym, ap, ◌∙◌}
use Rattle.source.specs.Meanings.{format_or}
use Rattle.span_list.specs.SpanLists.{spans_from}
use Rattle.span_list.proofs.Fronts.{in_known, known_format, in_open}
use Rattle.span_list.proofs.SpanList.format.Goals as goal

pub returns-in-Some : goal.returns-in-Some
returns-in-Some c =
    let s = c.args.self.now in
    let k = c.in-Some.span.now in
    let here = in_known s k c.in-Some.ensures.item.3.0 c.in-Some.ensures.item.1 in
    record {
      answer = sym (ap (λ l. format_or s.rest.format (spans_from s.pos l s.«open»)) here.0
          ∙ known_format s.pos k (drop 1 s.known.items) s.«open» here.1 s.rest.format);
    }

pub returns-in-Some-open : goal.returns-in-Some-open
returns-in-Some-open c =
    let s = c.args.self.now in
    record { answer = sym (ap (format_or s.rest.format) (in_open s c.in-Some-open.open c.in_default.ensures.item.3 c.in-Some-open.is)) }
