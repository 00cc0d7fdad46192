-- The sample at the position goes out, and the list stands behind it.
use Rattle.std.proofs.Common.{◌≡◌, ◌+◌, ◌∷◌, drop, sym, ap, ◌∙◌}
use Rattle.source.specs.Meanings.{all_samples, less_first, with_spans}
use Rattle.source.specs.Samples.{first}
use Rattle.span_list.specs.SpanLists.{spans_from, list_meaning}
use Rattle.span_list.proofs.Fronts.{in_known, known_front, known_on}
use Rattle.span_list.proofs.SpanListSource.next.Goals as goal

pub returns-else-self-length : goal.returns-else-self-length
returns-else-self-length c =
    let s = c.args.self.now in
    let k = c.in-Some.span.now in
    let x = c.index-sample.result.now in
    let ks = drop 1 s.known.items in
    let here = in_known s k c.in-Some.ensures.item.3.0 c.in-Some.ensures.item.1 in
    let stands : spans_from s.pos s.known.items s.«open» ≡ spans_from s.pos (k ∷ ks) s.«open» = ap (λ l. spans_from s.pos l s.«open») here.0 in
    let on = known_on s.pos k ks s.«open» here.1 x c.index-sample.ensures ∙ ap (λ l. spans_from (s.pos + 1) l s.«open») (sym here.0) in
    record {
      answer = sym (ap (λ ss. first (all_samples ss)) (stands ∙ known_front s.pos k ks s.«open» here.1 x c.index-sample.ensures));
      after = sym (ap (with_spans (list_meaning s)) (ap less_first stands ∙ on));
    }
