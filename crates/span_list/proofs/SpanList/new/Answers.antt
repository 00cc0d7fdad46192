-- With samples there is an open span of just these, and with none there is none.
use Rattle.std.proofs.Common.{◌≡◌, length, vec_items, vec_len, [], ap, ◌∙◌, arith}
use Rattle.std.proofs.lemmas.List.{nil_from_length}
use Rattle.source.specs.Meanings.{Spans, Meaning}
use Rattle.span_list.proofs.Parts.{told}
use Rattle.span_list.proofs.SpanList.new.Goals as goal

pub returns : goal.returns
returns c =
    let a = c.args in
    let ys = vec_items a.«open» in
    let meant : Spans → Meaning = λ ss. record { spans = ss; rests_at = a.rests_at; rests_known = a.rests_known; duration = a.duration } in
    record {
      answer =
          c.from_spans.ensures.answer
          ∙ ap meant (told a.known.items a.open_format ys c.new.result _ _ c.new.ensures.answer
          (λ e. nil_from_length ys (omega (arith, a.«open».ok.0, e)))
          (λ s h. (h.0, ap vec_items h.1)));
    }
