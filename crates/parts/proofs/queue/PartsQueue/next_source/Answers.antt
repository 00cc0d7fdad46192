-- A part is handed out while there is one.
use Rattle.std.proofs.Common.{◌-◌, ◌<◌, ◌≤◌, map, Some, sym, ap, ◌∙◌, arith}
use Rattle.source.specs.Meanings.{open_from}
use Rattle.source.specs.Samples.{first, rest}
use Rattle.buffer.specs.Refusals.{max_cells}
use Rattle.parts.specs.Cut.{parts_of}
use Rattle.parts.proofs.Cutting.{large_part, one_part}
use Rattle.parts.proofs.queue.PartsQueue.next_source.Goals as goal

pub returns-in_default : goal.returns-in_default
returns-in_default g c =
    let q = c.args.self.now in
    let cut = c.in_ok-part.ensures.cases in
    let e = large_part g.K.Recorded.stands q.format q.each q.cells.now q.left (omega (arith, c.in_default.ensures.answer.0, cut.3)) in
    record { answer = sym (ap first e); after = e ∙ sym (ap rest e) }

pub returns : goal.returns
returns g c =
    let q = c.args.self.now in
    let of = g.K.Recorded.stands in
    let some : 0 < q.left = omega arith in
    let cut = c.in_ok-part.ensures.cases in
    let a = c.in-Ok.ensures.answer in
    let few : q.each ≤ max_cells = omega (arith, a.0, cut.3) in
    let e = one_part of q.format q.each q.cells.now q.left some cut.0 few in
    record {
      answer = ap Some (a.1.spans ∙ ap (λ p. open_from q.format (map of p)) cut.1) ∙ sym (ap first e);
      after = ap (parts_of of q.format q.each (q.left - 1)) cut.2 ∙ sym (ap rest e);
    }
