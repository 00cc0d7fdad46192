-- A turn that draws nothing stands at the end of the list; any other writes one sample more.
use Rattle.std.proofs.Common.{arith}
use Rattle.std.proofs.lemmas.Grind.{common_steps}
use Rattle.std.proofs.lemmas.List.{set-get_or}
use Rattle.source.proofs.Draws.{rest-drop, first_none, first_some}
use Rattle.exports.proofs.Writing.{write_more, write_end}
use Rattle.exports.proofs.drain.drain.Goals as goal

pub returns-in-None : goal.returns-in-None
returns-in-None g c =
    let xs = g.S.Samples.samples c.args.input.now in
    let none = first_none c.loop-i.i xs in
    let end = write_end c.loop-i.i xs c.args.out.now in
    grind (arith, common_steps, set-get_or)

pub loop-i-preserved : goal.loop-i-preserved
loop-i-preserved g c =
    let xs = g.S.Samples.samples c.args.input.now in
    let i = c.loop-i.i in
    let some = first_some i xs in
    let less = rest-drop i xs in
    let more = write_more i xs c.args.out.now c.in-Some.sample in
    grind (arith, common_steps)

pub returns : goal.returns
returns g c =
    let xs = g.S.Samples.samples c.args.input.now in
    let end = write_end c.loop-i.i xs c.args.out.now in
    grind (arith, common_steps)
