-- A turn that draws nothing stands at the end of the list; any other has one sample fewer before it.
use Rattle.std.proofs.Common.{arith}
use Rattle.std.proofs.lemmas.Grind.{common_steps}
use Rattle.std.proofs.lemmas.List.{drop_all}
use Rattle.source.proofs.Draws.{rest-drop, first_none, first_some}
use Rattle.replay.proofs.drawing.draw.Goals as goal

pub returns-then-is_none : goal.returns-then-is_none
returns-then-is_none g c =
    let xs = g.S.Samples.samples c.args.input.now in
    let none = first_none c.loop.counter xs in
    let less = rest-drop c.loop.counter xs in
    grind (arith, common_steps, drop_all)

pub loop-preserved : goal.loop-preserved
loop-preserved g c =
    let xs = g.S.Samples.samples c.args.input.now in
    let some = first_some c.loop.counter xs in
    let less = rest-drop c.loop.counter xs in
    grind (arith, common_steps)
