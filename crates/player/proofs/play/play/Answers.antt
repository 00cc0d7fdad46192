-- The bank's one list is the recording itself, since it is in the bank's format already.
use Rattle.std.proofs.Common.{map, arith}
use Rattle.std.proofs.lemmas.Grind.{common_steps}
use Rattle.uniform.proofs.Piecewise.{own_stream}
use Rattle.player.proofs.play.play.Goals as goal

pub returns : goal.returns
returns g c =
    let own = own_stream c.args.format (map g.K.Recorded.stands c.args.cells.now) in
    let told = (c.in_ok-perform.ensures.law _ _ _ c.new-mixer.ensures.law).0 in
    grind (arith, common_steps)
