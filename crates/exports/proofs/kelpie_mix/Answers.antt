-- Two formats that are taken are the numbers handed in.
use Rattle.std.proofs.Common.{◌≡◌, true, ◌&&◌, arith}
use Rattle.std.proofs.lemmas.Grind.{common_steps}
use Rattle.exports.specs.Answers.{good_format}
use Rattle.exports.proofs.kelpie_mix.Goals as goal

pub returns : goal.returns
returns c =
    let a = c.args in
    let f = c.in-Ok.format in
    let to = c.in-Ok-new.to in
    let both : (good_format a.from_channels a.from_rate && good_format a.to_channels a.to_rate) ≡ true = grind (arith, common_steps) in
    record { cells = rw both (f, to, (grind (arith, common_steps), grind (arith, common_steps)), (grind (arith, common_steps), grind (arith, common_steps)), c.mix.ensures.cells) }
