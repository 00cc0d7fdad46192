-- One place more.
use Rattle.std.proofs.Common.{◌≡◌, ◌+◌, ◌<◌, ◌++◌, map, length, get_or, take, drop, set, ap, ◌∙◌, arith}
use Rattle.std.proofs.lemmas.List.{get_or_default, length-append, length-map, length-take, length-drop}
use Rattle.std.proofs.lemmas.List.Edits.{map_over_more}
use Rattle.mixer.specs.declared.table.Place.{Place}
use Rattle.mixer.specs.Places.{idle, begun}
use Rattle.mixer.proofs.table.Table.start.Goals as goal

pub loop-place-preserved : goal.loop-place-preserved
loop-place-preserved c =
    let xs = c.args.self.now.places in
    let ys = c.loop-place.place-items in
    let i = c.loop-place.place-index in
    let v : ys ≡ map begun (take i xs) ++ drop i xs = c.loop-place.invariant in
    let lt : i < length xs = omega arith in
    let long : length ys ≡ length (map begun (take i xs)) + length (drop i xs) = ap length v ∙ length-append (map begun (take i xs)) (drop i xs) in
    let there : i < length ys = omega (arith, length-map (take i xs) begun, length-take i xs, length-drop i xs) in
    ap (λ (p : Place). set ys i p) c.start.ensures.after ∙ map_over_more begun xs ys i (get_or ys i idle) lt v (get_or_default ys i idle (get_or ys i idle) there)
