-- The places up to this one have begun.
use Rattle.std.proofs.Common.{◌≡◌, ◌++◌, map, take, drop}
use Rattle.mixer.specs.Places.{begun}
use Rattle.mixer.proofs.table.Table.start.Given as goal

abbrev pub invariant-loop-place : goal.invariant-loop-place
invariant-loop-place l = l.place-items ≡ map begun (take l.place-index l.initial.place-items) ++ drop l.place-index l.initial.place-items
