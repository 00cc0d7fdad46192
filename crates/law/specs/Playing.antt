-- Who plays: a source that has started and was not yet found ended.
use Rattle.std.specs.Prelude.{◌≡◌, ℕ, ◌-◌, Bool, true, false, ◌&&◌, List, [], length, Some, None, Option, nat_le, nat_lt, slice_index_or, Float}
use Rattle.std.specs.List.{ContainsAt, AllByRecursion}
use Rattle.law.specs.declared.Call.{Call}
use Rattle.law.specs.Mixing.{Accepted, answers, accepted, frame_start}

-- Whether an accepted source plays once q answers were given: it was due in one of them, and none of them found it ended.
abbrev pub plays : ℕ → List (List Float) → ℕ → Accepted → Bool
plays m lists q a =
    let s = frame_start m a.after in
    nat_lt s q && nat_le (q - s) (length (slice_index_or lists a.number []))

-- An answer to who plays after the calls of h: the number of one that plays, or none where none does.
abbrev pub WhoPlays : ℕ → List (List Float) → List Call → Option ℕ → Type 0
WhoPlays m lists h None = AllByRecursion (λ (a : Accepted). plays m lists (answers h) a ≡ false) (accepted (length lists) h)
WhoPlays m lists h (Some i) = (a : Accepted) × ContainsAt (accepted (length lists) h) a × (a.number ≡ i) × (plays m lists (answers h) a ≡ true)
