-- One source's turn in an answer.
use Rattle.std.specs.Prelude.{Bool, true, false, List, [], ◌∷◌, Some, None, Option, Float}
use Rattle.std.specs.Float.Ieee.{add}
use Rattle.std.specs.Float.{binary32}
use Rattle.source.specs.Samples.{first, rest, silence}
use Rattle.mixer.specs.declared.table.State.{State}
use Rattle.mixer.specs.declared.table.State.TheVariants.{Idle, Waiting, Playing, Ended}

-- Whether a source plays.
abbrev pub is_playing : State → Bool
is_playing Idle = false
is_playing (Waiting k) = false
is_playing (Playing k) = true
is_playing Ended = false

-- What a source in a state gives, of the list that is left of it: who does not play gives nothing.
abbrev pub given : State → List Float → Option Float
given Idle l = None
given (Waiting k) l = None
given (Playing k) l = first l
given Ended l = None

-- The state after that: who plays and has nothing left has ended.
abbrev pub turned : State → List Float → State
turned Idle l = Idle
turned (Waiting k) l = Waiting k
turned (Playing k) [] = Ended
turned (Playing k) (x ∷ l) = Playing k
turned Ended l = Ended

-- What is left of the list after that.
abbrev pub left : State → List Float → List Float
left Idle l = l
left (Waiting k) l = l
left (Playing k) l = rest l
left Ended l = l

-- A sum with one more term, if there is one; the first is added to 0.0.
abbrev pub plus : Option Float → Option Float → Option Float
plus s None = s
plus None (Some x) = Some (add binary32 silence x)
plus (Some s) (Some x) = Some (add binary32 s x)
