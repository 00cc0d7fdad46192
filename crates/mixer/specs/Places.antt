-- The places of the mixer's table.
use Rattle.std.specs.Prelude.{Ok, Err, Result}
use Rattle.law.specs.declared.refusal.AddRefusal.{AddRefusal}
use Rattle.law.specs.declared.refusal.AddRefusal.TheVariants.{AlreadyAdded}
use Rattle.mixer.specs.declared.table.State.{State}
use Rattle.mixer.specs.declared.table.State.TheVariants.{Idle, Waiting, Playing, Ended}
use Rattle.mixer.specs.declared.table.Place.{Place}

-- A place in a state.
abbrev pub in_state : State → Place
in_state s = record { state = s }

-- The place of a source that was not added.
abbrev pub idle : Place
idle = in_state Idle

-- What is said to a source in a state that is to be added.
abbrev pub entered : State → Result Unit AddRefusal
entered Idle = Ok tt
entered (Waiting k) = Err AlreadyAdded
entered (Playing k) = Err AlreadyAdded
entered Ended = Err AlreadyAdded

-- At a frame's start who waits begins to play.
abbrev pub started : State → State
started Idle = Idle
started (Waiting k) = Playing k
started (Playing k) = Playing k
started Ended = Ended

abbrev pub begun : Place → Place
begun p = in_state (started p.state)
