-- What a reader asks of the law of mixing.
use Rattle.std.specs.Prelude.{◌≡◌, ℕ, ◌+◌, ◌-◌, ◌%◌, ◌<◌, ◌≤◌, true, ◌⊎◌, List, [], ◌∷◌, ◌++◌, length, take, None, is_some, slice_index_or, Float}
use Rattle.std.specs.List.{AllByRecursion}
use Rattle.source.specs.Samples.{silence}
use Rattle.law.specs.declared.Call.{Call}
use Rattle.law.specs.declared.Call.TheVariants.{Next}
use Rattle.law.specs.declared.Reply.TheVariants.{Next as NextReply}
use Rattle.law.specs.Mixing.{Accepted, nobody, answers, names, accepted, frame_start, term, reply, replies}
use Rattle.law.specs.Numbers.{refusal_number}

-- A refused call changes no later reply.
abbrev pub RefusedChangesNothing : Type 0
RefusedChangesNothing =
    (m : ℕ) (lists : List (List Float)) (h : List Call) (c : Call) (later : List Call) (d : Call) →
    is_some (refusal_number (reply m lists h c)) ≡ true → reply m lists ((h ++ (c ∷ [])) ++ later) d ≡ reply m lists (h ++ later) d

-- Later calls, adds among them, change no earlier reply.
abbrev pub EarlierStays : Type 0
EarlierStays = (m : ℕ) (lists : List (List Float)) (h cs ds : List Call) → take (length cs) (replies m lists h (cs ++ ds)) ≡ replies m lists h cs

-- The start of a source accepted after n answers is a whole frame, the first at or behind that moment.
abbrev pub Starts : ℕ → ℕ → Type 0
Starts m n = (n ≤ frame_start m n) × (frame_start m n % m ≡ 0) × ((q : ℕ) → n ≤ q → q % m ≡ 0 → frame_start m n ≤ q)

-- A source starts at a whole frame.
abbrev pub StartsAtFrame : Type 0
StartsAtFrame = (m n : ℕ) → 1 ≤ m → Starts m n

-- Of an accepted source: its number is below the count, an add named it, and it was accepted no later than now.
abbrev pub Within : ℕ → List Call → Accepted → Type 0
Within count h a = (a.number < count) × (names a.number h ≡ true) × (a.after ≤ answers h)

-- Source i stands among the accepted ones.
abbrev pub Found : ℕ → List Accepted → Type 0
Found i took = (k : ℕ) × (k < length took) × ((slice_index_or took k nobody).number ≡ i)

-- The sources accepted in h are those below the count that an add named, and each is accepted once.
abbrev pub Accepts : ℕ → List Call → Type 0
Accepts count h =
    AllByRecursion (Within count h) (accepted count h)
    × ((i : ℕ) → i < count → names i h ≡ true → Found i (accepted count h))
    × ((j k : ℕ) → j < length (accepted count h) → k < length (accepted count h) →
    (slice_index_or (accepted count h) j nobody).number ≡ (slice_index_or (accepted count h) k nobody).number → j ≡ k)

abbrev pub AcceptedOnce : Type 0
AcceptedOnce = (count : ℕ) (h : List Call) → Accepts count h

-- Sample i of a source enters answer s + i, where s is its start, and no other: whatever enters answer q is sample q - s.
abbrev pub Enters : ℕ → List (List Float) → Accepted → Type 0
Enters m lists a =
    ((i : ℕ) → i < length (slice_index_or lists a.number []) → term m lists (frame_start m a.after + i) a ≡ slice_index_or (slice_index_or lists a.number []) i silence ∷ [])
    × ((q : ℕ) (x : Float) → term m lists q a ≡ x ∷ [] →
    (frame_start m a.after ≤ q) × (q - frame_start m a.after < length (slice_index_or lists a.number []))
    × (x ≡ slice_index_or (slice_index_or lists a.number []) (q - frame_start m a.after) silence))

abbrev pub EntersOnce : Type 0
EntersOnce = (m : ℕ) (lists : List (List Float)) (a : Accepted) → Enters m lists a

-- A source is silent in answer q before its start and past its end.
abbrev pub Silent : ℕ → List (List Float) → ℕ → Accepted → Type 0
Silent m lists q a = (q < frame_start m a.after) ⊎ (frame_start m a.after + length (slice_index_or lists a.number []) ≤ q)

-- The answer that follows the calls of h is the end exactly when every accepted source is silent in it.
abbrev pub Ends : ℕ → List (List Float) → List Call → Type 0
Ends m lists h =
    (reply m lists h Next ≡ NextReply None → AllByRecursion (Silent m lists (answers h)) (accepted (length lists) h))
    × (AllByRecursion (Silent m lists (answers h)) (accepted (length lists) h) → reply m lists h Next ≡ NextReply None)

abbrev pub EndsWhenSilent : Type 0
EndsWhenSilent = (m : ℕ) (lists : List (List Float)) (h : List Call) → Ends m lists h
