-- A mixer of m channels over lists of samples, by the calls made on it since it was made. No state of a mixer stands in here.
use Rattle.std.specs.Prelude.{ℕ, suc, ◌+◌, ◌-◌, ◌*◌, ◌/◌, Bool, false, cond, not, ◌&&◌, ◌||◌, List, [], ◌∷◌, ◌++◌, length, take, drop, fold, Some, None, Ok, Err, Option, Result, ◌==◌, nat_le, nat_lt, slice_index_or, Float}
use Rattle.std.specs.Float.{binary32}
use Rattle.std.specs.Float.Ieee.{add}
use Rattle.std.specs.List.{flat_map}
use Rattle.source.specs.Samples.{silence}
use Rattle.law.specs.declared.Call.{Call}
use Rattle.law.specs.declared.Call.TheVariants.{Add, Next}
use Rattle.law.specs.declared.Reply.{Reply}
use Rattle.law.specs.declared.Reply.TheVariants.{Add as AddReply, Next as NextReply}
use Rattle.law.specs.declared.refusal.AddRefusal.{AddRefusal}
use Rattle.law.specs.declared.refusal.AddRefusal.TheVariants.{NoSuchSource, AlreadyAdded}

-- How many answers a list of calls was given, ends included.
abbrev pub answers : List Call → ℕ
answers [] = 0
answers (Add i ∷ h) = answers h
answers (Next ∷ h) = suc (answers h)

-- Whether an add in h names i.
abbrev pub names : ℕ → List Call → Bool
names i [] = false
names i (Add j ∷ h) = i == j || names i h
names i (Next ∷ h) = names i h

-- A source that was accepted, and how many answers were given before.
pub record Accepted : Type 0 where
  pub number : ℕ
  pub after : ℕ

-- What stands past the end of the accepted ones.
abbrev pub nobody : Accepted
nobody = record { number = 0; after = 0 }

-- The sources accepted in the second list, in the order of adding: an add is accepted where its number is below the count and no
-- earlier add named it. The first list holds the calls made before, the newest first.
abbrev pub accepted_since : ℕ → List Call → List Call → List Accepted
accepted_since count past [] = []
accepted_since count past (Next ∷ h) = accepted_since count (Next ∷ past) h
accepted_since count past (Add i ∷ h) =
    cond (nat_lt i count && not (names i past)) (record { number = i; after = answers past } ∷ []) [] ++ accepted_since count (Add i ∷ past) h

-- The sources accepted in all calls since a mixer over count lists was made.
abbrev pub accepted : ℕ → List Call → List Accepted
accepted count h = accepted_since count [] h

-- The least multiple of m not below n: where the next frame starts.
abbrev pub frame_start : ℕ → ℕ → ℕ
frame_start m n = (n + (m - 1)) / m * m

-- The term of one accepted source in answer q: none before its start and past its end.
abbrev pub term : ℕ → List (List Float) → ℕ → Accepted → List Float
term m lists q a =
    let s = frame_start m a.after in
    cond (nat_le s q) (take 1 (drop (q - s) (slice_index_or lists a.number []))) []

-- The terms of answer q, in the order of adding.
abbrev pub terms : ℕ → List (List Float) → List Call → ℕ → List Float
terms m lists h q = flat_map (term m lists q) (accepted (length lists) h)

-- The sum from 0.0 in that order, and the end where there is no term.
abbrev pub sum_or_end : List Float → Option Float
sum_or_end [] = None
sum_or_end (x ∷ xs) = Some (fold (add binary32) silence (x ∷ xs))

-- Whether an add of i is accepted after some calls.
abbrev pub verdict : ℕ → ℕ → List Call → Result Unit AddRefusal
verdict count i past = cond (nat_lt i count) (cond (names i past) (Err AlreadyAdded) (Ok tt)) (Err NoSuchSource)

-- The reply to the call that follows the calls of h.
abbrev pub reply : ℕ → List (List Float) → List Call → Call → Reply
reply m lists h (Add i) = AddReply (verdict (length lists) i h)
reply m lists h Next = NextReply (sum_or_end (terms m lists h (answers h)))

-- The replies to the calls cs that follow those of h.
abbrev pub replies : ℕ → List (List Float) → List Call → List Call → List Reply
replies m lists h [] = []
replies m lists h (c ∷ cs) = reply m lists h c ∷ replies m lists (h ++ (c ∷ [])) cs
