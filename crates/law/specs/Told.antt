-- The law of a whole list of calls.
use Rattle.std.specs.Prelude.{◌≡◌, ℕ, ◌<◌, ◌≤◌, List, ◌++◌, length, take, None, slice_index_or, Float}
use Rattle.std.specs.List.{AllByRecursion}
use Rattle.law.specs.declared.Call.{Call}
use Rattle.law.specs.declared.Call.TheVariants.{Next}
use Rattle.law.specs.declared.Reply.{Reply}
use Rattle.law.specs.declared.Reply.TheVariants.{Next as NextReply}
use Rattle.law.specs.Asked.{Starts, Accepts, Enters, Ends}
use Rattle.law.specs.Mixing.{accepted, reply}

-- What the replies rs to the calls cs are, where the calls of h went before: there is one for each call, the law's reply to it after
-- the calls before it. Of all these calls, the accepted sources are those that were named, once each; each starts at a whole frame;
-- each of its samples enters one answer; and an answer is the end exactly where all are silent.
pub record Told (m : ℕ) (lists : List (List Float)) (h cs : List Call) (rs : List Reply) : Type 0 where
  pub as_many : length rs ≡ length cs
  pub reply_is : (k : ℕ) → k < length cs → slice_index_or rs k (NextReply None) ≡ reply m lists (h ++ take k cs) (slice_index_or cs k Next)
  pub accepts : Accepts (length lists) (h ++ cs)
  pub starts : AllByRecursion (λ a. Starts m a.after) (accepted (length lists) (h ++ cs))
  pub enters : AllByRecursion (Enters m lists) (accepted (length lists) (h ++ cs))
  pub ends : (k : ℕ) → k ≤ length cs → Ends m lists (h ++ take k cs)
