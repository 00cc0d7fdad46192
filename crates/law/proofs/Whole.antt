-- The law's replies keep the law of the whole list.
use Rattle.std.proofs.Common.{ℕ, ◌≤◌, List, [], ◌∷◌, ◌++◌, length, take, None}
use lib.Ieee.{Float}
use Rattle.std.specs.List.{AllByRecursion}
use Rattle.law.specs.declared.Call.{Call}
use Rattle.law.specs.declared.Reply.TheVariants.{Next as NextReply}
use Rattle.law.specs.Mixing.{Accepted, accepted, replies}
use Rattle.law.specs.Told.{Told}
use Rattle.law.proofs.Acceptance.{accepted_once_lem}
use Rattle.law.proofs.Runs.{length-replies, reply_at}
use Rattle.law.proofs.Starts.{starts_at_frame_lem}
use Rattle.law.proofs.Terms.{enters_once_lem, ends_when_silent_lem}

all_of : {A : Type 0} (P : A → Type 0) → ((a : A) → P a) → (xs : List A) → AllByRecursion P xs
all_of P f [] = tt
all_of P f (x ∷ xs) = (f x, all_of P f xs)

pub told : (m : ℕ) (lists : List (List Float)) (h cs : List Call) → 1 ≤ m → Told m lists h cs (replies m lists h cs)
told m lists h cs one = record {
  as_many = length-replies m lists h cs;
  reply_is = λ k lt. reply_at m lists h cs k (NextReply None) lt;
  accepts = accepted_once_lem (length lists) (h ++ cs);
  starts = all_of _ (λ (a : Accepted). starts_at_frame_lem m a.after one) (accepted (length lists) (h ++ cs));
  enters = all_of _ (enters_once_lem m lists) (accepted (length lists) (h ++ cs));
  ends = λ k le. ends_when_silent_lem m lists (h ++ take k cs);
}
