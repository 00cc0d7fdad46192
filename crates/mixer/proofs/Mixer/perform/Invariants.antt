-- The calls up to this one are answered, and there is memory for the other replies.
use Rattle.std.proofs.Common.{◌≡◌, ◌≤◌, length, vec_items, vec_len, vec_capacity}
use Rattle.mixer.proofs.Performs.{Answered}
use Rattle.mixer.proofs.Mixer.perform.Given as goal

abbrev pub invariant-loop-call : goal.invariant-loop-call
invariant-loop-call g l =
    (vec_len l.replies ≡ l.call-index)
    × (length l.calls ≤ vec_capacity l.replies)
    × Answered g.B.Bank.lists l.calls l.call-index l.initial.self (vec_items l.replies) l.self
