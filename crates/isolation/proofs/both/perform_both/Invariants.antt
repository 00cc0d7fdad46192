-- The calls up to this one are answered by both, and there is memory for the other replies.
use Rattle.std.proofs.Common.{◌≡◌, ◌≤◌, length, vec_items, vec_len, vec_capacity}
use Rattle.mixer.proofs.Performs.{Answered}
use Rattle.isolation.proofs.both.perform_both.Given as goal

abbrev pub invariant-loop-call : goal.invariant-loop-call
invariant-loop-call g l =
    (vec_len l.of_first ≡ l.call-index)
    × (length l.calls ≤ vec_capacity l.of_first)
    × (vec_len l.of_second ≡ l.call-index)
    × (length l.calls ≤ vec_capacity l.of_second)
    × Answered g.P.Bank.lists l.calls l.call-index l.initial.first (vec_items l.of_first) l.first
    × Answered g.Q.Bank.lists l.calls l.call-index l.initial.second (vec_items l.of_second) l.second
