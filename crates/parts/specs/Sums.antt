-- What a mixer gives once all its sources are added.
use Rattle.std.specs.Prelude.{◌≡◌, ℕ, zero, suc, ◌<◌, ◌≤◌, List, [], ◌∷◌, ◌++◌, length, drop, Some, None, slice_index_or, Float}
use Rattle.source.specs.Samples.{silence}
use Rattle.law.specs.declared.Call.{Call}
use Rattle.law.specs.declared.Call.TheVariants.{Add, Next}
use Rattle.law.specs.declared.Reply.TheVariants.{Next as NextReply}
use Rattle.law.specs.Mixing.{reply}

-- Adds of the numbers below n, in order.
abbrev pub adds : ℕ → List Call
adds zero = []
adds (suc n) = adds n ++ (Add n ∷ [])

-- The numbers below n added, and then j answers given.
abbrev pub begun : ℕ → ℕ → List Call
begun n zero = adds n
begun n (suc j) = begun n j ++ (Next ∷ [])

-- Cells `out`, into which the answers of a mixer of m channels over these lists were written from the front, all sources being added
-- before the first: n of them, up to the first end or the last cell; the cells behind keep what they held in `before`.
pub record Summed (m : ℕ) (lists : List (List Float)) (before out : List Float) (n : ℕ) : Type 0 where
  pub within : n ≤ length before
  pub answers : (j : ℕ) → j < n → reply m lists (begun (length lists) j) Next ≡ NextReply (Some (slice_index_or out j silence))
  pub ended : n < length before → reply m lists (begun (length lists) n) Next ≡ NextReply None
  pub kept : drop n out ≡ drop n before
  pub as_long : length out ≡ length before
