-- The law of isolation: two mixers under the same calls whose sources agree but for the values of one source in one channel.
use Rattle.std.specs.Prelude.{◌≡◌, ℕ, ◌%◌, ◌<◌, ◌≤◌, List, [], ◌∷◌, map, length, Some, None, ◌≢◌, slice_index_or}
use Rattle.std.specs.List.{AllByRecursion}
use Rattle.law.specs.Mixing.{reply, answers}
use Rattle.law.specs.declared.Call.{Call}
use Rattle.law.specs.declared.Reply.{Reply}
use Rattle.law.specs.declared.Reply.TheVariants.{Add, Next}
use Rattle.source.specs.Samples.{silence}
use Rattle.source.specs.Spans.{Span}
use Rattle.uniform.specs.Pieces.{Piece, pieces}
use Rattle.uniform.specs.Uniform.{uniform}

-- Lists of one length, related place by place.
abbrev pub Pairwise : {A : Type 0} → (A → A → Type 0) → List A → List A → Type 0
Pairwise R [] [] = Unit {0}
Pairwise R [] (y ∷ ys) = ⊥
Pairwise R (x ∷ xs) [] = ⊥
Pairwise R (x ∷ xs) (y ∷ ys) = R x y × Pairwise R xs ys

-- Two pieces of one format that differ at most in the values of channel d.
pub record PieceSaveIn (d : ℕ) (p q : Piece) : Type 0 where
  pub one_format : (p.channels ≡ q.channels) × (p.rate ≡ q.rate)
  pub as_long : length p.samples ≡ length q.samples
  pub elsewhere : (i : ℕ) → i < length p.samples → (i % p.channels ≢ d) → slice_index_or p.samples i silence ≡ slice_index_or q.samples i silence

-- A piece of whole frames, of two channels or more.
abbrev pub WholeFrames : Piece → Type 0
WholeFrames p = (2 ≤ p.channels) × (length p.samples % p.channels ≡ 0)

-- Replies of one kind: both a sample, or the same.
abbrev pub SameKind : Reply → Reply → Type 0
SameKind (Next (Some x)) (Next (Some y)) = Unit {0}
SameKind (Next (Some x)) (Next None) = ⊥
SameKind (Next (Some x)) (Add r) = ⊥
SameKind (Next None) s = Next None ≡ s
SameKind (Add r) s = Add r ≡ s

-- Sources, by their spans, that are the same but for number S, whose pieces differ at most in the values of channel d.
pub record Like (S d : ℕ) (ps qs : List (List Span)) : Type 0 where
  pub as_many : length ps ≡ length qs
  pub others : (i : ℕ) → (i ≢ S) → slice_index_or ps i [] ≡ slice_index_or qs i []
  pub values : Pairwise (PieceSaveIn d) (pieces (slice_index_or ps S [])) (pieces (slice_index_or qs S []))
  pub whole : AllByRecursion WholeFrames (pieces (slice_index_or ps S []))

-- Under the same calls the replies are of one kind, and the same wherever the answer's channel is not d.
abbrev pub Isolated : Type 0
Isolated =
    (m rate S d : ℕ) (ps qs : List (List Span)) (h : List Call) (c : Call) → 1 ≤ m → Like S d ps qs →
    SameKind (reply m (map (uniform m rate) ps) h c) (reply m (map (uniform m rate) qs) h c) ×
    ((answers h % m ≢ d) → reply m (map (uniform m rate) ps) h c ≡ reply m (map (uniform m rate) qs) h c)
