-- A converter in the middle of an output frame, over plain values: c channels to t, at place p, with what it holds of the
-- frame's first sample, over an input that still has ys.
use Rattle.std.specs.Prelude.{ℕ, ◌+◌, ◌-◌, min, cond, List, ◌++◌, drop, replicate, Some, Option, ◌==◌, nat_lt, Float}
use Rattle.std.specs.Option.{unwrap_or}
use Rattle.source.specs.Samples.{first, rest, silence}
use Rattle.channels.specs.Channels.{channels_converted}

-- The input from the start of the frame on. Of the samples that the frame has used up only the first is ever heard again, so
-- it stands in for all of them.
abbrev pub from_frame : ℕ → ℕ → Float → List Float → List Float
from_frame c p held ys = replicate (min p c) held ++ ys

-- What is yet to be given: what the input from the start of the frame on converts to, less the p samples given of this frame.
abbrev pub left_to_give : ℕ → ℕ → ℕ → Float → List Float → List Float
left_to_give c t p held ys = drop p (channels_converted c t (from_frame c p held ys))

-- The sample at place p.
abbrev pub sample_at : ℕ → ℕ → Float → List Float → Option Float
sample_at c p held ys = cond (nat_lt p c) (first ys) (Some (cond (p == 1) held silence))

-- The input once that sample went out.
abbrev pub input_past : ℕ → ℕ → List Float → List Float
input_past c p ys = cond (nat_lt p c) (rest ys) ys

-- What is held of the frame's first sample then.
abbrev pub held_past : ℕ → Float → List Float → Float
held_past p held ys = cond (p == 0) (unwrap_or (first ys) held) held

-- The next place, and the input there: with the last place of an output frame go the input samples that it has no place for.
abbrev pub next_place : ℕ → ℕ → ℕ
next_place t p = cond (p + 1 == t) 0 (p + 1)

abbrev pub input_at_next : ℕ → ℕ → ℕ → List Float → List Float
input_at_next c t p ys = cond (p + 1 == t) (drop (c - t) ys) ys
