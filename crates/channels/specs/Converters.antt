-- What a converter has yet to give, and how far it has read its input.
use Rattle.std.specs.Prelude.{◌≡◌, ℕ, ◌+◌, ◌%◌, cond, List, drop, is_some, Option, Float}
use Rattle.channels.specs.Channels.{channels_used}
use Rattle.channels.specs.Steps.{left_to_give, sample_at, input_past, held_past, next_place, input_at_next}
use Rattle.channels.specs.declared.ChannelCountConverter.{ChannelCountConverter}

-- What a converter has yet to give; `of` says what its input has.
abbrev pub converted : {I : Type 0} → (I → List Float) → ChannelCountConverter I → List Float
converted of s = left_to_give s.from.count s.to.count s.next_output_sample_pos s.sample_repeat (of s.input)

-- A converter from c channels to t that was made over the samples xs and has given m samples.
pub record Gave {I : Type 0} (of : I → List Float) (c t : ℕ) (xs : List Float) (m : ℕ) (s : ChannelCountConverter I) : Type 0 where
  pub from : s.from.count ≡ c
  pub to : s.to.count ≡ t
  pub place : s.next_output_sample_pos ≡ m % t
  pub left : of s.input ≡ drop (channels_used c t m) xs

-- One call on, it has given one sample more, or none more where it answered the end.
abbrev pub GivesOn : {I : Type 0} → (I → List Float) → ChannelCountConverter I → Option Float → ChannelCountConverter I → Type 0
GivesOn of s r t = (c d : ℕ) (xs : List Float) (m : ℕ) → Gave of c d xs m s → Gave of c d xs (m + cond (is_some r) 1 0) t

-- What is left of its input, however many samples it has given.
abbrev pub LeavesInput : {I : Type 0} → (I → List Float) → ChannelCountConverter I → I → Type 0
LeavesInput of s r = (c t : ℕ) (xs : List Float) (m : ℕ) → Gave of c t xs m s → of r ≡ drop (channels_used c t m) xs

-- The parts of a call: the sample at its place, what is left of the input and held of the frame then, the next place, and the
-- input there.
module _ {I : Type 0} (of : I → List Float) (s : ChannelCountConverter I) where
  abbrev pub sample_here : Option Float
  sample_here = sample_at s.from.count s.next_output_sample_pos s.sample_repeat (of s.input)

  abbrev pub input_after_sample : List Float
  input_after_sample = input_past s.from.count s.next_output_sample_pos (of s.input)

  abbrev pub held_after_sample : Float
  held_after_sample = held_past s.next_output_sample_pos s.sample_repeat (of s.input)

  abbrev pub place_after : ℕ
  place_after = next_place s.to.count s.next_output_sample_pos

  abbrev pub input_after_place : List Float
  input_after_place = input_at_next s.from.count s.to.count s.next_output_sample_pos (of s.input)
