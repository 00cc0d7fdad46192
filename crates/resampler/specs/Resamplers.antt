-- What a resampler has yet to give, and how far it has read its input; `of` says what its input has.
use Rattle.std.specs.Prelude.{◌≡◌, ℕ, ◌+◌, ◌/◌, ◌%◌, true, List, drop, is_some, Option, Float}
use Rattle.source.specs.Samples.{first}
use Rattle.rates.specs.Onward.{held, onward}
use Rattle.rates.specs.Walks.{Walk, beyond_frames}
use Rattle.frames.specs.Frames.{framed}
use Rattle.frames.specs.Windows.{left, seen, showing, Ended}
use Rattle.resampler.specs.declared.Resampler.{Resampler}

-- What a resampler has yet to give: the rest of its output frame, and what follows that frame.
abbrev pub remaining : {I : Type 0} → (I → List Float) → Resampler I → List Float
remaining of s =
    let w = s.window in
    held s.n s.pace.from s.pace.to w.channels.count s.at (framed w.current) (framed w.next) (left of w)

-- What it gives from the next output frame on.
abbrev pub following : {I : Type 0} → (I → List Float) → Resampler I → List Float
following of s = onward (s.n + s.pace.from) s.pace.from s.pace.to s.window.channels.count (seen of s.window)

-- The next sample of its output frame.
abbrev pub sample_here : {I : Type 0} → Resampler I → Option Float
sample_here s = first (drop s.at (showing s.n s.pace.to s.window))

-- Where the next output frame lies: so many input frames on, and so far between that frame and the next.
abbrev pub steps_next : {I : Type 0} → Resampler I → ℕ
steps_next s = (s.n + s.pace.from) / s.pace.to

abbrev pub place_next : {I : Type 0} → Resampler I → ℕ
place_next s = (s.n + s.pace.from) % s.pace.to

-- A resampler that was made over the samples xs and has given m samples, and has not met the end.
pub record Drawn {I : Type 0} (of : I → List Float) (xs : List Float) (m : ℕ) (s : Resampler I) : Type 0 where
  pub walk : Walk s.pace.from s.pace.to s.window.channels.count xs m s.n s.at (seen of s.window)
  pub ended : Ended of s.window

-- One call on, it has given one sample more, where it answered a sample.
abbrev pub DrawsOn : {I : Type 0} → (I → List Float) → Resampler I → Option Float → Resampler I → Type 0
DrawsOn of s r t = (xs : List Float) (m : ℕ) → Drawn of xs m s → is_some r ≡ true → Drawn of xs (m + 1) t

-- What is left of its input, however many samples it has given.
abbrev pub LeavesInput : {I : Type 0} → (I → List Float) → Resampler I → I → Type 0
LeavesInput of s r = (xs : List Float) (m : ℕ) → Drawn of xs m s → of r ≡ beyond_frames s.pace.from s.pace.to s.window.channels.count xs m
