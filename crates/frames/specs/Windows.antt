-- What a window still has before it, and the output frame that it shows; `of` says what its input has.
use Rattle.std.specs.Prelude.{◌≡◌, ℕ, ◌*◌, ◌<◌, List, [], ◌++◌, length, drop, Float}
use Rattle.rates.specs.Onward.{behind, shown_by, shown}
use Rattle.frames.specs.Frames.{framed}
use Rattle.frames.specs.declared.window.Window.{Window}

-- What is left of the input behind the two frames.
abbrev pub left : {I : Type 0} → (I → List Float) → Window I → List Float
left of w = behind w.channels.count (framed w.next) (of w.input)

-- All that the window has not passed yet: its two frames and what is left behind them.
abbrev pub seen : {I : Type 0} → (I → List Float) → Window I → List Float
seen of w = framed w.current ++ (framed w.next ++ left of w)

-- The same, some frames on.
abbrev pub seen_past : {I : Type 0} → (I → List Float) → ℕ → Window I → List Float
seen_past of k w = drop (k * w.channels.count) (seen of w)

-- The output frame that lies n / to of the way from the current frame to the next.
abbrev pub showing_by : {I : Type 0} → Float → Float → Window I → List Float
showing_by n to w = shown_by n to (framed w.current) (framed w.next)

-- The same for two whole numbers.
abbrev pub showing : {I : Type 0} → ℕ → ℕ → Window I → List Float
showing n to w = shown n to (framed w.current) (framed w.next)

-- Behind a short frame the input is at its end.
abbrev pub Ended : {I : Type 0} → (I → List Float) → Window I → Type 0
Ended of w = length (framed w.next) < w.channels.count → of w.input ≡ []

-- A step keeps to that.
abbrev pub EndsOn : {I : Type 0} → (I → List Float) → Window I → Window I → Type 0
EndsOn of v w = Ended of v → Ended of w
