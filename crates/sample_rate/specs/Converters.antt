-- What a converter has yet to give, and how far it has read its input; `of` says what its input has.
use Rattle.std.specs.Prelude.{◌≡◌, ℕ, ◌+◌, ◌/◌, true, List, drop, is_some, Option, ◌≢◌, Float}
use Rattle.rates.specs.Rates.{gcd}
use Rattle.rates.specs.Walks.{rate_left}
use Rattle.resampler.specs.Resamplers.{remaining, Drawn}
use Rattle.resampler.specs.declared.Resampler.{Resampler}
use Rattle.sample_rate.specs.declared.way.Way.{Way}
use Rattle.sample_rate.specs.declared.way.Way.TheVariants.{Same, Between}
use Rattle.sample_rate.specs.declared.SampleRateConverter.{SampleRateConverter}

-- What either way has yet to give.
abbrev pub given_by : {I : Type 0} → (I → List Float) → Way I → List Float
given_by of (Same input) = of input
given_by of (Between r) = remaining of r

-- What a converter has yet to give.
abbrev pub converted : {I : Type 0} → (I → List Float) → SampleRateConverter I → List Float
converted of s = given_by of s.way

-- The input that either way reads from.
abbrev pub input_of : {I : Type 0} → Way I → I
input_of (Same input) = input
input_of (Between r) = r.window.input

-- The input that a converter reads from.
abbrev pub inner : {I : Type 0} → SampleRateConverter I → I
inner s = input_of s.way

-- A resampler from rate a to rate b, both divided by their greatest common divisor.
pub record Reduced {I : Type 0} (a b c : ℕ) (r : Resampler I) : Type 0 where
  pub from : r.pace.from ≡ a / gcd a b
  pub to : r.pace.to ≡ b / gcd a b
  pub channels : r.window.channels.count ≡ c

-- Either way over the samples xs, m output samples on.
abbrev pub GivenBy : {I : Type 0} → (I → List Float) → ℕ → ℕ → ℕ → List Float → ℕ → Way I → Type 0
GivenBy of from to c xs m (Same input) = (from ≡ to) × (of input ≡ drop m xs)
GivenBy of from to c xs m (Between r) = (from ≢ to) × Reduced from to c r × Drawn of xs m r

-- A converter that was made over the samples xs and has given m samples, and has not met the end.
abbrev pub Given : {I : Type 0} → (I → List Float) → ℕ → ℕ → ℕ → List Float → ℕ → SampleRateConverter I → Type 0
Given of from to c xs m s = GivenBy of from to c xs m s.way

-- One call on, it has given one sample more, where it answered a sample.
abbrev pub GivesOn : {I : Type 0} → (I → List Float) → SampleRateConverter I → Option Float → SampleRateConverter I → Type 0
GivesOn of s r t = (from to c : ℕ) (xs : List Float) (m : ℕ) → Given of from to c xs m s → is_some r ≡ true → Given of from to c xs (m + 1) t

-- What is left of its input, however many samples it has given.
abbrev pub LeavesInput : {I : Type 0} → (I → List Float) → SampleRateConverter I → I → Type 0
LeavesInput of s r = (from to c : ℕ) (xs : List Float) (m : ℕ) → Given of from to c xs m s → of r ≡ rate_left from to c xs m
