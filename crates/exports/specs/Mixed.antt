-- What mixing parts of samples answers for raw numbers.
use Rattle.std.specs.Prelude.{◌≡◌, ℕ, ◌&&◌, List, [], MatchBool, Float}
use Rattle.common.specs.declared.format.Format.{Format}
use Rattle.joining.specs.Joining.{with_sources}
use Rattle.parts.specs.Cut.{parts_of}
use Rattle.parts.specs.Sums.{Summed}
use Rattle.exports.specs.Answers.{good_format}

-- The format of two numbers.
abbrev pub Numbered : ℕ → ℕ → Format → Type 0
Numbered c r f = (f.channels.count ≡ c) × (f.rate.rate ≡ r)

-- Cells `out` with k answers of a mixer, in t channels at a rate, over n parts of the samples, each of so many in c channels at the rate r.
-- Where a format is refused nothing is written.
abbrev pub MixAnswer : ℕ → ℕ → ℕ → ℕ → ℕ → ℕ → List Float → List Float → List Float → ℕ → Type 0
MixAnswer c r t rate each n input before out k =
    MatchBool (good_format c r && good_format t rate)
    ((f : Format) × (to : Format) × Numbered c r f × Numbered t rate to × Summed to.channels.count (with_sources to [] (parts_of (λ x. x) f each n input)) before out k)
    ((k ≡ 0) × (out ≡ before))
