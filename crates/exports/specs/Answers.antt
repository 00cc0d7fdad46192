-- What each conversion answers for raw numbers and a list of samples: the empty list where anything is refused.
use Rattle.std.specs.Prelude.{ℕ, Bool, false, cond, ◌&&◌, List, [], ◌∷◌, length, nat_le, Float}
use Rattle.common.specs.Formats.{within}
use Rattle.common.specs.Limits.{max_channels, max_rate}
use Rattle.source.specs.Spans.{Span}
use Rattle.buffer.specs.Refusals.{max_cells}
use Rattle.channels.specs.Channels.{channels_converted}
use Rattle.rates.specs.Rates.{rate_converted}
use Rattle.uniform.specs.Uniform.{uniform}

-- Whether a channel count, a rate, a format and a number of cells are taken.
abbrev pub good_channels : ℕ → Bool
good_channels c = within 1 max_channels c

abbrev pub good_rate : ℕ → Bool
good_rate r = within 1 max_rate r

abbrev pub good_format : ℕ → ℕ → Bool
good_format c r = good_channels c && good_rate r

abbrev pub good_cells : ℕ → Bool
good_cells n = nat_le n max_cells

-- A list, or the empty one where its making is refused.
abbrev pub unless_refused : Bool → List Float → List Float
unless_refused good ys = cond good ys []

-- One open span of these samples; there is none where there are no samples.
abbrev pub one_span : ℕ → ℕ → List Float → List Span
one_span c r [] = []
one_span c r (x ∷ xs) = record { channels = c; rate = r; known = false; samples = x ∷ xs } ∷ []

-- The uniform stream, of t channels at a rate, of one open span of samples in c channels at the rate r.
abbrev pub uniform_of_one : ℕ → ℕ → ℕ → ℕ → List Float → List Float
uniform_of_one c r t rate xs = uniform t rate (one_span c r xs)

-- Samples in frames of `from` channels, converted to frames of `to`.
abbrev pub channels_answer : ℕ → ℕ → List Float → List Float
channels_answer from to xs = unless_refused (good_channels from && good_channels to && good_cells (length xs)) (channels_converted from to xs)

-- Samples in frames of c channels, converted from a rate to another.
abbrev pub rate_answer : ℕ → ℕ → ℕ → List Float → List Float
rate_answer from to c xs =
    unless_refused (good_format c from && good_rate to && good_cells (length xs)) (rate_converted from to c xs)

-- Samples in c channels at the rate r, converted to t channels at another rate.
abbrev pub uniform_answer : ℕ → ℕ → ℕ → ℕ → List Float → List Float
uniform_answer c r t rate xs =
    unless_refused (good_format c r && good_format t rate && good_cells (length xs)) (uniform_of_one c r t rate xs)
