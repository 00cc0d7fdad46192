-- Which numbers make a format, and which fault is named where they make none.
use Rattle.std.specs.Prelude.{ℕ, Bool, false, cond, Ok, Err, Result, nat_le}
use Rattle.common.specs.Limits.{max_channels, max_rate}
use Rattle.common.specs.declared.refusal.FormatRefusal.{FormatRefusal}
use Rattle.common.specs.declared.refusal.FormatRefusal.TheVariants.{RateOutOfRange, ChannelsOutOfRange}
use Rattle.common.specs.declared.format.ChannelCount.{ChannelCount}
use Rattle.common.specs.declared.format.SampleRate.{SampleRate}
use Rattle.common.specs.declared.format.Format.{Format}

-- Whether n lies between two limits, both allowed.
abbrev pub within : ℕ → ℕ → ℕ → Bool
within low high n = cond (nat_le low n) (nat_le n high) false

-- A channel count is taken from 1 to the limit, and refused elsewhere.
abbrev pub channels_judged : ℕ → Result ℕ FormatRefusal
channels_judged c = cond (within 1 max_channels c) (Ok c) (Err ChannelsOutOfRange)

-- A rate is taken from 1 to the limit, and refused elsewhere.
abbrev pub rate_judged : ℕ → Result ℕ FormatRefusal
rate_judged r = cond (within 1 max_rate r) (Ok r) (Err RateOutOfRange)

-- Both have to be taken; the channels are judged first.
abbrev pub format_judged : ℕ → ℕ → Result (ℕ × ℕ) FormatRefusal
format_judged c r = cond (within 1 max_channels c) (cond (within 1 max_rate r) (Ok (c, r)) (Err RateOutOfRange)) (Err ChannelsOutOfRange)

-- The number in an answer.
abbrev pub count_of : Result ChannelCount FormatRefusal → Result ℕ FormatRefusal
count_of (Ok c) = Ok c.count
count_of (Err e) = Err e

abbrev pub rate_of : Result SampleRate FormatRefusal → Result ℕ FormatRefusal
rate_of (Ok r) = Ok r.rate
rate_of (Err e) = Err e

-- The two numbers in an answer.
abbrev pub numbers_of : Result Format FormatRefusal → Result (ℕ × ℕ) FormatRefusal
numbers_of (Ok f) = Ok (f.channels.count, f.rate.rate)
numbers_of (Err e) = Err e
