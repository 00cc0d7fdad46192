-- The limits on formats and durations, each named once.
use Rattle.std.specs.Prelude.{ℕ, ◌^◌}

-- A format has at most this many channels.
abbrev pub max_channels : ℕ
max_channels = 8

-- A format has at most this many frames in a second.
abbrev pub max_rate : ℕ
max_rate = 65536

-- A duration is below this many nanoseconds.
abbrev pub duration_end : ℕ
duration_end = 2 ^ 64
