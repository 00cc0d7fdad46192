-- The number that the panel shows for each fault of a format.
use Rattle.std.specs.Prelude.{ℕ}
use Rattle.common.specs.declared.refusal.FormatRefusal.{FormatRefusal}
use Rattle.common.specs.declared.refusal.FormatRefusal.TheVariants.{RateOutOfRange, ChannelsOutOfRange}

abbrev pub format_number : FormatRefusal → ℕ
format_number RateOutOfRange = 1
format_number ChannelsOutOfRange = 2
