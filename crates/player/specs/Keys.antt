-- The calls that keys ask for.
use Rattle.std.specs.Prelude.{ℕ, ◌-◌, cond, List, Some, None, Option, ◌==◌}
use Rattle.std.specs.List.{filter_map}
use Rattle.common.specs.Formats.{within}
use Rattle.law.specs.declared.Call.{Call}
use Rattle.law.specs.declared.Call.TheVariants.{Add, Next}

-- The bytes of `n`, `0` and `9`.
abbrev pub key_n : ℕ
key_n = 110

abbrev pub key_0 : ℕ
key_0 = 48

abbrev pub key_9 : ℕ
key_9 = 57

-- A digit asks for an add of that number, `n` for a next, and any other key for nothing.
abbrev pub asked : ℕ → Option Call
asked k = cond (k == key_n) (Some Next) (cond (within key_0 key_9 k) (Some (Add (k - key_0))) None)

abbrev pub all_asked : List ℕ → List Call
all_asked = filter_map asked
