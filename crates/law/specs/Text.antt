-- What is printed of a reply.
use Rattle.std.specs.Prelude.{ℕ, ◌-◌, false, List, ◌++◌, length, replicate, codes, Some, None, Ok, Err}
use Rattle.std.specs.Float.{binary32}
use Rattle.std.specs.Float.Ieee.{to_bits}
use Rattle.std.specs.Fmt.{digits, decimal}
use Rattle.law.specs.declared.Reply.{Reply}
use Rattle.law.specs.declared.Reply.TheVariants.{Add, Next}
use Rattle.law.specs.Numbers.{number_of}

-- A number in eight hexadecimal digits.
abbrev pub eight_digits : ℕ → List ℕ
eight_digits n = let ds = digits 16 false n in replicate (8 - length ds) 48 ++ ds

-- For an add 0 or the number of the refusal; for a next the sample's bits or `end`.
abbrev pub reply_text : Reply → List ℕ
reply_text (Add (Ok u)) = codes "0"
reply_text (Add (Err r)) = decimal (number_of r)
reply_text (Next None) = codes "end"
reply_text (Next (Some x)) = eight_digits (to_bits binary32 x)
