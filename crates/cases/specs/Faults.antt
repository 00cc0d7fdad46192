-- What is printed where a case has no answer.
use Rattle.std.specs.Prelude.{ℕ, List, ◌++◌, codes}
use Rattle.std.specs.Fmt.{decimal}
use Rattle.common.specs.Refusals.{format_number}
use Rattle.buffer.specs.Refusals.{buffer_number}
use Rattle.cases.specs.declared.fault.Fault.{Fault}
use Rattle.cases.specs.declared.fault.Fault.TheVariants.{Format, Buffer, NotText, NoSuchWord, WrongFields, NotANumber, NotASample}
use Rattle.cases.specs.declared.fault.Fault.TheVariants.{ListTooLong, NotASource, NoSuchFormat, EmptySpan, OpenSpanNotLast, NotACall, Memory}

-- A refusal by its number, and any other fault in words.
abbrev pub fault_text : Fault → List ℕ
fault_text (Format refusal) = codes "refused " ++ decimal (format_number refusal)
fault_text (Buffer refusal) = codes "refused " ++ decimal (buffer_number refusal)
fault_text NotText = codes "? the line is no text"
fault_text NoSuchWord = codes "? no such word"
fault_text WrongFields = codes "? more or fewer fields than the word has"
fault_text NotANumber = codes "? a number is not written in decimal digits, or is too large"
fault_text NotASample = codes "? a sample is not written in eight hexadecimal digits"
fault_text ListTooLong = codes "? a list is longer than 16777217 samples"
fault_text NotASource = codes "? a source is not written TOTAL;REST;SPAN;SPAN.."
fault_text NoSuchFormat = codes "? a source has a format outside the limits"
fault_text EmptySpan = codes "? a source has an empty span"
fault_text OpenSpanNotLast = codes "? a source has an open span that is not its last"
fault_text NotACall = codes "? a call is not written n, or a and a number"
fault_text Memory = codes "? not enough memory"
