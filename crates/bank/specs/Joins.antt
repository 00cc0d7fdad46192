-- The lists of a bank that a source was joined to. `below` and `of` say what the bank and the source mean.
use Rattle.std.specs.Prelude.{List, Float}
use Rattle.source.specs.Meanings.{Meaning, samples_of}
use Rattle.uniform.specs.Streams.{uniform_meaning}
use Rattle.bank.specs.Banks.{with_list}
use Rattle.bank.specs.declared.joined.Joined.{Joined}

-- The bank's lists, and then the samples that the source's uniform stream has left.
abbrev pub lists_of : {B S : Type 0} → (B → List (List Float)) → (S → Meaning) → Joined B S → List (List Float)
lists_of below of j = with_list (below j.bank) (samples_of (uniform_meaning of j.last))
