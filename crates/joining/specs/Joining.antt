-- A bank's lists once sources are joined to it.
use Rattle.std.specs.Prelude.{◌-◌, List, ◌++◌, map, length, take, Some, None, Option, Float}
use Rattle.common.specs.declared.format.Format.{Format}
use Rattle.source.specs.Meanings.{Spans, Meaning}
use Rattle.source.specs.Spans.{listed}
use Rattle.uniform.specs.Uniform.{uniform}
use Rattle.bank.specs.Banks.{most_lists}

-- A source's spans as they are heard in a format: their uniform stream.
abbrev pub heard : Format → Spans → List Float
heard f ss = uniform f.channels.count f.rate.rate (listed ss)

-- The lists, and then the sources in order, by their spans, each as it is heard in the format, while there is a number left.
abbrev pub with_sources : Format → List (List Float) → List Spans → List (List Float)
with_sources f ls sources = ls ++ take (most_lists - length ls) (map (heard f) sources)

-- The spans of a source, where there is one.
abbrev pub spans_of : {S : Type 0} → (S → Meaning) → Option S → Option Spans
spans_of of None = None
spans_of of (Some s) = Some (of s).spans
