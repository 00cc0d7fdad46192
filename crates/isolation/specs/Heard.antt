-- That the law of isolation speaks of something: sources that are alike but for one channel, and are told apart there.
use Rattle.std.specs.Prelude.{◌≡◌, ◌%◌, List, map}
use Rattle.source.specs.Spans.{Span}
use Rattle.uniform.specs.Uniform.{uniform}
use Rattle.law.specs.declared.Call.{Call}
use Rattle.law.specs.declared.Call.TheVariants.{Next}
use Rattle.law.specs.Mixing.{answers, reply}
use Rattle.isolation.specs.Isolation.{Like}

-- Two stereo sources that differ in the second channel alone, and calls after which the answer in that channel differs.
pub record HeardThere : Type 0 where
  pub ps : List (List Span)
  pub qs : List (List Span)
  pub like : Like 0 1 ps qs
  pub calls : List Call
  pub channel : answers calls % 2 ≡ 1
  pub differ : reply 2 (map (uniform 2 2) ps) calls Next ≡ reply 2 (map (uniform 2 2) qs) calls Next → ⊥
