-- The figures that can be checked by hand, as a list.
use Rattle.std.specs.Prelude.{◌≡◌, ℕ, false, List, [], ◌∷◌, map, Some, None, Ok, Err, pos, negsuc, Float}
use Rattle.std.specs.Float.{binary32, fin}
use Rattle.std.specs.Float.Ieee.{of_int}
use Rattle.source.specs.Samples.{silence}
use Rattle.rates.specs.Rates.{rate_converted}
use Rattle.channels.specs.Channels.{channels_converted}
use Rattle.law.specs.declared.Call.{Call}
use Rattle.law.specs.declared.Call.TheVariants.{Add, Next}
use Rattle.law.specs.declared.Reply.{Reply}
use Rattle.law.specs.declared.Reply.TheVariants.{Add as AddReply, Next as NextReply}
use Rattle.law.specs.declared.refusal.AddRefusal.TheVariants.{AlreadyAdded}
use Rattle.law.specs.Mixing.{replies}

-- A figure: what goes into a conversion, or which calls are made on a mixer over which lists, and what comes out.
pub data Figure : Type 0 where
  rate : (from to channels : ℕ) → List Float → List Float → Figure
  channel : (from to : ℕ) → List Float → List Float → Figure
  mix : (channels : ℕ) → List (List Float) → List Call → List Reply → Figure

-- That it comes out.
abbrev pub Holds : Figure → Type 0
Holds (rate from to c xs ys) = rate_converted from to c xs ≡ ys
Holds (channel from to xs ys) = channels_converted from to xs ≡ ys
Holds (mix m lists calls rs) = replies m lists [] calls ≡ rs

-- Whole numbers as samples.
abbrev pub wholes : List ℕ → List Float
wholes = map (λ n. of_int binary32 (pos n))

-- The samples 1, 0.5, 0.25 and 16777216.
abbrev pub one : Float
one = fin false 1 (pos 0)

abbrev pub half : Float
half = fin false 1 (negsuc 0)

abbrev pub quarter : Float
quarter = fin false 1 (negsuc 1)

abbrev pub large : Float
large = fin false 1 (pos 24)

-- What is replied to an add that is taken, and to a next.
abbrev pub added : Reply
added = AddReply (Ok tt)

abbrev pub end : Reply
end = NextReply None

abbrev pub sample : Float → Reply
sample x = NextReply (Some x)

-- The figures, in the order in which docs/RULES.md has them.
abbrev pub figures : List Figure
figures =
    rate 1 2 1 (wholes (0 ∷ 1 ∷ [])) (silence ∷ half ∷ one ∷ [])
    ∷ rate 2 3 1 (wholes (0 ∷ 3 ∷ 6 ∷ [])) (wholes (0 ∷ 2 ∷ 4 ∷ 6 ∷ []))
    ∷ rate 3 1 1 (wholes (1 ∷ 2 ∷ 3 ∷ 4 ∷ [])) (wholes (1 ∷ 4 ∷ []))
    ∷ rate 1 2 2 (wholes (0 ∷ 10 ∷ 2 ∷ 20 ∷ 4 ∷ [])) (wholes (0 ∷ 10 ∷ 1 ∷ 15 ∷ 2 ∷ 3 ∷ 4 ∷ []))
    ∷ channel 1 3 (wholes (5 ∷ [])) (wholes (5 ∷ 5 ∷ 0 ∷ []))
    ∷ channel 3 2 (wholes (1 ∷ 2 ∷ 3 ∷ 4 ∷ [])) (wholes (1 ∷ 2 ∷ 4 ∷ []))
    ∷ mix 2 ((half ∷ quarter ∷ []) ∷ []) (Next ∷ Add 0 ∷ Next ∷ Add 0 ∷ Next ∷ Next ∷ Next ∷ [])
    (end ∷ added ∷ end ∷ AddReply (Err AlreadyAdded) ∷ sample half ∷ sample quarter ∷ end ∷ [])
    ∷ mix 1 ((large ∷ []) ∷ (one ∷ []) ∷ (one ∷ []) ∷ []) (Add 0 ∷ Add 1 ∷ Add 2 ∷ Next ∷ [])
    (added ∷ added ∷ added ∷ sample large ∷ [])
    ∷ []
