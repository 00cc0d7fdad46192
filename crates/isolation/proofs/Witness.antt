-- Sources that are alike but for the second channel, and answers that differ there.
use Rattle.std.proofs.Common.{◌≡◌, ℕ, zero, suc, ◌%◌, false, List, [], ◌∷◌, map, get_or, pos, Some, None, sym, refl, ap, ◌∙◌, arith}
use lib.Ieee.{Float, nan, inf, fin, binary32, of_int, add, round, sum, units, odd, sub, mul, div, neg, size, span, climb}
use lib.Count.{count_trailing_zeros}
use Rattle.law.specs.Mixing.{reply}
use Rattle.law.specs.declared.Call.{Call}
use Rattle.law.specs.declared.Call.TheVariants.{Add, Next}
use Rattle.law.specs.declared.Reply.{Reply}
use Rattle.law.specs.declared.Reply.TheVariants.{Add as AddReply, Next as NextReply}
use Rattle.source.specs.Samples.{silence}
use Rattle.source.specs.Spans.{Span}
use Rattle.uniform.specs.Uniform.{uniform}
use Rattle.isolation.specs.Heard.{HeardThere}
use Rattle.isolation.specs.Isolation.{Like}

-- whole numbers as samples
abbrev n : ℕ → Float
n k = of_int binary32 (pos k)

abbrev ns : List ℕ → List Float
ns = map n

abbrev open_stereo : List Float → List Span
open_stereo xs = record { channels = 2; rate = 1; known = false; samples = xs } ∷ []

abbrev ps : List (List Span)
ps = open_stereo (ns (1 ∷ 2 ∷ 3 ∷ 4 ∷ [])) ∷ []

abbrev qs : List (List Span)
qs = open_stereo (ns (1 ∷ 6 ∷ 3 ∷ 8 ∷ [])) ∷ []

same_but : (a b c d e f : Float) (i : ℕ) → (i % 2 ≡ 1 → ⊥) → get_or (a ∷ b ∷ c ∷ d ∷ []) i silence ≡ get_or (a ∷ e ∷ c ∷ f ∷ []) i silence
same_but a b c d e f zero m = refl
same_but a b c d e f (suc zero) m = absurd (m refl)
same_but a b c d e f (suc (suc zero)) m = refl
same_but a b c d e f (suc (suc (suc zero))) m = absurd (m refl)
same_but a b c d e f (suc (suc (suc (suc i)))) m = refl

alike : Like 0 1 ps qs
alike = record {
  as_many = refl;
  others = λ i k. go i k;
  values = (record { one_format = (refl, refl); as_long = refl; elsewhere = λ i l m. same_but _ _ _ _ _ _ i m }, tt);
  whole = ((omega arith, refl), tt);
}
  where
    go : (i : ℕ) → (i ≡ 0 → ⊥) → get_or ps i [] ≡ get_or qs i []
    go zero k = absurd (k refl)
    go (suc i) k = refl

abbrev calls : List Call
calls = Next ∷ Add 0 ∷ Next ∷ Next ∷ Next ∷ Next ∷ []

abbrev at : List (List Span) → Reply
at ss = reply 2 (map (uniform 2 2) ss) calls Next

left : at ps ≡ NextReply (Some (n 3))
unfolding of_int round sum units odd add sub mul div neg size span climb count_trailing_zeros
left = refl

right : at qs ≡ NextReply (Some (n 7))
unfolding of_int round sum units odd add sub mul div neg size span climb count_trailing_zeros
right = refl

-- the digits of a reply, by which two samples are told apart
digits : Reply → ℕ
digits (NextReply (Some x)) = elim x as (λ _. ℕ) [ nan ↦ 0 | inf s ↦ 0 | fin s m e ↦ m ]
digits (NextReply None) = 0
digits (AddReply a) = 0

three : digits (NextReply (Some (n 3))) ≡ 3
unfolding digits of_int round sum units odd add sub mul div neg size span climb count_trailing_zeros
three = refl

seven : digits (NextReply (Some (n 7))) ≡ 7
unfolding digits of_int round sum units odd add sub mul div neg size span climb count_trailing_zeros
seven = refl

pub heard_there_lem : HeardThere
heard_there_lem = record {
  ps = ps;
  qs = qs;
  like = alike;
  calls = calls;
  channel = refl;
  differ = λ e. omega (arith, sym three ∙ ap digits (sym left ∙ e ∙ right) ∙ seven);
}
