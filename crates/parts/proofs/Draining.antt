-- One answer more in the cells.
use Rattle.std.proofs.Common.{◌≡◌, ℕ, ◌+◌, ◌<◌, List, length, get_or, drop, set, Some, sym, ap, ◌∙◌, subst, inl, inr, arith}
use lib.Ieee.{Float}
use Rattle.std.proofs.lemmas.List.{get_or-set_same, get_or-set_other, drop-set-lt}
use Rattle.std.proofs.lemmas.Bool.{cases_eq}
use Rattle.source.specs.Samples.{rest, silence}
use Rattle.source.proofs.Draws.{rest-drop}
use Rattle.law.specs.declared.Call.TheVariants.{Next}
use Rattle.law.specs.declared.Reply.{Reply}
use Rattle.law.specs.declared.Reply.TheVariants.{Next as NextReply}
use Rattle.law.specs.Mixing.{reply}
use Rattle.parts.specs.Sums.{begun}

abbrev sample : Float → Reply
sample x = NextReply (Some x)

module _ (m : ℕ) (made : List (List Float)) (before : List Float) where
  -- the first i answers stand in the cells, and those behind are as they were
  abbrev pub Written : ℕ → List Float → Type 0
  Written i out = ((j : ℕ) → j < i → reply m made (begun (length made) j) Next ≡ sample (get_or out j silence)) × (drop i out ≡ drop i before)

  pub written_more : (i : ℕ) (out : List Float) (x : Float) → i < length out → Written i out →
      sample x ≡ reply m made (begun (length made) i) Next → Written (i + 1) (set out i x)
  written_more i out x lt w e = (
    λ j l. elim (cases_eq j i) [
      | inl same ↦ subst (λ (k : ℕ). reply m made (begun (length made) k) Next ≡ sample (get_or (set out i x) k silence)) (sym same)
          (sym e ∙ ap sample (sym (get_or-set_same out i x silence lt)))
      | inr other ↦ w.0 j (omega arith) ∙ ap sample (sym (get_or-set_other out i j x silence other))
    ],
    drop-set-lt (i + 1) out i x (omega arith) ∙ sym (rest-drop i out) ∙ ap rest w.1 ∙ rest-drop i before,
  )
