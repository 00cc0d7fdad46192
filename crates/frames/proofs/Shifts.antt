-- One cell taken over from a frame and filled anew.
use Rattle.std.proofs.Common.{◌≡◌, ℕ, ◌+◌, ◌<◌, List, [], ◌∷◌, ◌++◌, length, get_or, take, drop, set, sym, ap, ◌∙◌, ap₂, arith, length-drop}
use lib.Ieee.{Float}
use Rattle.std.proofs.lemmas.List.{get_or-drop, drop-drop, drop-set-lt, take_more, take_more_set}

module _ (i : ℕ) (a b o : List Float) (small : i < 8) (la : length a ≡ 8) (lb : length b ≡ 8) (kept : drop i b ≡ drop i o) where
  -- the cell at i goes over
  pub taken_on : (d : Float) → take i a ≡ take i o → take (i + 1) (set a i (get_or b i d)) ≡ take (i + 1) o
  taken_on d e =
      let room : i < length a = omega arith in
      let within : i < length o = omega (arith, length-drop i b, length-drop i o, ap length kept) in
      let z : i + 0 ≡ i = omega arith in
      let same : get_or b i d ≡ get_or o i d =
      ap (λ n. get_or b n d) (sym z) ∙ sym (get_or-drop i b 0 d) ∙ ap (λ l. get_or l 0 d) kept ∙ get_or-drop i o 0 d ∙ ap (λ n. get_or o n d) z in
      take_more_set a i (get_or b i d) room ∙ ap₂ (λ l x. l ++ x ∷ []) e same ∙ sym (take_more o i d within)

  -- the cells behind it stay
  pub kept_on : drop (i + 1) b ≡ drop (i + 1) o
  kept_on = sym (drop-drop 1 i b) ∙ ap (drop 1) kept ∙ drop-drop 1 i o

  pub kept_past : (x : Float) → drop (i + 1) (set b i x) ≡ drop (i + 1) o
  kept_past x = drop-set-lt (i + 1) b i x (omega arith) ∙ kept_on
