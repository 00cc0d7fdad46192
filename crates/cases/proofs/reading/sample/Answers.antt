-- A plus is no digit; eight digits fit 32 bits.
use Rattle.std.proofs.Common.{◌≡◌, ℕ, ◌^◌, ◌<◌, List, [], ◌∷◌, get_or, ap, arith}
use Rattle.std.specs.Str.Parse.{IsNumeral, digits_value, without_leading_plus}
use Rattle.std.specs.Char.{digit_value}
use Rattle.std.proofs.lemmas.Int.Digits.{digits_value-lt}
use Rattle.std.proofs.lemmas.Str.Parse.{without_leading_plus_none}
use Rattle.cases.proofs.reading.sample.Goals as goal

no_plus : (w : List ℕ) → IsNumeral 16 w → get_or w 0 0 ≡ 43 → ⊥
no_plus [] n e = omega arith
no_plus (x ∷ xs) n e = omega (arith, ap digit_value e, n.1.0)

pub returns-in_default-clause-answer : goal.returns-in_default-clause-answer
returns-in_default-clause-answer c h =
    let w = c.args.word.now in
    let plain : without_leading_plus w ≡ w = without_leading_plus_none w (no_plus w h.1) in
    let small : digits_value 16 w < 2 ^ 32 = omega (arith, digits_value-lt 16 w h.1.1, ap (λ n. 16 ^ n) h.0) in
    c.in_default.ensures.value (rw plain (h.1, small))
