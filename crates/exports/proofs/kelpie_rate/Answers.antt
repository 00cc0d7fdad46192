-- The numbers that are taken are those handed in, and what is written is what the cells convert to by them.
use Rattle.std.proofs.Common.{◌≡◌, ℕ, ◌≤◌, List, [], ◌∷◌, map, length, Ok, Result, refl, ap, ◌∙◌, arith}
use lib.Ieee.{Float}
use Rattle.std.proofs.lemmas.Bool.{le-leb}
use Rattle.std.proofs.lemmas.Grind.{common_steps}
use Rattle.std.proofs.lemmas.List.{map-id}
use Rattle.common.specs.Formats.{rate_judged, format_judged}
use Rattle.common.specs.declared.format.Format.{Format}
use Rattle.common.specs.declared.refusal.FormatRefusal.{FormatRefusal}
use Rattle.source.specs.Meanings.{open_from, all_samples}
use Rattle.buffer.specs.Buffers.{buffer_meaning}
use Rattle.buffer.specs.Refusals.{max_cells}
use Rattle.rates.specs.Rates.{rate_converted}
use Rattle.exports.specs.Answers.{rate_answer}
use Rattle.exports.proofs.kelpie_rate.Goals as goal

open_samples : (f : Format) (xs : List Float) → all_samples (open_from f xs) ≡ xs
open_samples f [] = refl
open_samples f (x ∷ xs) = refl

taken : (from to c k l m : ℕ) (xs : List Float) → ◌≡◌ {A = Result (ℕ × ℕ) FormatRefusal} (Ok (k, l)) (format_judged c from) → Ok m ≡ rate_judged to
    → length xs ≤ max_cells → rate_converted l m k xs ≡ rate_answer from to c xs
taken from to c k l m xs e h few = grind (arith, common_steps, le-leb)

pub returns : goal.returns
returns c =
    let a = c.args in
    let xs = a.input.now in
    let f = c.in-Ok.format in
    let l = f.rate.rate in
    let k = f.channels.count in
    let m = c.in-Ok-new.to.rate in
    let spans = ap (λ b. (buffer_meaning (λ x. x) b).spans) c.new-input.ensures.answer ∙ c.in-Ok-new-2.ensures.answer.1.spans in
    let heard = c.new-4.ensures.answer ∙ ap (λ s. rate_converted l m k (all_samples s)) spans ∙ ap (rate_converted l m k) (open_samples f (map (λ x. x) xs) ∙ map-id xs) in
    let e = heard ∙ taken a.from a.to a.channels k l m xs c.in-Ok.ensures.answer c.in-Ok-new.ensures.answer c.in-Ok-new-2.ensures.answer.0 in
    let d = c.drain.ensures in
    record { answer = rw e at d.answer; cells = rw e at d.cells }
