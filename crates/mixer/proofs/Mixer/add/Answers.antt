-- An add past the count is refused, and any other is the table's.
use Rattle.std.proofs.Common.{◌≡◌, ℕ, ◌%◌, ◌<◌, ◌≤◌, false, ltb, length, sym, ap, ◌∙◌, refl, arith}
use Rattle.std.proofs.lemmas.Bool.{le-ltb}
use Rattle.law.specs.declared.Reply.TheVariants.{Add as AddReply}
use Rattle.law.proofs.Histories.{answers_add}
use Rattle.mixer.proofs.Adds.{rests_refused}
use Rattle.mixer.proofs.Mixer.add.Goals as goal

pub returns-then-number-count-clause-law : goal.returns-then-number-count-clause-law
returns-then-number-count-clause-law g c m made h f =
    let i = c.args.number in
    let x = c.args.self.now in
    let past : ltb i (length made) ≡ false = le-ltb i (length made) (omega (arith, c.if-number-count.true, c.count.ensures.answer, f.table.count)) in (
      simp past refl,
      record {
        channels = f.channels;
        phase = f.phase ∙ ap (λ (q : ℕ). q % m) (sym (answers_add h i));
        table = rests_refused m made h i x.table.places x.table.order.items (g.B.Bank.lists x.bank) f.table (simp past refl);
      },
    )

pub returns-clause-law : goal.returns-clause-law
returns-clause-law g c m made h f =
    let i = c.args.number in
    let x = c.args.self.now in
    let below : i < length made = omega (arith, c.if-number-count.false, c.count.ensures.answer, f.table.count) in
    let few : length made ≤ 16 = omega (arith, c.count.ensures.answer, c.count.ensures.bound, f.table.count) in
    let r = c.add.ensures.law m made (g.B.Bank.lists x.bank) h (omega (arith, x.channels.low, f.channels)) below few f.table in (
      ap AddReply r.0,
      record { channels = f.channels; phase = f.phase ∙ ap (λ (q : ℕ). q % m) (sym (answers_add h i)); table = r.1 },
    )
