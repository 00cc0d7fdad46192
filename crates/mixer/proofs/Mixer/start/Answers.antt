-- At phase 0 a frame begins, and elsewhere nobody waits for this answer.
use Rattle.std.proofs.Common.{◌%◌, Bool, cond, List, sym, ap, ◌∙◌, arith}
use Rattle.std.proofs.Math.ListN.{get_or-map}
use Rattle.std.proofs.lemmas.Bool.{eq-eqb, ne_eqb}
use Rattle.law.specs.Mixing.{answers}
use Rattle.mixer.specs.declared.table.Place.{Place}
use Rattle.mixer.specs.Places.{idle, begun, started}
use Rattle.mixer.proofs.Stepping.{state_at, opened}
use Rattle.mixer.proofs.Mixer.start.Goals as goal

pub returns-then-self-eq-FRAME_START-clause-law : goal.returns-then-self-eq-FRAME_START-clause-law
returns-then-self-eq-FRAME_START-clause-law g c m made h f =
    let x = c.args.self.now in
    let ps = x.table.places in
    let e = c.start.ensures in
    opened m (omega (arith, x.channels.low, f.channels)) made h ps c.start.new.self.places c.start.new.self.order.items (g.B.Bank.lists x.bank) (rw e.order f.table)
    (λ i. ap (λ (qs : List Place). state_at qs i) e.places ∙ ap (λ (p : Place). p.state) (get_or-map begun ps i idle)
    ∙ sym (ap (λ (b : Bool). cond b (started (state_at ps i)) (state_at ps i)) (eq-eqb (answers h % m) 0 (sym f.phase ∙ c.if-self-eq-FRAME_START.true))))

pub returns-else-self-eq-FRAME_START-clause-law : goal.returns-else-self-eq-FRAME_START-clause-law
returns-else-self-eq-FRAME_START-clause-law g c m made h f =
    let x = c.args.self.now in
    let ps = x.table.places in
    opened m (omega (arith, x.channels.low, f.channels)) made h ps ps x.table.order.items (g.B.Bank.lists x.bank) f.table
    (λ i. sym (ap (λ (b : Bool). cond b (started (state_at ps i)) (state_at ps i)) (ne_eqb (answers h % m) 0 (λ z. c.if-self-eq-FRAME_START.false (f.phase ∙ z)))))
