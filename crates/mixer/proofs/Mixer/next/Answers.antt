-- The table gives the law's sum, and the phase goes on.
use Rattle.std.proofs.Common.{ℕ, suc, ◌%◌, sym, ap, ◌∙◌}
use Rattle.law.specs.declared.Reply.TheVariants.{Next as NextReply}
use Rattle.law.specs.Mixing.{answers}
use Rattle.law.proofs.Histories.{answers_next}
use Rattle.mixer.proofs.Answering.{rests_next}
use Rattle.mixer.proofs.Mixer.next.Goals as goal

pub returns-clause-law : goal.returns-clause-law
returns-clause-law g c m made h f =
    let e = c.start.ensures in
    let r = c.turns-sum.ensures.law m made h (e.law m made h f) in
    let channels = ap (λ n. n.count) e.channels ∙ f.channels in (
      ap NextReply r.0,
      record {
        channels = channels;
        phase = c.phase_after-phase.ensures.answer (answers h) (e.phase ∙ f.phase ∙ ap (λ (n : ℕ). answers h % n) (sym channels))
            ∙ ap (λ (n : ℕ). suc (answers h) % n) channels ∙ ap (λ (q : ℕ). q % m) (sym (answers_next h));
        table = rests_next m made h c.turns-sum.new.self.places c.turns-sum.new.self.order.items (g.B.Bank.lists c.turns-sum.new.bank) r.1;
      },
    )
