-- One answer more is written, or the end is met.
use Rattle.std.proofs.Common.{length, sym, refl, ap, ◌∙◌, add-one, arith}
use Rattle.std.proofs.lemmas.List.{drop_all, set-get_or}
use Rattle.law.specs.declared.Reply.TheVariants.{Next as NextReply}
use Rattle.parts.specs.Sums.{begun}
use Rattle.parts.proofs.Draining.{written_more}
use Rattle.parts.proofs.mixing.drain.Goals as goal

pub loop-i-init : goal.loop-i-init
loop-i-init g c m made f = ((λ j l. absurd (omega arith), refl), f)

pub loop-i-preserved : goal.loop-i-preserved
loop-i-preserved g c m made f =
    let i = c.loop-i.i in
    let v = c.loop-i.invariant m made f in
    let q = c.next.ensures.law m made (begun (length made) i) v.1 in (
      written_more m made c.args.out.now i c.loop-i.out c.in-Some.sample (omega arith) v.0 (ap NextReply (sym c.in-Some.is) ∙ q.0),
      rw (add-one i) q.1,
    )

pub returns-in-None : goal.returns-in-None
returns-in-None g c = record {
  law = λ m made f.
      let i = c.loop-i.i in
      let v = c.loop-i.invariant m made f in
      let q = c.next.ensures.law m made (begun (length made) i) v.1 in
      rw set-get_or (record {
        within = omega arith;
        answers = v.0.0;
        ended = λ l. sym (ap NextReply (sym c.in-None.is) ∙ q.0);
        kept = v.0.1;
        as_long = c.loop-i.auto.out;
      });
}

pub returns : goal.returns
returns g c = record {
  law = λ m made f.
      let v = c.loop-i.invariant m made f in
      record {
        within = omega arith;
        answers = λ j l. v.0.0 j (omega (arith, c.loop-i-test.false));
        ended = λ l. absurd (omega arith);
        kept = drop_all _ c.loop-i.out (omega arith) ∙ sym (drop_all _ c.args.out.now (omega (arith, c.loop-i.auto.out)));
        as_long = c.loop-i.auto.out;
      };
}
