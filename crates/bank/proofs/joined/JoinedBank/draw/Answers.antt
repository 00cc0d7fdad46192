-- The last number draws from the source, any other from the bank below.
use Rattle.std.proofs.Common.{◌≡◌, ◌<◌, [], length, get_or, sym, refl, ap, ◌∙◌, inl, inr, arith}
use Rattle.source.specs.Meanings.{samples_of}
use Rattle.source.specs.Samples.{first}
use Rattle.uniform.specs.Streams.{uniform_meaning, left_of}
use Rattle.bank.specs.Banks.{most_lists, with_list, drawn_at}
use Rattle.bank.proofs.Banking.{Other, own_at, own_drawn, other_at, other_drawn, own_streams, stream_drawn}
use Rattle.bank.proofs.joined.JoinedBank.draw.Goals as goal
use Rattle.bank.proofs.joined.JoinedBank.draw.Goals.{else-i-n-via-then-i-n+else-n-lt-MOST_LISTS, else-i-n-via-else-i-n}

pub returns-then-n-lt-MOST_LISTS : goal.returns-then-n-lt-MOST_LISTS
returns-then-n-lt-MOST_LISTS g c =
    let j = c.args.self.now in
    let ls = g.B.Bank.lists j.bank in
    let of = g.S.Source.meaning in
    let l = samples_of (uniform_meaning of j.last) in
    let e : c.args.i ≡ length ls = c.if-i-n.true ∙ c.count-n.ensures.answer in
    let h : length ls < most_lists = omega arith in
    let left = ap samples_of c.next.ensures.after ∙ stream_drawn j.last.format (left_of of j.last) in
    record {
      answer = c.next.ensures.answer ∙ ap first (sym (ap (λ i. get_or (with_list ls l) i []) e ∙ own_at ls l h));
      after = ap (with_list ls) left ∙ own_drawn ls l h ∙ ap (drawn_at (with_list ls l)) (sym e);
      same = refl;
      law = own_streams _ _;
    }

pub returns-else-i-n : goal.returns-else-i-n
returns-else-i-n g c =
    let j = c.args.self.now in
    let ls = g.B.Bank.lists j.bank in
    let l = samples_of (uniform_meaning g.S.Source.meaning j.last) in
    let o : Other c.args.i ls = elim c.else-i-n.branch [
      | else-i-n-via-then-i-n+else-n-lt-MOST_LISTS w ↦ inr (omega (arith, w.if-n-lt-MOST_LISTS.false))
      | else-i-n-via-else-i-n w ↦ inl (λ e. w.if-i-n.false (e ∙ sym c.count-n.ensures.answer))
    ] in
    record {
      answer = c.draw.ensures.answer ∙ ap first (sym (other_at ls l c.args.i o));
      after = ap (λ ks. with_list ks l) c.draw.ensures.after ∙ other_drawn ls l c.args.i o;
      same = c.draw.ensures.same;
      law = own_streams _ _;
    }
