-- Each turn takes one cell over and fills it with the next sample, if there is one.
use Rattle.std.proofs.Common.{◌≡◌, suc, ◌+◌, ◌<◌, ◌≤◌, [], ◌∷◌, ◌++◌, length, get_or, take, drop, set, sym, ap, ◌∙◌, add-one, arith, length-set, length-take, take_all, take-suc-set, rules}
use lib.Ieee.{nan}
use Rattle.source.specs.Samples.{first, rest}
use Rattle.source.proofs.Draws.{rest-drop}
use Rattle.frames.specs.declared.frame.Frame.{Frame}
use Rattle.frames.proofs.Heads.{Here, here, over}
use Rattle.frames.proofs.Shifts.{taken_on, kept_on, kept_past}
use Rattle.frames.proofs.frame.Frame.shift.Goals as goal
use Rattle.frames.proofs.frame.Frame.shift.Goals.{in-Some, in_default}

pub loop-i-preserved : goal.loop-i-preserved
loop-i-preserved g c =
    let xs = g.I.Samples.samples c.args.input.now in
    let i = c.loop-i.i in
    let v = c.loop-i.invariant in
    let a = c.loop-i.self.samples in
    let b = c.loop-i.next.samples in
    let o = c.args.next.now.samples in
    let y = get_or b i nan in
    let small : i < 8 = omega (arith, c.loop-i-test.true, c.args.next.now.within) in
    let took = taken_on i a b o small v.0 v.1 v.3 nan v.2 in
    let gone = c.next.ensures.after ∙ ap rest v.6 ∙ rest-drop i xs in
    let came = c.next.ensures.answer ∙ ap first v.6 in
    elim c.match-next.branch [
      | in-Some w ↦
          let x = w.in-Some.x in
          let h : Here xs i x = here xs i x (sym w.in-Some.is ∙ came) in
          let cells : c.match-next.next.samples ≡ set b i x = ap (λ (f : Frame). f.samples) w.next-is in
          let lt : i < length b = omega (arith, v.1) in
          let r : c.loop-i.read ≡ i = omega (arith, v.4, h.less) in
          let front : take (suc i) (set b i x) ≡ take (suc i) xs = take-suc-set b i x lt ∙ ap (λ l. l ++ (x ∷ [])) (ap (λ n. take n b) (sym r) ∙ v.5) ∙ sym h.front in (
            length-set a i y ∙ v.0,
            ap length cells ∙ length-set b i x ∙ v.1,
            took,
            ap (drop (i + 1)) cells ∙ kept_past i a b o small v.0 v.1 v.3 x,
            omega (arith, w.read-is, h.less),
            ap (λ l. take c.match-next.read l) cells ∙ ap (λ n. take n (set b i x)) w.read-is ∙ rw add-one front,
            gone,
            c.next.ensures.same ∙ v.7,
          )
      | in_default w ↦
          let e : length xs ≤ i = over xs i (sym w.in_default.is ∙ came) in
          let cells : c.match-next.next.samples ≡ b = ap (λ (f : Frame). f.samples) w.next-is in (
            length-set a i y ∙ v.0,
            ap length cells ∙ v.1,
            took,
            ap (drop (i + 1)) cells ∙ kept_on i a b o small v.0 v.1 v.3,
            omega (arith, w.read-is, v.4),
            ap (λ l. take c.match-next.read l) cells ∙ ap (λ n. take n b) w.read-is ∙ v.5 ∙ take_all i xs e ∙ sym (take_all (i + 1) xs (omega arith)),
            gone,
            c.next.ensures.same ∙ v.7,
          )
    ]

pub returns : goal.returns
returns g c =
    let xs = g.I.Samples.samples c.args.input.now in
    let i = c.loop-i.i in
    let v = c.loop-i.invariant in
    let o = c.args.next.now.samples in
    let n = c.args.next.now.len in
    let all : i ≡ n = omega arith in
    let size : length o ≡ 8 = search rules in
    let long : n ≡ length (take n o) = sym (length-take n o ∙ omega (arith, size, c.args.next.now.within)) in
    record {
      taken = ap (λ k. take k c.loop-i.self.samples) (sym all) ∙ v.2 ∙ ap (λ k. take k o) all;
      filled = v.5 ∙ ap (λ k. take k xs) (all ∙ long);
      after = v.6 ∙ ap (λ k. drop k xs) (all ∙ long);
      same = v.7;
    }
