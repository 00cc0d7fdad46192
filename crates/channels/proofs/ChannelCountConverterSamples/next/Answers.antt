-- A call is a turn over the plain values of the converter.
use Rattle.std.proofs.Common.{◌≡◌, ℕ, ◌+◌, ◌%◌, ◌<◌, true, false, cond, drop, is_some, sym, ap, ◌∙◌, arith}
use Rattle.std.proofs.lemmas.Bool.{true≢false}
use Rattle.channels.specs.Channels.{channels_used}
use Rattle.channels.specs.Steps.{sample_at}
use Rattle.channels.proofs.Turns.{Turn, turn}
use Rattle.channels.proofs.Uses.{place_on, use_on, use_none}
use Rattle.channels.proofs.ChannelCountConverterSamples.next.Goals as goal

pub returns-then-is_some : goal.returns-then-is_some
returns-then-is_some g c =
    let s = c.args.self.now in
    let r = c.sample-result.result in
    let ys = g.I.Samples.samples s.input in
    let T : Turn s.from.count s.to.count s.next_output_sample_pos s.sample_repeat ys =
    turn s.from.count s.to.count s.next_output_sample_pos s.sample_repeat ys s.from.low s.place in
    let came : is_some r ≡ true = sym c.if-is_some.ensures in
    let goes = T.goes_on (sym (ap is_some c.sample-result.ensures.answer) ∙ came) in
    let one : cond {A = ℕ} (is_some r) 1 0 ≡ 1 = ap (λ b. cond {A = ℕ} b 1 0) came in
    record {
      answer = c.sample-result.ensures.answer ∙ T.gives;
      after = cc;
      same = c.advance.ensures.same ∙ c.sample-result.ensures.same;
      spent = λ e. absurd (true≢false (sym came ∙ ap is_some e));
      law = λ fc tc xs m h.
          let ht : 0 < tc = omega (arith, h.to) in
          let on = place_on tc m ht in
          let gone = use_on tc m ht fc xs in
          record {
            from = cc;
            to = cc;
            place = cc (ap (λ n. (m + n) % tc) one);
            left = cc (ap (λ n. drop (channels_used fc tc (m + n)) xs) one);
          };
    }

pub returns-else-is_some : goal.returns-else-is_some
returns-else-is_some g c =
    let s = c.args.self.now in
    let r = c.sample-result.result in
    let ys = g.I.Samples.samples s.input in
    let T : Turn s.from.count s.to.count s.next_output_sample_pos s.sample_repeat ys =
    turn s.from.count s.to.count s.next_output_sample_pos s.sample_repeat ys s.from.low s.place in
    let came : is_some r ≡ false = sym c.if-is_some.ensures in
    let no : is_some (sample_at s.from.count s.next_output_sample_pos s.sample_repeat ys) ≡ false = sym (ap is_some c.sample-result.ensures.answer) ∙ came in
    let ends = T.ends no in
    let kept = use_none s.from.count s.next_output_sample_pos s.sample_repeat ys no in
    record {
      answer = c.sample-result.ensures.answer ∙ T.gives;
      after = cc;
      same = c.sample-result.ensures.same;
      spent = c.sample-result.ensures.spent;
      law = λ fc tc xs m h.
          let none : m + cond {A = ℕ} (is_some r) 1 0 ≡ m = ap (λ b. m + cond {A = ℕ} b 1 0) came ∙ omega arith in
          record { from = cc; to = cc; place = cc (ap (λ n. n % tc) none); left = cc (ap (λ n. drop (channels_used fc tc n) xs) none) };
    }
