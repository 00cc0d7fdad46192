-- A call gives a sample of the output frame, or the first of the next one, or meets the end.
use Rattle.std.proofs.Common.{◌≡◌, ℕ, ◌+◌, ◌<◌, ◌≤◌, false, eqb, List, [], ◌++◌, length, drop, Some, None, Option, sym, refl, ap, ◌∙◌, subst, ap₂, arith}
use lib.Ieee.{Float}
use Rattle.std.proofs.lemmas.Bool.{eqb-true, eqb-false, true≢false}
use Rattle.frames.specs.Frames.{framed}
use Rattle.source.specs.Meanings.{Meaning}
use Rattle.source.specs.Samples.{first, rest}
use Rattle.rates.specs.Onward.{shown, later}
use Rattle.frames.specs.Windows.{left, showing}
use Rattle.frames.proofs.Heads.{here, over}
use Rattle.resampler.specs.declared.Resampler.{Resampler}
use Rattle.resampler.specs.Resamplers.{remaining, following, sample_here}
use Rattle.resampler.proofs.Gives.{first_front, rest_front, held_on, held_end, shown-within, shown_none}
use Rattle.resampler.proofs.Draws.{walk_on, walk_next}
use Rattle.resampler.proofs.ResamplerSamples.next.Goals as goal
use Rattle.resampler.proofs.ResamplerSamples.next.Goals.{then-not-is_last+in_default-sample, else-not-is_last}

module _ {I : Type 0} (of : I → List Float) (s : Resampler I) where
  -- what follows the output frame
  abbrev behind-shown : List Float
  behind-shown =
      later s.n s.pace.from s.pace.to s.window.channels.count (framed s.window.current) (framed s.window.next) (left of s.window)

  -- a sample says that the output frame has one more
  inside : (x : Float) → Some x ≡ sample_here s → s.at < length (showing s.n s.pace.to s.window)
  inside x h = (here (showing s.n s.pace.to s.window) s.at x h).less

  -- at its end the next one follows, or nothing
  past : length (showing s.n s.pace.to s.window) ≤ s.at → 0 < length (framed s.window.next) → remaining of s ≡ following of s
  past h k =
      held_on s.n s.pace.from s.pace.to s.window.channels.count s.at (framed s.window.current) (framed s.window.next) (left of s.window)
      h k

  ended : length (showing s.n s.pace.to s.window) ≤ s.at → length (framed s.window.next) ≡ 0 → remaining of s ≡ []
  ended h e =
      held_end s.n s.pace.from s.pace.to s.window.channels.count s.at (framed s.window.current) (framed s.window.next) (left of s.window)
      h e

some≢none : {x : Float} → ◌≡◌ {A = Option Float} (Some x) None → ⊥
some≢none p = let z : ◌≡◌ {A = ℕ} 0 1 = cc in omega arith

more : (xs : List Float) → eqb (length xs) 0 ≡ false → 0 < length xs
more xs e = let ne = eqb-false (length xs) 0 e in omega arith

pub overflow_add-self : goal.overflow_add-self
overflow_add-self g c =
    let s = c.args.self.now in
    let w = s.window in
    let h = inside g.I.Samples.samples s c.in-Some.x c.in-Some.ensures.answer in
    omega (arith, shown-within w.channels.count s.n s.pace.to (framed w.current) (framed w.next) w.lined, w.channels.high)

pub returns-in-Some : goal.returns-in-Some
returns-in-Some g c =
    let s = c.args.self.now in
    let of = g.I.Samples.samples in
    let x = c.in-Some.x in
    let h = c.in-Some.ensures.answer in
    let l = showing s.n s.pace.to s.window in
    record {
      answer = first_front l (behind-shown of s) s.at x h;
      after = rest_front l (behind-shown of s) s.at x h;
      same = refl;
      spent = λ p. absurd (some≢none p);
      drained = λ p. absurd (some≢none p);
      law = λ xs m d y. record { walk = walk_on of xs m s d (inside of s x h); ended = d.ended };
      pace = refl;
      channels = refl;
    }

pub returns-in-Some-sample : goal.returns-in-Some-sample
returns-in-Some-sample g c =
    let s = c.args.self.now in
    let t = c.begin.new.self in
    let of = g.I.Samples.samples in
    let b = c.begin.ensures in
    let x = c.in-Some-sample.x in
    let h = c.in-Some-sample.ensures.answer in
    let l = showing t.n t.pace.to t.window in
    let o : length (showing s.n s.pace.to s.window) ≤ s.at = over (showing s.n s.pace.to s.window) s.at c.in_default.ensures.answer in
    let k : 0 < length (framed s.window.next) = more (framed s.window.next) (sym c.if-not-is_last.ensures.answer) in
    let e : remaining of t ≡ remaining of s = b.after ∙ sym (past of s o k) in
    record {
      answer = first_front l (behind-shown of t) t.at x h ∙ ap first e;
      after = ap (λ a. drop a l ++ behind-shown of t) (sym (ap (λ a. a + 1) b.at)) ∙ rest_front l (behind-shown of t) t.at x h ∙ ap rest e;
      same = b.same;
      spent = λ p. absurd (some≢none p);
      drained = λ p. absurd (some≢none p);
      law = λ xs m d y. record { walk = walk_next of xs m s t d o k b.pace b.place b.passed b.channels; ended = b.law d.ended };
      pace = b.pace;
      channels = b.channels;
    }

-- a resampler r that gave all that s had
abbrev Over : {I : Type 0} → (I → List Float) → (I → Meaning) → Resampler I → Resampler I → Type 0
Over of behind s r =
    (length (showing r.n r.pace.to r.window) ≤ r.at)
    × (length (framed r.window.next) ≡ 0)
    × (remaining of s ≡ [])
    × (behind r.window.input ≡ behind s.window.input)
    × (r.pace ≡ s.pace)
    × (r.window.channels ≡ s.window.channels)

pub returns : goal.returns
returns g c =
    let s = c.args.self.now in
    let of = g.I.Samples.samples in
    let beyond = g.I.Samples.beyond in
    let h : length (showing s.n s.pace.to s.window) ≤ s.at = over (showing s.n s.pace.to s.window) s.at c.in_default.ensures.answer in
    let t = c.if-not-is_last.self in
    let u = c.exhaust.new.self in
    let cur : framed u.current ≡ framed t.window.current = ap framed c.exhaust.ensures.frames.0 in
    let nxt : framed u.next ≡ framed t.window.next = ap framed c.exhaust.ensures.frames.1 in
    let o : Over of beyond s t =
    elim c.if-not-is_last.branch [
      | then-not-is_last+in_default-sample v ↦
          let b = v.begin.new.self in
          let l = showing b.n b.pace.to b.window in
          let k : 0 < length (framed s.window.next) = more (framed s.window.next) (sym v.if-not-is_last.ensures.answer) in
          let e : remaining of b ≡ remaining of s = v.begin.ensures.after ∙ sym (past of s h k) in
          let y : length l ≤ b.at = over l b.at v.in_default-sample.ensures.answer in
          let z : length l ≡ 0 = omega (arith, v.begin.ensures.at) in
          let x : length (framed b.window.next) ≡ 0 =
          shown_none b.window.channels.count b.n b.pace.to (framed b.window.current) (framed b.window.next) b.window.lined z in
          subst (Over of beyond s) (sym v.self-is) (y, x, sym e ∙ ended of b y x, v.begin.ensures.same, v.begin.ensures.pace, v.begin.ensures.channels)
      | else-not-is_last v ↦
          let x : length (framed s.window.next) ≡ 0 = eqb-true (length (framed s.window.next)) 0 (sym v.if-not-is_last.ensures.answer) in
          subst (Over of beyond s) (sym v.self-is) (h, x, ended of s h x, refl, refl, refl)
    ] in
    let y : length (shown t.n t.pace.to (framed u.current) (framed u.next)) ≤ t.at =
    omega (arith, o.0, ap₂ (λ a b. length (shown t.n t.pace.to a b)) cur nxt) in
    let x : length (framed u.next) ≡ 0 = ap length nxt ∙ o.1 in
    record {
      answer = sym (ap first o.2);
      after =
          held_end t.n t.pace.from t.pace.to u.channels.count t.at (framed u.current) (framed u.next) (left of u) y x
          ∙ sym (ap rest o.2);
      same = c.exhaust.ensures.same ∙ o.3;
      spent = λ p. c.exhaust.ensures.spent;
      drained = λ p. c.exhaust.ensures.after;
      law = λ xs m d y. absurd (true≢false (sym y));
      pace = o.4;
      channels = c.exhaust.ensures.channels ∙ o.5;
    }
