-- How far a resampler has read, one sample on, and what is left of its input.
use Rattle.std.proofs.Common.{◌≡◌, ℕ, ◌+◌, ◌*◌, ◌<◌, ◌≤◌, ◌⊎◌, List, ◌++◌, length, sym, ap, ◌∙◌, subst, subst₂, inl, inr, ⊎_elim, arith, length-append}
use lib.Ieee.{Float}
use Rattle.std.proofs.lemmas.Bool.{cases_lt}
use Rattle.frames.specs.Frames.{framed}
use Rattle.rates.specs.Walks.{Walk, beyond_frames}
use Rattle.rates.proofs.Helds.{behind_short}
use Rattle.rates.proofs.Walked.{walk_start, walk_give, walk_begin, walk_left, window_left}
use Rattle.frames.specs.Windows.{seen, seen_past, left, showing}
use Rattle.resampler.specs.Resamplers.{Drawn, place_next, steps_next}
use Rattle.frames.specs.declared.window.Window.{Window}
use Rattle.resampler.specs.declared.Resampler.{Resampler}
use Rattle.resampler.specs.declared.Pace.{Pace}
use Rattle.resampler.proofs.Gives.{shown_long, shown-within}

module _ {I : Type 0} (of : I → List Float) (xs : List Float) (m : ℕ) where
  -- one sample of an output frame more
  pub walk_on : (s : Resampler I) → Drawn of xs m s → s.at < length (showing s.n s.pace.to s.window) →
      Walk s.pace.from s.pace.to s.window.channels.count xs (m + 1) s.n (s.at + 1) (seen of s.window)
  walk_on s d l =
      let w = s.window in
      let c = w.channels.count in
      let b : s.at < c = omega (arith, shown-within c s.n s.pace.to (framed w.current) (framed w.next) w.lined) in
      walk_give s.pace.from s.pace.to c xs s.pace.to_low w.channels.low m s.n s.at (seen of w) d.walk b

  -- an output frame ends where it is whole, or with the input
  at_end : (s : Resampler I) → Drawn of xs m s → length (showing s.n s.pace.to s.window) ≤ s.at → 0 < length (framed s.window.next) →
      (s.at ≡ s.window.channels.count) ⊎ (length (seen of s.window) ≤ 2 * s.window.channels.count)
  at_end s d h k =
      let w = s.window in
      let c = w.channels.count in
      let cur = framed w.current in
      let nxt = framed w.next in
      let e = shown_long c s.n s.pace.to cur nxt w.lined k in
      ⊎_elim
      (λ l.
      let b : length nxt < c = omega arith in
      let none = ap length (behind_short c nxt (of w.input) b) in
      inr (omega (arith, length-append cur (nxt ++ left of w), length-append nxt (left of w), none, w.lined.0, w.lined.1)))
      (λ l. inl (omega (arith, d.walk.within)))
      (cases_lt s.at c)

  -- the first sample of the next output frame
  pub walk_next : (s t : Resampler I) → Drawn of xs m s → length (showing s.n s.pace.to s.window) ≤ s.at → 0 < length (framed s.window.next) →
      t.pace ≡ s.pace → t.n ≡ place_next s → seen of t.window ≡ seen_past of (steps_next s) s.window → t.window.channels ≡ s.window.channels →
      Walk t.pace.from t.pace.to t.window.channels.count xs (m + 1) t.n 1 (seen of t.window)
  walk_next s t d h k tp tn ts tc =
      let w = s.window in
      let p = s.pace in
      let c = w.channels.count in
      let a = walk_begin p.from p.to c xs p.to_low w.channels.low m s.n s.at (seen of w) d.walk (at_end s d h k) in
      subst₂ (λ q e. Walk q.from q.to e.count xs (m + 1) t.n 1 (seen of t.window)) (sym tp) (sym tc)
      (subst₂ (λ n ys. Walk p.from p.to c xs (m + 1) n 1 ys) (sym tn) (sym ts) a)

  -- what is left of the input
  pub drawn-left : (s : Resampler I) → Drawn of xs m s → of s.window.input ≡ beyond_frames s.pace.from s.pace.to s.window.channels.count xs m
  drawn-left s d =
      let w = s.window in
      window_left w.channels.count (framed w.current) (framed w.next) (of w.input) w.channels.low w.lined d.ended
      ∙ walk_left s.pace.from s.pace.to w.channels.count xs s.pace.to_low w.channels.low m s.n s.at (seen of w) d.walk

-- at the start
pub drawn_start : {I : Type 0} (of : I → List Float) (xs : List Float) (p : Pace) (w : Window I) → seen of w ≡ xs →
    Walk p.from p.to w.channels.count xs 0 0 0 (seen of w)
drawn_start of xs p w e =
    subst (λ ys. Walk p.from p.to w.channels.count xs 0 0 0 ys) (sym e)
    (walk_start p.from p.to w.channels.count xs p.to_low w.channels.low)
