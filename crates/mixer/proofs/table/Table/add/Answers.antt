-- A source that was added before stays as it is; otherwise there is room for one more, and the source waits.
use Rattle.std.proofs.Common.{◌≡◌, true, false, rules, length, set, List, [], ◌∷◌, ◌++◌, Err, is_ok, sym, refl, ap, ◌∙◌, subst, arith}
use Rattle.std.proofs.lemmas.List.{set-get_or, length-map}
use Rattle.std.proofs.lemmas.Bool.{lt-ltb, eqb-true}
use Rattle.law.specs.declared.Call.TheVariants.{Add}
use Rattle.law.specs.Mixing.{Accepted, names, accepted}
use Rattle.law.proofs.Room.{room}
use Rattle.mixer.specs.declared.table.Place.{Place}
use Rattle.mixer.specs.declared.table.State.TheVariants.{Waiting}
use Rattle.mixer.specs.Following.{Rests}
use Rattle.mixer.specs.Places.{idle, in_state}
use Rattle.mixer.proofs.Adds.{enters_idle, refused_again, idle_unnamed, taken_named, rests_refused, rests_added}
use Rattle.mixer.proofs.Stepping.{state_at}
use Rattle.mixer.proofs.table.Table.add.Goals as goal

pub returns-in_err-enter-clause-law : goal.returns-in_err-enter-clause-law
returns-in_err-enter-clause-law c m made lists h one below few f =
    let i = c.args.number in
    let ps = c.args.self.now.places in
    let order = c.args.self.now.order.items in
    let r = c.in_err-enter.field-0.0 in
    let again = refused_again (state_at ps i) r (sym c.enter.ensures.answer ∙ c.in_err-enter.was) in
    let named : names i h ≡ true = taken_named m made h i ps order lists f again.0 below in
    let passed : c.from_residual.result ≡ Err r = search rules in
    let stays : set ps i c.enter.new.self ≡ ps = ap (set ps i) (c.enter.ensures.refused (ap is_ok c.in_err-enter.was)) ∙ set-get_or ps i idle in (
      passed ∙ ap Err again.1 ∙ sym (simp (lt-ltb i (length made) below, named) refl),
      subst (λ (qs : List Place). Rests m made (h ++ (Add i ∷ [])) qs order lists) (sym stays) (rests_refused m made h i ps order lists f (simp (lt-ltb i (length made) below, named) refl)),
    )

pub returns-then-not-is_full-clause-law : goal.returns-then-not-is_full-clause-law
returns-then-not-is_full-clause-law c m made lists h one below few f =
    let i = c.args.number in
    let x = c.args.self.now in
    let unnamed : names i h ≡ false = idle_unnamed m made h i x.places x.order.items lists f (enters_idle (state_at x.places i) _ (sym c.enter.ensures.answer ∙ c.in_ok-enter.was)) below in
    let waits : set x.places i c.enter.new.self ≡ set x.places i (in_state (Waiting (length x.order.items))) =
    ap (set x.places i) (c.enter.ensures.after (ap is_ok c.in_ok-enter.was) ∙ ap (λ k. in_state (Waiting k)) c.len.ensures.value) in (
      sym (simp (lt-ltb i (length made) below, unnamed) refl),
      rw c.push.ensures.items (rests_added m made h i x.places x.order.items lists f (set x.places i c.enter.new.self) one below unnamed (omega (arith, x.as_many, c.requires)) waits),
    )

pub returns-else-not-is_full-clause-law : goal.returns-else-not-is_full-clause-law
returns-else-not-is_full-clause-law c m made lists h one below few f =
    let i = c.args.number in
    let x = c.args.self.now in
    let unnamed : names i h ≡ false = idle_unnamed m made h i x.places x.order.items lists f (enters_idle (state_at x.places i) _ (sym c.enter.ensures.answer ∙ c.in_ok-enter.was)) below in
    let full : length x.order.items ≡ 16 = eqb-true (length x.order.items) 16 (sym c.is_full.ensures.value ∙ c.if-not-is_full.false) in
    let no_way : ⊥ = omega (arith, room (length made) i h below unnamed, full, few, ap length f.order_is, length-map (accepted (length made) h) (λ (a : Accepted). a.number)) in
    absurd no_way
