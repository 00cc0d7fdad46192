-- What an add leaves behind: nothing altered if it is refused, and one more waiting source if it is accepted.
use Rattle.std.proofs.Common.{◌≡◌, ℕ, ◌-◌, ◌<◌, ◌≤◌, Bool, true, false, cond, not, ◌&&◌, eqb, ltb, leb, ◌≢◌, List, [], ◌∷◌, ◌++◌, length, get_or, set, Ok, Err, sym, refl, ap, ◌∙◌, inl, inr, arith}
use lib.Ieee.{Float}
use Rattle.std.proofs.lemmas.List.{append-nil, map-append, length-map, get_or_append_left, get_or_push, length_push}
use Rattle.std.proofs.lemmas.Bool.{lt-ltb, le-ltb, eqb-false, cases_eq, cases_Bool, or_parts}
use Rattle.law.specs.declared.Call.{Call}
use Rattle.law.specs.declared.Call.TheVariants.{Add}
use Rattle.law.specs.declared.refusal.AddRefusal.{AddRefusal}
use Rattle.law.specs.declared.refusal.AddRefusal.TheVariants.{AlreadyAdded}
use Rattle.law.specs.Mixing.{answers, names, Accepted, nobody, accepted, frame_start}
use Rattle.law.proofs.Histories.{answers_add, names_add, accepted_add}
use Rattle.law.proofs.Starts.{start_not_before}
use Rattle.law.proofs.Acceptance.{sound, found}
use Rattle.mixer.specs.declared.table.State.{State}
use Rattle.mixer.specs.declared.table.State.TheVariants.{Idle, Waiting, Playing, Ended}
use Rattle.mixer.specs.declared.table.Place.{Place}
use Rattle.mixer.specs.Following.{state_after, Stands, Rests}
use Rattle.mixer.specs.Places.{in_state, entered}
use Rattle.mixer.proofs.Stepping.{state_at, state_set_same, state_set_other}

never_idle : (s p q k n : ℕ) → state_after s p q k n ≡ Idle → ⊥
never_idle s p q k n e = go (ltb s p) (leb (q - s) n) e
  where
    go : (a b : Bool) → cond a (cond b (Playing k) Ended) (Waiting k) ≡ Idle → ⊥
    go true true e = let z : ◌≡◌ {A = ℕ} 0 1 = cc in omega arith
    go true false e = let z : ◌≡◌ {A = ℕ} 0 1 = cc in omega arith
    go false b e = let z : ◌≡◌ {A = ℕ} 0 1 = cc in omega arith

-- who may enter is idle, and who may not was added before
pub enters_idle : (s : State) (u : Unit) → entered s ≡ Ok u → s ≡ Idle
enters_idle Idle u e = refl
enters_idle (Waiting k) u e = let z : ◌≡◌ {A = ℕ} 0 1 = cc in absurd (omega arith)
enters_idle (Playing k) u e = let z : ◌≡◌ {A = ℕ} 0 1 = cc in absurd (omega arith)
enters_idle Ended u e = let z : ◌≡◌ {A = ℕ} 0 1 = cc in absurd (omega arith)

pub refused_again : (s : State) (r : AddRefusal) → entered s ≡ Err r → (s ≡ Idle → ⊥) × (r ≡ AlreadyAdded)
refused_again Idle r e = let z : ◌≡◌ {A = ℕ} 0 1 = cc in absurd (omega arith)
refused_again (Waiting k) r e = (λ f. let z : ◌≡◌ {A = ℕ} 0 1 = cc f in omega arith, cc)
refused_again (Playing k) r e = (λ f. let z : ◌≡◌ {A = ℕ} 0 1 = cc f in omega arith, cc)
refused_again Ended r e = (λ f. let z : ◌≡◌ {A = ℕ} 0 1 = cc f in omega arith, cc)

module _ (m : ℕ) (made : List (List Float)) (h : List Call) (i : ℕ) (ps : List Place) (order : List ℕ) (ls : List (List Float)) (f : Rests m made h ps order ls) where
  abbrev old : List Accepted
  old = accepted (length made) h

  -- the place of a number below the count is idle exactly if no add named it
  pub idle_unnamed : state_at ps i ≡ Idle → i < length made → names i h ≡ false
  idle_unnamed e lt = elim (cases_Bool (names i h)) [
    | inl was ↦
        let at = found (length made) i h lt was in
        let a = get_or old at.0 nobody in
        let stood = f.sources at.0 at.1 in
        absurd (never_idle (frame_start m a.after) (answers h) (answers h) at.0 (length (get_or made a.number [])) (sym stood.state_is ∙ ap (state_at ps) at.2 ∙ e))
    | inr unnamed ↦ unnamed
  ]

  pub taken_named : (state_at ps i ≡ Idle → ⊥) → i < length made → names i h ≡ true
  taken_named ne lt = elim (cases_Bool (names i h)) [ inl was ↦ was | inr unnamed ↦ absurd (ne (f.others i lt unnamed).0) ]

  pub rests_refused : (ltb i (length made) && not (names i h)) ≡ false → Rests m made (h ++ (Add i ∷ [])) ps order ls
  rests_refused no_way =
      let same : accepted (length made) (h ++ (Add i ∷ [])) ≡ old =
      accepted_add (length made) i h ∙ ap (λ (b : Bool). old ++ cond b (record { number = i; after = answers h } ∷ []) []) no_way ∙ append-nil old in
      record {
        count = f.count;
        order_is = rw same f.order_is;
        sources = rw (same, answers_add h i) f.sources;
        others = λ n l u. f.others n l (or_parts (names n h) (eqb n i) (sym (names_add n i h) ∙ u)).0;
      }

  module _ (qs : List Place) (one : 1 ≤ m) (lt : i < length made) (unnamed : names i h ≡ false) (wide : i < length ps)
      (places : qs ≡ set ps i (in_state (Waiting (length order)))) where
    abbrev new : Accepted
    new = record { number = i; after = answers h }

    one_more : accepted (length made) (h ++ (Add i ∷ [])) ≡ old ++ (new ∷ [])
    one_more = accepted_add (length made) i h ∙ rw (lt-ltb i (length made) lt, unnamed)

    as_many : length order ≡ length old
    as_many = ap length f.order_is ∙ length-map old (λ (a : Accepted). a.number)

    abbrev Stood : List Accepted → ℕ → Type 0
    Stood ks k = Stands m (answers h) (answers h) k (get_or ks k nobody) (get_or made (get_or ks k nobody).number [])
        (state_at qs (get_or ks k nobody).number) (get_or ls (get_or ks k nobody).number [])

    new_stands : Stands m (answers h) (answers h) (length old) new (get_or made i []) (state_at qs i) (get_or ls i [])
    new_stands =
        let start = frame_start m (answers h) in
        let after : answers h ≤ start = start_not_before m (answers h) one in
        let none : answers h - start ≡ 0 = omega arith in
        record {
          state_is = rw (le-ltb start (answers h) after, places, state_set_same ps i (Waiting (length order)) wide)
              (ap (λ (k : ℕ). Waiting k) as_many);
          left_is = rw none (f.others i lt unnamed).1;
        }

    old_stands : (k : ℕ) → k < length old → Stood old k
    old_stands k l =
        let off : (get_or old k nobody).number ≢ i = λ e.
        let z : ◌≡◌ {A = ℕ} 0 1 = cc ((sound (length made) h k l).named, ap (λ (n : ℕ). names n h) e, unnamed) in omega arith in
        rw (places, state_set_other ps i (get_or old k nobody).number (Waiting (length order)) off) (f.sources k l)

    stands_at : (k : ℕ) → k < length (old ++ (new ∷ [])) → Stood (old ++ (new ∷ [])) k
    stands_at k l = elim (cases_eq k (length old)) [
      | inl e ↦ rw (get_or_push old new nobody k (sym e), e) new_stands
      | inr ne ↦
          let less : k < length old = omega (arith, length_push old new) in
          rw (get_or_append_left old (new ∷ []) nobody k less) (old_stands k less)
    ]

    pub rests_added : Rests m made (h ++ (Add i ∷ [])) qs (order ++ (i ∷ [])) ls
    rests_added = record {
      count = f.count;
      order_is = rw (one_more, map-append (λ (a : Accepted). a.number) old (new ∷ [])) (ap (λ (ns : List ℕ). ns ++ (i ∷ [])) f.order_is);
      sources = rw (one_more, answers_add h i) stands_at;
      others = λ n l u.
          let parts = or_parts (names n h) (eqb n i) (sym (names_add n i h) ∙ u) in
          let off : n ≢ i = eqb-false n i parts.1 in
          rw (places, state_set_other ps i n (Waiting (length order)) off) (f.others n l parts.0);
    }
