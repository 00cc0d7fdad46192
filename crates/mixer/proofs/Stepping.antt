-- The table in the midst of an answer, one source's turn after another.
use Rattle.std.proofs.Common.{◌≡◌, ℕ, suc, ◌+◌, ◌-◌, ◌%◌, ◌<◌, ◌≤◌, Bool, true, false, cond, eqb, ltb, ◌≢◌, List, [], length, get_or, drop, set, sym, refl, ap, ◌∙◌, subst, inl, inr, arith, length-set}
use lib.Ieee.{Float}
use Rattle.std.specs.Option.{option_to_list}
use Rattle.std.proofs.lemmas.List.{get_or-set_same, get_or-set_other}
use Rattle.std.proofs.lemmas.Bool.{lt-ltb, le-ltb, eq-eqb, cases_eq, cases_lt, ne_eqb}
use Rattle.law.specs.declared.Call.{Call}
use Rattle.law.specs.Mixing.{answers, names, Accepted, nobody, accepted, frame_start, term}
use Rattle.law.proofs.Acceptance.{sound, early, one_place}
use Rattle.mixer.specs.declared.table.State.{State}
use Rattle.mixer.specs.declared.table.State.TheVariants.{Idle}
use Rattle.mixer.specs.declared.table.Place.{Place}
use Rattle.mixer.specs.Following.{state_after, Stands, Partway, Rests}
use Rattle.mixer.specs.Places.{idle, in_state, started}
use Rattle.mixer.specs.Turns.{given, turned, left}
use Rattle.mixer.proofs.Turning.{Turn, turn_at, frame_opens, frame_goes}

-- the answers that the k-th source has had its turn in, once j sources had theirs in answer q
abbrev pub seen : ℕ → ℕ → ℕ → ℕ
seen q j k = cond (ltb k j) (suc q) q

seen_more : (q j k : ℕ) → k ≢ j → seen q (j + 1) k ≡ seen q j k
seen_more q j k ne = ap (λ (b : Bool). cond b (suc q) q) (elim (cases_lt k j) [
  | inl lt ↦ lt-ltb k (j + 1) (omega arith) ∙ sym (lt-ltb k j lt)
  | inr ge ↦ le-ltb k (j + 1) (omega arith) ∙ sym (le-ltb k j ge)
])

seen_now : (q j : ℕ) → seen q j j ≡ q
seen_now q j = rw (le-ltb j j (omega arith))

seen_then : (q j : ℕ) → seen q (j + 1) j ≡ suc q
seen_then q j = rw (lt-ltb j (j + 1) (omega arith))

abbrev pub state_at : List Place → ℕ → State
state_at ps i = (get_or ps i idle).state

pub state_set_same : (ps : List Place) (i : ℕ) (s : State) → i < length ps → state_at (set ps i (in_state s)) i ≡ s
state_set_same ps i s lt = ap (λ (p : Place). p.state) (get_or-set_same ps i (in_state s) idle lt)

pub state_set_other : (ps : List Place) (i n : ℕ) (s : State) → n ≢ i → state_at (set ps i (in_state s)) n ≡ state_at ps n
state_set_other ps i n s ne = ap (λ (p : Place). p.state) (get_or-set_other ps i n (in_state s) idle ne)

abbrev list_at : List (List Float) → ℕ → List Float
list_at ls i = get_or ls i []

-- the turn of source i in the places ps over the lists ls leaves the places qs and the lists ks
pub record Took (i : ℕ) (ps qs : List Place) (ls ks : List (List Float)) : Type 0 where
  pub places : qs ≡ set ps i (in_state (turned (state_at ps i) (list_at ls i)))
  pub lists_are : ks ≡ set ls i (left (state_at ps i) (list_at ls i))

module _ (i : ℕ) (ps qs : List Place) (ls ks : List (List Float)) (t : Took i ps qs ls ks) where
  state_same : i < length ps → state_at qs i ≡ turned (state_at ps i) (list_at ls i)
  state_same lt = ap (λ (xs : List Place). state_at xs i) t.places ∙ state_set_same ps i _ lt

  state_other : (n : ℕ) → n ≢ i → state_at qs n ≡ state_at ps n
  state_other n ne = ap (λ (xs : List Place). state_at xs n) t.places ∙ state_set_other ps i n _ ne

  list_same : i < length ls → list_at ks i ≡ left (state_at ps i) (list_at ls i)
  list_same lt = ap (λ (xs : List (List Float)). list_at xs i) t.lists_are ∙ get_or-set_same ls i _ [] lt

  list_other : (n : ℕ) → n ≢ i → list_at ks n ≡ list_at ls n
  list_other n ne = ap (λ (xs : List (List Float)). list_at xs n) t.lists_are ∙ get_or-set_other ls i n _ [] ne

module _ (m : ℕ) (made : List (List Float)) (h : List Call) (j i : ℕ) (ps qs : List Place) (order : List ℕ) (ls ks : List (List Float)) (t : Took i ps qs ls ks) (wide : i < length ps)
    (lt : j < length (accepted (length made) h)) (is : i ≡ (get_or (accepted (length made) h) j nobody).number)
    (p : Partway m made h (suc (answers h)) (seen (answers h) j) ps order ls) where
  abbrev who : ℕ → Accepted
  who k = get_or (accepted (length made) h) k nobody

  -- the turn of the j-th source
  turn_now : Turn (term m made (answers h) (who j))
      (state_after (frame_start m (who j).after) (suc (answers h)) (suc (answers h)) j (length (get_or made i [])))
      (drop (suc (answers h) - frame_start m (who j).after) (get_or made i []))
      (state_at ps i) (list_at ls i)
  turn_now =
      let at : Stands m (suc (answers h)) (answers h) j (who j) (get_or made i []) (state_at ps i) (list_at ls i) = rw (← is, seen_now (answers h) j) at (p.sources j lt) in
      rw (at.state_is, at.left_is, ← is) (turn_at (frame_start m (who j).after) (answers h) j (get_or made i []))

  pub gave_term : option_to_list (given (state_at ps i) (list_at ls i)) ≡ term m made (answers h) (who j)
  gave_term = turn_now.gave

  abbrev Stood : ℕ → ℕ → Type 0
  Stood q k = Stands m (suc (answers h)) q k (who k) (get_or made (who k).number []) (state_at qs (who k).number) (list_at ks (who k).number)

  below : i < length ls
  below = omega (arith, (sound (length made) h j lt).below, p.count)

  stood_now : Stood (seen (answers h) (j + 1) j) j
  stood_now = rw (seen_then (answers h) j, ← is)
      (record { state_is = state_same i ps qs ls ks t wide ∙ turn_now.became; left_is = list_same i ps qs ls ks t below ∙ turn_now.stayed })

  stood_still : (k : ℕ) → k < length (accepted (length made) h) → k ≢ j → Stood (seen (answers h) (j + 1) k) k
  stood_still k l ne =
      let off : (who k).number ≢ i = λ e. ne (one_place (length made) h k j l lt (e ∙ is)) in
      rw (seen_more (answers h) j k ne, state_other i ps qs ls ks t (who k).number off, list_other i ps qs ls ks t (who k).number off) (p.sources k l)

  not_named : (n : ℕ) → names n h ≡ false → n ≢ i
  not_named n u e =
      let z : ◌≡◌ {A = ℕ} 0 1 = cc ((sound (length made) h j lt).named, ap (λ (k : ℕ). names k h) (e ∙ is), u) in
      omega arith

  pub partway_more : Partway m made h (suc (answers h)) (seen (answers h) (j + 1)) qs order ks
  partway_more = record {
    count = ap length t.lists_are ∙ length-set ls i _ ∙ p.count;
    order_is = p.order_is;
    sources = λ k l. elim (cases_eq k j) [
      | inl e ↦ subst (λ (n : ℕ). Stood (seen (answers h) (j + 1) n) n) (sym e) stood_now
      | inr ne ↦ stood_still k l ne
    ];
    others = λ n l u.
        let ne : n ≢ i = not_named n u in (
          state_other i ps qs ls ks t n ne ∙ (p.others n l u).0,
          list_other i ps qs ls ks t n ne ∙ (p.others n l u).1,
        );
  }

-- at a frame's start the waiting begin, and elsewhere nobody waits for this answer
module _ (m : ℕ) (one : 1 ≤ m) (made : List (List Float)) (h : List Call) (ps qs : List Place) (order : List ℕ) (ls : List (List Float)) (f : Rests m made h ps order ls) where
  pub opened : ((i : ℕ) → state_at qs i ≡ cond (eqb (answers h % m) 0) (started (state_at ps i)) (state_at ps i)) →
      Partway m made h (suc (answers h)) (λ _. answers h) qs order ls
  opened states = record {
    count = f.count;
    order_is = f.order_is;
    sources = λ k l.
        let a = get_or (accepted (length made) h) k nobody in
        let n = length (get_or made a.number []) in
        record {
          state_is = states a.number ∙ elim (cases_eq (answers h % m) 0) [
            | inl e ↦ rw (eq-eqb (answers h % m) 0 e) (ap started (f.sources k l).state_is ∙ frame_opens m (answers h) a.after k n one (early (length made) h k l) e)
            | inr ne ↦ rw (ne_eqb (answers h % m) 0 ne) ((f.sources k l).state_is ∙ frame_goes m (answers h) a.after k n ne)
          ];
          left_is = (f.sources k l).left_is;
        };
    others = λ n l u. (
      states n ∙ ap (λ (s : State). cond (eqb (answers h % m) 0) (started s) s) (f.others n l u).0 ∙ idle_stays (eqb (answers h % m) 0),
      (f.others n l u).1,
    );
  }
    where
      idle_stays : (b : Bool) → cond b Idle Idle ≡ Idle
      idle_stays true = refl
      idle_stays false = refl
