-- A refused add leaves no trace.
use Rattle.std.proofs.Common.{◌≡◌, ℕ, suc, ◌+◌, Bool, true, false, cond, not, ◌&&◌, ◌||◌, eqb, ltb, ◌⊎◌, List, [], ◌∷◌, ◌++◌, length, is_some, Ok, Err, sym, refl, ap, ◌∙◌, ap₂, inl, inr, ⊎_elim, arith}
use lib.Ieee.{Float}
use Rattle.std.specs.List.{flat_map}
use Rattle.std.proofs.lemmas.List.{append-nil, append_assoc}
use Rattle.std.proofs.Math.Bool.{or-false, or_assoc, or_comm}
use Rattle.std.proofs.lemmas.Bool.{cases_Bool, cases_eq, cond-true, cond-false, ne_eqb, and_left, and_right, true≢false}
use Rattle.law.specs.declared.Call.{Call}
use Rattle.law.specs.declared.Call.TheVariants.{Add, Next}
use Rattle.law.specs.declared.Reply.TheVariants.{Add as AddReply, Next as NextReply}
use Rattle.law.specs.declared.refusal.AddRefusal.TheVariants.{NoSuchSource, AlreadyAdded}
use Rattle.law.specs.Asked.{RefusedChangesNothing}
use Rattle.law.specs.Mixing.{Accepted, answers, names, accepted_since, accepted, term, terms, sum_or_end, verdict}
use Rattle.law.specs.Numbers.{refusal_number}
use Rattle.law.proofs.Histories.{answers_add, names_add, accepted_add, newly}

answers-append : (g h : List Call) → answers (g ++ h) ≡ answers g + answers h
answers-append [] h = omega arith
answers-append (Add i ∷ g) h = answers-append g h
answers-append (Next ∷ g) h = omega (arith, answers-append g h)

names-append : (j : ℕ) (g h : List Call) → names j (g ++ h) ≡ (names j g || names j h)
names-append j [] h = refl
names-append j (Add i ∷ g) h = ap (λ (b : Bool). eqb j i || b) (names-append j g h) ∙ sym (or_assoc (eqb j i) (names j g) (names j h))
names-append j (Next ∷ g) h = names-append j g h

-- the calls of a list put before those of the past, the newest first
pasts : List Call → List Call → List Call
pasts past [] = past
pasts past (c ∷ h) = pasts (c ∷ past) h

pasts_push : (past h : List Call) (c : Call) → pasts past (h ++ (c ∷ [])) ≡ c ∷ pasts past h
unfolding pasts
pasts_push past [] c = refl
pasts_push past (d ∷ h) c = pasts_push (d ∷ past) h c

names_pasts : (j : ℕ) (past h : List Call) → names j (pasts past h) ≡ (names j h || names j past)
unfolding pasts
names_pasts j past [] = refl
names_pasts j past (Add i ∷ h) = names_pasts j (Add i ∷ past) h ∙ sym (or_assoc (names j h) (eqb j i) (names j past)) ∙ ap (λ (b : Bool). b || names j past) (or_comm (names j h) (eqb j i))
names_pasts j past (Next ∷ h) = names_pasts j (Next ∷ past) h

since_append : (count : ℕ) (past g h : List Call) → accepted_since count past (g ++ h) ≡ accepted_since count past g ++ accepted_since count (pasts past g) h
unfolding pasts
since_append count past [] h = refl
since_append count past (Next ∷ g) h = since_append count (Next ∷ past) g h
since_append count past (Add i ∷ g) h =
    let head = newly count i (names i past) (answers past) in
    ap (λ (ks : List Accepted). head ++ ks) (since_append count (Add i ∷ past) g h)
    ∙ sym (append_assoc head (accepted_since count (Add i ∷ past) g) (accepted_since count (pasts (Add i ∷ past) g) h))

-- two pasts that accept the same from here on
record Even (count : ℕ) (p q : List Call) : Type 0 where
  given : answers p ≡ answers q
  named : (j : ℕ) → ltb j count ≡ true → names j p ≡ names j q

newly_even : (count k n : ℕ) (b c : Bool) → (ltb k count ≡ true → b ≡ c) → newly count k b n ≡ newly count k c n
newly_even count k n b c e = ⊎_elim
    (λ (t : ltb k count ≡ true). ap (λ (x : Bool). newly count k x n) (e t))
    (λ (t : ltb k count ≡ false). cond-false (ltb k count && not b) _ _ (and_left (ltb k count) (not b) t) ∙ sym (cond-false (ltb k count && not c) _ _ (and_left (ltb k count) (not c) t)))
    (cases_Bool (ltb k count))

since_even : (count : ℕ) (p q h : List Call) → Even count p q → accepted_since count p h ≡ accepted_since count q h
since_even count p q [] e = refl
since_even count p q (Next ∷ h) e = since_even count (Next ∷ p) (Next ∷ q) h (record { given = ap suc e.given; named = e.named })
since_even count p q (Add k ∷ h) e =
    ap₂ ◌++◌
    (newly_even count k (answers p) (names k p) (names k q) (e.named k) ∙ ap (newly count k (names k q)) e.given)
    (since_even count (Add k ∷ p) (Add k ∷ q) h (record { given = e.given; named = λ j t. ap (λ (b : Bool). eqb j k || b) (e.named j t) }))

-- an add that is refused after the calls of h: its number is not below the count, or was named before
Refused : ℕ → ℕ → List Call → Type 0
Refused count i h = (ltb i count ≡ false) ⊎ (names i h ≡ true)

is_refused : (count i : ℕ) (h : List Call) → is_some (refusal_number (AddReply (verdict count i h))) ≡ true → Refused count i h
unfolding Refused
is_refused count i h e = ⊎_elim
    (λ (t : ltb i count ≡ true). ⊎_elim
    (λ (n : names i h ≡ true). inr n)
    (λ (n : names i h ≡ false).
    let v : verdict count i h ≡ Ok tt = cond-true (ltb i count) _ _ t ∙ cond-false (names i h) _ _ n in
    absurd (true≢false (sym e ∙ ap (λ r. is_some (refusal_number (AddReply r))) v)))
    (cases_Bool (names i h)))
    (λ (t : ltb i count ≡ false). inl t)
    (cases_Bool (ltb i count))

-- it names nothing new that could be accepted
names_same : (count i j : ℕ) (h : List Call) (b : Bool) → Refused count i h → ltb j count ≡ true → names j h ≡ b → (eqb j i || b) ≡ b
unfolding Refused
names_same count i j h b r t e = ⊎_elim
    (λ (same : j ≡ i). ⊎_elim
    (λ (f : ltb i count ≡ false). absurd (true≢false (sym t ∙ ap (λ n. ltb n count) same ∙ f)))
    (λ (n : names i h ≡ true).
    let w : b ≡ true = sym e ∙ ap (λ k. names k h) same ∙ n in
    ap (λ (x : Bool). eqb j i || x) w ∙ or_comm (eqb j i) true ∙ sym w)
    r)
    (λ (other : j ≡ i → ⊥). ap (λ (x : Bool). x || b) (ne_eqb j i other))
    (cases_eq j i)

newly_none : (count i n : ℕ) (h : List Call) → Refused count i h → newly count i (names i h) n ≡ []
unfolding Refused
newly_none count i n h r = ⊎_elim
    (λ (f : ltb i count ≡ false). cond-false (ltb i count && not (names i h)) _ _ (and_left (ltb i count) (not (names i h)) f))
    (λ (t : names i h ≡ true). cond-false (ltb i count && not (names i h)) _ _ (and_right (ltb i count) (not (names i h)) (ap not t)))
    r

module _ (count i : ℕ) (h : List Call) (r : Refused count i h) where
  even : Even count (pasts [] (h ++ (Add i ∷ []))) (pasts [] h)
  even = record {
    given = ap answers (pasts_push [] h (Add i));
    named = λ j t. ap (names j) (pasts_push [] h (Add i)) ∙ names_same count i j h (names j (pasts [] h)) r t (sym (names_pasts j [] h ∙ or-false (names j h)));
  }

  accepted_same : (later : List Call) → accepted count ((h ++ (Add i ∷ [])) ++ later) ≡ accepted count (h ++ later)
  accepted_same later =
      since_append count [] (h ++ (Add i ∷ [])) later
      ∙ ap₂ ◌++◌ (accepted_add count i h ∙ ap (λ ks. accepted count h ++ ks) (newly_none count i (answers h) h r) ∙ append-nil (accepted count h))
      (since_even count (pasts [] (h ++ (Add i ∷ []))) (pasts [] h) later even)
      ∙ sym (since_append count [] h later)

  answers_same : (later : List Call) → answers ((h ++ (Add i ∷ [])) ++ later) ≡ answers (h ++ later)
  answers_same later = answers-append (h ++ (Add i ∷ [])) later ∙ ap (λ n. n + answers later) (answers_add h i) ∙ sym (answers-append h later)

  verdict_same : (later : List Call) (k : ℕ) → verdict count k ((h ++ (Add i ∷ [])) ++ later) ≡ verdict count k (h ++ later)
  verdict_same later k = ⊎_elim
      (λ (t : ltb k count ≡ true). ap (λ b. cond (ltb k count) (cond b (Err AlreadyAdded) (Ok tt)) (Err NoSuchSource)) (named t))
      (λ (t : ltb k count ≡ false). cond-false (ltb k count) _ _ t ∙ sym (cond-false (ltb k count) _ _ t))
      (cases_Bool (ltb k count))
    where
      named : ltb k count ≡ true → names k ((h ++ (Add i ∷ [])) ++ later) ≡ names k (h ++ later)
      named t =
          names-append k (h ++ (Add i ∷ [])) later
          ∙ ap (λ b. b || names k later) (names_add k i h ∙ or_comm (names k h) (eqb k i) ∙ names_same count i k h (names k h) r t refl)
          ∙ sym (names-append k h later)

no_refusal : (l : List Float) → is_some (refusal_number (NextReply (sum_or_end l))) ≡ false
no_refusal [] = refl
no_refusal (x ∷ l) = refl

pub refused_changes_nothing_lem : RefusedChangesNothing
refused_changes_nothing_lem m lists h Next later d e = absurd (true≢false (sym e ∙ no_refusal (terms m lists h (answers h))))
refused_changes_nothing_lem m lists h (Add i) later (Add k) e = ap AddReply (verdict_same (length lists) i h (is_refused (length lists) i h e) later k)
refused_changes_nothing_lem m lists h (Add i) later Next e =
    let r = is_refused (length lists) i h e in
    ap₂ (λ n took. NextReply (sum_or_end (flat_map (term m lists n) took))) (answers_same (length lists) i h r later) (accepted_same (length lists) i h r later)
