-- One source's turn, and what it does to a source that stands as it must.
use Rattle.std.proofs.Common.{◌≡◌, ℕ, zero, suc, ◌-◌, ◌%◌, ◌<◌, ◌≤◌, Bool, true, false, cond, leb, List, [], ◌∷◌, length, take, drop, is_some, None, sym, refl, ap, ◌∙◌, inl, inr, arith}
use lib.Dec.{leb-suc-suc}
use lib.Ieee.{Float}
use Rattle.std.specs.Option.{option_to_list}
use Rattle.std.proofs.lemmas.List.{drop_all}
use Rattle.std.proofs.lemmas.Bool.{lt-ltb, le-ltb, le-leb, lt-leb, cases_lt}
use Rattle.law.specs.Mixing.{frame_start}
use Rattle.law.proofs.Starts.{start_whole, start_least}
use Rattle.mixer.specs.declared.table.State.{State}
use Rattle.mixer.specs.declared.table.State.TheVariants.{Idle, Waiting, Playing, Ended}
use Rattle.source.specs.Samples.{first}
use Rattle.mixer.specs.Following.{state_after}
use Rattle.mixer.specs.Places.{started}
use Rattle.mixer.specs.Turns.{given, turned, left}

-- who does not play gives nothing, and stays
pub silent_given : (s : State) (l : List Float) → ((k : ℕ) → s ≡ Playing k → ⊥) → given s l ≡ None
silent_given Idle l n = refl
silent_given (Waiting k) l n = refl
silent_given (Playing k) l n = absurd (n k refl)
silent_given Ended l n = refl

pub silent_turned : (s : State) (l : List Float) → ((k : ℕ) → s ≡ Playing k → ⊥) → turned s l ≡ s
silent_turned Idle l n = refl
silent_turned (Waiting k) l n = refl
silent_turned (Playing k) l n = absurd (n k refl)
silent_turned Ended l n = refl

pub silent_left : (s : State) (l : List Float) → ((k : ℕ) → s ≡ Playing k → ⊥) → left s l ≡ l
silent_left Idle l n = refl
silent_left (Waiting k) l n = refl
silent_left (Playing k) l n = absurd (n k refl)
silent_left Ended l n = refl

-- what a turn gives and leaves, of a source in state s whose list is l
pub record Turn (gives : List Float) (becomes : State) (leaves : List Float) (s : State) (l : List Float) : Type 0 where
  pub gave : option_to_list (given s l) ≡ gives
  pub became : turned s l ≡ becomes
  pub stayed : left s l ≡ leaves

-- a source that plays, after t turns
playing_turn : (k t : ℕ) (source : List Float) → t ≤ length source →
    Turn (take 1 (drop t source)) (cond (leb (suc t) (length source)) (Playing k) Ended) (drop (suc t) source) (Playing k) (drop t source)
playing_turn k zero [] le = record { gave = refl; became = refl; stayed = refl }
playing_turn k zero (x ∷ xs) le = record { gave = refl; became = sym (ap (λ (b : Bool). cond b (Playing k) Ended) (le-leb 1 (suc (length xs)) (omega arith))); stayed = refl }
playing_turn k (suc t) [] le = let z : ⊥ = omega arith in absurd z
playing_turn k (suc t) (x ∷ xs) le =
    let r = playing_turn k t xs (omega arith) in
    record { gave = r.gave; became = r.became ∙ ap (λ (b : Bool). cond b (Playing k) Ended) (sym (leb-suc-suc (suc t) (length xs))); stayed = r.stayed }

-- a source that has ended
ended_turn : (t : ℕ) (source : List Float) → length source < t → Turn (take 1 (drop t source)) Ended (drop (suc t) source) Ended (drop t source)
ended_turn t source lt =
    let now-none : drop t source ≡ [] = drop_all t source (omega arith) in
    let then-none : drop (suc t) source ≡ [] = drop_all (suc t) source (omega arith) in
    rw (now-none, then-none) (record { gave = refl; became = refl; stayed = refl })

-- a source that starts with answer s, in answer q
pub turn_at : (s q k : ℕ) (source : List Float) →
    Turn (cond (leb s q) (take 1 (drop (q - s) source)) []) (state_after s (suc q) (suc q) k (length source)) (drop (suc q - s) source)
    (state_after s (suc q) q k (length source)) (drop (q - s) source)
turn_at s q k source = elim (cases_lt q s) [
  | inl lt ↦
      let none : q - s ≡ 0 = omega arith in
      let still : suc q - s ≡ 0 = omega arith in
      rw (lt-leb s q lt, le-ltb s (suc q) (omega arith), none, still) (record { gave = refl; became = refl; stayed = refl })
  | inr ge ↦
      let more : suc q - s ≡ suc (q - s) = omega arith in
      rw (le-leb s q ge, lt-ltb s (suc q) (omega arith), more) (elim (cases_lt (length source) (q - s)) [
        | inl gone ↦ rw (lt-leb (q - s) (length source) gone, lt-leb (suc (q - s)) (length source) (omega arith)) (ended_turn (q - s) source gone)
        | inr there ↦ rw (le-leb (q - s) (length source) there) (playing_turn k (q - s) source there)
      ])
]

-- a frame begins with answer q exactly if a source that waits starts with it
opens_at : (s q k n : ℕ) → s ≤ q → started (state_after s q q k n) ≡ state_after s (suc q) q k n
opens_at s q k n le = elim (cases_lt s q) [
  | inl lt ↦ rw (lt-ltb s q lt, lt-ltb s (suc q) (omega arith)) (same (leb (q - s) n))
  | inr ge ↦
      let none : q - s ≡ 0 = omega arith in
      rw (le-ltb s q ge, lt-ltb s (suc q) (omega arith), none, le-leb 0 n (omega arith))
]
  where
    same : (b : Bool) → started (cond b (Playing k) Ended) ≡ cond b (Playing k) Ended
    same true = refl
    same false = refl

stays_at : (s q k n : ℕ) → (s ≡ q → ⊥) → state_after s q q k n ≡ state_after s (suc q) q k n
stays_at s q k n ne = ap (λ (b : Bool). cond b (cond (leb (q - s) n) (Playing k) Ended) (Waiting k)) (elim (cases_lt s q) [
  | inl lt ↦ lt-ltb s q lt ∙ sym (lt-ltb s (suc q) (omega arith))
  | inr ge ↦ le-ltb s q ge ∙ sym (le-ltb s (suc q) (omega arith))
])

pub frame_opens : (m q n k l : ℕ) → 1 ≤ m → n ≤ q → q % m ≡ 0 → started (state_after (frame_start m n) q q k l) ≡ state_after (frame_start m n) (suc q) q k l
frame_opens m q n k l one early whole = opens_at (frame_start m n) q k l (start_least m n q one early whole)

pub frame_goes : (m q n k l : ℕ) → (q % m ≡ 0 → ⊥) → state_after (frame_start m n) q q k l ≡ state_after (frame_start m n) (suc q) q k l
frame_goes m q n k l not-whole = stays_at (frame_start m n) q k l (λ e. not-whole (ap (λ (j : ℕ). j % m) (sym e) ∙ start_whole m n))

-- who plays and has a sample left plays on
pub playing_on : (k : ℕ) (s : State) (l : List Float) → s ≡ Playing k → is_some (first l) ≡ true → turned s l ≡ s
playing_on k s [] e some = let z : ◌≡◌ {A = ℕ} 0 1 = cc in let f : ⊥ = omega arith in absurd f
playing_on k s (x ∷ l) e some = rw e refl
