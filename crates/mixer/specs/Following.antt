-- Where a mixer stands after a list of calls.
use Rattle.std.specs.Prelude.{◌≡◌, ℕ, ◌-◌, ◌%◌, ◌<◌, false, cond, List, [], ◌∷◌, ◌++◌, map, length, drop, nat_le, nat_lt, slice_index_or, Float}
use Rattle.law.specs.declared.Call.{Call}
use Rattle.law.specs.declared.Reply.{Reply}
use Rattle.law.specs.Told.{Told}
use Rattle.law.specs.Mixing.{answers, names, Accepted, nobody, accepted, frame_start, reply}
use Rattle.mixer.specs.declared.table.State.{State}
use Rattle.mixer.specs.declared.table.State.TheVariants.{Idle, Waiting, Playing, Ended}
use Rattle.mixer.specs.declared.table.Place.{Place}
use Rattle.mixer.specs.declared.Mixer.{Mixer}
use Rattle.mixer.specs.Places.{idle}

-- The state of the k-th source in the order of adding, of n samples, that starts with answer s, once p answers were begun and it
-- had its turn in q of them.
abbrev pub state_after : ℕ → ℕ → ℕ → ℕ → ℕ → State
state_after s p q k n = cond (nat_lt s p) (cond (nat_le (q - s) n) (Playing k) Ended) (Waiting k)

-- The k-th accepted source, once p answers were begun and it had its turn in q of them: its state, and what its list still holds.
pub record Stands (m p q k : ℕ) (a : Accepted) (source : List Float) (state : State) (left : List Float) : Type 0 where
  pub state_is : state ≡ state_after (frame_start m a.after) p q k (length source)
  pub left_is : left ≡ drop (q - frame_start m a.after) source

-- A table's places and its order of adding, over `lists`, which were `made` when a mixer of m channels was made, after the calls of h, where
-- p answers were begun and the k-th accepted source had its turn in `heard k` of them. Sources that no call named are idle, and their lists untouched.
pub record Partway (m : ℕ) (made : List (List Float)) (h : List Call) (p : ℕ) (heard : ℕ → ℕ) (places : List Place) (order : List ℕ) (lists : List (List Float)) : Type 0 where
  pub count : length lists ≡ length made
  pub order_is : order ≡ map (λ a. a.number) (accepted (length made) h)
  pub sources : (k : ℕ) → k < length (accepted (length made) h) →
      Stands m p (heard k) k (slice_index_or (accepted (length made) h) k nobody) (slice_index_or made (slice_index_or (accepted (length made) h) k nobody).number [])
      (slice_index_or places (slice_index_or (accepted (length made) h) k nobody).number idle).state
      (slice_index_or lists (slice_index_or (accepted (length made) h) k nobody).number [])
  pub others : (i : ℕ) → i < length made → names i h ≡ false →
      ((slice_index_or places i idle).state ≡ Idle) × (slice_index_or lists i [] ≡ slice_index_or made i [])

-- The same between two calls, where each source had its turn in every answer.
abbrev pub Rests : ℕ → List (List Float) → List Call → List Place → List ℕ → List (List Float) → Type 0
Rests m made h places order lists = Partway m made h (answers h) (λ _. answers h) places order lists

-- A mixer of m channels made over the lists `made`, after the calls of h. `lists` says what its bank still holds.
pub record Follows {B : Type 0} (lists : B → List (List Float)) (m : ℕ) (made : List (List Float)) (h : List Call) (x : Mixer B) : Type 0 where
  pub channels : x.channels.count ≡ m
  pub phase : x.phase ≡ answers h % m
  pub table : Rests m made h x.table.places x.table.order.items (lists x.bank)

-- The call c turns the mixer x into y and is answered by r: whatever lists x was made over and whatever calls it has had, r is the
-- law's reply to c, and y is that mixer after c.
abbrev pub KeepsLaw : {B : Type 0} → (B → List (List Float)) → Call → Mixer B → Reply → Mixer B → Type 0
KeepsLaw lists c x r y =
    (m : ℕ) (made : List (List Float)) (h : List Call) → Follows lists m made h x → (r ≡ reply m made h c) × Follows lists m made (h ++ (c ∷ [])) y

-- The calls cs turn the mixer x into y and are answered by rs: whatever lists x was made over and whatever calls it has had, rs keeps
-- the law of the whole list, and y is that mixer after these calls.
abbrev pub PerformsLaw : {B : Type 0} → (B → List (List Float)) → List Call → Mixer B → List Reply → Mixer B → Type 0
PerformsLaw lists cs x rs y =
    (m : ℕ) (made : List (List Float)) (h : List Call) → Follows lists m made h x → Told m made h cs rs × Follows lists m made (h ++ cs) y
