-- A mixer that has made the first of a list of calls.
use Rattle.std.proofs.Common.{◌≡◌, ℕ, ◌+◌, ◌<◌, ◌≤◌, List, [], ◌∷◌, ◌++◌, length, get_or, take, IfOk, Ok, Err, Result, sym, ap, ◌∙◌, subst, arith, MatchResult}
use lib.Ieee.{Float}
use Rattle.std.proofs.lemmas.List.{append-nil, take_all}
use Rattle.law.specs.declared.Call.{Call}
use Rattle.law.specs.declared.Reply.{Reply}
use Rattle.law.specs.Mixing.{replies}
use Rattle.law.specs.Told.{Told}
use Rattle.law.proofs.Runs.{calls_more, replies_more}
use Rattle.law.proofs.Whole.{told}
use Rattle.mixer.specs.declared.Mixer.{Mixer}
use Rattle.mixer.specs.Following.{Follows, KeepsLaw, PerformsLaw}

module _ {B : Type 0} (lists : B → List (List Float)) (cs : List Call) where
  -- the first i calls turned x into y, and were answered by rs
  abbrev pub Answered : ℕ → Mixer B → List Reply → Mixer B → Type 0
  Answered i x rs y =
      (m : ℕ) (made : List (List Float)) (h : List Call) → Follows lists m made h x →
      (rs ≡ replies m made h (take i cs)) × Follows lists m made (h ++ take i cs) y

  pub answered_none : (x : Mixer B) (rs : List Reply) → rs ≡ [] → Answered 0 x rs x
  answered_none x rs e m made h f = (e, subst (λ (k : List Call). Follows lists m made k x) (sym (append-nil h)) f)

  pub answered_more : (i : ℕ) (d : Call) (x y z : Mixer B) (rs : List Reply) (r : Reply) → i < length cs →
      Answered i x rs y → KeepsLaw lists (get_or cs i d) y r z → Answered (i + 1) x (rs ++ (r ∷ [])) z
  answered_more i d x y z rs r lt a keeps m made h f =
      let p = a m made h f in
      let q = keeps m made (h ++ take i cs) p.1 in (
        ap (λ (ss : List Reply). ss ++ (r ∷ [])) p.0
            ∙ ap (λ (s : Reply). replies m made h (take i cs) ++ (s ∷ [])) q.0 ∙ replies_more m made h cs i d lt,
        subst (λ (k : List Call). Follows lists m made k z) (calls_more m made h cs i d lt) q.1,
      )

  pub answered_all : (i : ℕ) (x y : Mixer B) (rs : List Reply) → length cs ≤ i → Answered i x rs y → PerformsLaw lists cs x rs y
  answered_all i x y rs le a m made h f =
      let all : take i cs ≡ cs = take_all i cs le in
      let p = a m made h f in
      let one : 1 ≤ m = omega (arith, x.channels.low, f.channels) in (
        subst (Told m made h cs) (sym (p.0 ∙ ap (replies m made h) all)) (told m made h cs one),
        subst (λ (k : List Call). Follows lists m made (h ++ k) y) all p.1,
      )

  -- what was performed, told of a mixer whose calls are known
  pub told_of : {V E : Type 0} (items : V → List Reply) (Q : E → Type 0) (x y : Mixer B) (r : Result V E) →
      MatchResult r (λ v. PerformsLaw lists cs x (items v) y) Q →
      (m : ℕ) (made : List (List Float)) (h : List Call) → Follows lists m made h x → IfOk r (λ v. Told m made h cs (items v))
  told_of items Q x y (Ok v) p m made h f = (p m made h f).0
  told_of items Q x y (Err e) p m made h f = tt
