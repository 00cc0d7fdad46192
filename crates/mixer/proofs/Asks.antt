-- Who plays, told by the places.
use Rattle.std.proofs.Common.{◌≡◌, ℕ, suc, ◌-◌, Bool, true, false, cond, ◌&&◌, ltb, leb, List, [], ◌∷◌, map, length, get_or, Some, None, Option, sym, refl, ap, ◌∙◌, arith}
use lib.Ieee.{Float}
use Rattle.std.specs.List.{ContainsAt, AllByRecursion, find}
use Rattle.std.proofs.ByRecursion.{All-from_get_or}
use Rattle.law.specs.declared.Call.{Call}
use Rattle.law.specs.Mixing.{answers, Accepted, nobody, accepted, frame_start}
use Rattle.law.specs.Playing.{plays, WhoPlays}
use Rattle.mixer.specs.declared.table.State.TheVariants.{Waiting, Playing, Ended}
use Rattle.mixer.specs.declared.table.Place.{Place}
use Rattle.mixer.specs.Following.{state_after, Rests}
use Rattle.mixer.specs.Turns.{is_playing}
use Rattle.mixer.proofs.Stepping.{state_at}

state_plays : (s q k n : ℕ) → is_playing (state_after s q q k n) ≡ (ltb s q && leb (q - s) n)
state_plays s q k n = go (ltb s q) (leb (q - s) n)
  where
    go : (a b : Bool) → is_playing (cond a (cond b (Playing k) Ended) (Waiting k)) ≡ (a && b)
    go true true = refl
    go true false = refl
    go false b = refl

-- an answer to who passes p, of these sources
abbrev Who : (Accepted → Bool) → List Accepted → Option ℕ → Type 0
Who p ks None = AllByRecursion (λ (a : Accepted). p a ≡ false) ks
Who p ks (Some i) = (a : Accepted) × ContainsAt ks a × (a.number ≡ i) × (p a ≡ true)

who_found : (test : ℕ → Bool) (p : Accepted → Bool) (ks : List Accepted) → AllByRecursion (λ (a : Accepted). test a.number ≡ p a) ks →
    Who p ks (find test (map (λ (a : Accepted). a.number) ks))
who_found test p [] all = tt
who_found test p (a ∷ ks) all = go (who_found test p ks all.1) (test a.number) (sym all.0)
  where
    later : (r : Option ℕ) → p a ≡ false → Who p ks r → Who p (a ∷ ks) r
    later None fails w = (fails, w)
    later (Some i) fails (b, (k, lt, at), is, does) = (b, (suc k, omega arith, at), is, does)

    go : Who p ks (find test (map (λ (a : Accepted). a.number) ks)) → (b : Bool) → p a ≡ b → Who p (a ∷ ks) (cond b (Some a.number) (find test (map (λ (a : Accepted). a.number) ks)))
    go rest true does = (a, (0, omega arith, λ d. refl), refl, does)
    go rest false fails = later (find test (map (λ (a : Accepted). a.number) ks)) fails rest

pub told_playing : (m : ℕ) (made : List (List Float)) (h : List Call) (ps : List Place) (order : List ℕ) (ls : List (List Float)) → Rests m made h ps order ls →
    (r : Option ℕ) → r ≡ find (λ i. is_playing (state_at ps i)) order → WhoPlays m made h r
told_playing m made h ps order ls f r e = by r (rw (e, f.order_is) (who_found (λ i. is_playing (state_at ps i)) (plays m made (answers h)) took
    (All-from_get_or _ took nobody (λ k lt.
    let a = get_or took k nobody in
    ap is_playing (f.sources k lt).state_is ∙ state_plays (frame_start m a.after) (answers h) k (length (get_or made a.number []))))))
  where
    took : List Accepted
    took = accepted (length made) h

    by : (r : Option ℕ) → Who (plays m made (answers h)) (accepted (length made) h) r → WhoPlays m made h r
    by None w = w
    by (Some i) w = w
