-- A whole answer: the sum so far, and the table once every source had its turn.
use Rattle.std.proofs.Common.{◌≡◌, ℕ, suc, ◌+◌, ◌<◌, ◌≤◌, Bool, cond, List, [], ◌∷◌, ◌++◌, length, get_or, take, Some, None, Option, sym, refl, ap, ◌∙◌, arith}
use lib.Ieee.{Float, binary32, add}
use Rattle.std.specs.Option.{option_to_list}
use Rattle.std.specs.List.{flat_map}
use Rattle.std.proofs.lemmas.List.{append-nil, take_all}
use Rattle.std.proofs.lemmas.List.Sums.{fold_push}
use Rattle.std.proofs.lemmas.Bool.{lt-ltb}
use Rattle.source.specs.Samples.{silence}
use Rattle.law.specs.declared.Call.{Call}
use Rattle.law.specs.declared.Call.TheVariants.{Next}
use Rattle.law.specs.Mixing.{answers, Accepted, nobody, accepted, term, terms, sum_or_end}
use Rattle.law.proofs.Histories.{answers_next, names_next, accepted_next}
use Rattle.law.proofs.Sums.{joined_more}
use Rattle.mixer.specs.declared.table.Place.{Place}
use Rattle.mixer.specs.Following.{Partway, Rests}
use Rattle.mixer.specs.Turns.{plus}
use Rattle.mixer.proofs.Stepping.{seen}

plus_more : (xs : List Float) (o : Option Float) → plus (sum_or_end xs) o ≡ sum_or_end (xs ++ option_to_list o)
plus_more [] None = refl
plus_more [] (Some x) = refl
plus_more (y ∷ ys) None = ap (λ (zs : List Float). sum_or_end (y ∷ zs)) (sym (append-nil ys))
plus_more (y ∷ ys) (Some x) = ap (λ (z : Float). Some z) (sym (fold_push (add binary32) (add binary32 silence y) ys x))

module _ (m : ℕ) (made : List (List Float)) (h : List Call) where
  abbrev took : List Accepted
  took = accepted (length made) h

  -- the sum of the first j sources' terms in the answer that follows the calls of h
  abbrev pub sum_so_far : ℕ → Option Float
  sum_so_far j = sum_or_end (flat_map (term m made (answers h)) (take j took))

  pub sum_more : (j : ℕ) (o : Option Float) → j < length took → option_to_list o ≡ term m made (answers h) (get_or took j nobody) →
      plus (sum_so_far j) o ≡ sum_so_far (j + 1)
  sum_more j o lt e =
      let f = term m made (answers h) in
      plus_more (flat_map f (take j took)) o ∙ ap (λ (ts : List Float). sum_or_end (flat_map f (take j took) ++ ts)) e ∙ ap sum_or_end (sym (joined_more f took j nobody lt))

  pub sum_all : (j : ℕ) → length took ≤ j → sum_so_far j ≡ sum_or_end (terms m made h (answers h))
  sum_all j le = ap (λ (ks : List Accepted). sum_or_end (flat_map (term m made (answers h)) ks)) (take_all j took le)

  -- every source had its turn in the answer
  pub all_turned : (j : ℕ) (ps : List Place) (order : List ℕ) (ls : List (List Float)) → length took ≤ j → Partway m made h (suc (answers h)) (seen (answers h) j) ps order ls →
      Partway m made h (suc (answers h)) (λ _. suc (answers h)) ps order ls
  all_turned j ps order ls le p = record {
    count = p.count;
    order_is = p.order_is;
    sources = λ k l. rw (ap (λ (b : Bool). cond b (suc (answers h)) (answers h)) (lt-ltb k j (omega arith))) at (p.sources k l);
    others = p.others;
  }

  -- and so the answer is given
  pub rests_next : (ps : List Place) (order : List ℕ) (ls : List (List Float)) → Partway m made h (suc (answers h)) (λ _. suc (answers h)) ps order ls → Rests m made (h ++ (Next ∷ [])) ps order ls
  rests_next ps order ls p = record {
    count = p.count;
    order_is = rw (accepted_next (length made) h) p.order_is;
    sources = rw (accepted_next (length made) h, answers_next h) p.sources;
    others = λ n l u. p.others n l (sym (names_next n h) ∙ u);
  }
