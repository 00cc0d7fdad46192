-- The isolation of mixers: one source's values in one channel change no answer of another channel, and no kind of answer.
use Rattle.std.proofs.Common.{◌≡◌, ℕ, ◌+◌, ◌-◌, ◌*◌, ◌/◌, ◌%◌, ◌≤◌, Bool, true, false, cond, leb, List, [], ◌∷◌, ◌++◌, map, length, get_or, take, drop, Some, None, refl, ap, ◌∙◌, subst, ap₂, inl, inr, arith, length-append}
use native.Mathlib.Nat.{mul-add-mod_self_right}
use lib.Ieee.{Float}
use lib.ListN.{get_or-map}
use Rattle.std.specs.List.{flat_map, AllByRecursion}
use Rattle.std.proofs.lemmas.Nat.{div-add-mod'}
use Rattle.std.proofs.lemmas.List.{length-map}
use Rattle.std.proofs.lemmas.Bool.{cases_eq, leb-true}
use Rattle.law.specs.Mixing.{Accepted, accepted, frame_start, term, terms, sum_or_end, verdict, reply, answers}
use Rattle.law.specs.declared.Call.{Call}
use Rattle.law.specs.declared.Call.TheVariants.{Add, Next}
use Rattle.law.specs.declared.Reply.{Reply}
use Rattle.law.specs.declared.Reply.TheVariants.{Add as AddReply, Next as NextReply}
use Rattle.source.specs.Samples.{silence}
use Rattle.source.specs.Spans.{Span}
use Rattle.uniform.specs.Pieces.{Piece, pieces}
use Rattle.uniform.specs.Uniform.{piece_converted, uniform}
use Rattle.isolation.specs.Isolation.{Pairwise, PieceSaveIn, WholeFrames, SameKind, Like, Isolated}
use Rattle.isolation.proofs.Beside.{Beside, beside_from, beside_drop}
use Rattle.isolation.proofs.Frames.{Off, AgreeOff, agree_none, agree_append, agree_rate_converted, agree_channels_converted}

agree_piece : (d : ℕ) (p q : Piece) → PieceSaveIn d p q → WholeFrames p → AgreeOff p.channels d p.samples q.samples
agree_piece d p q h w = record {
  count = length p.samples / p.channels;
  whole = omega (arith, div-add-mod' (length p.samples) p.channels, w.1);
  same = beside_from (Off p.channels d) 0 p.samples q.samples silence h.as_long
      (λ i l m. h.elsewhere i l (subst (λ (k : ℕ). k % p.channels ≡ d → ⊥) (omega arith) m));
}

agree_piece_converted : (m rate d : ℕ) (p q : Piece) → PieceSaveIn d p q → WholeFrames p →
    AgreeOff m d (piece_converted m rate p) (piece_converted m rate q)
agree_piece_converted m rate d p q h w = rw (← h.one_format.0, ← h.one_format.1)
    (agree_channels_converted p.channels m d _ _ w.0
    (agree_rate_converted p.channels d p.rate rate p.samples q.samples (agree_piece d p q h w)))

agree_uniform : (m rate d : ℕ) (ps qs : List Piece) → Pairwise (PieceSaveIn d) ps qs → AllByRecursion WholeFrames ps →
    AgreeOff m d (flat_map (piece_converted m rate) ps) (flat_map (piece_converted m rate) qs)
agree_uniform m rate d [] [] h w = agree_none m d
agree_uniform m rate d [] (q ∷ qs) h w = elim h [ ]
agree_uniform m rate d (p ∷ ps) [] h w = elim h [ ]
agree_uniform m rate d (p ∷ ps) (q ∷ qs) h w =
    agree_append m d _ _ _ _ (agree_piece_converted m rate d p q h.0 w.0) (agree_uniform m rate d ps qs h.1 w.1)

-- a start that m divides changes no channel
mod_since : (m n q : ℕ) → n * m ≤ q → q % m ≡ (q - n * m) % m
mod_since m n q h = ap (λ (k : ℕ). k % m) (omega arith) ∙ mul-add-mod_self_right n m (q - n * m)

-- as many values, and the same ones where ok holds
pub record Alike (ok : Type 0) (xs ys : List Float) : Type 0 where
  pub as_many : length xs ≡ length ys
  pub the_same : ok → xs ≡ ys

alike_refl : {ok : Type 0} (xs ys : List Float) → xs ≡ ys → Alike ok xs ys
alike_refl xs ys e = record { as_many = ap length e; the_same = λ _. e }

alike_joined : {X : Type 0} {ok : Type 0} (f g : X → List Float) (ks : List X) → ((k : X) → Alike ok (f k) (g k)) → Alike ok (flat_map f ks) (flat_map g ks)
alike_joined f g [] h = alike_refl [] [] refl
alike_joined f g (k ∷ ks) h =
    let r = alike_joined f g ks h in
    record { as_many = simp length-append (omega (arith, (h k).as_many, r.as_many)); the_same = λ o. ap₂ ◌++◌ ((h k).the_same o) (r.the_same o) }

-- the value at place k of lists that agree
alike_at : (m d k : ℕ) (xs ys : List Float) → AgreeOff m d xs ys → Alike (Off m d k) (take 1 (drop k xs)) (take 1 (drop k ys))
alike_at m d k xs ys h = go (drop k xs) (drop k ys) (beside_drop (Off m d) k 0 k xs ys (omega arith) h.same)
  where
    go : (us vs : List Float) → Beside (Off m d) k us vs → Alike (Off m d k) (take 1 us) (take 1 vs)
    go [] [] b = alike_refl [] [] refl
    go [] (v ∷ vs) b = elim b [ ]
    go (u ∷ us) [] b = elim b [ ]
    go (u ∷ us) (v ∷ vs) b = record { as_many = refl; the_same = λ o. ap (λ (x : Float). x ∷ []) (b.0 o) }

same_kind_refl : (r s : Reply) → r ≡ s → SameKind r s
same_kind_refl r s e = subst (SameKind r) e (go r)
  where
    go : (r : Reply) → SameKind r r
    go (AddReply a) = refl
    go (NextReply None) = refl
    go (NextReply (Some x)) = tt

same_kind_sum : (xs ys : List Float) → length xs ≡ length ys → SameKind (NextReply (sum_or_end xs)) (NextReply (sum_or_end ys))
same_kind_sum [] [] l = refl
same_kind_sum [] (y ∷ ys) l = let no_way : ⊥ = omega arith in absurd no_way
same_kind_sum (x ∷ xs) [] l = omega arith
same_kind_sum (x ∷ xs) (y ∷ ys) l = tt

module _ (m rate S d : ℕ) (ps qs : List (List Span)) (like : Like S d ps qs) where
  abbrev left : List (List Float)
  left = map (uniform m rate) ps

  abbrev right : List (List Float)
  right = map (uniform m rate) qs

  count_same : length left ≡ length right
  count_same = simp length-map like.as_many

  alike_source : (i k : ℕ) → Alike (Off m d k) (take 1 (drop k (get_or left i []))) (take 1 (drop k (get_or right i [])))
  alike_source i k = rw (get_or-map (uniform m rate) ps i [], get_or-map (uniform m rate) qs i []) (elim (cases_eq i S) [
    | inl e ↦ rw e (alike_at m d k _ _ (agree_uniform m rate d (pieces (get_or ps S [])) (pieces (get_or qs S [])) like.values like.whole))
    | inr n ↦ alike_refl _ _ (ap (λ (ss : List Span). take 1 (drop k (uniform m rate ss))) (like.others i n))
  ])

  alike_term : (q : ℕ) (a : Accepted) → Alike (Off m d q) (term m left q a) (term m right q a)
  alike_term q a = go (leb s q) refl
    where
      s : ℕ
      s = frame_start m a.after

      go : (b : Bool) → leb s q ≡ b →
          Alike (Off m d q) (cond b (take 1 (drop (q - s) (get_or left a.number []))) []) (cond b (take 1 (drop (q - s) (get_or right a.number []))) [])
      go true e =
          let found = alike_source a.number (q - s) in
          record { as_many = found.as_many; the_same = λ o. found.the_same (λ f. o (mod_since m ((a.after + (m - 1)) / m) q (leb-true s q e) ∙ f)) }
      go false e = alike_refl [] [] refl

  alike_terms : (h : List Call) (q : ℕ) → Alike (Off m d q) (terms m left h q) (terms m right h q)
  alike_terms h q = rw (← count_same) (alike_joined (term m left q) (term m right q) (accepted (length left) h) (alike_term q))

  one-reply : (h : List Call) (c : Call) →
      SameKind (reply m left h c) (reply m right h c) × ((answers h % m ≡ d → ⊥) → reply m left h c ≡ reply m right h c)
  one-reply h (Add i) = let e = ap (λ (n : ℕ). AddReply (verdict n i h)) count_same in (same_kind_refl _ _ e, λ _. e)
  one-reply h Next =
      let r = alike_terms h (answers h) in
      (same_kind_sum _ _ r.as_many, λ o. ap (λ ts. NextReply (sum_or_end ts)) (r.the_same o))

pub isolated : Isolated
isolated m rate S d ps qs h c one like = one-reply m rate S d ps qs like h c
