-- The replies to a list of calls, one call after another.
use Rattle.std.proofs.Common.{◌≡◌, ℕ, zero, suc, ◌+◌, ◌<◌, List, [], ◌∷◌, ◌++◌, length, get_or, take, sym, refl, ap, ◌∙◌, arith}
use lib.Ieee.{Float}
use Rattle.std.proofs.lemmas.List.{append-nil, append_assoc, take_at, take_more}
use Rattle.law.specs.declared.Call.{Call}
use Rattle.law.specs.declared.Call.TheVariants.{Next}
use Rattle.law.specs.declared.Reply.{Reply}
use Rattle.law.specs.Asked.{EarlierStays}
use Rattle.law.specs.Mixing.{reply, replies}

module _ (m : ℕ) (lists : List (List Float)) where
  pub length-replies : (h cs : List Call) → length (replies m lists h cs) ≡ length cs
  length-replies h [] = refl
  length-replies h (c ∷ cs) = ap suc (length-replies (h ++ (c ∷ [])) cs)

  -- the replies to the first calls of a longer list
  pub replies-append : (h cs ds : List Call) → replies m lists h (cs ++ ds) ≡ replies m lists h cs ++ replies m lists (h ++ cs) ds
  replies-append h [] ds = ap (λ (k : List Call). replies m lists k ds) (sym (append-nil h))
  replies-append h (c ∷ cs) ds =
      ap (λ (rs : List Reply). reply m lists h c ∷ rs)
      (replies-append (h ++ (c ∷ [])) cs ds
      ∙ ap (λ (k : List Call). replies m lists (h ++ (c ∷ [])) cs ++ replies m lists k ds) (append_assoc h (c ∷ []) cs))

  -- one call more
  pub calls_more : (h cs : List Call) (i : ℕ) (d : Call) → i < length cs → (h ++ take i cs) ++ (get_or cs i d ∷ []) ≡ h ++ take (i + 1) cs
  calls_more h cs i d lt = append_assoc h (take i cs) (get_or cs i d ∷ []) ∙ ap (λ (k : List Call). h ++ k) (sym (take_more cs i d lt))

  pub replies_more : (h cs : List Call) (i : ℕ) (d : Call) → i < length cs →
      replies m lists h (take i cs) ++ (reply m lists (h ++ take i cs) (get_or cs i d) ∷ []) ≡ replies m lists h (take (i + 1) cs)
  replies_more h cs i d lt =
      sym (replies-append h (take i cs) (get_or cs i d ∷ []))
      ∙ ap (λ (k : List Call). replies m lists h k) (sym (take_more cs i d lt))

  -- reply k is the reply to call k after the calls before it
  pub reply_at : (h cs : List Call) (k : ℕ) (d : Reply) → k < length cs → get_or (replies m lists h cs) k d ≡ reply m lists (h ++ take k cs) (get_or cs k Next)
  reply_at h [] k d lt = absurd (omega arith)
  reply_at h (c ∷ cs) zero d lt = ap (λ (g : List Call). reply m lists g c) (sym (append-nil h))
  reply_at h (c ∷ cs) (suc k) d lt =
      reply_at (h ++ (c ∷ [])) cs k d (omega arith) ∙ ap (λ (g : List Call). reply m lists g (get_or cs k Next)) (append_assoc h (c ∷ []) (take k cs))

pub earlier_stays_lem : EarlierStays
earlier_stays_lem m lists h cs ds =
    ap (take (length cs)) (replies-append m lists h cs ds)
    ∙ take_at (replies m lists h cs) (replies m lists (h ++ cs) ds) (length cs) (length-replies m lists h cs)
