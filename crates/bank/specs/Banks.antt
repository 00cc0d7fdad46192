-- Numbered lists of samples in one format.
use Rattle.std.specs.Prelude.{◌≡◌, ℕ, cond, List, [], ◌∷◌, ◌++◌, length, nat_lt, slice_index_or, slice_set, Float}
use Rattle.common.specs.declared.format.Format.{Format}
use Rattle.source.specs.Meanings.{open_from}
use Rattle.source.specs.Samples.{rest}
use Rattle.source.specs.Spans.{listed}
use Rattle.uniform.specs.Uniform.{uniform}

-- No bank has more lists.
abbrev pub most_lists : ℕ
most_lists = 16

-- List i without its first sample; no other list alters.
abbrev pub drawn_at : List (List Float) → ℕ → List (List Float)
drawn_at ls i = slice_set ls i (rest (slice_index_or ls i []))

-- One list more, if there is a number left for it.
abbrev pub with_list : List (List Float) → List Float → List (List Float)
with_list ls l = cond (nat_lt (length ls) most_lists) (ls ++ (l ∷ [])) ls

-- What a list still holds is a source too, of one open span in the format, whose uniform stream is that list itself.
abbrev pub OwnStreams : Format → List (List Float) → Type 0
OwnStreams f ls = (i : ℕ) → uniform f.channels.count f.rate.rate (listed (open_from f (slice_index_or ls i []))) ≡ slice_index_or ls i []
