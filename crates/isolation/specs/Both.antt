-- Isolation of two mixers under the same calls.
use Rattle.std.specs.Prelude.{◌≡◌, ℕ, ◌%◌, ◌<◌, List, ◌++◌, map, length, take, None, ◌≢◌, slice_index_or, Float}
use Rattle.law.specs.declared.Call.{Call}
use Rattle.law.specs.declared.Reply.{Reply}
use Rattle.law.specs.declared.Reply.TheVariants.{Next}
use Rattle.law.specs.Mixing.{answers}
use Rattle.source.specs.Spans.{Span}
use Rattle.uniform.specs.Uniform.{uniform}
use Rattle.mixer.specs.declared.Mixer.{Mixer}
use Rattle.mixer.specs.Following.{Follows}
use Rattle.isolation.specs.Isolation.{Like, SameKind}

-- The replies rs of the mixer x and qs of the mixer y to the calls cs: where both were made over the uniform streams of sources that are
-- alike but for the values of source S in channel d, and have had the same calls h, replies k are of one kind, and the same unless they
-- are answers in channel d.
abbrev pub IsolatedRuns : {A B : Type 0} → (A → List (List Float)) → (B → List (List Float)) → List Call → Mixer A → Mixer B → List Reply → List Reply → Type 0
IsolatedRuns of-a of-b cs x y rs ss =
    (m rate S d : ℕ) (ps qs : List (List Span)) (h : List Call) → Like S d ps qs →
    Follows of-a m (map (uniform m rate) ps) h x → Follows of-b m (map (uniform m rate) qs) h y →
    (k : ℕ) → k < length cs →
    SameKind (slice_index_or rs k (Next None)) (slice_index_or ss k (Next None)) × ((answers (h ++ take k cs) % m ≢ d) → slice_index_or rs k (Next None) ≡ slice_index_or ss k (Next None))
