-- The front of a source, one sample on, and at its end.
use Rattle.std.proofs.Common.{◌≡◌, ℕ, zero, suc, ◌≤◌, List, [], ◌∷◌, length, drop, Some, None, Option, sym, refl, ap, ◌∙◌, arith}
use native.Mathlib.Bridge.{le_prop}
use native.Mathlib.Nat.{le_of_suc-le}
use lib.Ieee.{Float}
use Rattle.common.specs.declared.format.Format.{Format}
use Rattle.source.specs.Meanings.{Spans, silent, open_span, known_span, Meaning, known_from, all_samples, less_first, samples_of, with_spans, longest_known}
use Rattle.source.specs.Samples.{first, rest}
use Rattle.uniform.specs.Takes.{less, behind}

-- a source with nothing to give has no span
pub no_span : (ss : Spans) → first (all_samples ss) ≡ None → ss ≡ silent
no_span silent e = refl
no_span (open_span f x xs) e = let z : ◌≡◌ {A = ℕ} 0 1 = cc in absurd (omega arith)
no_span (known_span f x xs h ss) e = let z : ◌≡◌ {A = ℕ} 0 1 = cc in absurd (omega arith)

pub less_silent : (n : ℕ) → less n silent ≡ silent
less_silent zero = refl
less_silent (suc n) = less_silent n

pub samples_less_first : (ss : Spans) → all_samples (less_first ss) ≡ rest (all_samples ss)
samples_less_first silent = refl
samples_less_first (open_span f x []) = refl
samples_less_first (open_span f x (y ∷ xs)) = refl
samples_less_first (known_span f x [] h ss) = refl
samples_less_first (known_span f x (y ∷ xs) h ss) = refl

-- a source that has given its end stands behind any of its fronts
pub ended_behind : (o : Option ℕ) (m : Meaning) → first (samples_of m) ≡ None → m ≡ behind o m
ended_behind None m e = ap (with_spans m) (no_span m.spans e)
ended_behind (Some n) m e = ap (with_spans m) (no_span m.spans e ∙ sym (less_silent n) ∙ ap (less n) (sym (no_span m.spans e)))

-- what is left of a known span
pub less_known : (k : ℕ) (f : Format) (xs : List Float) (h : length xs ≤ longest_known) (ss : Spans) (h' : length (drop k xs) ≤ longest_known) → k ≤ length xs →
    less k (known_from f xs h ss) ≡ known_from f (drop k xs) h' ss
less_known zero f xs h ss h' l = ap (λ p. known_from f xs p ss) (le_prop h h')
less_known (suc k) f [] h ss h' l = absurd (omega arith)
less_known (suc k) f (x ∷ xs) h ss h' l = less_known k f xs (le_of_suc-le h) ss h' (omega arith)

-- after the end comes the end
pub still_ended : (xs : List Float) → first xs ≡ None → first (rest xs) ≡ None
still_ended [] e = refl
still_ended (x ∷ xs) e = let z : ◌≡◌ {A = ℕ} 0 1 = cc in absurd (omega arith)
