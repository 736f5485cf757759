-- To be believed: where a span is cut for workers.
use Rattle.std.specs.Prelude.{ℕ, ◌-◌, zero, suc, ◌+◌, List, [], ◌∷◌, Bool, ◌&&◌, if◌then◌else◌}
use Rattle.kr_base.specs.declared.span.Bound.TheVariants.{At}
use Rattle.kr_base.specs.declared.span.Span.{Span}
use Rattle.kr_base.specs.Bounds.{less}

-- the cut 0.k
abbrev pub first_level : ℕ → List ℕ
first_level k = 0 ∷ k ∷ []

abbrev pub is_inside : Span → List ℕ → Bool
is_inside span cut = less (At span.after) (At cut) && less (At cut) span.upto

-- of so many numbers from k on, those whose cut is strictly inside the span
abbrev pub cuts_from : Span → ℕ → ℕ → List (List ℕ)
cuts_from span k zero = []
cuts_from span k (suc n) = if is_inside span (first_level k) then first_level k ∷ cuts_from span (k + 1) n else cuts_from span (k + 1) n

-- 0.1, 0.2, .. below the number of workers, those strictly inside the span
abbrev pub cuts_for : Span → ℕ → List (List ℕ)
cuts_for span workers = cuts_from span 1 (workers - 1)
