-- Between crates: where the remainder of a span is split: above the mark, up to which it is done, and below its bound.
use Rattle.std.specs.Prelude.{◌≡◌, ℕ, ◌+◌, ◌^◌, List, [], ◌∷◌, ◌++◌, Bool, true, false, map, nat_lt, Option, Some, if◌then◌else◌}
use Rattle.std.specs.List.{find}
use Rattle.kr_base.specs.declared.span.Bound.{Bound}
use Rattle.kr_base.specs.declared.span.Bound.TheVariants.{At}
use Rattle.kr_base.specs.Cuts.{Before}
use Rattle.kr_base.specs.Bounds.{less}

-- the number plus one, if that fits 32 bits
abbrev pub raised : ℕ → List (List ℕ)
raised n = if nat_lt (n + 1) (2 ^ 32) then ((n + 1) ∷ []) ∷ [] else []

-- the prefixes of a cut, shortest first, each with its last number raised by one
abbrev pub raisings : List ℕ → List (List ℕ)
raisings [] = []
raisings (n ∷ ns) = raised n ++ map (λ later. n ∷ later) (raisings ns)

-- the first raised prefix below the bound
abbrev pub inside_of : List ℕ → Bound → Option (List ℕ)
inside_of mark bound = find (λ cut. less (At cut) bound) (raisings mark)

-- It is above the mark and below the bound.
abbrev pub InsideLaw : Type 0
InsideLaw = (mark cut : List ℕ) (bound : Bound) → inside_of mark bound ≡ Some cut → Before mark cut × (less (At cut) bound ≡ true)

-- the first raised prefix below a bound, of a cut that begins with a front
abbrev pub onward : List ℕ → List ℕ → Bound → Option (List ℕ)
onward front rest bound = find (λ cut. less (At cut) bound) (map (λ later. front ++ later) (raisings rest))

-- A number was pushed on a front: raised, and then the front is the result; or unchanged, and then the search continues.
abbrev pub Adds : List ℕ → ℕ → Bound → Bool → List ℕ → Type 0
Adds front n bound true new = (new ≡ front ++ (n + 1) ∷ []) × ((rest : List ℕ) → onward front (n ∷ rest) bound ≡ Some new)
Adds front n bound false new = (new ≡ front ++ n ∷ []) × ((rest : List ℕ) → onward front (n ∷ rest) bound ≡ onward new rest bound)
