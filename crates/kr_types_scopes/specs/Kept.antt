-- Between crates: the scopes of nodes, from those that were made.
use Rattle.std.specs.Prelude.{ℕ, List, [], ◌∷◌, map, slice_index_or}
use Rattle.kr_types_scopes.specs.declared.within.Within.{Within}
use Rattle.kr_types_scopes.specs.Scoped.{nowhere}

pub record Withins : Type 0 where
  pub items : List Within

-- each by its number
abbrev pub kept : List Within → List ℕ → List Within
kept made numbers = map (λ k. slice_index_or made k nowhere) numbers

-- with the places where the searches for the nodes' own names begin
abbrev pub begun : List Within → List ℕ → List Within
begun [] ss = []
begun (w ∷ ws) [] = w ∷ ws
begun (w ∷ ws) (s ∷ ss) = record w { start = s } ∷ begun ws ss
