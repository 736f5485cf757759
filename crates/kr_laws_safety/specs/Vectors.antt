-- Between crates: what holds of the heaps of candidates.
use Rattle.std.specs.Prelude.{◌≡◌, ℕ, List, map, Some}
use Rattle.kr_value.specs.declared.value.Value.TheVariants.{Ref as Reference}
use Rattle.kr_classes_table.specs.Types.{ClassType}
use Rattle.kr_classes_table.specs.Table.{Method}
use Rattle.kr_mean.specs.Problem.{Problem}
use Rattle.kr_mean.specs.Heaps.{heap_of, value_at}
use Rattle.kr_mean.specs.Runs.{root_class, parameter_values, tested_method}
use Rattle.kr_mean.specs.Space.{space_of, IsVector}
use Rattle.kr_mean.specs.WellFormed.{IsWellFormed}
use Rattle.kr_laws_safety.specs.Fits.{IsOf, AreOf, IsHeapOf}
use Rattle.kr_laws_safety.specs.Domains.{object_types, HaveDomainsTypes}

-- The candidate that a vector spells: each object of the heap is of its type, `this` is an object of the root's class, and
-- the parameters are of the method's types.
pub record IsTyped (problem : Problem) (vector : List ℕ) : Type 0 where
  pub heap : IsHeapOf problem.program (object_types problem) (heap_of problem vector)
  pub this : (o : ℕ) × (value_at problem vector 0 ≡ Reference o) × IsOf problem.program.table (object_types problem) (ClassType (root_class problem)) (Reference o)
  pub parameters : (m : Method) → tested_method problem problem.mode ≡ Some m → AreOf problem.program.table (object_types problem) (map (λ p. p.type) m.parameters) (parameter_values problem vector)

-- Every vector of a well formed problem whose domains are of their slots' types spells a candidate of its types.
abbrev pub VectorsLaw : Type 0
VectorsLaw = (problem : Problem) → IsWellFormed problem → HaveDomainsTypes problem → (vector : List ℕ) → IsVector (space_of problem) vector → IsTyped problem vector
