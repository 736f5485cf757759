-- To be believed: the heap that a builder leaves.
use Rattle.std.specs.Prelude.{◌≡◌, ℕ, ◌*◌, ◌+◌, ◌≤◌, ◌==◌, true, List, [], ◌∷◌, ◌++◌, length, map, flat_map, codes, decimal, None, Ok, if◌then◌else◌}
use Rattle.std.specs.List.{position_or_len}
use Rattle.std.proofs.Common.{get_or}
use Rattle.kr_base.specs.Places.{nowhere}
use Rattle.kr_ast.specs.Tree as trees
use Rattle.kr_ast.specs.Tree.{Tree}
use Rattle.kr_classes_table.specs.Types.{VoidType, is_same}
use Rattle.kr_emit_meaning.specs.Builders.{class_of_object, objects_in}
use Rattle.kr_mean.specs.Meaning.{value}
use Rattle.kr_mean.specs.Places.{SlotPlace, This, Parameter, At}
use Rattle.kr_mean.specs.Problem.{Problem, slot_at}
use Rattle.kr_mean.specs.Program.{Program, class_scope}
use Rattle.kr_mean.specs.Steps.{State}
use Rattle.kr_types_meaning.specs.Scopes.{Scope}
use Rattle.kr_value.specs.Heaps.{HeapObject}
use Rattle.kr_value.specs.declared.object.Class.{Class}
use Rattle.kr_value.specs.declared.object.Class.TheVariants.{Object, Array, Set, List as ListClass}
use Rattle.kr_value.specs.declared.object.Spot.{Spot}
use Rattle.kr_value.specs.declared.object.Spot.TheVariants.{Field, Length, Element}
use Rattle.kr_value.specs.declared.value.Value.{Value}
use Rattle.kr_value.specs.declared.value.Value.TheVariants.{Int, Bool as Truth, Null, Ref as Reference}

-- the number that an object of a structure gets: its position among those that the structure names
abbrev pub renamed : List ℕ → Value → Value
renamed objects (Reference o) = Reference (position_or_len (λ m. m == o) objects)
renamed objects (Int n) = Int n
renamed objects (Truth b) = Truth b
renamed objects Null = Null

-- a class or array type by its number in another program; classes of the sources keep theirs
abbrev pub class_in : Program → Program → Class → Class
class_in program problem_program (Array k) = Array (position_or_len (λ t. is_same t (get_or problem_program.arrays k VoidType)) program.arrays)
class_in program problem_program (Object c) = Object c
class_in program problem_program Set = Set
class_in program problem_program ListClass = ListClass

-- what an object has at a spot; a length isn't kept
abbrev pub value_at_spot : Value → Spot → List Value
value_at_spot v (Field f) = v ∷ []
value_at_spot v (Element i) = v ∷ []
value_at_spot v Length = []

abbrev pub value_of_object : ℕ → Value → SlotPlace → List Value
value_of_object o v (At p spot) = if p == o then value_at_spot v spot else []
value_of_object o v This = []
value_of_object o v (Parameter i) = []

-- the values that a structure has of an object
abbrev pub values_of_object : Problem → List (ℕ × Value) → ℕ → List Value
values_of_object problem structure o = flat_map (λ (p : ℕ × Value). value_of_object o p.1 (slot_at problem p.0).place) structure

abbrev pub built_object : Program → Problem → List (ℕ × Value) → ℕ → HeapObject
built_object program problem structure o = record {
  class = class_in program problem.program (class_of_object problem o);
  values = map (renamed (objects_in structure)) (values_of_object problem structure o);
}

-- the objects of a structure, in the order in which it names them
abbrev pub built_heap : Program → Problem → List (ℕ × Value) → List HeapObject
built_heap program problem structure = map (built_object program problem structure) (objects_in structure)

-- ---- a call of a builder

-- `bN()`, in the code of the class of this number
abbrev pub call_scope : Program → ℕ → Scope
call_scope program c = record (class_scope program c) { is_static = true }

abbrev pub call_of : ℕ → Tree
call_of n = trees.Call nowhere (codes "b" ++ decimal n) trees.Nil

-- no object is there
abbrev pub empty_state : ℕ → State
empty_state fuel = record { this_value = Null; locals = []; result = None; olds = []; thrown = None; heap = []; candidates = 0; fuel = fuel }

-- the fuel that is enough for a structure
abbrev pub enough : List (ℕ × Value) → ℕ
enough structure = 16 * (length structure + 1)

-- With any fuel that is enough, a call gives the root, and leaves the structure's objects with their values.
pub record Builds (program : Program) (c n : ℕ) (problem : Problem) (structure : List (ℕ × Value)) : Type 0 where
  pub root : (fuel : ℕ) → enough structure ≤ fuel → (value program (call_scope program c) (call_of n) (empty_state fuel)).said ≡ Ok (Reference 0)
  pub heap : (fuel : ℕ) → enough structure ≤ fuel → (value program (call_scope program c) (call_of n) (empty_state fuel)).after.heap ≡ built_heap program problem structure
