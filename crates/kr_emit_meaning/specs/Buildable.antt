-- To be believed: the problems whose structures code can build: where `new C()` sets fields to literals and does nothing else, where
-- the class of the builders has a name and a number left, and where arrays have elements of types that `new` can name.
use Rattle.std.specs.Prelude.{ℕ, ◌+◌, ◌==◌, Bool, true, false, ◌&&◌, ◌||◌, not, List, [], ◌∷◌, ◌++◌, length, flat_map, nat_lt, bytes_eq, slice_get, Option, Some, None, option_to_list, codes, if◌then◌else◌}
use Rattle.std.proofs.Common.{get_or}
use Rattle.kr_base.specs.declared.place.Place.{Place}
use Rattle.kr_base.specs.declared.refusal.Fault.{Fault as FaultOf}
use Rattle.kr_ast.specs.Tree as trees
use Rattle.kr_ast.specs.Tree.{Tree}
use Rattle.kr_ast.specs.declared.node.UnaryOperator.{UnaryOperator}
use Rattle.kr_ast.specs.declared.node.UnaryOperator.TheVariants.{Minus}
use Rattle.kr_classes_table.specs.Types.{JavaType, NumberType, BooleanType, VoidType, ClassType, ArrayType}
use Rattle.kr_classes_table.specs.Predefined.{PREDEFINED}
use Rattle.kr_classes_table.specs.Table.{Table, Heading, Field, Constructor, class_at, is_below, own_fields}
use Rattle.kr_classes_table.specs.Rules.{Fault, break_if, least}
use Rattle.kr_fin.specs.Least as by
use Rattle.kr_mean.specs.Problem.{Problem, ClassDomain, upto}
use Rattle.kr_mean.specs.Program.{Program}
use Rattle.kr_value.specs.declared.object.Class.{Class}
use Rattle.kr_value.specs.declared.object.Class.TheVariants.{Object, Array}
use Rattle.kr_emit_meaning.specs.declared.refusal.ElementRule.{ElementRule}
use Rattle.kr_emit_meaning.specs.declared.refusal.ElementRule.TheVariants.{Elements as UnnamedElements}

-- ---- construction

abbrev pub is_number : Tree → Bool
is_number (trees.Number p v) = true
is_number (trees.LongNumber p v) = true
is_number _ = false

abbrev pub is_negated : UnaryOperator → Tree → Bool
is_negated Minus e = is_number e
is_negated _ e = false

-- a literal, or `-` and a number; or absent
abbrev pub is_literal : Tree → Bool
is_literal trees.Nil = true
is_literal (trees.Number p v) = true
is_literal (trees.LongNumber p v) = true
is_literal (trees.Truth p v) = true
is_literal (trees.Null p) = true
is_literal (trees.Unary p o e) = is_negated o e
is_literal _ = false

abbrev pub is_class_below : Table → ℕ → Class → Bool
is_class_below table c (Object d) = is_below table d c
is_class_below table c _ = false

-- a class domain has objects of the class, or of one below it
abbrev pub is_counted : Table → ℕ → ClassDomain → Bool
is_counted table c domain = nat_lt 0 domain.count && is_class_below table c domain.class

-- the creation of some object runs the class's construction
abbrev pub is_built : Table → ℕ → List ClassDomain → Bool
is_built table c [] = false
is_built table c (d ∷ ds) = is_counted table c d || is_built table c ds

abbrev pub constructors_of : Table → ℕ → List Constructor
constructors_of table c = flat_map (λ d. d.constructors) (option_to_list (class_at table.classes c))

abbrev pub constructor_fault : Constructor → List Fault
constructor_fault k = break_if true 1 k.place

abbrev pub field_fault : Field → List Fault
field_fault f = break_if (not f.is_static && not (is_literal f.initial)) 1 f.place

abbrev pub construction_faults : Table → ℕ → List Fault
construction_faults table c = flat_map constructor_fault (constructors_of table c) ++ flat_map field_fault (own_fields table c)

abbrev pub class_faults : Problem → ℕ → List Fault
class_faults problem c = if is_built problem.program.table c problem.domains then construction_faults problem.program.table c else []

-- E1: a class with objects, or an ancestor of one, has a constructor, or an instance field whose initial value is no literal
abbrev pub E1 : Problem → List Fault
E1 problem = flat_map (class_faults problem) (upto (length problem.program.table.classes))

-- ---- the class of the builders

abbrev pub builders_name : List ℕ
builders_name = codes "KoratBuild"

-- the most classes beside it, predefined ones counted
abbrev pub MOST_CLASSES : ℕ
MOST_CLASSES = 63 + PREDEFINED

abbrev pub name_fault : Heading → List Fault
name_fault h = break_if (bytes_eq h.name builders_name) 2 h.place

abbrev pub number_fault : Heading → List Fault
number_fault h = break_if true 2 h.place

-- E2: a class has the name of the builders' class, or there is one that leaves no number for it
abbrev pub E2 : Problem → List Fault
E2 problem =
    let headings = problem.program.table.headings in
    flat_map name_fault headings ++ flat_map number_fault (option_to_list (slice_get headings MOST_CLASSES))

-- ---- arrays

-- the type of an array's elements
abbrev pub element_of : JavaType → JavaType
element_of (ArrayType t) = t
element_of t = VoidType

abbrev pub array_elements : Program → ℕ → JavaType
array_elements program k = element_of (get_or program.arrays k VoidType)

-- `new T[n]` is of the language
abbrev pub is_named : JavaType → Bool
is_named (NumberType w) = true
is_named BooleanType = true
is_named (ClassType c) = true
is_named _ = false

abbrev pub elements_fault : Program → List ℕ → Class → List (FaultOf ElementRule)
elements_fault program name (Array k) = if is_named (array_elements program k) then [] else record { rule = UnnamedElements; item = codes "arrays." ++ name } ∷ []
elements_fault program name _ = []

-- E3: an array type of the finitization whose elements are arrays or collections
abbrev pub E3 : Problem → List (FaultOf ElementRule)
E3 problem = flat_map (λ (d : ClassDomain). elements_fault problem.program d.name d.class) problem.domains

abbrev pub rank_of : ElementRule → ℕ
rank_of UnnamedElements = 3

-- ---- the first broken rule

-- E1 at a constructor's or a field's name, E2 at a class's, E3 at an item of the finitization
pub data BuildFault : Type 0 where
  Construction : Place → BuildFault
  ClassName : Place → BuildFault
  Elements : List ℕ → BuildFault

abbrev pub construction_at : Option Fault → Option BuildFault
construction_at None = None
construction_at (Some f) = Some (Construction f.place)

abbrev pub name_at : Option Fault → Option BuildFault
name_at None = None
name_at (Some f) = Some (ClassName f.place)

abbrev pub elements_at : Option (FaultOf ElementRule) → Option BuildFault
elements_at None = None
elements_at (Some f) = Some (Elements f.item)

abbrev pub first_of : Option BuildFault → Option BuildFault → Option BuildFault
first_of None other = other
first_of (Some fault) other = Some fault

-- the least rule, and of it the first place, or the least item
unfoldable pub build_fault : Problem → Option BuildFault
build_fault problem = first_of (construction_at (least (E1 problem))) (first_of (name_at (least (E2 problem))) (elements_at (by.least rank_of (E3 problem))))
