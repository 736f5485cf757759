-- To be believed: pure problems: the predicate leaves the candidates alone. No node of its code creates an object that the
-- finitization counts, or writes a field or element of one.
use Rattle.std.specs.Prelude.{◌≡◌, ℕ, ◌<◌, ◌⊎◌, Bool, true, false, List, [], ◌∷◌, ◌++◌, flat_map, option_to_list, codes, nat_eq}
use Rattle.kr_base.specs.declared.place.Place.{Place}
use Rattle.kr_ast.specs.Tree as trees
use Rattle.kr_ast.specs.Tree.{Tree}
use Rattle.kr_value.specs.declared.object.Class.{Class}
use Rattle.kr_value.specs.declared.object.Class.TheVariants.{Object}
use Rattle.kr_classes_table.specs.Types.{JavaType, ClassType}
use Rattle.kr_classes_table.specs.Table.{Method, method_named, is_below}
use Rattle.kr_classes_table.specs.Rules.{is_earlier}
use Rattle.kr_types_meaning.specs.Scopes.{Scope, Ensuring, in_contract, in_signals, written}
use Rattle.kr_mean.specs.Program.{Program, is_array_of, method_scope}
use Rattle.kr_mean.specs.Problem.{Problem, ClassDomain}
use Rattle.kr_mean.specs.Meaning.{Target, OwnField, FieldOf, ElementOf, NoTarget, target_of}
use Rattle.kr_mean.specs.Code.{Node, code, code_run, code_of_method}
use Rattle.kr_mean.specs.Runs.{root_class, tested_method, requires_of}

-- ---- the touch of a node

-- the variable that a node writes
abbrev pub written_by : Scope → Tree → Target
written_by s (trees.Assignment p a e) = target_of s a
written_by s (trees.CompoundAssignment p o a e) = target_of s a
written_by s (trees.Step p o e) = target_of s e
written_by s t = NoTarget

-- A field is one of each class at or below the class that declares it, an element one of each array of its type.
abbrev pub writes_to : Program → Target → Class → Bool
writes_to program (OwnField f) (Object c) = is_below program.table c f.class
writes_to program (FieldOf e f) (Object c) = is_below program.table c f.class
writes_to program (ElementOf a i t) class = is_array_of program t class
writes_to program _ class = false

abbrev pub is_class : JavaType → Class → Bool
is_class (ClassType c) (Object d) = nat_eq c d
is_class t class = false

-- whether a node creates an object of a class or array type, or may write a field or an element of one
abbrev pub may_touch : Program → Scope → Tree → Class → Bool
may_touch program s (trees.ObjectCreation p t es) class = is_class (written s t) class
may_touch program s (trees.ArrayCreation p t e) class = is_array_of program (written s t) class
may_touch program s t class = writes_to program (written_by s t) class

-- ---- the predicate's code

abbrev pub IsOneOf : {A : Type 0} → A → List A → Type 0
IsOneOf x [] = ⊥
IsOneOf x (y ∷ ys) = (y ≡ x) ⊎ IsOneOf x ys

abbrev pub rep_ok_method : Problem → List Method
rep_ok_method problem = option_to_list (method_named problem.program.table (root_class problem) (codes "repOk"))

abbrev pub tested : Problem → List Method
tested problem = option_to_list (tested_method problem problem.mode)

-- the conditions of `ensures` and `signals`, in source order
abbrev pub condition_after : Scope → Tree → List Node
condition_after s (trees.Ensures p e) = record { scope = in_contract Ensuring s; tree = e } ∷ []
condition_after s (trees.Signals p d e) = record { scope = in_signals d s; tree = e } ∷ []
condition_after s t = []

abbrev pub conditions_after : Program → Method → List Node
conditions_after program m = flat_map (condition_after (method_scope program m)) m.contracts

-- the conditions of the method under test
abbrev pub contract_of : Problem → List Node
contract_of problem = flat_map (requires_of problem.program) (tested problem) ++ flat_map (conditions_after problem.program) (tested problem)

-- the root's `repOk`, and the conditions
abbrev pub roots : Problem → List Node
roots problem = flat_map (code_of_method problem.program) (rep_ok_method problem) ++ flat_map (λ (e : Node). code e.scope e.tree) (contract_of problem)

-- a node of these, or of what such a node may run
pub data IsPredicateCode (problem : Problem) : Node → Type 0 where
  root : {node : Node} → IsOneOf node (roots problem) → IsPredicateCode problem node
  run : {node : Node} (by : Node) → IsPredicateCode problem by → IsOneOf node (code_run problem.program by) → IsPredicateCode problem node

-- the finitization counts objects of the class, or names the array type
abbrev pub IsCounted : Class → ℕ → Type 0
IsCounted (Object c) n = 0 < n
IsCounted class n = Unit {0}

abbrev pub IsFinitized : Problem → Class → Type 0
IsFinitized problem class = (d : ClassDomain) × IsOneOf d problem.domains × (d.class ≡ class) × IsCounted class d.count

-- a node that touches candidates
abbrev pub IsImpure : Problem → Node → Type 0
IsImpure problem node = IsPredicateCode problem node × ((class : Class) × (may_touch problem.program node.scope node.tree class ≡ true) × IsFinitized problem class)

abbrev pub IsPure : Problem → Type 0
IsPure problem = (node : Node) → IsImpure problem node → ⊥

-- ---- the first node that isn't pure

-- the place of a node that touches something
abbrev pub touch_place : Tree → List Place
touch_place (trees.Assignment p a e) = p ∷ []
touch_place (trees.CompoundAssignment p o a e) = p ∷ []
touch_place (trees.Step p o e) = p ∷ []
touch_place (trees.ObjectCreation p t es) = p ∷ []
touch_place (trees.ArrayCreation p t e) = p ∷ []
touch_place t = []

-- in file and source order
pub record IsFirstImpure (problem : Problem) (place : Place) : Type 0 where
  pub node : Node
  pub impure : IsImpure problem node
  pub at : touch_place node.tree ≡ place ∷ []
  pub first : (other : Node) (p : Place) → IsImpure problem other → touch_place other.tree ≡ p ∷ [] → is_earlier p place ≡ false
