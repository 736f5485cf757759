-- Between crates: which types expressions have.
use Rattle.std.specs.Prelude.{◌≡◌, Bool, true, false, Option, Some, List, []}
use Rattle.kr_base.specs.declared.place.Place.{Place}
use Rattle.kr_ast.specs.Tree as trees
use Rattle.kr_ast.specs.Tree.{Tree}
use Rattle.kr_classes_table.specs.Types.{JavaType}
use Rattle.kr_types_meaning.specs.Scopes.{Scope, AsValue}
use Rattle.kr_types_meaning.specs.Rules.{is_statement, is_variable}
use Rattle.kr_types_meaning.specs.Typing.{judged, type_in}
use Rattle.kr_laws_types.specs.Types.{is_variable_type, is_result_type, is_expression_type, AreVariables, HasVariables}
use Rattle.kr_laws_types.specs.Shapes.{Expression, IsCode}

-- a scope as a run sees it, which knows no loops and no roles
abbrev pub plain : Scope → Scope
plain s = record s { is_in_loop = false; role = AsValue }

-- an expression that may be written: a name, a field, an element
abbrev pub is_place : Tree → Bool
is_place (trees.Variable p n) = true
is_place (trees.FieldAccess p e n) = true
is_place (trees.ArrayAccess p a i) = true
is_place t = false

-- The type of an expression: one that expressions have at its position. A written expression is a place, of a variable's type.
pub record IsTyped (s : Scope) (e : Tree) : Type 0 where
  pub type : JavaType
  pub known : type_in (judged s e).typed ≡ Some type
  pub kind : is_expression_type (is_statement s.role) type ≡ true
  pub variable : is_variable (judged s e).typed ≡ true → (is_place e ≡ true) × (is_variable_type type ≡ true)

-- In a scope whose names have types of variables, each expression without broken nodes is typed so.
abbrev pub ExpressionsLaw : Type 0
ExpressionsLaw = (arrays : List JavaType) (olds : Place → Option JavaType) (s : Scope) (e : Tree)
    → HasVariables s.table → AreVariables s.locals → is_result_type s.result ≡ true → IsCode arrays olds (Expression false) (plain s) e → (judged s e).faults ≡ [] → IsTyped s e
