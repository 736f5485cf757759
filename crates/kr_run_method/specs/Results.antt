-- Between crates: expressions without `\result`: what the result of their method is, is nothing to them.
use Rattle.std.specs.Prelude.{◌≡◌, Bool, true, false, ◌||◌, List, Option}
use Rattle.kr_base.specs.declared.place.Place.{Place}
use Rattle.kr_ast.specs.Tree as trees
use Rattle.kr_ast.specs.Tree.{Tree}
use Rattle.kr_classes_table.specs.Types.{JavaType, VoidType}
use Rattle.kr_types_meaning.specs.Scopes.{Scope}
use Rattle.kr_types_meaning.specs.Typing.{judged}
use Rattle.kr_laws_types.specs.Shapes.{Expression, IsCode}
use Rattle.kr_mean.specs.Program.{Program}
use Rattle.kr_mean.specs.Steps.{State}
use Rattle.kr_mean.specs.Meaning.{value}

-- whether an expression, or one of several, has a `\result`
abbrev pub has_result : Tree → Bool
has_result (trees.Result p) = true
has_result (trees.Cons a b) = has_result a || has_result b
has_result (trees.FieldAccess p e n) = has_result e
has_result (trees.ArrayAccess p a i) = has_result a || has_result i
has_result (trees.Call p n es) = has_result es
has_result (trees.MethodCall p e n es) = has_result e || has_result es
has_result (trees.SuperCall p n es) = has_result es
has_result (trees.ObjectCreation p t es) = has_result es
has_result (trees.ArrayCreation p t e) = has_result e
has_result (trees.Unary p o e) = has_result e
has_result (trees.Step p o e) = has_result e
has_result (trees.Binary p o a b) = has_result a || has_result b
has_result (trees.InstanceOf p e t) = has_result e
has_result (trees.Conditional p c a b) = has_result c || (has_result a || has_result b)
has_result (trees.Cast p t e) = has_result e
has_result (trees.Assignment p a e) = has_result a || has_result e
has_result (trees.CompoundAssignment p o a e) = has_result a || has_result e
has_result (trees.Old p e) = has_result e
has_result t = false

-- the same place in a method without a result
abbrev pub without_result : Scope → Scope
without_result s = record s { result = VoidType }

abbrev pub TypedLaw : Type 0
TypedLaw = (arrays : List JavaType) (olds : Place → Option JavaType) (s : Scope) (e : Tree) → IsCode arrays olds (Expression false) s e → has_result e ≡ false
    → (judged (without_result s) e ≡ judged s e) × IsCode arrays olds (Expression false) (without_result s) e

abbrev pub RunsLaw : Type 0
RunsLaw = (arrays : List JavaType) (olds : Place → Option JavaType) (program : Program) (s : Scope) (e : Tree) (state : State) → IsCode arrays olds (Expression false) s e → has_result e ≡ false
    → value program (without_result s) e state ≡ value program s e state
