-- Between crates: code as the grammar derives it: the positions of expressions and of statements.
use Rattle.std.specs.Prelude.{◌≡◌, ℕ, Bool, true, false, Option, Some, List}
use Rattle.kr_base.specs.declared.place.Place.{Place}
use Rattle.kr_ast.specs.Tree as trees
use Rattle.kr_ast.specs.Tree.{Tree}
use Rattle.kr_classes_table.specs.Types.{JavaType, ArrayType}
use Rattle.kr_classes_table.specs.Arrays.{array_number}
use Rattle.kr_types_meaning.specs.Scopes.{Scope, Locals, written, in_old, bind_local, declaring, after}
use Rattle.kr_types_meaning.specs.Rules.{is_after_body}
use Rattle.kr_types_meaning.specs.Typing.{judged, type_in}
use Rattle.kr_laws_types.specs.DerivedExpressions.{IsWritten, IsCreated, is_compound}
use Rattle.kr_laws_types.specs.Derivation.{IsBlock, IsCaught}

-- an expression, which may be absent or not; expressions; a statement, which may be a declaration of locals or not; statements;
-- declarators; one; the clauses of a `try`; one
pub data Sort : Type 0 where
  Expression : Bool → Sort
  Expressions : Sort
  Statement : Bool → Sort
  Statements : Sort
  Declarators : Sort
  Declarator : Sort
  Catches : Sort
  Catch : Sort

-- the array type of what is created has a number
abbrev pub HasNumber : List JavaType → JavaType → Type 0
HasNumber arrays t = (k : ℕ) × (array_number arrays (ArrayType t) ≡ Some k)

-- Code of a sort, in its scope. The array types that it creates have numbers among these; in a postcondition the type of each
-- `\old` is known by its place.
abbrev pub IsCode : List JavaType → (Place → Option JavaType) → Sort → Scope → Tree → Type 0
IsCode arrays olds (Expression absent) s trees.Nil = absent ≡ true
IsCode arrays olds (Expression absent) s (trees.Number p n) = Unit {0}
IsCode arrays olds (Expression absent) s (trees.LongNumber p n) = Unit {0}
IsCode arrays olds (Expression absent) s (trees.Truth p b) = Unit {0}
IsCode arrays olds (Expression absent) s (trees.Null p) = Unit {0}
IsCode arrays olds (Expression absent) s (trees.This p) = Unit {0}
IsCode arrays olds (Expression absent) s (trees.Variable p n) = Unit {0}
IsCode arrays olds (Expression absent) s (trees.FieldAccess p e n) = IsCode arrays olds (Expression false) s e
IsCode arrays olds (Expression absent) s (trees.ArrayAccess p a i) = IsCode arrays olds (Expression false) s a × IsCode arrays olds (Expression false) s i
IsCode arrays olds (Expression absent) s (trees.Call p n es) = IsCode arrays olds Expressions s es
IsCode arrays olds (Expression absent) s (trees.MethodCall p e n es) = IsCode arrays olds (Expression false) s e × IsCode arrays olds Expressions s es
IsCode arrays olds (Expression absent) s (trees.SuperCall p n es) = IsCode arrays olds Expressions s es
IsCode arrays olds (Expression absent) s (trees.ObjectCreation p t es) = IsCreated t × IsCode arrays olds Expressions s es
IsCode arrays olds (Expression absent) s (trees.ArrayCreation p t e) = IsWritten t × HasNumber arrays (written s t) × IsCode arrays olds (Expression false) s e
IsCode arrays olds (Expression absent) s (trees.Unary p o e) = IsCode arrays olds (Expression false) s e
IsCode arrays olds (Expression absent) s (trees.Step p o e) = IsCode arrays olds (Expression false) s e
IsCode arrays olds (Expression absent) s (trees.Binary p o a b) = IsCode arrays olds (Expression false) s a × IsCode arrays olds (Expression false) s b
IsCode arrays olds (Expression absent) s (trees.InstanceOf p e t) = IsCode arrays olds (Expression false) s e × IsWritten t
IsCode arrays olds (Expression absent) s (trees.Conditional p c a b) = IsCode arrays olds (Expression false) s c × IsCode arrays olds (Expression false) s a × IsCode arrays olds (Expression false) s b
IsCode arrays olds (Expression absent) s (trees.Cast p t e) = IsWritten t × IsCode arrays olds (Expression false) s e
IsCode arrays olds (Expression absent) s (trees.Assignment p a b) = IsCode arrays olds (Expression false) s a × IsCode arrays olds (Expression false) s b
IsCode arrays olds (Expression absent) s (trees.CompoundAssignment p o a b) = (is_compound o ≡ true) × IsCode arrays olds (Expression false) s a × IsCode arrays olds (Expression false) s b
IsCode arrays olds (Expression absent) s (trees.Result p) = Unit {0}
IsCode arrays olds (Expression absent) s (trees.Old p e) = (is_after_body s.part ≡ true → olds p ≡ type_in (judged (in_old s) e).typed) × IsCode arrays olds (Expression false) (in_old s) e
IsCode arrays olds (Expression absent) s _ = ⊥
IsCode arrays olds Expressions s trees.Nil = Unit {0}
IsCode arrays olds Expressions s (trees.Cons a b) = IsCode arrays olds (Expression false) s a × IsCode arrays olds Expressions s b
IsCode arrays olds Expressions s _ = ⊥
IsCode arrays olds (Statement declares) s (trees.Local p t ds) = (declares ≡ true) × IsWritten t × IsCode arrays olds Declarators (declaring Locals t s) ds
IsCode arrays olds (Statement declares) s (trees.Empty p) = Unit {0}
IsCode arrays olds (Statement declares) s (trees.Block p ts) = IsCode arrays olds Statements s ts
IsCode arrays olds (Statement declares) s (trees.ExpressionStatement p e) = IsCode arrays olds (Expression false) s e
IsCode arrays olds (Statement declares) s (trees.Return p e) = IsCode arrays olds (Expression true) s e
IsCode arrays olds (Statement declares) s (trees.Break p) = Unit {0}
IsCode arrays olds (Statement declares) s (trees.Continue p) = Unit {0}
IsCode arrays olds (Statement declares) s (trees.IfThen p c a) = IsCode arrays olds (Expression false) s c × IsCode arrays olds (Statement false) s a
IsCode arrays olds (Statement declares) s (trees.IfElse p c a b) = IsCode arrays olds (Expression false) s c × IsCode arrays olds (Statement false) s a × IsCode arrays olds (Statement false) s b
IsCode arrays olds (Statement declares) s (trees.While p c a) = IsCode arrays olds (Expression false) s c × IsCode arrays olds (Statement false) s a
IsCode arrays olds (Statement declares) s (trees.Do p a c) = IsCode arrays olds (Statement false) s a × IsCode arrays olds (Expression false) s c
IsCode arrays olds (Statement declares) s (trees.For p i c u a) =
    IsCode arrays olds Statements s i × IsCode arrays olds (Expression true) (after s i) c × IsCode arrays olds Expressions (after s i) u × IsCode arrays olds (Statement false) (after s i) a
IsCode arrays olds (Statement declares) s (trees.Throw p e) = IsCode arrays olds (Expression false) s e
IsCode arrays olds (Statement declares) s (trees.Try p b cs) = IsBlock b × IsCode arrays olds (Statement false) s b × IsCode arrays olds Catches s cs
IsCode arrays olds (Statement declares) s _ = ⊥
IsCode arrays olds Statements s trees.Nil = Unit {0}
IsCode arrays olds Statements s (trees.Cons a b) = IsCode arrays olds (Statement true) s a × IsCode arrays olds Statements (after s a) b
IsCode arrays olds Statements s _ = ⊥
IsCode arrays olds Declarators s trees.Nil = Unit {0}
IsCode arrays olds Declarators s (trees.Cons a b) = IsCode arrays olds Declarator s a × IsCode arrays olds Declarators (after s a) b
IsCode arrays olds Declarators s _ = ⊥
IsCode arrays olds Declarator s (trees.Declarator p n e) = IsCode arrays olds (Expression true) (bind_local n s.declared s) e
IsCode arrays olds Declarator s _ = ⊥
IsCode arrays olds Catches s trees.Nil = Unit {0}
IsCode arrays olds Catches s (trees.Cons a b) = IsCode arrays olds Catch s a × IsCode arrays olds Catches s b
IsCode arrays olds Catches s _ = ⊥
IsCode arrays olds Catch s (trees.Catch p d b) = IsCaught d × IsCode arrays olds (Statement false) (after s d) b
IsCode arrays olds Catch s _ = ⊥
