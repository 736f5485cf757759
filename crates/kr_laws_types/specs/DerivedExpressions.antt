-- Between crates: the shapes of expressions, as the grammar derives them.
use Rattle.std.specs.Prelude.{◌≡◌, Bool, true, false}
use Rattle.kr_ast.specs.declared.node.Primitive.{Primitive}
use Rattle.kr_ast.specs.declared.node.Primitive.TheVariants.{Void}
use Rattle.kr_ast.specs.declared.node.BinaryOperator.{BinaryOperator}
use Rattle.kr_ast.specs.declared.node.BinaryOperator.TheVariants as operators
use Rattle.kr_ast.specs.Tree as trees
use Rattle.kr_ast.specs.Tree.{Tree}
use Rattle.kr_types_meaning.specs.Laws.{IsClassName}

-- `void` is no type of values
abbrev pub IsValueKind : Primitive → Type 0
IsValueKind Void = ⊥
IsValueKind k = Unit {0}

-- a type of values that is written out
abbrev pub IsWritten : Tree → Type 0
IsWritten (trees.PrimitiveType p k) = IsValueKind k
IsWritten (trees.NamedType p n) = Unit {0}
IsWritten (trees.QualifiedType p o n) = Unit {0}
IsWritten (trees.GenericType p h a) = IsClassName h × IsWritten a
IsWritten (trees.ArrayType p e) = IsWritten e
IsWritten t = ⊥

-- the operand of `new`: a type, or a collection's with `<>`
abbrev pub IsCreated : Tree → Type 0
IsCreated (trees.DiamondType p h) = IsClassName h
IsCreated t = IsWritten t

-- the operators of compound assignments (Java Language Specification 15.26.2)
abbrev pub is_compound : BinaryOperator → Bool
is_compound operators.Less = false
is_compound operators.Greater = false
is_compound operators.LessOrEqual = false
is_compound operators.GreaterOrEqual = false
is_compound operators.Equal = false
is_compound operators.NotEqual = false
is_compound operators.And = false
is_compound operators.Or = false
is_compound o = true

-- Expressions as the grammar derives them, or lists of them: operands, receivers and arguments are expressions.
abbrev pub Shaped : Bool → Tree → Type 0
Shaped true trees.Nil = Unit {0}
Shaped true (trees.Cons a b) = Shaped false a × Shaped true b
Shaped true t = ⊥
Shaped false (trees.Number p n) = Unit {0}
Shaped false (trees.LongNumber p n) = Unit {0}
Shaped false (trees.Truth p b) = Unit {0}
Shaped false (trees.Null p) = Unit {0}
Shaped false (trees.This p) = Unit {0}
Shaped false (trees.Variable p n) = Unit {0}
Shaped false (trees.FieldAccess p e n) = Shaped false e
Shaped false (trees.ArrayAccess p a i) = Shaped false a × Shaped false i
Shaped false (trees.Call p n es) = Shaped true es
Shaped false (trees.MethodCall p e n es) = Shaped false e × Shaped true es
Shaped false (trees.SuperCall p n es) = Shaped true es
Shaped false (trees.Unary p o e) = Shaped false e
Shaped false (trees.Step p o e) = Shaped false e
Shaped false (trees.Binary p o a b) = Shaped false a × Shaped false b
Shaped false (trees.Conditional p c a b) = Shaped false c × Shaped false a × Shaped false b
Shaped false (trees.Assignment p a b) = Shaped false a × Shaped false b
Shaped false (trees.CompoundAssignment p o a b) = (is_compound o ≡ true) × Shaped false a × Shaped false b
Shaped false (trees.Result p) = Unit {0}
Shaped false (trees.Old p e) = Shaped false e
Shaped false (trees.ObjectCreation p t es) = IsCreated t × Shaped true es
Shaped false (trees.ArrayCreation p t e) = IsWritten t × Shaped false e
Shaped false (trees.InstanceOf p e t) = Shaped false e × IsWritten t
Shaped false (trees.Cast p t e) = IsWritten t × Shaped false e
Shaped false t = ⊥
