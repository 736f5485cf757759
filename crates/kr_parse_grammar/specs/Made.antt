-- Between crates: the reductions of the values on top. On other values they do nothing.
use Rattle.std.specs.Prelude.{ℕ, true, false, List, ◌∷◌}
use Rattle.kr_base.specs.declared.place.Place.{Place}
use Rattle.kr_base.specs.Places.{nowhere}
use Rattle.kr_lex.specs.Lexemes.{Lexeme, number_value, long_number_value}
use Rattle.kr_lex.specs.declared.kind.Kind.{Kind}
use Rattle.kr_lex.specs.declared.kind.Kind.TheVariants as kinds
use Rattle.kr_ast.specs.declared.node.Primitive.{Primitive}
use Rattle.kr_ast.specs.declared.node.Primitive.TheVariants as primitives
use Rattle.kr_ast.specs.declared.node.UnaryOperator.{UnaryOperator}
use Rattle.kr_ast.specs.declared.node.UnaryOperator.TheVariants as unaries
use Rattle.kr_ast.specs.declared.node.StepOperator.{StepOperator}
use Rattle.kr_ast.specs.declared.node.StepOperator.TheVariants as steps
use Rattle.kr_ast.specs.declared.node.BinaryOperator.{BinaryOperator}
use Rattle.kr_ast.specs.declared.node.BinaryOperator.TheVariants as binaries
use Rattle.kr_ast.specs.Tree as trees
use Rattle.kr_ast.specs.Tree.{Tree}
use Rattle.kr_parse_grammar.specs.declared.value.Form.TheVariants as forms
use Rattle.kr_parse_grammar.specs.declared.goal.Make.{Make}
use Rattle.kr_parse_grammar.specs.declared.goal.Make.TheVariants as makes
use Rattle.kr_parse_grammar.specs.Values.{StackItem, mark, word, pair, part, member, owner, no_modifiers}

-- the operators of a kept token
abbrev pub the_primitive : Kind → Primitive
the_primitive kinds.Int = primitives.Int
the_primitive kinds.Long = primitives.Long
the_primitive kinds.Boolean = primitives.Boolean
the_primitive _ = primitives.Void

abbrev pub the_unary : Kind → UnaryOperator
the_unary kinds.Plus = unaries.Plus
the_unary kinds.Minus = unaries.Minus
the_unary kinds.Tilde = unaries.Complement
the_unary _ = unaries.Not

abbrev pub the_step_before : Kind → StepOperator
the_step_before kinds.PlusPlus = steps.IncrementBefore
the_step_before _ = steps.DecrementBefore

abbrev pub the_step_behind : Kind → StepOperator
the_step_behind kinds.PlusPlus = steps.IncrementBehind
the_step_behind _ = steps.DecrementBehind

abbrev pub the_binary : Kind → BinaryOperator
the_binary kinds.Star = binaries.Multiply
the_binary kinds.Slash = binaries.Divide
the_binary kinds.Percent = binaries.Remainder
the_binary kinds.Plus = binaries.Add
the_binary kinds.Minus = binaries.Subtract
the_binary kinds.LessLess = binaries.ShiftLeft
the_binary kinds.GreaterGreater = binaries.ShiftRight
the_binary kinds.GreaterGreaterGreater = binaries.ShiftRightUnsigned
the_binary kinds.Less = binaries.Less
the_binary kinds.Greater = binaries.Greater
the_binary kinds.LessEqual = binaries.LessOrEqual
the_binary kinds.GreaterEqual = binaries.GreaterOrEqual
the_binary kinds.EqualEqual = binaries.Equal
the_binary kinds.ExclamationEqual = binaries.NotEqual
the_binary kinds.Ampersand = binaries.BitAnd
the_binary kinds.Caret = binaries.BitXor
the_binary kinds.Bar = binaries.BitOr
the_binary kinds.AmpersandAmpersand = binaries.And
the_binary _ = binaries.Or

abbrev pub the_compound : Kind → BinaryOperator
the_compound kinds.PlusEqual = binaries.Add
the_compound kinds.MinusEqual = binaries.Subtract
the_compound kinds.StarEqual = binaries.Multiply
the_compound kinds.SlashEqual = binaries.Divide
the_compound kinds.PercentEqual = binaries.Remainder
the_compound kinds.AmpersandEqual = binaries.BitAnd
the_compound kinds.BarEqual = binaries.BitOr
the_compound kinds.CaretEqual = binaries.BitXor
the_compound kinds.LessLessEqual = binaries.ShiftLeft
the_compound kinds.GreaterGreaterEqual = binaries.ShiftRight
the_compound _ = binaries.ShiftRightUnsigned

abbrev pub assigned : Kind → Place → Tree → Tree → Tree
assigned kinds.Equal p t u = trees.Assignment p t u
assigned k p t u = trees.CompoundAssignment p (the_compound k) t u

abbrev pub jump : Kind → Place → Tree
jump kinds.Break p = trees.Break p
jump _ p = trees.Continue p

-- the tree of a literal, or of `this`
abbrev pub literal_of : Kind → Place → List ℕ → Tree
literal_of kinds.Number p n = trees.Number p (number_value n)
literal_of kinds.LongNumber p n = trees.LongNumber p (long_number_value n)
literal_of kinds.True p n = trees.Truth p true
literal_of kinds.False p n = trees.Truth p false
literal_of kinds.Null p n = trees.Null p
literal_of kinds.Result p n = trees.Result p
literal_of _ p n = trees.This p

abbrev pub literal : Lexeme → Tree
literal a = literal_of a.kind a.place a.text

-- a name as an operand, compared with the value below it, or tested by it if that is an expression
abbrev pub joined : Place → Tree → Tree → List StackItem → List StackItem → List StackItem
joined p e t (part q f x ∷ us) cs = part q forms.Other (trees.InstanceOf q x t) ∷ us
joined p e t (word q n ∷ us) (part r f x ∷ cs) = part r forms.Other (trees.Binary r binaries.Less x e) ∷ cs
joined p e t (pair q o n ∷ us) (part r f x ∷ cs) = part r forms.Other (trees.Binary r binaries.Less x e) ∷ cs
joined p e t us cs = part p forms.Target e ∷ us

-- the names on top, which had `<` between them, as comparisons
abbrev pub compared : List StackItem → List StackItem
compared (word p n ∷ vs) = joined p (trees.Variable p n) (trees.NamedType p n) vs (compared vs)
compared (pair p o n ∷ vs) = joined p (trees.FieldAccess p (trees.Variable p o) n) (trees.QualifiedType p o n) vs (compared vs)
compared vs = vs

abbrev pub made : Make → List StackItem → List StackItem
made makes.Nil vs = part nowhere forms.Other trees.Nil ∷ vs
made makes.Cons (part q g u ∷ part p f t ∷ vs) = part p forms.Other (trees.Cons t u) ∷ vs
made makes.Pair (word q n ∷ word p o ∷ vs) = pair p o n ∷ vs
made makes.Swap (a ∷ b ∷ vs) = b ∷ a ∷ vs
made makes.TypeOfMark (mark k p ∷ vs) = part p forms.Type (trees.PrimitiveType p (the_primitive k)) ∷ vs
made makes.TypeOfName (word p n ∷ vs) = part p forms.Type (trees.NamedType p n) ∷ vs
made makes.TypeOfName (pair p o n ∷ vs) = part p forms.Type (trees.QualifiedType p o n) ∷ vs
made makes.Generic (part q g u ∷ word p n ∷ vs) = part p forms.Type (trees.GenericType p (trees.NamedType p n) u) ∷ vs
made makes.Generic (part q g u ∷ pair p o n ∷ vs) = part p forms.Type (trees.GenericType p (trees.QualifiedType p o n) u) ∷ vs
made makes.Diamond (word p n ∷ vs) = part p forms.Type (trees.DiamondType p (trees.NamedType p n)) ∷ vs
made makes.Diamond (pair p o n ∷ vs) = part p forms.Type (trees.DiamondType p (trees.QualifiedType p o n)) ∷ vs
made makes.Array (part p f t ∷ vs) = part p forms.Type (trees.ArrayType p t) ∷ vs
made makes.Variable (word p n ∷ vs) = part p forms.Target (trees.Variable p n) ∷ vs
made makes.Variable (pair p o n ∷ vs) = part p forms.Target (trees.FieldAccess p (trees.Variable p o) n) ∷ vs
made makes.CallOfName (part q g u ∷ word p n ∷ vs) = part p forms.Invocation (trees.Call p n u) ∷ vs
made makes.CallOfName (part q g u ∷ pair p o n ∷ vs) = part p forms.Invocation (trees.MethodCall p (trees.Variable p o) n u) ∷ vs
made makes.SuperCall (part q g u ∷ word r n ∷ mark k p ∷ vs) = part p forms.Invocation (trees.SuperCall p n u) ∷ vs
made makes.ObjectCreation (part q g u ∷ part r f t ∷ mark k p ∷ vs) = part p forms.Invocation (trees.ObjectCreation p t u) ∷ vs
made makes.ArrayCreation (part q g u ∷ part r f t ∷ mark k p ∷ vs) = part p forms.ArrayCreation (trees.ArrayCreation p t u) ∷ vs
made makes.Enclosed (part q g t ∷ mark k p ∷ vs) = part p forms.Other t ∷ vs
made makes.FieldAccess (word r n ∷ part p f t ∷ vs) = part p forms.Target (trees.FieldAccess p t n) ∷ vs
made makes.MethodCall (part q g u ∷ word r n ∷ part p f t ∷ vs) = part p forms.Invocation (trees.MethodCall p t n u) ∷ vs
made makes.ArrayAccess (part q g u ∷ part p f t ∷ vs) = part p forms.Target (trees.ArrayAccess p t u) ∷ vs
made makes.StepBehind (mark k r ∷ part p f t ∷ vs) = part p forms.Other (trees.Step p (the_step_behind k) t) ∷ vs
made makes.StepBefore (part q g t ∷ mark k p ∷ vs) = part p forms.Other (trees.Step p (the_step_before k) t) ∷ vs
made makes.Unary (part q g t ∷ mark k p ∷ vs) = part p forms.Other (trees.Unary p (the_unary k) t) ∷ vs
made makes.Cast (part q g u ∷ part r f t ∷ mark k p ∷ vs) = part p forms.Other (trees.Cast p t u) ∷ vs
made makes.Old (part q g t ∷ mark k p ∷ vs) = part p forms.Other (trees.Old p t) ∷ vs
made makes.Binary (part q g u ∷ mark k r ∷ part p f t ∷ vs) = part p forms.Other (trees.Binary p (the_binary k) t u) ∷ vs
made makes.Less (part q g u ∷ part p f t ∷ vs) = part p forms.Other (trees.Binary p binaries.Less t u) ∷ vs
made makes.Greater (part q g u ∷ part p f t ∷ vs) = part p forms.Other (trees.Binary p binaries.Greater t u) ∷ vs
made makes.CompareBelow (v ∷ vs) = v ∷ compared vs
made makes.CompareAll vs = compared vs
made makes.InstanceOf (part q g u ∷ part p f t ∷ vs) = part p forms.Other (trees.InstanceOf p t u) ∷ vs
made makes.Conditional (part r h u ∷ part q g t ∷ part p f c ∷ vs) = part p forms.Other (trees.Conditional p c t u) ∷ vs
made makes.Assign (part q g u ∷ mark k r ∷ part p f t ∷ vs) = part p forms.Other (assigned k p t u) ∷ vs
made makes.Declarator (part q g u ∷ word p n ∷ vs) = part p forms.Other (trees.Declarator p n u) ∷ vs
made makes.Local (part q g u ∷ part p f t ∷ vs) = part p forms.Local (trees.Local p t u) ∷ vs
made makes.ExpressionStatement (part p f t ∷ vs) = part p forms.Other (trees.ExpressionStatement p t) ∷ vs
made makes.Block (part q g t ∷ mark k p ∷ vs) = part p forms.Other (trees.Block p t) ∷ vs
made makes.Empty (mark k p ∷ vs) = part p forms.Other (trees.Empty p) ∷ vs
made makes.Return (part q g t ∷ mark k p ∷ vs) = part p forms.Other (trees.Return p t) ∷ vs
made makes.Jump (mark k p ∷ vs) = part p forms.Other (jump k p) ∷ vs
made makes.IfThen (part r h s ∷ part q g c ∷ mark k p ∷ vs) = part p forms.Other (trees.IfThen p c s) ∷ vs
made makes.IfElse (part d e u ∷ part r h s ∷ part q g c ∷ mark k p ∷ vs) = part p forms.Other (trees.IfElse p c s u) ∷ vs
made makes.While (part r h s ∷ part q g c ∷ mark k p ∷ vs) = part p forms.Other (trees.While p c s) ∷ vs
made makes.Do (part r h c ∷ part q g s ∷ mark k p ∷ vs) = part p forms.Other (trees.Do p s c) ∷ vs
made makes.For (part a b s ∷ part d e u ∷ part r h c ∷ part q g i ∷ mark k p ∷ vs) = part p forms.Other (trees.For p i c u s) ∷ vs
made makes.Throw (part q g t ∷ mark k p ∷ vs) = part p forms.Other (trees.Throw p t) ∷ vs
made makes.Try (part r h c ∷ part q g b ∷ mark k p ∷ vs) = part p forms.Other (trees.Try p b c) ∷ vs
made makes.Catch (part r h b ∷ part q g d ∷ mark k p ∷ vs) = part p forms.Other (trees.Catch p d b) ∷ vs
made makes.MemberAhead (owner b p n ∷ vs) = member b no_modifiers ∷ owner b p n ∷ vs
made makes.SetStatic (member b m ∷ vs) = member b (record m { is_static = true }) ∷ vs
made makes.SetFinal (member b m ∷ vs) = member b (record m { is_final = true }) ∷ vs
made makes.SetOverrides (member b m ∷ vs) = member b (record m { overrides = true }) ∷ vs
made makes.Parameter (word p n ∷ part q g t ∷ vs) = part p forms.Other (trees.Parameter p t n) ∷ vs
made makes.Field (part q g u ∷ part p f t ∷ member b m ∷ vs) = part p forms.Other (trees.Field p m.is_static m.is_final t u) ∷ vs
made makes.Method (part a c s ∷ part q g u ∷ word p n ∷ part r f t ∷ member b m ∷ vs) = part p forms.Other (trees.Method p m.is_static n (trees.Signature p t u trees.Nil) s) ∷ vs
made makes.Requires (part q g t ∷ mark k p ∷ vs) = part p forms.Other (trees.Requires p t) ∷ vs
made makes.Ensures (part q g t ∷ mark k p ∷ vs) = part p forms.Other (trees.Ensures p t) ∷ vs
made makes.Signals (part r h e ∷ part q g d ∷ mark k p ∷ vs) = part p forms.Other (trees.Signals p d e) ∷ vs
made makes.ContractedMethod (part a c s ∷ part q g u ∷ word p n ∷ part r f t ∷ member b m ∷ part d e k ∷ vs) = part p forms.Other (trees.Method p m.is_static n (trees.Signature p t u k) s) ∷ vs
made makes.ConstructorCall (part q g t ∷ mark k p ∷ vs) = part p forms.Other (trees.ConstructorCall p t) ∷ vs
made makes.Constructor (part a c t ∷ part q g s ∷ part r f u ∷ word p n ∷ member b m ∷ vs) = part p forms.Other (trees.Constructor p u s t) ∷ vs
made makes.Owner (part q g t ∷ word p n ∷ vs) = owner false p n ∷ part q g t ∷ vs
made makes.NestedOwner (part q g t ∷ word p n ∷ vs) = owner true p n ∷ part q g t ∷ vs
made makes.ConsBelow (owner b p n ∷ part q g u ∷ part r f t ∷ vs) = owner b p n ∷ part r forms.Other (trees.Cons t u) ∷ vs
made makes.EndMembers (member b m ∷ owner c p n ∷ vs) = owner c p n ∷ part nowhere forms.Other trees.Nil ∷ vs
made makes.Class (owner b p n ∷ part q g u ∷ part r f t ∷ vs) = part p forms.Other (trees.Class p n t u) ∷ vs
made makes.Nested (part p f t ∷ member b m ∷ vs) = part p f t ∷ vs
made _ vs = vs
