-- Other values have no reduction.
use Rattle.std.proofs.Common.{◌≡◌, false, List, ◌∷◌, refl, sym}
use Rattle.std.proofs.lemmas.Bool.{false≢true}
use Rattle.kr_ast.specs.Arena.{Arena}
use Rattle.kr_parse_grammar.specs.declared.goal.Make.{Make}
use Rattle.kr_parse_grammar.specs.declared.goal.Make.TheVariants as makes
use Rattle.kr_parse_grammar.specs.Made.{made}
use Rattle.kr_parse_reduction.specs.declared.value.Kept.{Kept}
use Rattle.kr_parse_reduction.specs.declared.value.Kept.TheVariants.{Mark, Word, Pair, Part, Member, Owner}
use Rattle.kr_parse_reduction.specs.Kept.{are}
use Rattle.kr_parse_reduction.specs.Plans.{sorts}
use Rattle.kr_parse_reduction.specs.Shown.{shown}

stay_type_of_mark : (a : Arena) (vs : List Kept) → are (sorts makes.TypeOfMark) vs ≡ false → made makes.TypeOfMark (shown a vs) ≡ shown a vs
stay_type_of_mark a (Mark k0 p0 ∷ vs) e = absurd (false≢true (sym e))
stay_type_of_mark a _ e = refl

stay_empty : (a : Arena) (vs : List Kept) → are (sorts makes.Empty) vs ≡ false → made makes.Empty (shown a vs) ≡ shown a vs
stay_empty a (Mark k0 p0 ∷ vs) e = absurd (false≢true (sym e))
stay_empty a _ e = refl

stay_jump : (a : Arena) (vs : List Kept) → are (sorts makes.Jump) vs ≡ false → made makes.Jump (shown a vs) ≡ shown a vs
stay_jump a (Mark k0 p0 ∷ vs) e = absurd (false≢true (sym e))
stay_jump a _ e = refl

stay_type_of_name : (a : Arena) (vs : List Kept) → are (sorts makes.TypeOfName) vs ≡ false → made makes.TypeOfName (shown a vs) ≡ shown a vs
stay_type_of_name a (Word p0 n0 ∷ vs) e = absurd (false≢true (sym e))
stay_type_of_name a (Pair p0 o0 n0 ∷ vs) e = absurd (false≢true (sym e))
stay_type_of_name a _ e = refl

stay_diamond : (a : Arena) (vs : List Kept) → are (sorts makes.Diamond) vs ≡ false → made makes.Diamond (shown a vs) ≡ shown a vs
stay_diamond a (Word p0 n0 ∷ vs) e = absurd (false≢true (sym e))
stay_diamond a (Pair p0 o0 n0 ∷ vs) e = absurd (false≢true (sym e))
stay_diamond a _ e = refl

stay_variable : (a : Arena) (vs : List Kept) → are (sorts makes.Variable) vs ≡ false → made makes.Variable (shown a vs) ≡ shown a vs
stay_variable a (Word p0 n0 ∷ vs) e = absurd (false≢true (sym e))
stay_variable a (Pair p0 o0 n0 ∷ vs) e = absurd (false≢true (sym e))
stay_variable a _ e = refl

stay_array : (a : Arena) (vs : List Kept) → are (sorts makes.Array) vs ≡ false → made makes.Array (shown a vs) ≡ shown a vs
stay_array a (Part p0 f0 i0 ∷ vs) e = absurd (false≢true (sym e))
stay_array a _ e = refl

stay_expression_statement : (a : Arena) (vs : List Kept) → are (sorts makes.ExpressionStatement) vs ≡ false → made makes.ExpressionStatement (shown a vs) ≡ shown a vs
stay_expression_statement a (Part p0 f0 i0 ∷ vs) e = absurd (false≢true (sym e))
stay_expression_statement a _ e = refl

stay_cons : (a : Arena) (vs : List Kept) → are (sorts makes.Cons) vs ≡ false → made makes.Cons (shown a vs) ≡ shown a vs
stay_cons a (Part p0 f0 i0 ∷ Part p1 f1 i1 ∷ vs) e = absurd (false≢true (sym e))
stay_cons a _ e = refl

stay_array_access : (a : Arena) (vs : List Kept) → are (sorts makes.ArrayAccess) vs ≡ false → made makes.ArrayAccess (shown a vs) ≡ shown a vs
stay_array_access a (Part p0 f0 i0 ∷ Part p1 f1 i1 ∷ vs) e = absurd (false≢true (sym e))
stay_array_access a _ e = refl

stay_less : (a : Arena) (vs : List Kept) → are (sorts makes.Less) vs ≡ false → made makes.Less (shown a vs) ≡ shown a vs
stay_less a (Part p0 f0 i0 ∷ Part p1 f1 i1 ∷ vs) e = absurd (false≢true (sym e))
stay_less a _ e = refl

stay_greater : (a : Arena) (vs : List Kept) → are (sorts makes.Greater) vs ≡ false → made makes.Greater (shown a vs) ≡ shown a vs
stay_greater a (Part p0 f0 i0 ∷ Part p1 f1 i1 ∷ vs) e = absurd (false≢true (sym e))
stay_greater a _ e = refl

stay_instance_of : (a : Arena) (vs : List Kept) → are (sorts makes.InstanceOf) vs ≡ false → made makes.InstanceOf (shown a vs) ≡ shown a vs
stay_instance_of a (Part p0 f0 i0 ∷ Part p1 f1 i1 ∷ vs) e = absurd (false≢true (sym e))
stay_instance_of a _ e = refl

stay_local : (a : Arena) (vs : List Kept) → are (sorts makes.Local) vs ≡ false → made makes.Local (shown a vs) ≡ shown a vs
stay_local a (Part p0 f0 i0 ∷ Part p1 f1 i1 ∷ vs) e = absurd (false≢true (sym e))
stay_local a _ e = refl

stay_step_before : (a : Arena) (vs : List Kept) → are (sorts makes.StepBefore) vs ≡ false → made makes.StepBefore (shown a vs) ≡ shown a vs
stay_step_before a (Part p0 f0 i0 ∷ Mark k1 p1 ∷ vs) e = absurd (false≢true (sym e))
stay_step_before a _ e = refl

stay_unary : (a : Arena) (vs : List Kept) → are (sorts makes.Unary) vs ≡ false → made makes.Unary (shown a vs) ≡ shown a vs
stay_unary a (Part p0 f0 i0 ∷ Mark k1 p1 ∷ vs) e = absurd (false≢true (sym e))
stay_unary a _ e = refl

stay_old : (a : Arena) (vs : List Kept) → are (sorts makes.Old) vs ≡ false → made makes.Old (shown a vs) ≡ shown a vs
stay_old a (Part p0 f0 i0 ∷ Mark k1 p1 ∷ vs) e = absurd (false≢true (sym e))
stay_old a _ e = refl

stay_requires : (a : Arena) (vs : List Kept) → are (sorts makes.Requires) vs ≡ false → made makes.Requires (shown a vs) ≡ shown a vs
stay_requires a (Part p0 f0 i0 ∷ Mark k1 p1 ∷ vs) e = absurd (false≢true (sym e))
stay_requires a _ e = refl

stay_ensures : (a : Arena) (vs : List Kept) → are (sorts makes.Ensures) vs ≡ false → made makes.Ensures (shown a vs) ≡ shown a vs
stay_ensures a (Part p0 f0 i0 ∷ Mark k1 p1 ∷ vs) e = absurd (false≢true (sym e))
stay_ensures a _ e = refl

stay_block : (a : Arena) (vs : List Kept) → are (sorts makes.Block) vs ≡ false → made makes.Block (shown a vs) ≡ shown a vs
stay_block a (Part p0 f0 i0 ∷ Mark k1 p1 ∷ vs) e = absurd (false≢true (sym e))
stay_block a _ e = refl

stay_return : (a : Arena) (vs : List Kept) → are (sorts makes.Return) vs ≡ false → made makes.Return (shown a vs) ≡ shown a vs
stay_return a (Part p0 f0 i0 ∷ Mark k1 p1 ∷ vs) e = absurd (false≢true (sym e))
stay_return a _ e = refl

stay_constructor_call : (a : Arena) (vs : List Kept) → are (sorts makes.ConstructorCall) vs ≡ false → made makes.ConstructorCall (shown a vs) ≡ shown a vs
stay_constructor_call a (Part p0 f0 i0 ∷ Mark k1 p1 ∷ vs) e = absurd (false≢true (sym e))
stay_constructor_call a _ e = refl

stay_throw : (a : Arena) (vs : List Kept) → are (sorts makes.Throw) vs ≡ false → made makes.Throw (shown a vs) ≡ shown a vs
stay_throw a (Part p0 f0 i0 ∷ Mark k1 p1 ∷ vs) e = absurd (false≢true (sym e))
stay_throw a _ e = refl

stay_try : (a : Arena) (vs : List Kept) → are (sorts makes.Try) vs ≡ false → made makes.Try (shown a vs) ≡ shown a vs
stay_try a (Part p0 f0 i0 ∷ Part p1 f1 i1 ∷ Mark k2 p2 ∷ vs) e = absurd (false≢true (sym e))
stay_try a _ e = refl

stay_catch : (a : Arena) (vs : List Kept) → are (sorts makes.Catch) vs ≡ false → made makes.Catch (shown a vs) ≡ shown a vs
stay_catch a (Part p0 f0 i0 ∷ Part p1 f1 i1 ∷ Mark k2 p2 ∷ vs) e = absurd (false≢true (sym e))
stay_catch a _ e = refl

stay_signals : (a : Arena) (vs : List Kept) → are (sorts makes.Signals) vs ≡ false → made makes.Signals (shown a vs) ≡ shown a vs
stay_signals a (Part p0 f0 i0 ∷ Part p1 f1 i1 ∷ Mark k2 p2 ∷ vs) e = absurd (false≢true (sym e))
stay_signals a _ e = refl

stay_declarator : (a : Arena) (vs : List Kept) → are (sorts makes.Declarator) vs ≡ false → made makes.Declarator (shown a vs) ≡ shown a vs
stay_declarator a (Part p0 f0 i0 ∷ Word p1 n1 ∷ vs) e = absurd (false≢true (sym e))
stay_declarator a _ e = refl

stay_step_behind : (a : Arena) (vs : List Kept) → are (sorts makes.StepBehind) vs ≡ false → made makes.StepBehind (shown a vs) ≡ shown a vs
stay_step_behind a (Mark k0 p0 ∷ Part p1 f1 i1 ∷ vs) e = absurd (false≢true (sym e))
stay_step_behind a _ e = refl

stay_field_access : (a : Arena) (vs : List Kept) → are (sorts makes.FieldAccess) vs ≡ false → made makes.FieldAccess (shown a vs) ≡ shown a vs
stay_field_access a (Word p0 n0 ∷ Part p1 f1 i1 ∷ vs) e = absurd (false≢true (sym e))
stay_field_access a _ e = refl

stay_parameter : (a : Arena) (vs : List Kept) → are (sorts makes.Parameter) vs ≡ false → made makes.Parameter (shown a vs) ≡ shown a vs
stay_parameter a (Word p0 n0 ∷ Part p1 f1 i1 ∷ vs) e = absurd (false≢true (sym e))
stay_parameter a _ e = refl

stay_super_call : (a : Arena) (vs : List Kept) → are (sorts makes.SuperCall) vs ≡ false → made makes.SuperCall (shown a vs) ≡ shown a vs
stay_super_call a (Part p0 f0 i0 ∷ Word p1 n1 ∷ Mark k2 p2 ∷ vs) e = absurd (false≢true (sym e))
stay_super_call a _ e = refl

stay_object_creation : (a : Arena) (vs : List Kept) → are (sorts makes.ObjectCreation) vs ≡ false → made makes.ObjectCreation (shown a vs) ≡ shown a vs
stay_object_creation a (Part p0 f0 i0 ∷ Part p1 f1 i1 ∷ Mark k2 p2 ∷ vs) e = absurd (false≢true (sym e))
stay_object_creation a _ e = refl

stay_array_creation : (a : Arena) (vs : List Kept) → are (sorts makes.ArrayCreation) vs ≡ false → made makes.ArrayCreation (shown a vs) ≡ shown a vs
stay_array_creation a (Part p0 f0 i0 ∷ Part p1 f1 i1 ∷ Mark k2 p2 ∷ vs) e = absurd (false≢true (sym e))
stay_array_creation a _ e = refl

stay_cast : (a : Arena) (vs : List Kept) → are (sorts makes.Cast) vs ≡ false → made makes.Cast (shown a vs) ≡ shown a vs
stay_cast a (Part p0 f0 i0 ∷ Part p1 f1 i1 ∷ Mark k2 p2 ∷ vs) e = absurd (false≢true (sym e))
stay_cast a _ e = refl

stay_if_then : (a : Arena) (vs : List Kept) → are (sorts makes.IfThen) vs ≡ false → made makes.IfThen (shown a vs) ≡ shown a vs
stay_if_then a (Part p0 f0 i0 ∷ Part p1 f1 i1 ∷ Mark k2 p2 ∷ vs) e = absurd (false≢true (sym e))
stay_if_then a _ e = refl

stay_while : (a : Arena) (vs : List Kept) → are (sorts makes.While) vs ≡ false → made makes.While (shown a vs) ≡ shown a vs
stay_while a (Part p0 f0 i0 ∷ Part p1 f1 i1 ∷ Mark k2 p2 ∷ vs) e = absurd (false≢true (sym e))
stay_while a _ e = refl

stay_do : (a : Arena) (vs : List Kept) → are (sorts makes.Do) vs ≡ false → made makes.Do (shown a vs) ≡ shown a vs
stay_do a (Part p0 f0 i0 ∷ Part p1 f1 i1 ∷ Mark k2 p2 ∷ vs) e = absurd (false≢true (sym e))
stay_do a _ e = refl

stay_method_call : (a : Arena) (vs : List Kept) → are (sorts makes.MethodCall) vs ≡ false → made makes.MethodCall (shown a vs) ≡ shown a vs
stay_method_call a (Part p0 f0 i0 ∷ Word p1 n1 ∷ Part p2 f2 i2 ∷ vs) e = absurd (false≢true (sym e))
stay_method_call a _ e = refl

stay_binary : (a : Arena) (vs : List Kept) → are (sorts makes.Binary) vs ≡ false → made makes.Binary (shown a vs) ≡ shown a vs
stay_binary a (Part p0 f0 i0 ∷ Mark k1 p1 ∷ Part p2 f2 i2 ∷ vs) e = absurd (false≢true (sym e))
stay_binary a _ e = refl

stay_assign : (a : Arena) (vs : List Kept) → are (sorts makes.Assign) vs ≡ false → made makes.Assign (shown a vs) ≡ shown a vs
stay_assign a (Part p0 f0 i0 ∷ Mark k1 p1 ∷ Part p2 f2 i2 ∷ vs) e = absurd (false≢true (sym e))
stay_assign a _ e = refl

stay_conditional : (a : Arena) (vs : List Kept) → are (sorts makes.Conditional) vs ≡ false → made makes.Conditional (shown a vs) ≡ shown a vs
stay_conditional a (Part p0 f0 i0 ∷ Part p1 f1 i1 ∷ Part p2 f2 i2 ∷ vs) e = absurd (false≢true (sym e))
stay_conditional a _ e = refl

stay_field : (a : Arena) (vs : List Kept) → are (sorts makes.Field) vs ≡ false → made makes.Field (shown a vs) ≡ shown a vs
stay_field a (Part p0 f0 i0 ∷ Part p1 f1 i1 ∷ Member b2 m2 ∷ vs) e = absurd (false≢true (sym e))
stay_field a _ e = refl

stay_cons_below : (a : Arena) (vs : List Kept) → are (sorts makes.ConsBelow) vs ≡ false → made makes.ConsBelow (shown a vs) ≡ shown a vs
stay_cons_below a (Owner b0 p0 n0 ∷ Part p1 f1 i1 ∷ Part p2 f2 i2 ∷ vs) e = absurd (false≢true (sym e))
stay_cons_below a _ e = refl

stay_class : (a : Arena) (vs : List Kept) → are (sorts makes.Class) vs ≡ false → made makes.Class (shown a vs) ≡ shown a vs
stay_class a (Owner b0 p0 n0 ∷ Part p1 f1 i1 ∷ Part p2 f2 i2 ∷ vs) e = absurd (false≢true (sym e))
stay_class a _ e = refl

stay_if_else : (a : Arena) (vs : List Kept) → are (sorts makes.IfElse) vs ≡ false → made makes.IfElse (shown a vs) ≡ shown a vs
stay_if_else a (Part p0 f0 i0 ∷ Part p1 f1 i1 ∷ Part p2 f2 i2 ∷ Mark k3 p3 ∷ vs) e = absurd (false≢true (sym e))
stay_if_else a _ e = refl

stay_for : (a : Arena) (vs : List Kept) → are (sorts makes.For) vs ≡ false → made makes.For (shown a vs) ≡ shown a vs
stay_for a (Part p0 f0 i0 ∷ Part p1 f1 i1 ∷ Part p2 f2 i2 ∷ Part p3 f3 i3 ∷ Mark k4 p4 ∷ vs) e = absurd (false≢true (sym e))
stay_for a _ e = refl

stay_method : (a : Arena) (vs : List Kept) → are (sorts makes.Method) vs ≡ false → made makes.Method (shown a vs) ≡ shown a vs
stay_method a (Part p0 f0 i0 ∷ Part p1 f1 i1 ∷ Word p2 n2 ∷ Part p3 f3 i3 ∷ Member b4 m4 ∷ vs) e = absurd (false≢true (sym e))
stay_method a _ e = refl

stay_contracted_method : (a : Arena) (vs : List Kept) → are (sorts makes.ContractedMethod) vs ≡ false → made makes.ContractedMethod (shown a vs) ≡ shown a vs
stay_contracted_method a (Part p0 f0 i0 ∷ Part p1 f1 i1 ∷ Word p2 n2 ∷ Part p3 f3 i3 ∷ Member b4 m4 ∷ Part p5 f5 i5 ∷ vs) e = absurd (false≢true (sym e))
stay_contracted_method a _ e = refl

stay_constructor : (a : Arena) (vs : List Kept) → are (sorts makes.Constructor) vs ≡ false → made makes.Constructor (shown a vs) ≡ shown a vs
stay_constructor a (Part p0 f0 i0 ∷ Part p1 f1 i1 ∷ Part p2 f2 i2 ∷ Word p3 n3 ∷ Member b4 m4 ∷ vs) e = absurd (false≢true (sym e))
stay_constructor a _ e = refl

stay_compare_all : (a : Arena) (vs : List Kept) → are (sorts makes.CompareAll) vs ≡ false → made makes.CompareAll (shown a vs) ≡ shown a vs
stay_compare_all a vs e = absurd (false≢true (sym e))

stay_nil : (a : Arena) (vs : List Kept) → are (sorts makes.Nil) vs ≡ false → made makes.Nil (shown a vs) ≡ shown a vs
stay_nil a vs e = absurd (false≢true (sym e))

stay_compare_below : (a : Arena) (vs : List Kept) → are (sorts makes.CompareBelow) vs ≡ false → made makes.CompareBelow (shown a vs) ≡ shown a vs
stay_compare_below a (v0 ∷ vs) e = absurd (false≢true (sym e))
stay_compare_below a _ e = refl

stay_set_static : (a : Arena) (vs : List Kept) → are (sorts makes.SetStatic) vs ≡ false → made makes.SetStatic (shown a vs) ≡ shown a vs
stay_set_static a (Member b0 m0 ∷ vs) e = absurd (false≢true (sym e))
stay_set_static a _ e = refl

stay_set_final : (a : Arena) (vs : List Kept) → are (sorts makes.SetFinal) vs ≡ false → made makes.SetFinal (shown a vs) ≡ shown a vs
stay_set_final a (Member b0 m0 ∷ vs) e = absurd (false≢true (sym e))
stay_set_final a _ e = refl

stay_set_overrides : (a : Arena) (vs : List Kept) → are (sorts makes.SetOverrides) vs ≡ false → made makes.SetOverrides (shown a vs) ≡ shown a vs
stay_set_overrides a (Member b0 m0 ∷ vs) e = absurd (false≢true (sym e))
stay_set_overrides a _ e = refl

stay_member_ahead : (a : Arena) (vs : List Kept) → are (sorts makes.MemberAhead) vs ≡ false → made makes.MemberAhead (shown a vs) ≡ shown a vs
stay_member_ahead a (Owner b0 p0 n0 ∷ vs) e = absurd (false≢true (sym e))
stay_member_ahead a _ e = refl

stay_swap : (a : Arena) (vs : List Kept) → are (sorts makes.Swap) vs ≡ false → made makes.Swap (shown a vs) ≡ shown a vs
stay_swap a (v0 ∷ v1 ∷ vs) e = absurd (false≢true (sym e))
stay_swap a _ e = refl

stay_pair : (a : Arena) (vs : List Kept) → are (sorts makes.Pair) vs ≡ false → made makes.Pair (shown a vs) ≡ shown a vs
stay_pair a (Word p0 n0 ∷ Word p1 n1 ∷ vs) e = absurd (false≢true (sym e))
stay_pair a _ e = refl

stay_end_members : (a : Arena) (vs : List Kept) → are (sorts makes.EndMembers) vs ≡ false → made makes.EndMembers (shown a vs) ≡ shown a vs
stay_end_members a (Member b0 m0 ∷ Owner b1 p1 n1 ∷ vs) e = absurd (false≢true (sym e))
stay_end_members a _ e = refl

stay_generic : (a : Arena) (vs : List Kept) → are (sorts makes.Generic) vs ≡ false → made makes.Generic (shown a vs) ≡ shown a vs
stay_generic a (Part p0 f0 i0 ∷ Word p1 n1 ∷ vs) e = absurd (false≢true (sym e))
stay_generic a (Part p0 f0 i0 ∷ Pair p1 o1 n1 ∷ vs) e = absurd (false≢true (sym e))
stay_generic a _ e = refl

stay_call_of_name : (a : Arena) (vs : List Kept) → are (sorts makes.CallOfName) vs ≡ false → made makes.CallOfName (shown a vs) ≡ shown a vs
stay_call_of_name a (Part p0 f0 i0 ∷ Word p1 n1 ∷ vs) e = absurd (false≢true (sym e))
stay_call_of_name a (Part p0 f0 i0 ∷ Pair p1 o1 n1 ∷ vs) e = absurd (false≢true (sym e))
stay_call_of_name a _ e = refl

stay_enclosed : (a : Arena) (vs : List Kept) → are (sorts makes.Enclosed) vs ≡ false → made makes.Enclosed (shown a vs) ≡ shown a vs
stay_enclosed a (Part p0 f0 i0 ∷ Mark k1 p1 ∷ vs) e = absurd (false≢true (sym e))
stay_enclosed a _ e = refl

stay_owner : (a : Arena) (vs : List Kept) → are (sorts makes.Owner) vs ≡ false → made makes.Owner (shown a vs) ≡ shown a vs
stay_owner a (Part p0 f0 i0 ∷ Word p1 n1 ∷ vs) e = absurd (false≢true (sym e))
stay_owner a _ e = refl

stay_nested_owner : (a : Arena) (vs : List Kept) → are (sorts makes.NestedOwner) vs ≡ false → made makes.NestedOwner (shown a vs) ≡ shown a vs
stay_nested_owner a (Part p0 f0 i0 ∷ Word p1 n1 ∷ vs) e = absurd (false≢true (sym e))
stay_nested_owner a _ e = refl

stay_nested : (a : Arena) (vs : List Kept) → are (sorts makes.Nested) vs ≡ false → made makes.Nested (shown a vs) ≡ shown a vs
stay_nested a (Part p0 f0 i0 ∷ Member b1 m1 ∷ vs) e = absurd (false≢true (sym e))
stay_nested a _ e = refl

pub stays : (m : Make) (a : Arena) (vs : List Kept) → are (sorts m) vs ≡ false → made m (shown a vs) ≡ shown a vs
stays makes.TypeOfMark = stay_type_of_mark
stays makes.Empty = stay_empty
stays makes.Jump = stay_jump
stays makes.TypeOfName = stay_type_of_name
stays makes.Diamond = stay_diamond
stays makes.Variable = stay_variable
stays makes.Array = stay_array
stays makes.ExpressionStatement = stay_expression_statement
stays makes.Cons = stay_cons
stays makes.ArrayAccess = stay_array_access
stays makes.Less = stay_less
stays makes.Greater = stay_greater
stays makes.InstanceOf = stay_instance_of
stays makes.Local = stay_local
stays makes.StepBefore = stay_step_before
stays makes.Unary = stay_unary
stays makes.Old = stay_old
stays makes.Requires = stay_requires
stays makes.Ensures = stay_ensures
stays makes.Block = stay_block
stays makes.Return = stay_return
stays makes.ConstructorCall = stay_constructor_call
stays makes.Throw = stay_throw
stays makes.Try = stay_try
stays makes.Catch = stay_catch
stays makes.Signals = stay_signals
stays makes.Declarator = stay_declarator
stays makes.StepBehind = stay_step_behind
stays makes.FieldAccess = stay_field_access
stays makes.Parameter = stay_parameter
stays makes.SuperCall = stay_super_call
stays makes.ObjectCreation = stay_object_creation
stays makes.ArrayCreation = stay_array_creation
stays makes.Cast = stay_cast
stays makes.IfThen = stay_if_then
stays makes.While = stay_while
stays makes.Do = stay_do
stays makes.MethodCall = stay_method_call
stays makes.Binary = stay_binary
stays makes.Assign = stay_assign
stays makes.Conditional = stay_conditional
stays makes.Field = stay_field
stays makes.ConsBelow = stay_cons_below
stays makes.Class = stay_class
stays makes.IfElse = stay_if_else
stays makes.For = stay_for
stays makes.Method = stay_method
stays makes.Constructor = stay_constructor
stays makes.ContractedMethod = stay_contracted_method
stays makes.CompareAll = stay_compare_all
stays makes.Nil = stay_nil
stays makes.CompareBelow = stay_compare_below
stays makes.SetStatic = stay_set_static
stays makes.SetFinal = stay_set_final
stays makes.SetOverrides = stay_set_overrides
stays makes.MemberAhead = stay_member_ahead
stays makes.Swap = stay_swap
stays makes.Pair = stay_pair
stays makes.EndMembers = stay_end_members
stays makes.Generic = stay_generic
stays makes.CallOfName = stay_call_of_name
stays makes.Enclosed = stay_enclosed
stays makes.Owner = stay_owner
stays makes.NestedOwner = stay_nested_owner
stays makes.Nested = stay_nested
