-- Between crates: the note of a judgement: the type, and the first broken node with its least rule. The note of a node
-- follows from those of its parts.
use Rattle.std.specs.Prelude.{ℕ, List, [], ◌∷◌, slice_index_or, Option, Some, None}
use Rattle.kr_base.specs.declared.place.Place.{Place}
use Rattle.kr_ast.specs.Tree as trees
use Rattle.kr_ast.specs.Tree.{Tree}
use Rattle.kr_classes_table.specs.Numbers.{Bits32, Bits64}
use Rattle.kr_classes_table.specs.Types.{JavaType, BooleanType, NullType, InferredType}
use Rattle.kr_classes_table.specs.Table.{applied, field_named, method_named}
use Rattle.kr_classes_table.specs.Rules.{Fault, least, sooner}
use Rattle.kr_types_meaning.specs.Scopes.{Scope, written, caught_type, in_class, meant, class_before, method_meant}
use Rattle.kr_types_meaning.specs.Rules.{Typed, Untyped, Value, Values, Judgement, Fits, Breaks, type_rule, diamond_rule, array_rule, number_rule, this_rule, name_rule, unary_rule, operator_rule, choice_rule, cast_rule, instance_rule, assignment_rule, compound_rule, step_rule, access_rule, constant_rule, element_rule, call_rule, static_rule, super_rule, object_call_rule, creation_rule, array_creation_rule, result_value_rule, old_rule, contract_rule, condition_rule, return_rule, jump_rule, throw_rule, caught_rule, then_rule, declaration_rule, parameter_rule, super_constructor_rule, implied_rule}
use Rattle.kr_types_meaning.specs.Typing.{Judged, on_one, on_two, on_list, on_maybe, joined, has_constructor, class_rule}
use Rattle.kr_ast.specs.declared.node.Node.{Node}
use Rattle.kr_ast.specs.Arena.{parts}

pub record Note : Type 0 where
  pub typed : Typed
  pub least : Option Fault

abbrev pub note : Typed → Option Fault → Note
note t l = record { typed = t; least = l }

abbrev pub kept : Judged → Note
kept j = note j.typed (least j.faults)

abbrev pub concluded : Place → Judgement → Option Fault → Note
concluded p (Fits t) l = note t l
concluded p (Breaks r) l = note Untyped (sooner l (Some (record { place = p; rule = r })))

abbrev pub leaf : Place → Judgement → Note
leaf p v = concluded p v None

abbrev pub one : Place → (JavaType → Judgement) → Note → Note
one p f x = concluded p (on_one f x.typed) x.least

abbrev pub two : Place → (JavaType → JavaType → Judgement) → Note → Note → Note
two p f x y = concluded p (on_two f x.typed y.typed) (sooner x.least y.least)

abbrev pub three : Place → (JavaType → JavaType → JavaType → Judgement) → Note → Note → Note → Note
three p f x y z = concluded p (on_one (λ a. on_two (f a) y.typed z.typed) x.typed) (sooner (sooner x.least y.least) z.least)

abbrev pub one_and_list : Place → (JavaType → List JavaType → Judgement) → Note → Note → Note
one_and_list p f x ys = concluded p (on_one (λ a. on_list (f a) ys.typed) x.typed) (sooner x.least ys.least)

abbrev pub list : Place → (List JavaType → Judgement) → Note → Note
list p f xs = concluded p (on_list f xs.typed) xs.least

abbrev pub maybe : Place → (Option JavaType → Judgement) → Note → Note
maybe p f x = concluded p (on_maybe f x.typed) x.least

abbrev pub plain : Option Fault → Note
plain l = note Untyped l

abbrev pub test : Place → Note → Option Fault → Note
test p c more = concluded p (on_one condition_rule c.typed) (sooner c.least more)

abbrev pub signals : Place → Scope → Tree → Note → Note → Note
signals p s d x y = concluded p (on_one (λ t. then_rule (contract_rule s t) (caught_rule s 43 (caught_type s d))) y.typed) (sooner x.least y.least)

abbrev pub both : Note → Note → Note
both x y = note (joined x.typed y.typed) (sooner x.least y.least)

abbrev pub field_of : Scope → Place → List ℕ → Option ℕ → Note → Note
field_of s p n (Some c) e = leaf p (constant_rule (field_named s.table c n))
field_of s p n None e = one p (access_rule s n) e

abbrev pub method_of : Scope → Place → List ℕ → Option ℕ → Note → Note → Note
method_of s p n (Some c) e es = list p (static_rule s (method_named s.table c n)) es
method_of s p n None e es = one_and_list p (object_call_rule s n) e es

-- the note of a node in a scope, given the note of each part
abbrev pub noted : Scope → Tree → (ℕ → Note) → Note
noted s trees.Nil look = note (Values []) None
noted s (trees.Cons a b) look = both (look 0) (look 1)
noted s (trees.PrimitiveType p k) look = leaf p (type_rule (written s (trees.PrimitiveType p k)))
noted s (trees.NamedType p n) look = leaf p (type_rule (written s (trees.NamedType p n)))
noted s (trees.QualifiedType p o n) look = leaf p (type_rule (written s (trees.QualifiedType p o n)))
noted s (trees.GenericType p h a) look = one p (λ t. type_rule (applied (written s h) t)) (look 1)
noted s (trees.DiamondType p h) look = leaf p (diamond_rule (applied (written s h) InferredType))
noted s (trees.ArrayType p e) look = one p array_rule (look 0)
noted s (trees.Number p n) look = leaf p (number_rule s Bits32 n)
noted s (trees.LongNumber p n) look = leaf p (number_rule s Bits64 n)
noted s (trees.Truth p b) look = leaf p (Fits (Value BooleanType))
noted s (trees.Null p) look = leaf p (Fits (Value NullType))
noted s (trees.This p) look = leaf p (this_rule s)
noted s (trees.Variable p n) look = leaf p (name_rule s (meant s n))
noted s (trees.FieldAccess p e n) look = field_of s p n (class_before s e) (look 0)
noted s (trees.ArrayAccess p a i) look = two p element_rule (look 0) (look 1)
noted s (trees.Call p n es) look = list p (call_rule s (method_meant s n)) (look 0)
noted s (trees.MethodCall p e n es) look = method_of s p n (class_before s e) (look 0) (look 1)
noted s (trees.SuperCall p n es) look = list p (super_rule s n) (look 0)
noted s (trees.ObjectCreation p t es) look = one_and_list p (creation_rule s) (look 0) (look 1)
noted s (trees.ArrayCreation p t e) look = two p (array_creation_rule s) (look 0) (look 1)
noted s (trees.Unary p o e) look = one p (unary_rule o) (look 0)
noted s (trees.Step p o e) look = one p (step_rule s (look 0).typed) (look 0)
noted s (trees.Binary p o a b) look = two p (operator_rule s o) (look 0) (look 1)
noted s (trees.InstanceOf p e t) look = two p (instance_rule s) (look 0) (look 1)
noted s (trees.Conditional p c a b) look = three p (choice_rule s) (look 0) (look 1) (look 2)
noted s (trees.Cast p t e) look = two p (cast_rule s) (look 0) (look 1)
noted s (trees.Assignment p a b) look = two p (assignment_rule s (look 0).typed) (look 0) (look 1)
noted s (trees.CompoundAssignment p o a b) look = two p (compound_rule s o (look 0).typed) (look 0) (look 1)
noted s (trees.Result p) look = leaf p (result_value_rule s)
noted s (trees.Old p e) look = one p (old_rule s) (look 0)
noted s (trees.Empty p) look = plain None
noted s (trees.Block p b) look = plain (look 0).least
noted s (trees.Local p t ds) look = plain (sooner (look 0).least (look 1).least)
noted s (trees.Declarator p n e) look = maybe p (declaration_rule s s.declaring p n) (look 0)
noted s (trees.ExpressionStatement p e) look = plain (look 0).least
noted s (trees.Return p e) look = maybe p (return_rule s) (look 0)
noted s (trees.Break p) look = leaf p (jump_rule s)
noted s (trees.Continue p) look = leaf p (jump_rule s)
noted s (trees.IfThen p c a) look = test p (look 0) (look 1).least
noted s (trees.IfElse p c a b) look = test p (look 0) (sooner (look 1).least (look 2).least)
noted s (trees.While p c a) look = test p (look 0) (look 1).least
noted s (trees.Do p a c) look = test p (look 1) (look 0).least
noted s (trees.For p i c u a) look = test p (look 1) (sooner (sooner (look 0).least (look 2).least) (look 3).least)
noted s (trees.Throw p e) look = one p (throw_rule s) (look 0)
noted s (trees.Try p b cs) look = plain (sooner (look 0).least (look 1).least)
noted s (trees.Catch p d b) look = concluded p (caught_rule s 42 (caught_type s d)) (sooner (look 0).least (look 1).least)
noted s (trees.ConstructorCall p es) look = list p (super_constructor_rule s) (look 0)
noted s (trees.Class p n e ms) look = concluded p (class_rule (has_constructor (in_class n s)) (in_class n s)) (look 1).least
noted s (trees.Field p st fi t ds) look = plain (sooner (look 0).least (look 1).least)
noted s (trees.Method p st n g b) look = plain (sooner (look 0).least (look 1).least)
noted s (trees.Signature p r ps cs) look = plain (sooner (sooner (look 0).least (look 1).least) (look 2).least)
noted s (trees.Parameter p t n) look = concluded p (parameter_rule s n) (look 0).least
noted s (trees.Constructor p ps call b) look = concluded p (on_maybe (λ t. implied_rule s) (look 1).typed) (sooner (sooner (look 0).least (look 1).least) (look 2).least)
noted s (trees.Requires p e) look = one p (contract_rule s) (look 0)
noted s (trees.Ensures p e) look = one p (contract_rule s) (look 0)
noted s (trees.Signals p d e) look = signals p s d (look 0) (look 1)

-- the parts of a node, in order
abbrev pub parts_of : Tree → List Tree
parts_of (trees.Cons a b) = a ∷ b ∷ []
parts_of (trees.GenericType p a b) = a ∷ b ∷ []
parts_of (trees.DiamondType p a) = a ∷ []
parts_of (trees.ArrayType p a) = a ∷ []
parts_of (trees.FieldAccess p a n) = a ∷ []
parts_of (trees.ArrayAccess p a b) = a ∷ b ∷ []
parts_of (trees.Call p n a) = a ∷ []
parts_of (trees.MethodCall p a n b) = a ∷ b ∷ []
parts_of (trees.SuperCall p n a) = a ∷ []
parts_of (trees.ObjectCreation p a b) = a ∷ b ∷ []
parts_of (trees.ArrayCreation p a b) = a ∷ b ∷ []
parts_of (trees.Unary p o a) = a ∷ []
parts_of (trees.Step p o a) = a ∷ []
parts_of (trees.Binary p o a b) = a ∷ b ∷ []
parts_of (trees.InstanceOf p a b) = a ∷ b ∷ []
parts_of (trees.Conditional p a b c) = a ∷ b ∷ c ∷ []
parts_of (trees.Cast p a b) = a ∷ b ∷ []
parts_of (trees.Assignment p a b) = a ∷ b ∷ []
parts_of (trees.CompoundAssignment p o a b) = a ∷ b ∷ []
parts_of (trees.Old p a) = a ∷ []
parts_of (trees.Block p a) = a ∷ []
parts_of (trees.Local p a b) = a ∷ b ∷ []
parts_of (trees.Declarator p n a) = a ∷ []
parts_of (trees.ExpressionStatement p a) = a ∷ []
parts_of (trees.Return p a) = a ∷ []
parts_of (trees.IfThen p a b) = a ∷ b ∷ []
parts_of (trees.IfElse p a b c) = a ∷ b ∷ c ∷ []
parts_of (trees.While p a b) = a ∷ b ∷ []
parts_of (trees.Do p a b) = a ∷ b ∷ []
parts_of (trees.For p a b c d) = a ∷ b ∷ c ∷ d ∷ []
parts_of (trees.Throw p a) = a ∷ []
parts_of (trees.Try p a b) = a ∷ b ∷ []
parts_of (trees.Catch p a b) = a ∷ b ∷ []
parts_of (trees.ConstructorCall p a) = a ∷ []
parts_of (trees.Class p n a b) = a ∷ b ∷ []
parts_of (trees.Field p st fi a b) = a ∷ b ∷ []
parts_of (trees.Method p st n a b) = a ∷ b ∷ []
parts_of (trees.Signature p a b c) = a ∷ b ∷ c ∷ []
parts_of (trees.Parameter p a n) = a ∷ []
parts_of (trees.Constructor p a b c) = a ∷ b ∷ c ∷ []
parts_of (trees.Requires p a) = a ∷ []
parts_of (trees.Ensures p a) = a ∷ []
parts_of (trees.Signals p a b) = a ∷ b ∷ []
parts_of _ = []

-- the note at an index, and that of a part of a node
abbrev pub note_at : List Note → ℕ → Note
note_at ns i = slice_index_or ns i (note Untyped None)

abbrev pub part_note : List Note → Node → ℕ → Note
part_note ns n j = note_at ns (slice_index_or (parts n) j 0)
