-- To be believed: types of nodes, and which nodes are broken, by one recursion over the trees: the scope is handed down, the
-- type and the broken nodes are handed up.
use Rattle.std.specs.Prelude.{ℕ, ◌≡◌, Bool, true, false, List, [], ◌∷◌, ◌++◌, flat_map, Option, Some, None, option_to_list}
use Rattle.kr_base.specs.declared.place.Place.{Place}
use Rattle.kr_ast.specs.declared.node.UnaryOperator.{UnaryOperator}
use Rattle.kr_ast.specs.declared.node.UnaryOperator.TheVariants.{Minus}
use Rattle.kr_ast.specs.Tree as trees
use Rattle.kr_ast.specs.Tree.{Tree}
use Rattle.kr_classes_table.specs.Numbers.{Bits32, Bits64}
use Rattle.kr_classes_table.specs.Types.{JavaType, BooleanType, NullType, InferredType}
use Rattle.kr_classes_table.specs.Table.{Table, applied, class_at, table_of, field_named, method_named}
use Rattle.kr_classes_table.specs.Rules.{Fault, least, class_fault}
use Rattle.kr_classes_table.specs.Constants.{values_of}
use Rattle.kr_types_meaning.specs.Scopes.{Scope, Requiring, Ensuring, Locals, scope_of, written, caught_type, in_class, static_if, value, statement, under_minus, in_loop, in_contract, in_signals, in_old, declaring, field_kind, bind_as, after, meant, class_before, method_meant}
use Rattle.kr_types_meaning.specs.Rules.{Typed, Untyped, Value, Variable, Values, Judgement, Fits, Breaks, fine, type_rule, diamond_rule, array_rule, number_rule, this_rule, name_rule, unary_rule, operator_rule, choice_rule, cast_rule, instance_rule, assignment_rule, compound_rule, step_rule, access_rule, constant_rule, element_rule, call_rule, static_rule, super_rule, object_call_rule, creation_rule, array_creation_rule, result_value_rule, old_rule, contract_rule, condition_rule, return_rule, jump_rule, throw_rule, caught_rule, then_rule, declaration_rule, parameter_rule, super_constructor_rule, implied_rule}

-- the judgement of a node, and the broken nodes in it
pub record Judged : Type 0 where
  pub typed : Typed
  pub faults : List Fault

-- a node by its own rule, after its parts
abbrev pub judge : Place → Judgement → List Fault → Judged
judge p (Fits t) below = record { typed = t; faults = below }
judge p (Breaks r) below = record { typed = Untyped; faults = below ++ record { place = p; rule = r } ∷ [] }

-- a rule on the types of parts is looked at where these have types

abbrev pub on_one : (JavaType → Judgement) → Typed → Judgement
on_one f (Value t) = f t
on_one f (Variable t) = f t
on_one f x = fine

abbrev pub on_two : (JavaType → JavaType → Judgement) → Typed → Typed → Judgement
on_two f x y = on_one (λ a. on_one (f a) y) x

abbrev pub on_list : (List JavaType → Judgement) → Typed → Judgement
on_list f (Values ts) = f ts
on_list f x = fine

-- a part that may be absent
abbrev pub on_maybe : (Option JavaType → Judgement) → Typed → Judgement
on_maybe f (Value t) = f (Some t)
on_maybe f (Variable t) = f (Some t)
on_maybe f (Values ts) = f None
on_maybe f Untyped = fine

abbrev pub leaf : Place → Judgement → Judged
leaf p v = judge p v []

abbrev pub one : Place → (JavaType → Judgement) → Judged → Judged
one p f x = judge p (on_one f x.typed) x.faults

abbrev pub two : Place → (JavaType → JavaType → Judgement) → Judged → Judged → Judged
two p f x y = judge p (on_two f x.typed y.typed) (x.faults ++ y.faults)

abbrev pub three : Place → (JavaType → JavaType → JavaType → Judgement) → Judged → Judged → Judged → Judged
three p f x y z = judge p (on_one (λ a. on_two (f a) y.typed z.typed) x.typed) (x.faults ++ y.faults ++ z.faults)

-- a part and a list of arguments
abbrev pub one_and_list : Place → (JavaType → List JavaType → Judgement) → Judged → Judged → Judged
one_and_list p f x ys = judge p (on_one (λ a. on_list (f a) ys.typed) x.typed) (x.faults ++ ys.faults)

abbrev pub list : Place → (List JavaType → Judgement) → Judged → Judged
list p f xs = judge p (on_list f xs.typed) xs.faults

abbrev pub maybe : Place → (Option JavaType → Judgement) → Judged → Judged
maybe p f x = judge p (on_maybe f x.typed) x.faults

-- a statement without a rule of its own, and one with a condition
abbrev pub plain : List Fault → Judged
plain below = record { typed = Untyped; faults = below }

abbrev pub test : Place → Judged → List Fault → Judged
test p c more = judge p (on_one condition_rule c.typed) (c.faults ++ more)

-- a `signals` clause, with what it declares and its condition
abbrev pub signals : Place → Scope → Tree → Judged → Judged → Judged
signals p s d x y = judge p (on_one (λ t. then_rule (contract_rule s t) (caught_rule s 43 (caught_type s d))) y.typed) (x.faults ++ y.faults)

abbrev pub joined : Typed → Typed → Typed
joined (Value t) (Values ts) = Values (t ∷ ts)
joined (Variable t) (Values ts) = Values (t ∷ ts)
joined x y = Untyped

abbrev pub both : Judged → Judged → Judged
both x y = record { typed = joined x.typed y.typed; faults = x.faults ++ y.faults }

-- before a dot a class's name is no expression

abbrev pub field_of : Scope → Place → List ℕ → Option ℕ → Judged → Judged
field_of s p n (Some c) e = leaf p (constant_rule (field_named s.table c n))
field_of s p n None e = one p (access_rule s n) e

abbrev pub method_of : Scope → Place → List ℕ → Option ℕ → Judged → Judged → Judged
method_of s p n (Some c) e es = list p (static_rule s (method_named s.table c n)) es
method_of s p n None e es = one_and_list p (object_call_rule s n) e es

abbrev pub operand : UnaryOperator → Scope → Scope
operand Minus s = under_minus s
operand o s = value s

abbrev pub has_constructor : Scope → Bool
has_constructor s = elim (flat_map (λ d. d.constructors) (option_to_list (class_at s.table.classes s.class))) [ [] ↦ false | _ ∷ _ ↦ true ]

abbrev pub class_rule : Bool → Scope → Judgement
class_rule true s = fine
class_rule false s = implied_rule s

unfoldable pub judged : Scope → Tree → Judged
judged s trees.Nil = record { typed = Values []; faults = [] }
judged s (trees.Cons a b) = both (judged s a) (judged (after s a) b)
-- types
judged s (trees.PrimitiveType p k) = leaf p (type_rule (written s (trees.PrimitiveType p k)))
judged s (trees.NamedType p n) = leaf p (type_rule (written s (trees.NamedType p n)))
judged s (trees.QualifiedType p o n) = leaf p (type_rule (written s (trees.QualifiedType p o n)))
judged s (trees.GenericType p h a) = one p (λ t. type_rule (applied (written s h) t)) (judged s a)
judged s (trees.DiamondType p h) = leaf p (diamond_rule (applied (written s h) InferredType))
judged s (trees.ArrayType p e) = one p array_rule (judged s e)
-- expressions
judged s (trees.Number p n) = leaf p (number_rule s Bits32 n)
judged s (trees.LongNumber p n) = leaf p (number_rule s Bits64 n)
judged s (trees.Truth p b) = leaf p (Fits (Value BooleanType))
judged s (trees.Null p) = leaf p (Fits (Value NullType))
judged s (trees.This p) = leaf p (this_rule s)
judged s (trees.Variable p n) = leaf p (name_rule s (meant s n))
judged s (trees.FieldAccess p e n) = field_of s p n (class_before s e) (judged (value s) e)
judged s (trees.ArrayAccess p a i) = two p element_rule (judged (value s) a) (judged (value s) i)
judged s (trees.Call p n es) = list p (call_rule s (method_meant s n)) (judged (value s) es)
judged s (trees.MethodCall p e n es) = method_of s p n (class_before s e) (judged (value s) e) (judged (value s) es)
judged s (trees.SuperCall p n es) = list p (super_rule s n) (judged (value s) es)
judged s (trees.ObjectCreation p t es) = one_and_list p (creation_rule s) (judged s t) (judged (value s) es)
judged s (trees.ArrayCreation p t e) = two p (array_creation_rule s) (judged s t) (judged (value s) e)
judged s (trees.Unary p o e) = one p (unary_rule o) (judged (operand o s) e)
judged s (trees.Step p o e) = let x = judged (value s) e in one p (step_rule s x.typed) x
judged s (trees.Binary p o a b) = two p (operator_rule s o) (judged (value s) a) (judged (value s) b)
judged s (trees.InstanceOf p e t) = two p (instance_rule s) (judged (value s) e) (judged s t)
judged s (trees.Conditional p c a b) = three p (choice_rule s) (judged (value s) c) (judged (value s) a) (judged (value s) b)
judged s (trees.Cast p t e) = two p (cast_rule s) (judged s t) (judged (value s) e)
judged s (trees.Assignment p a b) = let x = judged (value s) a in two p (assignment_rule s x.typed) x (judged (value s) b)
judged s (trees.CompoundAssignment p o a b) = let x = judged (value s) a in two p (compound_rule s o x.typed) x (judged (value s) b)
judged s (trees.Result p) = leaf p (result_value_rule s)
judged s (trees.Old p e) = one p (old_rule s) (judged (in_old s) e)
-- statements
judged s (trees.Empty p) = plain []
judged s (trees.Block p b) = plain (judged s b).faults
judged s (trees.Local p t ds) = plain ((judged s t).faults ++ (judged (declaring Locals t s) ds).faults)
judged s (trees.Declarator p n e) = maybe p (declaration_rule s s.declaring p n) (judged (bind_as s.declaring n s) e)
judged s (trees.ExpressionStatement p e) = plain (judged (statement s) e).faults
judged s (trees.Return p e) = maybe p (return_rule s) (judged s e)
judged s (trees.Break p) = leaf p (jump_rule s)
judged s (trees.Continue p) = leaf p (jump_rule s)
judged s (trees.IfThen p c a) = test p (judged s c) (judged s a).faults
judged s (trees.IfElse p c a b) = test p (judged s c) ((judged s a).faults ++ (judged s b).faults)
judged s (trees.While p c a) = test p (judged s c) (judged (in_loop s) a).faults
judged s (trees.Do p a c) = test p (judged s c) (judged (in_loop s) a).faults
judged s (trees.For p i c u a) =
    test p (judged (after s i) c) ((judged s i).faults ++ (judged (statement (after s i)) u).faults ++ (judged (in_loop (after s i)) a).faults)
judged s (trees.Throw p e) = one p (throw_rule s) (judged s e)
judged s (trees.Try p b cs) = plain ((judged s b).faults ++ (judged s cs).faults)
judged s (trees.Catch p d b) = judge p (caught_rule s 42 (caught_type s d)) ((judged s d).faults ++ (judged (after s d) b).faults)
judged s (trees.ConstructorCall p es) = list p (super_constructor_rule s) (judged s es)
-- declarations
judged s (trees.Class p n e ms) = judge p (class_rule (has_constructor (in_class n s)) (in_class n s)) (judged (in_class n s) ms).faults
judged s (trees.Field p st fi t ds) = plain ((judged s t).faults ++ (judged (static_if st (declaring (field_kind st fi) t s)) ds).faults)
judged s (trees.Method p st n g b) = plain ((judged (static_if st s) g).faults ++ (judged (after (static_if st s) g) b).faults)
judged s (trees.Signature p r ps cs) = plain ((judged s r).faults ++ (judged s ps).faults ++ (judged (after s (trees.Signature p r ps cs)) cs).faults)
judged s (trees.Parameter p t n) = judge p (parameter_rule s n) (judged s t).faults
judged s (trees.Constructor p ps call b) =
    judge p (on_maybe (λ t. implied_rule s) (judged (after s ps) call).typed) ((judged s ps).faults ++ (judged (after s ps) call).faults ++ (judged (after s ps) b).faults)
judged s (trees.Requires p e) = one p (contract_rule s) (judged (in_contract Requiring s) e)
judged s (trees.Ensures p e) = one p (contract_rule s) (judged (in_contract Ensuring s) e)
judged s (trees.Signals p d e) = signals p s d (judged s d) (judged (in_signals d s) e)

-- ---- whole programs

abbrev pub type_in : Typed → Option JavaType
type_in (Value t) = Some t
type_in (Variable t) = Some t
type_in x = None

-- the type of an expression in the role of a value
abbrev pub type_of : Scope → Tree → Option JavaType
type_of s e = type_in (judged (value s) e).typed

-- a place outside of classes
abbrev pub outside : Table → Scope
outside t = scope_of t (values_of t) 0

-- the broken nodes of the files
abbrev pub type_faults : List Tree → List Fault
type_faults files = let s = outside (table_of files) in flat_map (λ file. (judged s file).faults) files

-- no node is broken
abbrev pub IsWellTyped : List Tree → Type 0
IsWellTyped files = type_faults files ≡ []

-- the first broken node in the text, and there the least rule
unfoldable pub type_fault : List Tree → Option Fault
type_fault files = least (type_faults files)

-- the first broken class rule, and typing rules only where none is
pub data Refusal : Type 0 where
  ClassRule : Fault → Refusal
  TypeRule : Fault → Refusal

abbrev pub class_first : Option Fault → Option Fault → Option Refusal
class_first (Some f) g = Some (ClassRule f)
class_first None (Some g) = Some (TypeRule g)
class_first None None = None

abbrev pub refusal : List Tree → Option Refusal
refusal files = class_first (class_fault (table_of files)) (type_fault files)
