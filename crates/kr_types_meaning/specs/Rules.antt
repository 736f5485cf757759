-- To be believed: the typing rules: what a node asks of its scope and of the types of its parts (Java Language Specification 14,
-- 15).
use Rattle.std.specs.Prelude.{ℕ, Bool, true, false, ◌&&◌, ◌||◌, not, List, [], ◌∷◌, nat_lt, bytes_eq, if◌then◌else◌, Option, Some, None, option_and_then, is_some, codes}
use Rattle.kr_base.specs.declared.place.Place.{Place}
use Rattle.kr_base.specs.Places.{nowhere}
use Rattle.kr_ast.specs.Tree.{NamedType}
use Rattle.kr_ast.specs.declared.node.UnaryOperator.{UnaryOperator}
use Rattle.kr_ast.specs.declared.node.UnaryOperator.TheVariants.{Not}
use Rattle.kr_ast.specs.declared.node.BinaryOperator.{BinaryOperator}
use Rattle.kr_ast.specs.declared.node.BinaryOperator.TheVariants.{Multiply, Divide, Remainder, Add, Subtract, ShiftLeft, ShiftRight, ShiftRightUnsigned, Less, Greater, LessOrEqual, GreaterOrEqual, Equal, NotEqual, BitAnd, BitXor, BitOr, And, Or}
use Rattle.kr_classes_table.specs.Numbers.{Width, half}
use Rattle.kr_classes_table.specs.Types.{JavaType, NumberType, int_type, BooleanType, ClassType, ArrayType, SetType, ListType, AppliedType, is_same, is_void, is_collection, is_element, is_reference, is_known}
use Rattle.kr_classes_table.specs.Table.{Field, Parameter, Method, field_named, method_named, constructor_parameters, is_assignable, are_related}
use Rattle.kr_classes_table.specs.Constants.{value_at}
use Rattle.kr_types_meaning.specs.declared.operators.OperatorKind.{OperatorKind}
use Rattle.kr_types_meaning.specs.declared.operators.OperatorKind.TheVariants.{Arithmetic, Shift, Comparison, Equality, Bitwise, Logical}
use Rattle.kr_types_meaning.specs.Promotion.{promoted, promoted_alone, is_number, are_numbers}
use Rattle.kr_types_meaning.specs.Scopes.{Scope, Role, AsStatement, UnderMinus, Part, Code, Ensuring, Signalling, Declaring, Locals, Fields, Constants, Meant, LocalName, FieldName, NoName, meant, super_class, super_parameters, written}

-- ---- the facts known of a node

-- nothing (it is broken, or a part of it is, or a type that it refers to), a value of a type, a variable, which can be
-- assigned, or the values of a list; an absent part is the empty list
pub data Typed : Type 0 where
  Untyped : Typed
  Value : JavaType → Typed
  Variable : JavaType → Typed
  Values : List JavaType → Typed

-- the verdict of a rule on a node: its type, or the broken rule
pub data Judgement : Type 0 where
  Fits : Typed → Judgement
  Breaks : ℕ → Judgement

-- where the test fails the rule of this number is broken; of several the least is written first
abbrev pub ask : Bool → ℕ → Judgement → Judgement
ask true r v = v
ask false r v = Breaks r

-- a type of which rule T1 is broken is none
abbrev pub typed_as : JavaType → Typed
typed_as t = if is_known t then Value t else Untyped

abbrev pub variable_of : JavaType → Typed
variable_of t = if is_known t then Variable t else Untyped

abbrev pub gives : JavaType → Judgement
gives t = Fits (typed_as t)

abbrev pub fine : Judgement
fine = Fits Untyped

-- a type into which everything goes where rule T1 is broken of it
abbrev pub takes : Scope → JavaType → JavaType → Bool
takes s to from = not (is_known to) || is_assignable s.table from to

abbrev pub is_int : JavaType → Bool
is_int t = is_same t int_type

abbrev pub is_boolean : JavaType → Bool
is_boolean t = is_same t BooleanType

abbrev pub both_boolean : JavaType → JavaType → Bool
both_boolean a b = is_boolean a && is_boolean b

abbrev pub related_references : Scope → JavaType → JavaType → Bool
related_references s a b = is_reference a && is_reference b && are_related s.table a b

-- equally many arguments and parameters, pairwise assignable
abbrev pub arguments_fit : Scope → List JavaType → List Parameter → Bool
arguments_fit s [] [] = true
arguments_fit s (a ∷ more) (p ∷ ps) = takes s p.type a && arguments_fit s more ps
arguments_fit s _ _ = false

abbrev pub is_code : Part → Bool
is_code Code = true
is_code part = false

abbrev pub is_ensuring : Part → Bool
is_ensuring Ensuring = true
is_ensuring part = false

-- whether it comes after the body
abbrev pub is_after_body : Part → Bool
is_after_body Ensuring = true
is_after_body Signalling = true
is_after_body part = false

abbrev pub is_under_minus : Role → Bool
is_under_minus UnderMinus = true
is_under_minus role = false

abbrev pub is_statement : Role → Bool
is_statement AsStatement = true
is_statement role = false

abbrev pub is_none_of : {A : Type 0} → List A → Bool
is_none_of [] = true
is_none_of (x ∷ xs) = false

-- ---- types

-- T1: the type's names are known, and it has the argument that it needs
abbrev pub type_rule : JavaType → Judgement
type_rule t = ask (is_known t) 1 (Fits (Value t))

-- T1 of `C<>`
abbrev pub diamond_rule : JavaType → Judgement
diamond_rule (SetType t) = Fits (Value (SetType t))
diamond_rule (ListType t) = Fits (Value (ListType t))
diamond_rule (AppliedType (ClassType c) t) = Fits (Value (AppliedType (ClassType c) t))
diamond_rule t = Breaks 1

abbrev pub array_rule : JavaType → Judgement
array_rule t = Fits (Value (ArrayType t))

-- ---- names, literals, operators

-- T6: the number after the greatest of a width occurs only under a unary minus
abbrev pub number_rule : Scope → Width → ℕ → Judgement
number_rule s w n = ask (nat_lt n (half w) || is_under_minus s.role) 6 (Fits (Value (NumberType w)))

-- T5: `this` isn't used in static code
abbrev pub this_rule : Scope → Judgement
this_rule s = ask (not s.is_static) 5 (Fits (Value (ClassType s.class)))

-- T3: a name means something; T5: no instance field in static code
abbrev pub name_rule : Scope → Meant → Judgement
name_rule s (LocalName k t) = Fits (variable_of t)
name_rule s (FieldName f) = if f.is_static then gives f.type else ask (not s.is_static) 5 (Fits (variable_of f.type))
name_rule s NoName = Breaks 3

-- a value of the type to which operands are promoted
abbrev pub of_promoted : Option JavaType → ℕ → Judgement
of_promoted (Some t) r = Fits (Value t)
of_promoted None r = Breaks r

abbrev pub boolean_if : Bool → ℕ → Judgement
boolean_if test r = ask test r (Fits (Value BooleanType))

-- T13, T14
abbrev pub unary_rule : UnaryOperator → JavaType → Judgement
unary_rule Not a = boolean_if (is_boolean a) 13
unary_rule o a = of_promoted (promoted_alone a) 14

-- T8: each operand is promoted alone, and the left one's type is given (15.19)
abbrev pub shift_rule : JavaType → JavaType → Judgement
shift_rule a b = ask (is_number b) 8 (of_promoted (promoted_alone a) 8)

-- T11: booleans, or numbers (15.22)
abbrev pub bit_rule : JavaType → JavaType → Judgement
bit_rule a b = if both_boolean a b then Fits (Value BooleanType) else of_promoted (promoted a b) 11

-- the operators of each rule
abbrev pub kind_of : BinaryOperator → OperatorKind
kind_of Multiply = Arithmetic
kind_of Divide = Arithmetic
kind_of Remainder = Arithmetic
kind_of Add = Arithmetic
kind_of Subtract = Arithmetic
kind_of ShiftLeft = Shift
kind_of ShiftRight = Shift
kind_of ShiftRightUnsigned = Shift
kind_of Less = Comparison
kind_of Greater = Comparison
kind_of LessOrEqual = Comparison
kind_of GreaterOrEqual = Comparison
kind_of Equal = Equality
kind_of NotEqual = Equality
kind_of BitAnd = Bitwise
kind_of BitXor = Bitwise
kind_of BitOr = Bitwise
kind_of And = Logical
kind_of Or = Logical

-- T7 to T12
abbrev pub kind_rule : Scope → OperatorKind → JavaType → JavaType → Judgement
kind_rule s Arithmetic a b = of_promoted (promoted a b) 7
kind_rule s Shift a b = shift_rule a b
kind_rule s Comparison a b = boolean_if (are_numbers a b) 9
kind_rule s Equality a b = boolean_if (are_numbers a b || both_boolean a b || related_references s a b) 10
kind_rule s Bitwise a b = bit_rule a b
kind_rule s Logical a b = boolean_if (both_boolean a b) 12

abbrev pub operator_rule : Scope → BinaryOperator → JavaType → JavaType → Judgement
operator_rule s o a b = kind_rule s (kind_of o) a b

-- T15: a boolean, and arms that are equal or related; the type is the one that is assigned to
abbrev pub choice_rule : Scope → JavaType → JavaType → JavaType → Judgement
choice_rule s c a b = ask (is_boolean c && are_related s.table a b) 15 (Fits (Value (if is_assignable s.table a b then b else a)))

-- T20: number to number, boolean to boolean, or related references that are no collections
abbrev pub cast_rule : Scope → JavaType → JavaType → Judgement
cast_rule s to from = ask (are_numbers to from || both_boolean to from || (related_references s from to && not (is_collection to) && not (is_collection from))) 20 (Fits (Value to))

-- T21: a reference, and a related class or array type
abbrev pub instance_rule : Scope → JavaType → JavaType → Judgement
instance_rule s from to = ask (is_element to && related_references s from to) 21 (Fits (Value BooleanType))

-- ---- writes

abbrev pub is_variable : Typed → Bool
is_variable (Variable t) = true
is_variable x = false

-- T19: it writes a variable; T39: not in a contract
abbrev pub written_rule : Scope → Typed → JavaType → Judgement
written_rule s target t = ask (is_variable target) 19 (ask (is_code s.part) 39 (Fits (Value t)))

-- T16: the right side is assignable to the left one
abbrev pub assignment_rule : Scope → Typed → JavaType → JavaType → Judgement
assignment_rule s target to from = ask (is_assignable s.table from to) 16 (written_rule s target to)

abbrev pub is_broken : Judgement → Bool
is_broken (Breaks r) = true
is_broken v = false

-- T17: the operator takes both sides
abbrev pub compound_rule : Scope → BinaryOperator → Typed → JavaType → JavaType → Judgement
compound_rule s o target to from = ask (not (is_broken (operator_rule s o to from))) 17 (written_rule s target to)

-- T18
abbrev pub step_rule : Scope → Typed → JavaType → Judgement
step_rule s target to = ask (is_number to) 18 (written_rule s target to)

-- ---- parts of objects and arrays

abbrev pub field_rule : Option Field → Judgement
field_rule None = Breaks 22
field_rule (Some f) = ask (not f.is_static) 22 (Fits (variable_of f.type))

-- T22: an instance field of a class, or the length of an array
abbrev pub access_rule : Scope → List ℕ → JavaType → Judgement
access_rule s n (ClassType c) = field_rule (field_named s.table c n)
access_rule s n (ArrayType t) = ask (bytes_eq n (codes "length")) 22 (Fits (Value int_type))
access_rule s n t = Breaks 22

-- T22: a constant of a class
abbrev pub constant_rule : Option Field → Judgement
constant_rule None = Breaks 22
constant_rule (Some f) = ask f.is_static 22 (gives f.type)

-- T23: an array and an int
abbrev pub element_rule : JavaType → JavaType → Judgement
element_rule (ArrayType t) i = ask (is_int i) 23 (Fits (Variable t))
element_rule t i = Breaks 23

-- ---- calls

-- T32: a call of a method without result is a statement
abbrev pub result_rule : Scope → Method → Judgement
result_rule s m = ask (not (is_void m.result) || is_statement s.role) 32 (gives m.result)

-- T24: the arguments fit
abbrev pub arguments_rule : Scope → List JavaType → Method → Judgement
arguments_rule s ts m = ask (arguments_fit s ts m.parameters) 24 (result_rule s m)

-- T24: there is the method; T5: no instance method in static code
abbrev pub call_rule : Scope → Option Method → List JavaType → Judgement
call_rule s None ts = Breaks 24
call_rule s (Some m) ts = ask (m.is_static || not s.is_static) 5 (arguments_rule s ts m)

-- T24 after a class's name
abbrev pub static_rule : Scope → Option Method → List JavaType → Judgement
static_rule s None ts = Breaks 24
static_rule s (Some m) ts = ask m.is_static 24 (arguments_rule s ts m)

abbrev pub above_rule : Scope → Option Method → List JavaType → Judgement
above_rule s None ts = Breaks 33
above_rule s (Some m) ts = if m.is_static then Breaks 33 else arguments_rule s ts m

-- T5: not in static code; T33: `super.m` is an instance method of an ancestor; T24
abbrev pub super_rule : Scope → List ℕ → List JavaType → Judgement
super_rule s n ts = ask (not s.is_static) 5 (above_rule s (option_and_then (λ c. method_named s.table c n) (super_class s)) ts)

-- T25: what a collection of a type has without arguments
abbrev pub plain_call_rule : Bool → JavaType → List ℕ → Judgement
plain_call_rule is_list t n =
    if bytes_eq n (codes "size") then Fits (Value int_type)
    else if bytes_eq n (codes "isEmpty") then Fits (Value BooleanType)
    else ask (bytes_eq n (codes "removeFirst") && is_list && is_element t) 25 (Fits (Value t))

-- T25 with an argument: `add` accepts values assignable to the type, `contains` and `remove` null and every class or
-- array type
abbrev pub member_call_rule : Scope → JavaType → List ℕ → JavaType → Judgement
member_call_rule s t n x =
    if bytes_eq n (codes "add") then ask (is_assignable s.table x t) 25 (Fits (Value BooleanType))
    else ask ((bytes_eq n (codes "contains") || bytes_eq n (codes "remove")) && is_reference x && not (is_collection x)) 25 (Fits (Value BooleanType))

abbrev pub collection_rule : Scope → Bool → JavaType → List ℕ → List JavaType → Judgement
collection_rule s is_list t n [] = plain_call_rule is_list t n
collection_rule s is_list t n (x ∷ []) = member_call_rule s t n x
collection_rule s is_list t n xs = Breaks 25

abbrev pub method_rule : Scope → Option Method → List JavaType → Judgement
method_rule s None ts = Breaks 24
method_rule s (Some m) ts = arguments_rule s ts m

-- T24, T25: a call through an object
abbrev pub object_call_rule : Scope → List ℕ → JavaType → List JavaType → Judgement
object_call_rule s n (ClassType c) ts = method_rule s (method_named s.table c n) ts
object_call_rule s n (SetType t) ts = collection_rule s false t n ts
object_call_rule s n (ListType t) ts = collection_rule s true t n ts
object_call_rule s n t ts = Breaks 24

abbrev pub creation_fits : Scope → JavaType → List JavaType → Bool
creation_fits s (ClassType c) ts = arguments_fit s ts (constructor_parameters s.table c)
creation_fits s (SetType t) ts = is_none_of ts
creation_fits s (ListType t) ts = is_none_of ts
creation_fits s t ts = false

-- T26: the arguments fit the constructor, and a collection takes none; `<>` only on collections; T39
abbrev pub creation_rule : Scope → JavaType → List JavaType → Judgement
creation_rule s t ts = ask (creation_fits s t ts) 26 (ask (is_code s.part) 39 (Fits (Value t)))

-- T27: the length is an int; T39
abbrev pub array_creation_rule : Scope → JavaType → JavaType → Judgement
array_creation_rule s t n = ask (is_int n) 27 (ask (is_code s.part) 39 (Fits (Value (ArrayType t))))

-- ---- contracts

-- T38: `\result` only in `ensures` of a method with a result, and not in `\old`
abbrev pub result_value_rule : Scope → Judgement
result_value_rule s = ask (is_ensuring s.part && not (is_void s.result) && not s.is_in_old) 38 (gives s.result)

-- T38: `\old` only in `ensures` and `signals`, and not in `\old`
abbrev pub old_rule : Scope → JavaType → Judgement
old_rule s t = ask (is_after_body s.part && not s.is_in_old) 38 (Fits (Value t))

-- T28: boolean; T40: before instance methods only
abbrev pub contract_rule : Scope → JavaType → Judgement
contract_rule s t = ask (is_boolean t) 28 (ask (not s.is_static) 40 fine)

-- ---- statements and declarations

-- T28: a condition is boolean
abbrev pub condition_rule : JavaType → Judgement
condition_rule t = ask (is_boolean t) 28 fine

abbrev pub is_new : Scope → List ℕ → Meant → Bool
is_new s n (LocalName k t) = false
is_new s n m = true

-- T30: a value exactly in a method with a result, and it is assignable
abbrev pub return_rule : Scope → Option JavaType → Judgement
return_rule s None = ask (is_void s.result || not (is_known s.result)) 30 fine
return_rule s (Some t) = ask (takes s s.result t) 30 fine

-- T31: in a loop
abbrev pub jump_rule : Scope → Judgement
jump_rule s = ask s.is_in_loop 31 fine

-- the class of all that is thrown
abbrev pub throwable : Scope → JavaType
throwable s = written s (NamedType nowhere (codes "Throwable"))

-- T41: what is thrown is of class Throwable or one below it
abbrev pub throw_rule : Scope → JavaType → Judgement
throw_rule s t = ask (is_assignable s.table t (throwable s)) 41 fine

-- T42 of `catch`, T43 of `signals`: the class is Throwable or one below it
abbrev pub caught_rule : Scope → ℕ → JavaType → Judgement
caught_rule s r t = ask (not (is_known t) || is_assignable s.table t (throwable s)) r fine

-- a rule that is looked at where the one before it isn't broken
abbrev pub then_rule : Judgement → Judgement → Judgement
then_rule (Breaks r) v = Breaks r
then_rule (Fits t) v = v

abbrev pub initial_fits : Scope → Option JavaType → Bool
initial_fits s None = true
initial_fits s (Some t) = takes s s.declared t

abbrev pub is_simple : JavaType → Bool
is_simple t = is_number t || is_boolean t

-- T4: no other local or parameter in scope has the name; T29, T35: the initial value is assignable; T36: a constant has
-- a value; T37: a static field is `static final int`, `long` or `boolean`
abbrev pub declaration_rule : Scope → Declaring → Place → List ℕ → Option JavaType → Judgement
declaration_rule s Locals p n t = ask (is_new s n (meant s n)) 4 (ask (initial_fits s t) 29 fine)
declaration_rule s Fields p n t = ask (initial_fits s t) 35 fine
declaration_rule s (Constants is_final) p n t =
    if is_known s.declared then ask (initial_fits s t) 35 (ask (is_some (value_at s.values p)) 36 (ask (is_final && is_simple s.declared) 37 fine)) else fine

-- T4
abbrev pub parameter_rule : Scope → List ℕ → Judgement
parameter_rule s n = ask (is_new s n (meant s n)) 4 fine

-- T34: `super(..)` fits the superclass's constructor
abbrev pub super_constructor_rule : Scope → List JavaType → Judgement
super_constructor_rule s ts = ask (arguments_fit s ts (super_parameters s)) 34 fine

-- T34: where it is absent that one takes no arguments
abbrev pub implied_rule : Scope → Judgement
implied_rule s = ask (is_none_of (super_parameters s)) 34 fine
