-- Between crates: the meaning of names, types and constants in one family of classes: A with its nested class N, B
-- below A, C below B. Their numbers are 0 to 3.
use Rattle.std.specs.Prelude.{◌≡◌, ℕ, zero, suc, ◌+◌, List, [], ◌∷◌, map, flat_map, length, take, true, false, pos, Some, None, option_map, codes}
use Rattle.kr_ast.specs.declared.node.Primitive.TheVariants.{Int, Boolean, Void}
use Rattle.kr_ast.specs.declared.node.BinaryOperator.TheVariants.{Add, Less}
use Rattle.kr_ast.specs.declared.node.UnaryOperator.TheVariants.{Not}
use Rattle.kr_ast.specs.declared.node.StepOperator.TheVariants.{IncrementBefore}
use Rattle.kr_ast.specs.Tree as trees
use Rattle.kr_ast.specs.Tree.{Tree, Nil}
use Rattle.kr_classes_table.specs.Types.{int_type, BooleanType, NullType, ClassType, SetType, ListType, ArrayType, InferredType}
use Rattle.kr_classes_table.specs.Predefined.{with_predefined}
use Rattle.kr_classes_table.specs.Table.{Table, Class, table_of, class_at, ancestors, fields_of, field_named, method_named, constructor_parameters, is_assignable, are_related}
use Rattle.kr_classes_table.specs.Rules.{C6}
use Rattle.kr_classes_table.specs.Nodes.{nodes}
use Rattle.kr_classes_table.specs.Arrays.{array_types_of, array_number}
use Rattle.kr_value.specs.declared.value.Value.TheVariants.{Int as Whole, Bool as Truth}
use Rattle.kr_classes_table.specs.Constants.{values_of}
use Rattle.kr_types_meaning.specs.Scopes.{Scope, LocalName, NoName, scope_of, under_minus, meant, meant_by, class_before, bind_local, method_meant}
use Rattle.kr_types_meaning.specs.Typing.{type_of, refusal, IsWellTyped}
use Rattle.kr_types_meaning.specs.Texts.{at, list_of, class_rule_at, type_rule_at}
use Rattle.kr_types_meaning.specs.Examples.{family}

abbrev pub table : Table
table = table_of family

-- in the code of the class C, where x is an int and b a boolean
abbrev pub scope : Scope
scope = bind_local (codes "b") BooleanType (bind_local (codes "x") int_type (scope_of table (values_of table) 3))

-- the scope in N
abbrev pub nested : Scope
nested = scope_of table (values_of table) 1

abbrev pub variable : List ℕ → Tree
variable n = trees.Variable (at 0 9 9) n

abbrev pub field : Tree → List ℕ → Tree
field e n = trees.FieldAccess (at 0 9 9) e n

abbrev pub array_of : Tree → Tree
array_of t = trees.ArrayType (at 0 9 9) t

abbrev pub int : Tree
int = trees.PrimitiveType (at 0 9 9) Int

abbrev pub declared : Tree → List ℕ → Tree
declared t n = trees.Field (at 0 9 9) false false t (list_of (trees.Declarator (at 0 9 9) n Nil ∷ []))

-- class D { int[][] a; HashSet<int[]> s; boolean[] m(D[] x) { return new N[1]; } } class N { int[] b; }
abbrev pub with_arrays : List Tree
with_arrays = list_of (
    trees.Class (at 0 9 9) (codes "D") Nil (list_of (
    declared (array_of (array_of int)) (codes "a")
    ∷ declared (trees.GenericType (at 0 9 9) (trees.NamedType (at 0 9 9) (codes "HashSet")) (array_of int)) (codes "s")
    ∷ trees.Method (at 0 9 9) false (codes "m")
    (trees.Signature (at 0 9 9) (array_of (trees.PrimitiveType (at 0 9 9) Boolean)) (list_of (trees.Parameter (at 0 9 9) (array_of (trees.NamedType (at 0 9 9) (codes "D"))) (codes "x") ∷ [])) Nil)
    (list_of (trees.Return (at 0 9 9) (trees.ArrayCreation (at 0 9 9) (trees.NamedType (at 0 9 9) (codes "N")) (trees.Number (at 0 9 9) 1)) ∷ []))
    ∷ []))
    ∷ trees.Class (at 0 9 9) (codes "N") Nil (list_of (declared (array_of int) (codes "b") ∷ []))
    ∷ []) ∷ []

abbrev pub number : ℕ → Tree
number n = trees.Number (at 0 9 9) n

-- each kind of node, with numbers as its parts, in order
abbrev pub every_kind : Tree
every_kind = list_of (
    trees.GenericType (at 0 9 9) (number 0) (number 1)
    ∷ trees.DiamondType (at 0 9 9) (number 2)
    ∷ trees.ArrayType (at 0 9 9) (number 3)
    ∷ trees.FieldAccess (at 0 9 9) (number 4) (codes "f")
    ∷ trees.ArrayAccess (at 0 9 9) (number 5) (number 6)
    ∷ trees.Call (at 0 9 9) (codes "m") (number 7)
    ∷ trees.MethodCall (at 0 9 9) (number 8) (codes "m") (number 9)
    ∷ trees.SuperCall (at 0 9 9) (codes "m") (number 10)
    ∷ trees.ObjectCreation (at 0 9 9) (number 11) (number 12)
    ∷ trees.ArrayCreation (at 0 9 9) (number 13) (number 14)
    ∷ trees.Unary (at 0 9 9) Not (number 15)
    ∷ trees.Step (at 0 9 9) IncrementBefore (number 16)
    ∷ trees.Binary (at 0 9 9) Add (number 17) (number 18)
    ∷ trees.InstanceOf (at 0 9 9) (number 19) (number 20)
    ∷ trees.Conditional (at 0 9 9) (number 21) (number 22) (number 23)
    ∷ trees.Cast (at 0 9 9) (number 24) (number 25)
    ∷ trees.Assignment (at 0 9 9) (number 26) (number 27)
    ∷ trees.CompoundAssignment (at 0 9 9) Add (number 28) (number 29)
    ∷ trees.Old (at 0 9 9) (number 30)
    ∷ trees.Block (at 0 9 9) (number 31)
    ∷ trees.Local (at 0 9 9) (number 32) (number 33)
    ∷ trees.Declarator (at 0 9 9) (codes "x") (number 34)
    ∷ trees.ExpressionStatement (at 0 9 9) (number 35)
    ∷ trees.Return (at 0 9 9) (number 36)
    ∷ trees.IfThen (at 0 9 9) (number 37) (number 38)
    ∷ trees.IfElse (at 0 9 9) (number 39) (number 40) (number 41)
    ∷ trees.While (at 0 9 9) (number 42) (number 43)
    ∷ trees.Do (at 0 9 9) (number 44) (number 45)
    ∷ trees.For (at 0 9 9) (number 46) (number 47) (number 48) (number 49)
    ∷ trees.ConstructorCall (at 0 9 9) (number 50)
    ∷ trees.Class (at 0 9 9) (codes "C") (number 51) (number 52)
    ∷ trees.Field (at 0 9 9) false false (number 53) (number 54)
    ∷ trees.Method (at 0 9 9) false (codes "m") (number 55) (number 56)
    ∷ trees.Signature (at 0 9 9) (number 57) (number 58) (number 59)
    ∷ trees.Parameter (at 0 9 9) (number 60) (codes "x")
    ∷ trees.Constructor (at 0 9 9) (number 61) (number 62) (number 63)
    ∷ trees.Requires (at 0 9 9) (number 64)
    ∷ trees.Ensures (at 0 9 9) (number 65)
    ∷ trees.PrimitiveType (at 0 9 9) Int
    ∷ trees.NamedType (at 0 9 9) (codes "C")
    ∷ trees.QualifiedType (at 0 9 9) (codes "C") (codes "D")
    ∷ trees.Truth (at 0 9 9) true
    ∷ trees.Null (at 0 9 9)
    ∷ trees.This (at 0 9 9)
    ∷ variable (codes "x")
    ∷ trees.Result (at 0 9 9)
    ∷ trees.Empty (at 0 9 9)
    ∷ trees.Break (at 0 9 9)
    ∷ trees.Continue (at 0 9 9) ∷ [])

abbrev pub numbers_in : Tree → List ℕ
numbers_in (trees.Number p n) = n ∷ []
numbers_in _ = []

-- class A extends B { int v = 1; A(int x) { super(x); ; } //@ requires true; int m(boolean y) { return v; } } class B { }
abbrev pub whole : List Tree
whole = list_of (
    trees.Class (at 0 1 7) (codes "A") (trees.NamedType (at 0 1 17) (codes "B")) (list_of (
    trees.Field (at 0 2 3) false false int (list_of (trees.Declarator (at 0 2 7) (codes "v") (number 1) ∷ []))
    ∷ trees.Constructor (at 0 3 3) (list_of (trees.Parameter (at 0 3 9) int (codes "x") ∷ []))
    (trees.ConstructorCall (at 0 3 14) (list_of (variable (codes "x") ∷ [])))
    (list_of (trees.Empty (at 0 3 24) ∷ []))
    ∷ trees.Method (at 0 5 7) false (codes "m")
    (trees.Signature (at 0 5 7) int (list_of (trees.Parameter (at 0 5 17) (trees.PrimitiveType (at 0 5 9) Boolean) (codes "y") ∷ [])) (list_of (trees.Requires (at 0 4 3) (trees.Truth (at 0 4 16) true) ∷ [])))
    (list_of (trees.Return (at 0 5 22) (variable (codes "v")) ∷ []))
    ∷ []))
    ∷ trees.Class (at 0 7 7) (codes "B") Nil Nil
    ∷ []) ∷ []

abbrev pub whole_class : Class
whole_class = record {
  name = codes "A";
  place = at 0 1 7;
  outer = None;
  extended = trees.NamedType (at 0 1 17) (codes "B");
  super = Some 1;
  fields = record { class = 0; name = codes "v"; place = at 0 2 7; is_static = false; is_final = false; type = int_type; initial = number 1 } ∷ [];
  methods = record {
    class = 0;
    name = codes "m";
    place = at 0 5 7;
    is_static = false;
    parameters = record { name = codes "y"; place = at 0 5 17; type = BooleanType } ∷ [];
    result = int_type;
    contracts = trees.Requires (at 0 4 3) (trees.Truth (at 0 4 16) true) ∷ [];
    body = trees.Return (at 0 5 22) (variable (codes "v")) ∷ [];
  } ∷ [];
  constructors = record {
    place = at 0 3 3;
    parameters = record { name = codes "x"; place = at 0 3 9; type = int_type } ∷ [];
    call = trees.ConstructorCall (at 0 3 14) (list_of (variable (codes "x") ∷ []));
    body = trees.Empty (at 0 3 24) ∷ [];
  } ∷ [];
}

-- class A { A A; int v; int m() { return A.v; } }
abbrev pub field_of_class_name : List Tree
field_of_class_name = list_of (trees.Class (at 0 9 9) (codes "A") Nil (list_of (
    declared (trees.NamedType (at 0 9 9) (codes "A")) (codes "A")
    ∷ declared int (codes "v")
    ∷ trees.Method (at 0 9 9) false (codes "m") (trees.Signature (at 0 9 9) int Nil Nil) (list_of (trees.Return (at 0 9 9) (field (variable (codes "A")) (codes "v")) ∷ []))
    ∷ [])) ∷ []) ∷ []

-- class A { static final int B = 1; static final int K = B.L; } class B { static final int L = 2; }
abbrev pub constant_of_class_name : List Tree
constant_of_class_name = list_of (
    trees.Class (at 0 1 1) (codes "A") Nil (list_of (
    trees.Field (at 0 2 1) true true int (list_of (trees.Declarator (at 0 2 2) (codes "B") (number 1) ∷ []))
    ∷ trees.Field (at 0 3 1) true true int (list_of (trees.Declarator (at 0 3 2) (codes "K") (field (variable (codes "B")) (codes "L")) ∷ []))
    ∷ []))
    ∷ trees.Class (at 0 4 1) (codes "B") Nil (list_of (trees.Field (at 0 5 1) true true int (list_of (trees.Declarator (at 0 5 2) (codes "L") (number 2) ∷ [])) ∷ []))
    ∷ []) ∷ []

-- class A { int m() { return 1; } static class N { int k() { return m(); } } }
abbrev pub method_of_outer : List Tree
method_of_outer = list_of (trees.Class (at 0 1 1) (codes "A") Nil (list_of (
    trees.Method (at 0 1 2) false (codes "m") (trees.Signature (at 0 1 2) int Nil Nil) (list_of (trees.Return (at 0 1 3) (number 1) ∷ []))
    ∷ trees.Class (at 0 2 1) (codes "N") Nil (list_of (
    trees.Method (at 0 2 2) false (codes "k") (trees.Signature (at 0 2 2) int Nil Nil) (list_of (trees.Return (at 0 2 3) (trees.Call (at 0 2 4) (codes "m") Nil) ∷ []))
    ∷ []))
    ∷ [])) ∷ []) ∷ []

-- class A { static class B { } } class C { static final int K = 1; static class D { int m() { return K; } } }
abbrev pub nested_in_second : List Tree
nested_in_second = list_of (
    trees.Class (at 0 1 1) (codes "A") Nil (list_of (trees.Class (at 0 1 2) (codes "B") Nil Nil ∷ []))
    ∷ trees.Class (at 0 2 1) (codes "C") Nil (list_of (
    trees.Field (at 0 2 2) true true int (list_of (trees.Declarator (at 0 2 3) (codes "K") (number 1) ∷ []))
    ∷ trees.Class (at 0 3 1) (codes "D") Nil (list_of (
    trees.Method (at 0 3 2) false (codes "m") (trees.Signature (at 0 3 2) int Nil Nil) (list_of (trees.Return (at 0 3 3) (variable (codes "K")) ∷ []))
    ∷ []))
    ∷ []))
    ∷ []) ∷ []

-- `n` classes, each on a line of its own, from a line on
abbrev pub classes_on : ℕ → ℕ → List Tree
classes_on line zero = []
classes_on line (suc n) = trees.Class (at 0 line 7) (line ∷ []) Nil Nil ∷ classes_on (line + 1) n

-- a method without parameters, result and statements
abbrev pub bare : ℕ → List ℕ → Tree
bare line n = trees.Method (at 0 line 1) false n (trees.Signature (at 0 line 1) (trees.PrimitiveType (at 0 line 1) Void) Nil Nil) Nil

-- the methods that every object has, and one more
abbrev pub kept_methods : List Tree
kept_methods = list_of (trees.Class (at 0 9 9) (codes "A") Nil (list_of (
    bare 1 (codes "equals") ∷ bare 2 (codes "hashCode") ∷ bare 3 (codes "toString") ∷ bare 4 (codes "clone") ∷ bare 5 (codes "finalize") ∷ bare 6 (codes "getClass") ∷ bare 7 (codes "equal")
    ∷ [])) ∷ []) ∷ []

-- HashSet<int[]>[] a; LinkedList<boolean[]>[] b;
abbrev pub arrays_of_collections : List Tree
arrays_of_collections = list_of (trees.Class (at 0 9 9) (codes "E") Nil (list_of (
    declared (array_of (trees.GenericType (at 0 9 9) (trees.NamedType (at 0 9 9) (codes "HashSet")) (array_of int))) (codes "a")
    ∷ declared (array_of (trees.GenericType (at 0 9 9) (trees.NamedType (at 0 9 9) (codes "LinkedList")) (array_of (trees.PrimitiveType (at 0 9 9) Boolean)))) (codes "b")
    ∷ [])) ∷ []) ∷ []

pub record Meanings : Type 0 where
  pub well_typed : IsWellTyped family
  -- classes
  pub nearest_first : ancestors table 3 ≡ 2 ∷ 0 ∷ []
  pub inherited_first : map (λ f. f.name) (fields_of table 3) ≡ codes "v" ∷ codes "w" ∷ codes "u" ∷ codes "z" ∷ []
  pub declared_by : map (λ f. f.class) (fields_of table 3) ≡ 0 ∷ 2 ∷ 2 ∷ 3 ∷ []
  pub overridden : option_map (λ m. m.class) (method_named table 3 (codes "m")) ≡ Some 2
  pub inherited : option_map (λ m. m.class) (method_named table 3 (codes "t")) ≡ Some 0
  pub constructor : map (λ p. p.type) (constructor_parameters table 3) ≡ int_type ∷ []
  -- constants
  pub values : map (λ k. k.value) (values_of table) ≡ Whole (pos 1) ∷ Whole (pos 3) ∷ Truth true ∷ []
  -- names
  pub older_local : meant scope (codes "x") ≡ LocalName 0 int_type
  pub newer_local : meant scope (codes "b") ≡ LocalName 1 BooleanType
  pub inherited_field : meant scope (codes "w") ≡ meant_by [] (field_named table 2 (codes "w")) []
  pub outer_constant : meant nested (codes "K") ≡ meant_by [] (field_named table 0 (codes "K")) []
  pub outer_field : meant nested (codes "v") ≡ NoName
  pub class_name : class_before scope (variable (codes "N")) ≡ Some 1
  pub no_class_name : class_before scope (variable (codes "x")) ≡ None
  pub outer_method : option_map (λ m. m.class) (method_meant nested (codes "t")) ≡ Some 0
  pub own_method : option_map (λ m. m.class) (method_meant nested (codes "m")) ≡ Some 1
  -- types
  pub of_local : type_of scope (variable (codes "x")) ≡ Some int_type
  pub of_field : type_of scope (variable (codes "w")) ≡ Some (ClassType 0)
  pub of_path : type_of scope (field (field (variable (codes "w")) (codes "w")) (codes "w")) ≡ None
  pub of_constant : type_of scope (field (variable (codes "C")) (codes "D")) ≡ Some BooleanType
  pub of_operation : type_of scope (trees.Binary (at 0 9 9) Less (variable (codes "x")) (trees.Number (at 0 9 9) 1)) ≡ Some BooleanType
  pub of_broken : type_of scope (trees.Binary (at 0 9 9) Add (variable (codes "x")) (variable (codes "b"))) ≡ None
  pub of_choice : type_of scope (trees.Conditional (at 0 9 9) (variable (codes "b")) (trees.This (at 0 9 9)) (variable (codes "w"))) ≡ Some (ClassType 0)
  pub of_null : type_of scope (trees.Null (at 0 9 9)) ≡ Some NullType
  pub of_value : type_of (under_minus scope) (trees.Number (at 0 9 9) 2147483648) ≡ None
  -- assignability
  pub down : is_assignable table (ClassType 0) (ClassType 3) ≡ false
  pub up : is_assignable table (ClassType 3) (ClassType 0) ≡ true
  pub arrays : is_assignable table (ArrayType (ClassType 3)) (ArrayType (ClassType 0)) ≡ false
  pub inferred : are_related table (SetType (ClassType 0)) (SetType InferredType) ≡ true
  pub null : is_assignable table NullType (ArrayType int_type) ≡ true
  pub null_to_int : is_assignable table NullType int_type ≡ false
  -- array types, numbered in their order
  pub numbered : array_types_of with_arrays ≡ ArrayType int_type ∷ ArrayType (ArrayType int_type) ∷ ArrayType BooleanType ∷ ArrayType (ClassType 0) ∷ ArrayType (ClassType 1) ∷ []
  pub number_of_type : array_number (array_types_of with_arrays) (ArrayType (ClassType 0)) ≡ Some 3
  pub unnamed : array_number (array_types_of with_arrays) (ArrayType (ClassType 2)) ≡ None
  pub elements_first : array_types_of arrays_of_collections ≡ ArrayType int_type ∷ ArrayType (SetType (ArrayType int_type)) ∷ ArrayType BooleanType ∷ ArrayType (ListType (ArrayType BooleanType)) ∷ []
  -- nodes, and a whole class
  pub parts_in_order : flat_map numbers_in (nodes every_kind) ≡ 0 ∷ 1 ∷ 2 ∷ 3 ∷ 4 ∷ 5 ∷ 6 ∷ 7 ∷ 8 ∷ 9 ∷ 10 ∷ 11 ∷ 12 ∷ 13 ∷ 14 ∷ 15 ∷ 16 ∷ 17 ∷ 18 ∷ 19 ∷ 20 ∷ 21 ∷ 22 ∷ 23 ∷ 24 ∷ 25 ∷ 26 ∷ 27 ∷ 28 ∷ 29 ∷ 30 ∷ 31 ∷ 32 ∷ 33 ∷ 34 ∷ 35 ∷ 36 ∷ 37 ∷ 38 ∷ 39 ∷ 40 ∷ 41 ∷ 42 ∷ 43 ∷ 44 ∷ 45 ∷ 46 ∷ 47 ∷ 48 ∷ 49 ∷ 50 ∷ 51 ∷ 52 ∷ 53 ∷ 54 ∷ 55 ∷ 56 ∷ 57 ∷ 58 ∷ 59 ∷ 60 ∷ 61 ∷ 62 ∷ 63 ∷ 64 ∷ 65 ∷ []
  pub all_nodes : length (nodes every_kind) ≡ 115
  pub own_first : map numbers_in (take 2 (nodes (trees.Return (at 0 9 9) (number 7)))) ≡ [] ∷ (7 ∷ []) ∷ []
  pub class_read : class_at (table_of whole).classes 0 ≡ Some whole_class
  -- a field or constant comes before the class of its name
  pub field_first : refusal field_of_class_name ≡ None
  pub constant_first : map (λ k. k.value) (values_of (table_of constant_of_class_name)) ≡ Whole (pos 1) ∷ Whole (pos 2) ∷ []
  -- only static methods of the outer class
  pub no_outer_method : refusal method_of_outer ≡ Some (type_rule_at 24 0 2 4)
  pub outer_numbers : map (λ d. d.outer) (table_of nested_in_second).classes ≡ None ∷ Some 0 ∷ None ∷ Some 2 ∷ []
  pub second_outer : refusal nested_in_second ≡ None
  -- 64 classes beside the predefined ones are taken, and no more
  pub most_classes : refusal (with_predefined (list_of (classes_on 1 64) ∷ [])) ≡ None
  pub too_many_classes : refusal (with_predefined (list_of (classes_on 1 66) ∷ [])) ≡ Some (class_rule_at 8 0 65 7)
  -- names that are kept
  pub object_methods : map (λ f. f.place.line) (flat_map (C6 (table_of kept_methods) 0) (table_of kept_methods).classes) ≡ 1 ∷ 2 ∷ 3 ∷ 4 ∷ 5 ∷ 6 ∷ []
  pub collection_name : refusal (list_of (trees.Class (at 0 1 7) (codes "LinkedList") Nil Nil ∷ []) ∷ []) ≡ Some (class_rule_at 1 0 1 7)
