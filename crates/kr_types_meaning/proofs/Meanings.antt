-- The meaning of the family of classes, as the checker computes it.
use Rattle.std.proofs.Common.{◌≡◌, refl}
use Rattle.std.specs.Prelude.{[], ◌∷◌, map, flat_map, length, take, true, false, pos, Some, None, option_map, codes}
use Rattle.kr_ast.specs.declared.node.BinaryOperator.TheVariants.{Add, Less}
use Rattle.kr_ast.specs.Tree as trees
use Rattle.kr_ast.specs.Tree.{Nil}
use Rattle.kr_classes_table.specs.Types.{int_type, BooleanType, NullType, ClassType, SetType, ListType, ArrayType, InferredType}
use Rattle.kr_classes_table.specs.Predefined.{predefined, with_predefined}
use Rattle.kr_classes_table.specs.Table.{table_of, class_at, ancestors, fields_of, field_named, method_named, constructor_parameters, is_assignable, are_related}
use Rattle.kr_classes_table.specs.Nodes.{nodes}
use Rattle.kr_classes_table.specs.Arrays.{array_types_of, array_number}
use Rattle.kr_classes_table.specs.Rules.{C6, class_fault}
use Rattle.kr_value.specs.declared.value.Value.TheVariants.{Int as Whole, Bool as Truth}
use Rattle.kr_classes_table.specs.Constants.{is_constant, evaluated, constant_width, values_of}
use Rattle.kr_types_meaning.specs.Scopes.{under_minus, LocalName, NoName, meant, meant_by, class_before, method_meant}
use Rattle.kr_types_meaning.specs.Typing.{judged, type_of, type_fault, refusal, IsWellTyped}
use Rattle.kr_types_meaning.specs.Texts.{at, list_of, class_rule_at, type_rule_at}
use Rattle.kr_types_meaning.specs.Examples.{family}
use Rattle.kr_types_meaning.specs.Meanings.{table, scope, nested, variable, field, number, with_arrays, arrays_of_collections, every_kind, numbers_in, whole, whole_class, field_of_class_name, constant_of_class_name, method_of_outer, nested_in_second, classes_on, kept_methods, Meanings}

well_typed : IsWellTyped family
unfolding table_of is_constant evaluated constant_width values_of judged
well_typed = refl

nearest_first : ancestors table 3 ≡ 2 ∷ 0 ∷ []
unfolding table_of is_constant evaluated constant_width values_of judged
nearest_first = refl

inherited_first : map (λ f. f.name) (fields_of table 3) ≡ codes "v" ∷ codes "w" ∷ codes "u" ∷ codes "z" ∷ []
unfolding table_of is_constant evaluated constant_width values_of judged
inherited_first = refl

declared_by : map (λ f. f.class) (fields_of table 3) ≡ 0 ∷ 2 ∷ 2 ∷ 3 ∷ []
unfolding table_of is_constant evaluated constant_width values_of judged
declared_by = refl

overridden : option_map (λ m. m.class) (method_named table 3 (codes "m")) ≡ Some 2
unfolding table_of is_constant evaluated constant_width values_of judged
overridden = refl

inherited : option_map (λ m. m.class) (method_named table 3 (codes "t")) ≡ Some 0
unfolding table_of is_constant evaluated constant_width values_of judged
inherited = refl

constructor : map (λ p. p.type) (constructor_parameters table 3) ≡ int_type ∷ []
unfolding table_of is_constant evaluated constant_width values_of judged
constructor = refl

values : map (λ k. k.value) (values_of table) ≡ Whole (pos 1) ∷ Whole (pos 3) ∷ Truth true ∷ []
unfolding table_of is_constant evaluated constant_width values_of judged
values = refl

older_local : meant scope (codes "x") ≡ LocalName 0 int_type
unfolding table_of is_constant evaluated constant_width values_of judged
older_local = refl

newer_local : meant scope (codes "b") ≡ LocalName 1 BooleanType
unfolding table_of is_constant evaluated constant_width values_of judged
newer_local = refl

inherited_field : meant scope (codes "w") ≡ meant_by [] (field_named table 2 (codes "w")) []
unfolding table_of is_constant evaluated constant_width values_of judged
inherited_field = refl

outer_constant : meant nested (codes "K") ≡ meant_by [] (field_named table 0 (codes "K")) []
unfolding table_of is_constant evaluated constant_width values_of judged
outer_constant = refl

outer_field : meant nested (codes "v") ≡ NoName
unfolding table_of is_constant evaluated constant_width values_of judged
outer_field = refl

class_name : class_before scope (variable (codes "N")) ≡ Some 1
unfolding table_of is_constant evaluated constant_width values_of judged
class_name = refl

no_class_name : class_before scope (variable (codes "x")) ≡ None
unfolding table_of is_constant evaluated constant_width values_of judged
no_class_name = refl

outer_method : option_map (λ m. m.class) (method_meant nested (codes "t")) ≡ Some 0
unfolding table_of is_constant evaluated constant_width values_of judged
outer_method = refl

own_method : option_map (λ m. m.class) (method_meant nested (codes "m")) ≡ Some 1
unfolding table_of is_constant evaluated constant_width values_of judged
own_method = refl

of_local : type_of scope (variable (codes "x")) ≡ Some int_type
unfolding table_of is_constant evaluated constant_width values_of judged
of_local = refl

of_field : type_of scope (variable (codes "w")) ≡ Some (ClassType 0)
unfolding table_of is_constant evaluated constant_width values_of judged
of_field = refl

of_path : type_of scope (field (field (variable (codes "w")) (codes "w")) (codes "w")) ≡ None
unfolding table_of is_constant evaluated constant_width values_of judged
of_path = refl

of_constant : type_of scope (field (variable (codes "C")) (codes "D")) ≡ Some BooleanType
unfolding table_of is_constant evaluated constant_width values_of judged
of_constant = refl

of_operation : type_of scope (trees.Binary (at 0 9 9) Less (variable (codes "x")) (trees.Number (at 0 9 9) 1)) ≡ Some BooleanType
unfolding table_of is_constant evaluated constant_width values_of judged
of_operation = refl

of_broken : type_of scope (trees.Binary (at 0 9 9) Add (variable (codes "x")) (variable (codes "b"))) ≡ None
unfolding table_of is_constant evaluated constant_width values_of judged
of_broken = refl

of_choice : type_of scope (trees.Conditional (at 0 9 9) (variable (codes "b")) (trees.This (at 0 9 9)) (variable (codes "w"))) ≡ Some (ClassType 0)
unfolding table_of is_constant evaluated constant_width values_of judged
of_choice = refl

of_null : type_of scope (trees.Null (at 0 9 9)) ≡ Some NullType
unfolding table_of is_constant evaluated constant_width values_of judged
of_null = refl

down : is_assignable table (ClassType 0) (ClassType 3) ≡ false
unfolding table_of is_constant evaluated constant_width values_of judged
down = refl

up : is_assignable table (ClassType 3) (ClassType 0) ≡ true
unfolding table_of is_constant evaluated constant_width values_of judged
up = refl

arrays : is_assignable table (ArrayType (ClassType 3)) (ArrayType (ClassType 0)) ≡ false
unfolding table_of is_constant evaluated constant_width values_of judged
arrays = refl

inferred : are_related table (SetType (ClassType 0)) (SetType InferredType) ≡ true
unfolding table_of is_constant evaluated constant_width values_of judged
inferred = refl

null : is_assignable table NullType (ArrayType int_type) ≡ true
unfolding table_of is_constant evaluated constant_width values_of judged
null = refl

null_to_int : is_assignable table NullType int_type ≡ false
unfolding table_of is_constant evaluated constant_width values_of judged
null_to_int = refl

of_value : type_of (under_minus scope) (trees.Number (at 0 9 9) 2147483648) ≡ None
unfolding table_of is_constant evaluated constant_width values_of judged
of_value = refl

numbered : array_types_of with_arrays ≡ ArrayType int_type ∷ ArrayType (ArrayType int_type) ∷ ArrayType BooleanType ∷ ArrayType (ClassType 0) ∷ ArrayType (ClassType 1) ∷ []
numbered = refl

number_of_type : array_number (array_types_of with_arrays) (ArrayType (ClassType 0)) ≡ Some 3
number_of_type = refl

unnamed : array_number (array_types_of with_arrays) (ArrayType (ClassType 2)) ≡ None
unnamed = refl

elements_first : array_types_of arrays_of_collections ≡ ArrayType int_type ∷ ArrayType (SetType (ArrayType int_type)) ∷ ArrayType BooleanType ∷ ArrayType (ListType (ArrayType BooleanType)) ∷ []
elements_first = refl

parts_in_order : flat_map numbers_in (nodes every_kind) ≡ 0 ∷ 1 ∷ 2 ∷ 3 ∷ 4 ∷ 5 ∷ 6 ∷ 7 ∷ 8 ∷ 9 ∷ 10 ∷ 11 ∷ 12 ∷ 13 ∷ 14 ∷ 15 ∷ 16 ∷ 17 ∷ 18 ∷ 19 ∷ 20 ∷ 21 ∷ 22 ∷ 23 ∷ 24 ∷ 25 ∷ 26 ∷ 27 ∷ 28 ∷ 29 ∷ 30 ∷ 31 ∷ 32 ∷ 33 ∷ 34 ∷ 35 ∷ 36 ∷ 37 ∷ 38 ∷ 39 ∷ 40 ∷ 41 ∷ 42 ∷ 43 ∷ 44 ∷ 45 ∷ 46 ∷ 47 ∷ 48 ∷ 49 ∷ 50 ∷ 51 ∷ 52 ∷ 53 ∷ 54 ∷ 55 ∷ 56 ∷ 57 ∷ 58 ∷ 59 ∷ 60 ∷ 61 ∷ 62 ∷ 63 ∷ 64 ∷ 65 ∷ []
parts_in_order = refl

all_nodes : length (nodes every_kind) ≡ 115
all_nodes = refl

own_first : map numbers_in (take 2 (nodes (trees.Return (at 0 9 9) (number 7)))) ≡ [] ∷ (7 ∷ []) ∷ []
own_first = refl

class_read : class_at (table_of whole).classes 0 ≡ Some whole_class
unfolding table_of
class_read = refl

field_first : refusal field_of_class_name ≡ None
unfolding table_of class_fault is_constant evaluated constant_width values_of judged type_fault
field_first = refl

constant_first : map (λ k. k.value) (values_of (table_of constant_of_class_name)) ≡ Whole (pos 1) ∷ Whole (pos 2) ∷ []
unfolding table_of is_constant evaluated constant_width values_of
constant_first = refl

no_outer_method : refusal method_of_outer ≡ Some (type_rule_at 24 0 2 4)
unfolding table_of class_fault is_constant evaluated constant_width values_of judged type_fault
no_outer_method = refl

outer_numbers : map (λ d. d.outer) (table_of nested_in_second).classes ≡ None ∷ Some 0 ∷ None ∷ Some 2 ∷ []
unfolding table_of
outer_numbers = refl

second_outer : refusal nested_in_second ≡ None
unfolding table_of class_fault is_constant evaluated constant_width values_of judged type_fault
second_outer = refl

most_classes : refusal (with_predefined (list_of (classes_on 1 64) ∷ [])) ≡ None
unfolding predefined table_of class_fault is_constant evaluated constant_width values_of judged type_fault
most_classes = refl

too_many_classes : refusal (with_predefined (list_of (classes_on 1 66) ∷ [])) ≡ Some (class_rule_at 8 0 65 7)
unfolding predefined table_of class_fault is_constant evaluated constant_width values_of judged type_fault
too_many_classes = refl

object_methods : map (λ f. f.place.line) (flat_map (C6 (table_of kept_methods) 0) (table_of kept_methods).classes) ≡ 1 ∷ 2 ∷ 3 ∷ 4 ∷ 5 ∷ 6 ∷ []
unfolding table_of
object_methods = refl

collection_name : refusal (list_of (trees.Class (at 0 1 7) (codes "LinkedList") Nil Nil ∷ []) ∷ []) ≡ Some (class_rule_at 1 0 1 7)
unfolding table_of class_fault is_constant evaluated constant_width values_of judged type_fault
collection_name = refl

pub meanings : Meanings
meanings = record {
  well_typed = well_typed;
  nearest_first = nearest_first;
  inherited_first = inherited_first;
  declared_by = declared_by;
  overridden = overridden;
  inherited = inherited;
  constructor = constructor;
  values = values;
  older_local = older_local;
  newer_local = newer_local;
  inherited_field = inherited_field;
  outer_constant = outer_constant;
  outer_field = outer_field;
  class_name = class_name;
  no_class_name = no_class_name;
  outer_method = outer_method;
  own_method = own_method;
  of_local = of_local;
  of_field = of_field;
  of_path = of_path;
  of_constant = of_constant;
  of_operation = of_operation;
  of_broken = of_broken;
  of_choice = of_choice;
  of_null = of_null;
  of_value = of_value;
  down = down;
  up = up;
  arrays = arrays;
  inferred = inferred;
  null = null;
  null_to_int = null_to_int;
  numbered = numbered;
  number_of_type = number_of_type;
  elements_first = elements_first;
  parts_in_order = parts_in_order;
  all_nodes = all_nodes;
  own_first = own_first;
  class_read = class_read;
  field_first = field_first;
  constant_first = constant_first;
  no_outer_method = no_outer_method;
  outer_numbers = outer_numbers;
  second_outer = second_outer;
  most_classes = most_classes;
  too_many_classes = too_many_classes;
  object_methods = object_methods;
  collection_name = collection_name;
  unnamed = unnamed;
}
