-- Between crates: the types that variables, expressions and methods have.
use Rattle.std.specs.Prelude.{◌≡◌, ℕ, Bool, true, false, ◌&&◌, ◌||◌, Some, List, [], ◌∷◌}
use Rattle.kr_classes_table.specs.Types.{JavaType, NumberType, BooleanType, NullType, ClassType, ArrayType, SetType, ListType, InferredType, is_element, is_void}
use Rattle.kr_classes_table.specs.Table.{Table, Field, Method, field_named, method_named}
use Rattle.kr_types_meaning.specs.Scopes.{Local}

-- a type that a variable may have: an int, a boolean, a class, arrays of these, a collection of objects or arrays
abbrev pub is_variable_type : JavaType → Bool
is_variable_type (NumberType w) = true
is_variable_type BooleanType = true
is_variable_type (ClassType c) = true
is_variable_type (ArrayType t) = is_variable_type t
is_variable_type (SetType t) = is_element t && is_variable_type t
is_variable_type (ListType t) = is_element t && is_variable_type t
is_variable_type t = false

-- the result of a method: a value of such a type, or none
abbrev pub is_result_type : JavaType → Bool
is_result_type t = is_void t || is_variable_type t

-- the types of an expression that gives a value: null's type too, and that of `new HashSet<>()`, whose members' type is open
abbrev pub is_inferred : JavaType → Bool
is_inferred InferredType = true
is_inferred t = false

abbrev pub is_value_type : JavaType → Bool
is_value_type NullType = true
is_value_type (SetType t) = is_inferred t || (is_element t && is_variable_type t)
is_value_type (ListType t) = is_inferred t || (is_element t && is_variable_type t)
is_value_type t = is_variable_type t

-- only a call that is a statement gives none
abbrev pub is_expression_type : Bool → JavaType → Bool
is_expression_type true t = is_void t || is_value_type t
is_expression_type false t = is_value_type t

abbrev pub AreVariables : List Local → Type 0
AreVariables [] = Unit {0}
AreVariables (l ∷ ls) = (is_variable_type l.type ≡ true) × AreVariables ls

-- fields are of types of variables, methods of types of results
pub record HasVariables (table : Table) : Type 0 where
  pub fields : (c : ℕ) (n : List ℕ) (f : Field) → field_named table c n ≡ Some f → is_variable_type f.type ≡ true
  pub results : (c : ℕ) (n : List ℕ) (m : Method) → method_named table c n ≡ Some m → is_result_type m.result ≡ true
