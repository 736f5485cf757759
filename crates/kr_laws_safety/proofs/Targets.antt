-- Types to which others are assignable, and the values of these.
use Rattle.std.proofs.Common.{◌≡◌, ℕ, Bool, true, false, List, [], ◌∷◌, refl, sym, ap, subst, arith}
use Rattle.std.specs.Prelude.{ℤ, pos, negsuc, not, map}
use Rattle.kr_value.specs.declared.value.Value.{Value}
use Rattle.kr_value.specs.declared.value.Value.TheVariants.{Int, Bool as Truth, Null, Ref as Reference}
use Rattle.kr_classes_table.specs.Numbers.{Width, Bits32, Bits64}
use Rattle.kr_classes_table.specs.Types.{JavaType, NumberType, BooleanType, NullType, VoidType, ClassType, ArrayType, SetType, ListType, InferredType, is_void, is_reference}
use Rattle.kr_classes_table.specs.Table.{Table, Field, is_below, is_assignable}
use Rattle.kr_mean.specs.Program.{default_of}
use Rattle.kr_laws_safety.specs.Fits.{IsWithin, IsOf, AreOf, type_at}
use Rattle.kr_laws_safety.proofs.Heaps.{same_type}
use Rattle.kr_laws_safety.proofs.Vectors.{type_same}
use Rattle.kr_laws_safety.proofs.Steps.{below_itself}
use Rattle.kr_laws_types.specs.Types.{is_variable_type, is_result_type, is_value_type}
use Rattle.kr_laws_safety.specs.Typed.{AreAllVariables}
use Rattle.kr_laws_safety.specs.Claims.{is_target}

-- ---- kinds

pub not_true : (a : Bool) → not a ≡ true → a ≡ false
not_true false e = refl
not_true true e = absurd (cc (e))

pub variable_target : (t : JavaType) → is_variable_type t ≡ true → is_target t ≡ true
variable_target (NumberType w) e = refl
variable_target BooleanType e = refl
variable_target (ClassType c) e = refl
variable_target (ArrayType t) e = e
variable_target (SetType t) e = e
variable_target (ListType t) e = e
variable_target _ e = absurd (cc (e))

pub variable_not_void : (t : JavaType) → is_variable_type t ≡ true → is_void t ≡ false
variable_not_void VoidType e = absurd (cc (e))
variable_not_void _ e = refl

pub result_target : (t : JavaType) → is_result_type t ≡ true → is_target t ≡ true
result_target NullType e = refl
result_target (NumberType w) e = refl
result_target BooleanType e = refl
result_target VoidType e = refl
result_target (ClassType c) e = refl
result_target (ArrayType t) e = e
result_target (SetType t) e = e
result_target (ListType t) e = e
result_target _ e = absurd (cc (e))

pub value_not_void : (t : JavaType) → is_value_type t ≡ true → is_void t ≡ false
value_not_void VoidType e = absurd (cc (e))
value_not_void _ e = refl

pub void_is : (t : JavaType) → is_void t ≡ true → t ≡ VoidType
void_is t e = same_type t VoidType e

-- the value that a variable begins with
pub default_is : (table : Table) (types : List JavaType) (t : JavaType) → is_variable_type t ≡ true → IsOf table types t (default_of t)
default_is table types (NumberType w) e = (w, refl, small w)
  where
    small : (w : Width) → IsWithin w (pos 0)
    small Bits32 = omega arith
    small Bits64 = omega arith
default_is table types BooleanType e = refl
default_is table types (ClassType c) e = refl
default_is table types (ArrayType t) e = refl
default_is table types (SetType t) e = refl
default_is table types (ListType t) e = refl
default_is table types _ e = absurd (cc (e))

pub defaults_are : (table : Table) (types : List JavaType) (fs : List Field) → AreAllVariables (map (λ f. f.type) fs) → AreOf table types (map (λ f. f.type) fs) (map (λ f. default_of f.type) fs)
defaults_are table types [] h = tt
defaults_are table types (f ∷ fs) h = (default_is table types f.type h.0, defaults_are table types fs h.1)

-- an int is a long
pub long_within : (z : ℤ) → IsWithin Bits32 z → IsWithin Bits64 z
long_within (pos n) h = omega (arith, h)
long_within (negsuc n) h = omega (arith, h)

-- ---- assignability

pub assignable_reference : (table : Table) (t u : JavaType) → is_reference t ≡ true → is_assignable table t u ≡ true → is_reference u ≡ true
assignable_reference table NullType u r e = e
assignable_reference table (ClassType c) (ClassType d) r e = refl
assignable_reference table (ClassType c) u r e = absurd (cc (e))
assignable_reference table (ArrayType t) u r e = ap is_reference (sym (same_type (ArrayType t) u e))
assignable_reference table (SetType InferredType) (SetType u) r e = refl
assignable_reference table (SetType t) u r e = ap is_reference (sym (same_type (SetType t) u e))
assignable_reference table (ListType InferredType) (ListType u) r e = refl
assignable_reference table (ListType t) u r e = ap is_reference (sym (same_type (ListType t) u e))
assignable_reference table _ u r e = absurd (cc (r))

pub assignable_itself : (table : Table) (t : JavaType) → is_target t ≡ true → is_assignable table t t ≡ true
assignable_itself table NullType e = refl
assignable_itself table (ClassType c) e = below_itself table c
assignable_itself table (NumberType Bits32) e = refl
assignable_itself table (NumberType Bits64) e = refl
assignable_itself table BooleanType e = refl
assignable_itself table VoidType e = refl
assignable_itself table (ArrayType t) e = type_same (ArrayType t)
assignable_itself table (SetType (ClassType c)) e = type_same (SetType (ClassType c))
assignable_itself table (SetType (ArrayType t)) e = type_same (SetType (ArrayType t))
assignable_itself table (SetType _) e = absurd (cc (e))
assignable_itself table (ListType (ClassType c)) e = type_same (ListType (ClassType c))
assignable_itself table (ListType (ArrayType t)) e = type_same (ListType (ArrayType t))
assignable_itself table (ListType _) e = absurd (cc (e))
assignable_itself table _ e = absurd (cc (e))

-- only what has no value is assignable to what has none
pub void_from : (table : Table) (t : JavaType) → is_assignable table t VoidType ≡ true → is_void t ≡ true
void_from table NullType e = absurd (cc (e))
void_from table (ClassType c) e = absurd (cc (e))
void_from table (SetType InferredType) e = absurd (cc (e))
void_from table (SetType t) e = absurd (cc (e))
void_from table (ListType InferredType) e = absurd (cc (e))
void_from table (ListType t) e = absurd (cc (e))
void_from table _ e = e

abbrev pub IsOnward : Table → Type 0
IsOnward table = (c d e : ℕ) → is_below table c d ≡ true → is_below table d e ≡ true → is_below table c e ≡ true

module _ (table : Table) (onward : IsOnward table) where
  pub assignable_through : (a b c : JavaType) → is_assignable table a b ≡ true → is_assignable table b c ≡ true → is_assignable table a c ≡ true
  assignable_through (NumberType Bits32) (NumberType Bits32) c e f = f
  assignable_through (NumberType Bits32) (NumberType Bits64) (NumberType Bits64) e f = refl
  assignable_through (NumberType Bits32) (NumberType Bits64) c e f = absurd (cc (f))
  assignable_through (NumberType Bits64) (NumberType Bits64) c e f = f
  assignable_through (NumberType w) b c e f = absurd (cc (e))
  assignable_through NullType b c e f = assignable_reference table b c e f
  assignable_through (ClassType x) (ClassType y) (ClassType z) e f = onward x y z e f
  assignable_through (ClassType x) (ClassType y) c e f = absurd (cc (f))
  assignable_through (ClassType x) b c e f = absurd (cc (e))
  assignable_through (SetType InferredType) (SetType InferredType) (SetType z) e f = refl
  assignable_through (SetType InferredType) (SetType InferredType) c e f = f
  assignable_through (SetType InferredType) (SetType y) c e f = subst (λ (k : JavaType). is_assignable table (SetType InferredType) k ≡ true) (same_type (SetType y) c f) refl
  assignable_through (SetType InferredType) b c e f = absurd (cc (e))
  assignable_through (SetType t) b c e f = subst (λ (k : JavaType). is_assignable table k c ≡ true) (sym (same_type (SetType t) b e)) f
  assignable_through (ListType InferredType) (ListType InferredType) (ListType z) e f = refl
  assignable_through (ListType InferredType) (ListType InferredType) c e f = f
  assignable_through (ListType InferredType) (ListType y) c e f = subst (λ (k : JavaType). is_assignable table (ListType InferredType) k ≡ true) (same_type (ListType y) c f) refl
  assignable_through (ListType InferredType) b c e f = absurd (cc (e))
  assignable_through (ListType t) b c e f = subst (λ (k : JavaType). is_assignable table k c ≡ true) (sym (same_type (ListType t) b e)) f
  assignable_through a b c e f = subst (λ (k : JavaType). is_assignable table k c ≡ true) (sym (same_type a b e)) f

  -- a number of a width is one of those that are wider
  number_widened : (types : List JavaType) (z : ℤ) (w : Width) (u : JavaType) → is_assignable table (NumberType w) u ≡ true → IsWithin w z → IsOf table types u (Int z)
  number_widened types z Bits32 (NumberType Bits32) e h = (Bits32, refl, h)
  number_widened types z Bits32 (NumberType Bits64) e h = (Bits64, refl, long_within z h)
  number_widened types z Bits64 (NumberType Bits64) e h = (Bits64, refl, h)
  number_widened types z w u e h = absurd (cc (e))

  -- a value of a type is one of those to which it may be assigned
  pub widened : (types : List JavaType) (t u : JavaType) (v : Value) → is_assignable table t u ≡ true → IsOf table types t v → IsOf table types u v
  widened types t u (Int z) e i = number_widened types z i.0 u (subst (λ (k : JavaType). is_assignable table k u ≡ true) i.1 e) i.2
  widened types t u (Truth b) e i = sym (same_type BooleanType u (subst (λ (k : JavaType). is_assignable table k u ≡ true) i e))
  widened types t u Null e i = assignable_reference table t u i e
  widened types t u (Reference o) e i = (i.0, assignable_through (type_at types o) t u i.1 e)

  -- a type that is assignable to a type of values has values
  pub void_kept : (t u : JavaType) → is_assignable table t u ≡ true → is_void u ≡ false → is_void t ≡ false
  void_kept VoidType u e f = absurd (cc (ap is_void (same_type VoidType u e), f))
  void_kept _ u e f = refl

-- ---- a type to use a value as, where none is required

pub record Used (table : Table) (t : JavaType) : Type 0 where
  pub type : JavaType
  pub target : is_target type ≡ true
  pub fits : is_assignable table t type ≡ true
  pub given : is_void type ≡ false
  pub reference : is_reference t ≡ true → is_reference type ≡ true

as_itself : (table : Table) (t : JavaType) → is_target t ≡ true → is_void t ≡ false → Used table t
as_itself table t e f = record { type = t; target = e; fits = assignable_itself table t e; given = f; reference = λ r. r }

pub used : (table : Table) (t : JavaType) → is_value_type t ≡ true → Used table t
used table NullType e = as_itself table NullType refl refl
used table (NumberType w) e = as_itself table (NumberType w) refl refl
used table BooleanType e = as_itself table BooleanType refl refl
used table (ClassType c) e = as_itself table (ClassType c) refl refl
used table (ArrayType t) e = as_itself table (ArrayType t) e refl
used table (SetType InferredType) e = record { type = SetType (ClassType 0); target = refl; fits = refl; given = refl; reference = λ r. refl }
used table (SetType (ClassType c)) e = as_itself table (SetType (ClassType c)) refl refl
used table (SetType (ArrayType t)) e = as_itself table (SetType (ArrayType t)) e refl
used table (SetType _) e = absurd (cc (e))
used table (ListType InferredType) e = record { type = ListType (ClassType 0); target = refl; fits = refl; given = refl; reference = λ r. refl }
used table (ListType (ClassType c)) e = as_itself table (ListType (ClassType c)) refl refl
used table (ListType (ArrayType t)) e = as_itself table (ListType (ArrayType t)) e refl
used table (ListType _) e = absurd (cc (e))
used table _ e = absurd (cc (e))
