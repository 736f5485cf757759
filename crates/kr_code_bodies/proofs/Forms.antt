-- Which classes and arrays are instances of a type, by its form.
use Rattle.std.proofs.Common.{◌≡◌, refl, sym, ap, ◌∙◌, subst, ℕ, ◌<◌, ◌≤◌, ◌==◌, Bool, false, List, length, get_or, arith, ◌⊎◌, inl, inr, Option, Some, None}
use Rattle.std.proofs.lemmas.List.{get_or_past}
use Rattle.std.proofs.lemmas.Bool.Decides.{nat_tests}
use Rattle.kr_ast.specs.Arena.{Arena}
use Rattle.kr_value.specs.declared.object.Class.TheVariants.{Array}
use Rattle.kr_classes_table.specs.Types.{JavaType, NumberType, BooleanType, NullType, VoidType, ClassType, ArrayType, SetType, ListType, InferredType, UnknownType, AppliedType, is_same}
use Rattle.kr_classes_table.specs.Table.{is_below}
use Rattle.kr_classes_members.specs.Shown.{table_in}
use Rattle.kr_classes_names.specs.declared.form.TypeForm.{TypeForm}
use Rattle.kr_classes_names.specs.declared.form.TypeForm.TheVariants as forms
use Rattle.kr_mean.specs.Program.{is_of_type}
use Rattle.kr_classes_names.specs.Types.{AreDistinct, TypeList, count, type_at, type_of_form, types_of}
use Rattle.kr_classes_names.proofs.Made.{types_count}
use Rattle.kr_code.specs.Tables.{is_numbered}
use Rattle.kr_code_bodies.specs.Rows.{IsRow}
use Rattle.kr_code_bodies.specs.Tabled.{IsArrayInstance, IsInstance, are_of, program_in}

-- no type after the last has instances
pub type_past : (l : TypeList) (k : ℕ) → count l ≤ k → type_at l k ≡ VoidType
type_past l k h = get_or_past (types_of l) k VoidType (omega (arith, h, types_count l.names l.forms))

module _ (files : List Arena) (arrays : List JavaType) (t : JavaType) where
  pub class_row : (d : ℕ) (row : List Bool) → t ≡ ClassType d → IsRow false (λ c b. b ≡ is_below (table_in files) c d) row → IsRow false (IsInstance files arrays t) row
  class_row d row e h c = subst (λ (u : JavaType). IsInstance files arrays u c (get_or row c false)) (sym e) (h c)

  pub array_column : (k : ℕ) → get_or arrays k VoidType ≡ t → (u : JavaType) → are_of t u ≡ is_of_type (program_in files arrays) u (Array k)
  array_column k e (ArrayType u) = sym (ap (λ s. is_same s (ArrayType u)) e)
  array_column k e _ = refl

  pub past_column : (k : ℕ) → length arrays ≤ k → (u : JavaType) → IsArrayInstance files arrays u k false
  past_column k l (ArrayType u) = sym (ap (λ s. is_same s (ArrayType u)) (get_or_past arrays k VoidType l))
  past_column k l _ = refl

  -- objects are of no other types
  other_row : (l : TypeList) (f : TypeForm) → ((d : ℕ) → f ≡ forms.Class d → ⊥) → (c : ℕ) → IsInstance files arrays (type_of_form l f) c false
  other_row l (forms.Class d) other c = absurd (other d refl)
  other_row l _ other c = refl

  pub no_class_row : (l : TypeList) (f : TypeForm) → t ≡ type_of_form l f → ((d : ℕ) → f ≡ forms.Class d → ⊥) → (c : ℕ) → IsInstance files arrays t c false
  no_class_row l f e other c = subst (λ (u : JavaType). IsInstance files arrays u c false) (sym e) (other_row l f other c)

  pub void_row : t ≡ VoidType → (c : ℕ) → IsInstance files arrays t c false
  void_row e c = subst (λ (u : JavaType). IsInstance files arrays u c false) (sym e) refl

-- ---- arrays

same_array : (a u : JavaType) → a ≡ ArrayType u → (t : JavaType) → is_same a t ≡ are_of a t
same_array a u e (ArrayType t) = refl
same_array a u e (NumberType w) = ap (λ s. is_same s (NumberType w)) e
same_array a u e BooleanType = ap (λ s. is_same s BooleanType) e
same_array a u e NullType = ap (λ s. is_same s NullType) e
same_array a u e VoidType = ap (λ s. is_same s VoidType) e
same_array a u e InferredType = ap (λ s. is_same s InferredType) e
same_array a u e (ClassType c) = ap (λ s. is_same s (ClassType c)) e
same_array a u e (SetType t) = ap (λ s. is_same s (SetType t)) e
same_array a u e (ListType t) = ap (λ s. is_same s (ListType t)) e
same_array a u e (UnknownType o n) = ap (λ s. is_same s (UnknownType o n)) e
same_array a u e (AppliedType h t) = ap (λ s. is_same s (AppliedType h t)) e

other_number : (n t : ℕ) → n < t → (n == t) ≡ false
other_number n t l = grind (arith, nat_tests)

-- arrays of an array type are of it alone
pub array_numbered : (l : TypeList) (n : ℕ) (u : JavaType) → AreDistinct l → n < count l → type_at l n ≡ ArrayType u → (t : ℕ) → is_numbered t (Some n) ≡ are_of (type_at l n) (type_at l t)
array_numbered l n u distinct within is t = elim (let d : (t < count l) ⊎ (count l ≤ t) = grind arith in d) [
  | inl lt ↦ sym (distinct n t within lt) ∙ same_array (type_at l n) u is (type_at l t)
  | inr le ↦ other_number n t (omega (arith, le, within)) ∙ sym (ap (are_of (type_at l n)) (type_past l t le))
]

-- there are no arrays of other types
no_arrays : (l : TypeList) (f : TypeForm) → ((d : ℕ) → f ≡ forms.Array d → ⊥) → (t : JavaType) → false ≡ are_of (type_of_form l f) t
no_arrays l (forms.Array d) other t = absurd (other d refl)
no_arrays l _ other (ArrayType u) = refl
no_arrays l _ other _ = refl

pub not_numbered : (l : TypeList) (n : ℕ) (f : TypeForm) → type_at l n ≡ type_of_form l f → ((d : ℕ) → f ≡ forms.Array d → ⊥) → (t : ℕ) → is_numbered t None ≡ are_of (type_at l n) (type_at l t)
not_numbered l n f is other t = no_arrays l f other (type_at l t) ∙ sym (ap (λ a. are_of a (type_at l t)) is)
