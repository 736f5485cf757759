-- Each constant has a value of its type.
use Rattle.std.proofs.Common.{◌≡◌, refl, sym, ap, ◌∙◌, subst, inl, inr, ◌⊎◌, ℕ, ◌<◌, arith, Bool, true, false, ◌||◌, List, [], ◌∷◌, ◌++◌, Option, Some, None}
use Rattle.std.specs.Prelude.{ℤ, pos, ◌&&◌, not, fold, is_none, is_some, option_and_then, option_map, unwrap_or, if◌then◌else◌, Ok, Err}
use Rattle.std.proofs.lemmas.Bool.{and_parts, or_cases}
use Rattle.kr_base.specs.declared.place.Place.{Place}
use Rattle.kr_ast.specs.declared.node.UnaryOperator.{UnaryOperator}
use Rattle.kr_ast.specs.declared.node.UnaryOperator.TheVariants as unaries
use Rattle.kr_ast.specs.declared.node.BinaryOperator.{BinaryOperator}
use Rattle.kr_ast.specs.declared.node.BinaryOperator.TheVariants as operators
use Rattle.kr_ast.specs.declared.node.Primitive.TheVariants as primitives
use Rattle.kr_ast.specs.Tree as trees
use Rattle.kr_ast.specs.Tree.{Tree}
use Rattle.kr_value.specs.declared.value.Value.{Value}
use Rattle.kr_value.specs.declared.value.Value.TheVariants.{Int, Bool as Truth, Null, Ref as Reference}
use Rattle.kr_classes_table.specs.Types.{JavaType, NumberType, int_type, long_type, BooleanType, NullType, VoidType, ClassType, SetType, ListType, InferredType, is_reference, is_collection, width_in}
use Rattle.kr_classes_table.specs.Table.{Table, Field, field_named, number_of, is_assignable, are_related}
use Rattle.kr_classes_table.specs.Operators.{Applied, apply, of_wholes, of_booleans, of_references, operator_width}
use Rattle.kr_classes_table.specs.Constants.{Known, constant_in, value_in, unary_value, binary_value, cast_value, chosen, is_primitive, number_width, field_width, constant_width, constant_only, constant_of, class_meant, field_meant, is_at_place, value_at, known_value, is_constant, evaluated, known_as, with_constant}
use Rattle.kr_classes_table.specs.Numbers.{Width, Bits32, Bits64, wider, wrap, whole_of}
use Rattle.kr_types_meaning.specs.declared.operators.OperatorKind.{OperatorKind}
use Rattle.kr_types_meaning.specs.declared.operators.OperatorKind.TheVariants.{Arithmetic, Shift, Comparison, Equality, Bitwise, Logical}
use Rattle.kr_types_meaning.specs.Scopes.{Scope, Meant, FieldName, value, meant, meant_by, field_or_none, class_before}
use Rattle.kr_types_meaning.specs.Rules as rules
use Rattle.kr_types_meaning.specs.Promotion.{promoted, promoted_alone, is_number, are_numbers}
use Rattle.kr_types_meaning.specs.Rules.{Typed, Judgement, Fits, Breaks, ask, gives, both_boolean, related_references, name_rule, unary_rule, operator_rule, choice_rule, cast_rule, constant_rule, of_promoted, shift_rule, bit_rule, kind_of, kind_rule}
use Rattle.kr_types_meaning.specs.Typing.{Judged, judge, on_one, on_two, field_of, operand, judged, type_in}
use Rattle.kr_mean.specs.Operators.{said, operated, binary_operation}
use Rattle.kr_laws_safety.specs.Fits.{IsOf}
use Rattle.kr_laws_safety.specs.Steps.{is_junction}
use Rattle.kr_laws_safety.proofs.Operators.{whole_within, Use, numbers, booleans, references, used as used_by, Good, OnNumbers, OnBooleans, on_numbers, on_booleans, numbers_good, booleans_good}
use Rattle.kr_laws_safety.proofs.Targets.{IsOnward, not_true, widened}
use Rattle.kr_laws_safety.proofs.Promoted.{alone_is, numbers_are}
use Rattle.kr_laws_safety.proofs.Glue.{Ruled, ruled_alone, ruled_as, ruled_ask, ruled_value, ruled_gives, boolean_is, some_inside}
use Rattle.kr_laws_safety.proofs.Values.{ruled_part}
use Rattle.kr_laws_runs.proofs.Respects.{AllOf}

-- ---- values of types

abbrev pub IsConstantOf : Table → JavaType → Value → Type 0
IsConstantOf table t v = IsOf table [] t v

some_is : (v w : Value) → Some v ≡ Some w → v ≡ w
some_is v w e = ap (λ (o : Option Value). elim o as (λ y. Value) [ Some z ↦ z | None ↦ v ]) e

no_object : (o : ℕ) → o < 0 → ⊥
no_object o h = omega (arith, h)

-- a constant is no reference, since there is no object yet
pub constant_kept : (table : Table) (t : JavaType) (v : Value) → IsConstantOf table t v → constant_in v ≡ Some v
constant_kept table t (Int z) i = refl
constant_kept table t (Truth b) i = refl
constant_kept table t Null i = refl
constant_kept table t (Reference o) i = absurd (no_object o i.0)

unfiltered : (o : Option Value) (v : Value) → option_and_then constant_in o ≡ Some v → o ≡ Some v
unfiltered None v e = e
unfiltered (Some (Int z)) v e = e
unfiltered (Some (Truth b)) v e = e
unfiltered (Some Null) v e = e
unfiltered (Some (Reference o)) v e = absurd (cc (e))

-- two operands have types where their operation has one
ruled_both : (f : JavaType → JavaType → Judgement) (x y : Typed) (t : JavaType) → Ruled (on_two f x y) t → (a : JavaType) × (b : JavaType) × (type_in x ≡ Some a) × (type_in y ≡ Some b) × Ruled (f a b) t
ruled_both f x y t r = let a = ruled_part (λ c. on_one (f c) y) x t r in let b = ruled_part (f a.0) y t a.2 in (a.0, b.0, a.1, b.1, b.2)

-- a node of a type keeps its rule
ruled_node : (p : Place) (v : Judgement) (below : List Rattle.kr_classes_table.specs.Rules.Fault) (t : JavaType) → type_in (judge p v below).typed ≡ Some t → Ruled v t
ruled_node p (Fits x) below t e = (x, refl, e)
ruled_node p (Breaks r) below t e = absurd (cc (e))

module _ (table : Table) (onward : IsOnward table) where
  abbrev Of : JavaType → Value → Type 0
  Of t v = IsConstantOf table t v

  number_known : (u : Width) (v : Value) → Of (NumberType u) v → (z : ℤ) × (v ≡ Int z)
  number_known u (Int z) i = (z, refl)
  number_known u (Truth b) i = absurd (cc (i))
  number_known u Null i = absurd (cc (i))
  number_known u (Reference o) i = absurd (no_object o i.0)

  boolean_known : (v : Value) → Of BooleanType v → (b : Bool) × (v ≡ Truth b)
  boolean_known (Truth b) i = (b, refl)
  boolean_known (Int z) i = absurd (cc (i.1))
  boolean_known Null i = absurd (cc (i))
  boolean_known (Reference o) i = absurd (no_object o i.0)

  reference_known : (t : JavaType) (v : Value) → is_reference t ≡ true → Of t v → v ≡ Null
  reference_known t Null r i = refl
  reference_known t (Int z) r i = absurd (cc (r, ap is_reference i.1))
  reference_known t (Truth b) r i = absurd (cc (r, ap is_reference i))
  reference_known t (Reference o) r i = absurd (no_object o i.0)

  -- ---- operators

  -- the number of a width that a number leaves
  whole_kept : (w : Width) (n : ℕ) (v : Value) → Int (whole_of w n) ≡ v → Of (NumberType w) v
  whole_kept w n v e = subst (λ (c : Value). Of (NumberType w) c) e (w, refl, whole_within w n)

  -- at the width of the operand
  unary_kept : (w : Width) (o : UnaryOperator) (a t : JavaType) (x v : Value) → ((u : Width) → a ≡ NumberType u → w ≡ u) → Ruled (unary_rule o a) t → Of a x → unary_value w o x ≡ Some v → Of t v
  unary_kept w unaries.Not a t x v wide r i e =
      let h = ruled_ask (rules.is_boolean a) 13 (Fits (rules.Value BooleanType)) t r in
      let b = boolean_known x (subst (λ (u : JavaType). Of u x) (boolean_is a h.0) i) in
      let c = some_is (Truth (not b.0)) v (sym (ap (unary_value w unaries.Not) b.1) ∙ e) in
      subst (λ (u : JavaType). Of u v) (ruled_value BooleanType t h.1) (subst (λ (c : Value). Of BooleanType c) c refl)
  unary_kept w unaries.Plus a t x v wide r i e =
      let h = ruled_alone a t 14 r in
      let z = number_known h.0 x (subst (λ (u : JavaType). Of u x) h.1 i) in
      subst (λ (u : JavaType). Of u v) (ap NumberType (wide h.0 h.1) ∙ h.2) (whole_kept w _ v (some_is _ v (sym (ap (unary_value w unaries.Plus) z.1) ∙ e)))
  unary_kept w unaries.Minus a t x v wide r i e =
      let h = ruled_alone a t 14 r in
      let z = number_known h.0 x (subst (λ (u : JavaType). Of u x) h.1 i) in
      subst (λ (u : JavaType). Of u v) (ap NumberType (wide h.0 h.1) ∙ h.2) (whole_kept w _ v (some_is _ v (sym (ap (unary_value w unaries.Minus) z.1) ∙ e)))
  unary_kept w unaries.Complement a t x v wide r i e =
      let h = ruled_alone a t 14 r in
      let z = number_known h.0 x (subst (λ (u : JavaType). Of u x) h.1 i) in
      subst (λ (u : JavaType). Of u v) (ap NumberType (wide h.0 h.1) ∙ h.2) (whole_kept w _ v (some_is _ v (sym (ap (unary_value w unaries.Complement) z.1) ∙ e)))

  -- the operators have the same results on runs' values and on constants
  numbers_kept : (w : Width) (o : BinaryOperator) (x y : ℤ) (t : JavaType) (v : Value) → on_numbers o w ≡ Some t → value_in (of_wholes w o x y) ≡ Some v → Of t v
  numbers_kept w o x y t v k e = go (of_wholes w o x y) e (subst (λ (u : Option JavaType). OnNumbers u (operated (binary_operation w o) (Int x) (Int y))) k (numbers_good w o x y))
    where
      go : (r : Applied) → value_in r ≡ Some v → Good t (said r) → Of t v
      go (Ok z) e g = subst (λ (c : Value). Of t c) (some_is z v e) (g table [])
      go (Err z) e g = absurd (cc (e))

  booleans_kept : (w : Width) (o : BinaryOperator) (x y : Bool) (v : Value) → on_booleans o ≡ true → value_in (of_booleans o x y) ≡ Some v → Of BooleanType v
  booleans_kept w o x y v k e = go (of_booleans o x y) e (subst (λ (b : Bool). OnBooleans b (operated (binary_operation w o) (Truth x) (Truth y))) k (booleans_good w o x y))
    where
      go : (r : Applied) → value_in r ≡ Some v → Good BooleanType (said r) → Of BooleanType v
      go (Ok w) e g = subst (λ (c : Value). Of BooleanType c) (some_is w v e) (g table [])
      go (Err x) e g = absurd (cc (e))

  nulls_kept : (o : BinaryOperator) (v : Value) → (o ≡ operators.Equal) ⊎ (o ≡ operators.NotEqual) → value_in (of_references o true) ≡ Some v → Of BooleanType v
  nulls_kept o v (inl k) e = subst (λ (c : Value). Of BooleanType c) (some_is (Truth true) v (ap (λ (q : BinaryOperator). value_in (of_references q true)) (sym k) ∙ e)) refl
  nulls_kept o v (inr k) e = subst (λ (c : Value). Of BooleanType c) (some_is (Truth false) v (ap (λ (q : BinaryOperator). value_in (of_references q true)) (sym k) ∙ e)) refl

  -- at the width of the operands
  abbrev IsWidthOf : Width → BinaryOperator → JavaType → JavaType → Type 0
  IsWidthOf w o a b = (m n : Width) → a ≡ NumberType m → b ≡ NumberType n → w ≡ operator_width o m n

  values_kept : (s : Scope) (w : Width) (o : BinaryOperator) (a b t : JavaType) (x y v : Value) → Use o a b t → IsWidthOf w o a b → Of a x → Of b y → value_in (apply w o x y) ≡ Some v → Of t v
  values_kept s w o a b t x y v (numbers m n p q k) wide i j e =
      let z = number_known m x (subst (λ (u : JavaType). Of u x) p i) in
      let c = number_known n y (subst (λ (u : JavaType). Of u y) q j) in
      numbers_kept w o z.0 c.0 t v (ap (on_numbers o) (wide m n p q) ∙ k) (sym (ap (λ (d : Value). value_in (apply w o d y)) z.1 ∙ ap (λ (d : Value). value_in (apply w o (Int z.0) d)) c.1) ∙ e)
  values_kept s w o a b t x y v (booleans p q k l) wide i j e =
      let z = boolean_known x (subst (λ (u : JavaType). Of u x) p i) in
      let c = boolean_known y (subst (λ (u : JavaType). Of u y) q j) in
      subst (λ (u : JavaType). Of u v) (sym l) (booleans_kept w o z.0 c.0 v k (sym (ap (λ (d : Value). value_in (apply w o d y)) z.1 ∙ ap (λ (d : Value). value_in (apply w o (Truth z.0) d)) c.1) ∙ e))
  values_kept s w o a b t x y v (references p q k l) wide i j e =
      let z = reference_known a x p i in
      let c = reference_known b y q j in
      subst (λ (u : JavaType). Of u v) (sym l) (nulls_kept o v k (sym (ap (λ (d : Value). value_in (apply w o d y)) z ∙ ap (λ (d : Value). value_in (apply w o Null d)) c) ∙ e))

  -- two operands, where the first doesn't decide
  combined : Width → BinaryOperator → Option Value → Option Value → Option Value
  combined w o (Some x) (Some y) = value_in (apply w o x y)
  combined w o x y = None

  plain_binary : (w : Width) (o : BinaryOperator) (x y : Option Value) → is_junction o ≡ false → binary_value w o x y ≡ combined w o x y
  unfolding combined
  plain_binary w operators.And x y j = absurd (cc (j))
  plain_binary w operators.Or x y j = absurd (cc (j))
  plain_binary w _ (Some a) (Some b) j = refl
  plain_binary w _ (Some a) None j = refl
  plain_binary w _ None y j = refl

  ask_plain : (b : Bool) (r : ℕ) (u t : JavaType) → Ruled (ask b r (Fits (rules.Value u))) t → ask b r (Fits (rules.Value u)) ≡ Fits (rules.Value t)
  ask_plain true r u t h = ap (λ (z : JavaType). Fits (rules.Value z)) (ruled_value u t h)
  ask_plain false r u t h = absurd (cc (h.1))

  promoted_plain : (o : Option JavaType) (r : ℕ) (t : JavaType) → Ruled (of_promoted o r) t → of_promoted o r ≡ Fits (rules.Value t)
  promoted_plain (Some u) r t h = ap (λ (z : JavaType). Fits (rules.Value z)) (ruled_value u t h)
  promoted_plain None r t h = absurd (cc (h.1))

  shift_plain : (a b t : JavaType) → Ruled (shift_rule a b) t → shift_rule a b ≡ Fits (rules.Value t)
  shift_plain a b t r = go (is_number b) r
    where
      go : (n : Bool) → Ruled (ask n 8 (of_promoted (promoted_alone a) 8)) t → ask n 8 (of_promoted (promoted_alone a) 8) ≡ Fits (rules.Value t)
      go true r = promoted_plain (promoted_alone a) 8 t r
      go false r = absurd (cc (r.1))

  bit_plain : (a b t : JavaType) → Ruled (bit_rule a b) t → bit_rule a b ≡ Fits (rules.Value t)
  bit_plain a b t r = go (both_boolean a b) r
    where
      go : (n : Bool) → Ruled (if n then Fits (rules.Value BooleanType) else of_promoted (promoted a b) 11) t → (if n then Fits (rules.Value BooleanType) else of_promoted (promoted a b) 11) ≡ Fits (rules.Value t)
      go true r = ap (λ (z : JavaType). Fits (rules.Value z)) (ruled_value BooleanType t r)
      go false r = promoted_plain (promoted a b) 11 t r

  kind_plain : (s : Scope) (o : OperatorKind) (a b t : JavaType) → Ruled (kind_rule s o a b) t → kind_rule s o a b ≡ Fits (rules.Value t)
  kind_plain s Arithmetic a b t r = promoted_plain (promoted a b) 7 t r
  kind_plain s Shift a b t r = shift_plain a b t r
  kind_plain s Comparison a b t r = ask_plain _ 9 BooleanType t r
  kind_plain s Equality a b t r = ask_plain _ 10 BooleanType t r
  kind_plain s Bitwise a b t r = bit_plain a b t r
  kind_plain s Logical a b t r = ask_plain _ 12 BooleanType t r

  abbrev OfOption : JavaType → Option Value → Type 0
  OfOption t x = (v : Value) → x ≡ Some v → Of t v

  -- `&&` and `||` give booleans
  and_kept : (w : Width) (x y : Option Value) (v : Value) → OfOption BooleanType x → OfOption BooleanType y → binary_value w operators.And x y ≡ Some v → Of BooleanType v
  and_kept w (Some (Truth false)) y v i j e = subst (λ (c : Value). Of BooleanType c) (some_is (Truth false) v e) refl
  and_kept w (Some (Truth true)) (Some (Truth b)) v i j e = subst (λ (c : Value). Of BooleanType c) (some_is (Truth (true && b)) v e) refl
  and_kept w (Some (Truth true)) (Some (Int z)) v i j e = absurd (cc (e))
  and_kept w (Some (Truth true)) (Some Null) v i j e = absurd (cc (e))
  and_kept w (Some (Truth true)) (Some (Reference o)) v i j e = absurd (cc (e))
  and_kept w (Some (Truth true)) None v i j e = absurd (cc (e))
  and_kept w (Some (Int z)) y v i j e = absurd (cc ((i (Int z) refl).1))
  and_kept w (Some Null) y v i j e = absurd (cc (i Null refl))
  and_kept w (Some (Reference o)) y v i j e = absurd (no_object o (i (Reference o) refl).0)
  and_kept w None y v i j e = absurd (cc (e))

  or_kept : (w : Width) (x y : Option Value) (v : Value) → OfOption BooleanType x → OfOption BooleanType y → binary_value w operators.Or x y ≡ Some v → Of BooleanType v
  or_kept w (Some (Truth true)) y v i j e = subst (λ (c : Value). Of BooleanType c) (some_is (Truth true) v e) refl
  or_kept w (Some (Truth false)) (Some (Truth b)) v i j e = subst (λ (c : Value). Of BooleanType c) (some_is (Truth (false || b)) v e) refl
  or_kept w (Some (Truth false)) (Some (Int z)) v i j e = absurd (cc (e))
  or_kept w (Some (Truth false)) (Some Null) v i j e = absurd (cc (e))
  or_kept w (Some (Truth false)) (Some (Reference o)) v i j e = absurd (cc (e))
  or_kept w (Some (Truth false)) None v i j e = absurd (cc (e))
  or_kept w (Some (Int z)) y v i j e = absurd (cc ((i (Int z) refl).1))
  or_kept w (Some Null) y v i j e = absurd (cc (i Null refl))
  or_kept w (Some (Reference o)) y v i j e = absurd (no_object o (i (Reference o) refl).0)
  or_kept w None y v i j e = absurd (cc (e))

  junction_kept : (s : Scope) (w : Width) (o : BinaryOperator) (a b t : JavaType) (x y : Option Value) (v : Value) → is_junction o ≡ true → Ruled (operator_rule s o a b) t → OfOption a x → OfOption b y → binary_value w o x y ≡ Some v → Of t v
  junction_kept s w operators.And a b t x y v j r i k e =
      let h = ruled_ask (both_boolean a b) 12 (Fits (rules.Value BooleanType)) t r in
      let z = and_parts (rules.is_boolean a) (rules.is_boolean b) h.0 in
      subst (λ (u : JavaType). Of u v) (ruled_value BooleanType t h.1) (and_kept w x y v (subst (λ (u : JavaType). OfOption u x) (boolean_is a z.0) i) (subst (λ (u : JavaType). OfOption u y) (boolean_is b z.1) k) e)
  junction_kept s w operators.Or a b t x y v j r i k e =
      let h = ruled_ask (both_boolean a b) 12 (Fits (rules.Value BooleanType)) t r in
      let z = and_parts (rules.is_boolean a) (rules.is_boolean b) h.0 in
      subst (λ (u : JavaType). Of u v) (ruled_value BooleanType t h.1) (or_kept w x y v (subst (λ (u : JavaType). OfOption u x) (boolean_is a z.0) i) (subst (λ (u : JavaType). OfOption u y) (boolean_is b z.1) k) e)
  junction_kept s w _ a b t x y v j r i k e = absurd (cc (j))

  both_kept : (s : Scope) (w : Width) (o : BinaryOperator) (a b t : JavaType) (x y : Option Value) (v : Value) → is_junction o ≡ false → Ruled (operator_rule s o a b) t → IsWidthOf w o a b → OfOption a x → OfOption b y → combined w o x y ≡ Some v → Of t v
  unfolding combined
  both_kept s w o a b t (Some x) (Some y) v j r wide i k e = values_kept s w o a b t x y v (used_by s o a b t j (kind_plain s (kind_of o) a b t r)) wide (i x refl) (k y refl) e
  both_kept s w o a b t (Some x) None v j r wide i k e = absurd (cc (e))
  both_kept s w o a b t None y v j r wide i k e = absurd (cc (e))

  binary_kept : (s : Scope) (w : Width) (o : BinaryOperator) (a b t : JavaType) (x y : Option Value) (v : Value) → Ruled (operator_rule s o a b) t → IsWidthOf w o a b → OfOption a x → OfOption b y → binary_value w o x y ≡ Some v → Of t v
  binary_kept s w o a b t x y v r wide i k e = go (is_junction o) refl
    where
      go : (j : Bool) → is_junction o ≡ j → Of t v
      go true j = junction_kept s w o a b t x y v j r i k e
      go false j = both_kept s w o a b t x y v j r wide i k (sym (plain_binary w o x y j) ∙ e)

  choice_kept : (s : Scope) (c a b t : JavaType) (x y z : Option Value) (v : Value) → s.table ≡ table → Ruled (choice_rule s c a b) t → OfOption a y → OfOption b z → chosen x y z ≡ Some v → Of t v
  choice_kept s c a b t x y z v ts r i k e =
      let h = ruled_ask (rules.is_boolean c && are_related s.table a b) 15 (Fits (rules.Value (if is_assignable s.table a b then b else a))) t r in
      let related = ap (λ (n : Table). are_related n a b) (sym ts) ∙ (and_parts (rules.is_boolean c) (are_related s.table a b) h.0).1 in
      let is = ap (λ (n : Table). if is_assignable n a b then b else a) (sym ts) ∙ ruled_value (if is_assignable s.table a b then b else a) t h.1 in
      go x e (is_assignable table a b) refl is related
    where
      fits : (n : Bool) → is_assignable table a b ≡ n → (if n then b else a) ≡ t → (n || is_assignable table b a) ≡ true → ((w : Value) → Of a w → Of t w) × ((w : Value) → Of b w → Of t w)
      fits true q l m = (λ w j. subst (λ (u : JavaType). Of u w) l (widened table onward [] a b w q j), λ w j. subst (λ (u : JavaType). Of u w) l j)
      fits false q l m = (λ w j. subst (λ (u : JavaType). Of u w) l j, λ w j. subst (λ (u : JavaType). Of u w) l (widened table onward [] b a w m j))

      go : (x : Option Value) → chosen x y z ≡ Some v → (n : Bool) → is_assignable table a b ≡ n → (if n then b else a) ≡ t → (n || is_assignable table b a) ≡ true → Of t v
      go (Some (Truth true)) e n q l m = (fits n q l m).0 v (i v e)
      go (Some (Truth false)) e n q l m = (fits n q l m).1 v (k v e)
      go (Some (Int w)) e n q l m = absurd (cc (e))
      go (Some Null) e n q l m = absurd (cc (e))
      go (Some (Reference o)) e n q l m = absurd (cc (e))
      go None e n q l m = absurd (cc (e))

  -- the width of a written type of numbers
  abbrev IsCast : Option Width → JavaType → Type 0
  IsCast (Some w) t = t ≡ NumberType w
  IsCast None t = is_number t ≡ false

  cast_is : (s : Scope) (k : Tree) (t : JavaType) → is_primitive k ≡ true → type_in (judged s k).typed ≡ Some t → IsCast (number_width k) t
  unfolding judged
  cast_is s (trees.PrimitiveType p primitives.Int) t q e = sym (some_inside int_type t e)
  cast_is s (trees.PrimitiveType p primitives.Long) t q e = sym (some_inside long_type t e)
  cast_is s (trees.PrimitiveType p primitives.Boolean) t q e = ap is_number (sym (some_inside BooleanType t e))
  cast_is s (trees.PrimitiveType p primitives.Void) t q e = ap is_number (sym (some_inside VoidType t e))
  cast_is s _ t q e = absurd (cc (q))

  cast_kept : (s : Scope) (to from t : JavaType) (w : Option Width) (x : Value) → Ruled (cast_rule s to from) t → IsCast w to → Of from x → Of t (cast_value w x)
  cast_kept s to from t w x r m i =
      let h = ruled_ask ((are_numbers to from || both_boolean to from) || (related_references s from to && not (is_collection to) && not (is_collection from))) 20 (Fits (rules.Value to)) t r in
      subst (λ (u : JavaType). Of u (cast_value w x)) (ruled_value to t h.1) (go w m (or_cases (are_numbers to from || both_boolean to from) _ h.0))
    where
      references : (related_references s from to && not (is_collection to) && not (is_collection from)) ≡ true → (is_reference from ≡ true) × (is_reference to ≡ true)
      references q =
          let a = and_parts (related_references s from to && not (is_collection to)) (not (is_collection from)) q in
          let b = and_parts (related_references s from to) (not (is_collection to)) a.0 in
          let c = and_parts (is_reference from && is_reference to) (are_related s.table from to) b.0 in
          and_parts (is_reference from) (is_reference to) c.0

      -- a number
      number : (w : Width) → to ≡ NumberType w → (are_numbers to from ≡ true) ⊎ (both_boolean to from ≡ true) → Of to (cast_value (Some w) x)
      number w m (inl q) =
          let z = numbers_are to from q in
          let y = number_known z.1 x (subst (λ (u : JavaType). Of u x) z.3 i) in
          subst (λ (u : JavaType). Of u (cast_value (Some w) x)) (sym m) (whole_kept w _ (cast_value (Some w) x) (ap (cast_value (Some w)) (sym y.1)))
      number w m (inr q) = absurd (cc (m, boolean_is to (and_parts (rules.is_boolean to) (rules.is_boolean from) q).0))

      plain : is_number to ≡ false → (are_numbers to from ≡ true) ⊎ (both_boolean to from ≡ true) → Of to x
      plain m (inl q) = absurd (cc (m, ap is_number (numbers_are to from q).2))
      plain m (inr q) = let z = and_parts (rules.is_boolean to) (rules.is_boolean from) q in subst (λ (u : JavaType). Of u x) (boolean_is from z.1 ∙ sym (boolean_is to z.0)) i

      go : (w : Option Width) → IsCast w to → ((are_numbers to from || both_boolean to from) ≡ true) ⊎ ((related_references s from to && not (is_collection to) && not (is_collection from)) ≡ true) → Of to (cast_value w x)
      go (Some w) m (inl q) = number w m (or_cases (are_numbers to from) (both_boolean to from) q)
      go (Some w) m (inr q) = absurd (cc ((references q).1, ap is_reference m))
      go None m (inl q) = plain m (or_cases (are_numbers to from) (both_boolean to from) q)
      go None m (inr q) = let d = references q in subst (λ (c : Value). Of to c) (sym (reference_known from x d.0 i)) d.1

  -- ---- evaluation

  -- a constant that a class has by a name
  abbrev pub IsConstant : Field → Type 0
  IsConstant h = (d : ℕ) × (n : List ℕ) × (field_named table d n ≡ Some h) × (h.is_static ≡ true)

  -- known values are of their constants' types
  abbrev pub AreKnown : List Known → Type 0
  AreKnown known = (h : Field) (v : Value) → IsConstant h → value_at known h.place ≡ Some v → Of h.type v

  abbrev IsInside : ℕ → Scope → Type 0
  IsInside c s = (s.table ≡ table) × (s.class ≡ c) × (s.locals ≡ []) × (s.is_static ≡ true)

  named : (known : List Known) (c : ℕ) (s : Scope) (n : List ℕ) (t : JavaType) (v : Value) → AreKnown known → IsInside c s → Ruled (name_rule s (meant s n)) t → known_value known (field_meant table c n) ≡ Some v → Of t v
  named known c s n t v k i r e = go (field_meant table c n) refl e
    where
      there : meant s n ≡ field_or_none (field_meant table c n)
      there = ap (λ (ls : _). meant_by ls (field_meant s.table s.class n) n) i.2 ∙ (ap (λ (x : Table). field_or_none (field_meant x s.class n)) i.0 ∙ ap (λ (x : ℕ). field_or_none (field_meant table x n)) i.1)

      go : (o : Option Field) → field_meant table c n ≡ o → known_value known o ≡ Some v → Of t v
      go None q e = absurd (cc (e))
      go (Some h) q e = by h.is_static refl (ruled_as (name_rule s (meant s n)) (name_rule s (FieldName h)) t (ap (name_rule s) (there ∙ ap field_or_none q)) r)
        where
          by : (b : Bool) → h.is_static ≡ b → Ruled (if b then gives h.type else ask (not s.is_static) 5 (Fits (rules.variable_of h.type))) t → Of t v
          by true b r = let d = Rattle.kr_laws_safety.proofs.Scoping.field_found table c n h q in subst (λ (u : JavaType). Of u v) (ruled_gives h.type t r) (k h v (d.0, n, d.1, b) (unfiltered (value_at known h.place) v e))
          by false b r = absurd (cc (not_true s.is_static (ruled_ask (not s.is_static) 5 (Fits (rules.variable_of h.type)) t r).0, i.3))

  -- the class before a dot
  class_same : (c : ℕ) (s : Scope) (e : Tree) → IsInside c s → class_before s e ≡ class_meant table c e
  class_same c s (trees.Variable p n) i =
      ap (λ (m : Meant). Rattle.kr_types_meaning.specs.Scopes.class_if_none s n m) there ∙ (by (field_meant table c n) ∙ ap (λ (x : Table). if is_none (field_meant table c n) then number_of x.headings n else None) i.0)
    where
      there : meant s n ≡ field_or_none (field_meant table c n)
      there = ap (λ (ls : _). meant_by ls (field_meant s.table s.class n) n) i.2 ∙ (ap (λ (x : Table). field_or_none (field_meant x s.class n)) i.0 ∙ ap (λ (x : ℕ). field_or_none (field_meant table x n)) i.1)

      by : (o : Option Field) → Rattle.kr_types_meaning.specs.Scopes.class_if_none s n (field_or_none o) ≡ (if is_none o then number_of s.table.headings n else None)
      by None = refl
      by (Some h) = refl
  class_same c s _ i = refl

  accessed : (known : List Known) (c : ℕ) (s : Scope) (p : Place) (n : List ℕ) (x : Judged) (t : JavaType) (v : Value) → AreKnown known → s.table ≡ table → (d : Option ℕ) → type_in (field_of s p n d x).typed ≡ Some t → known_value known (constant_of table d n) ≡ Some v → Of t v
  accessed known c s p n x t v k ts None r e = absurd (cc (e))
  accessed known c s p n x t v k ts (Some d) r e = go (field_named table d n) refl e (ruled_as (constant_rule (field_named s.table d n)) (constant_rule (field_named table d n)) t (ap (λ (y : Table). constant_rule (field_named y d n)) ts) (ruled_node p (constant_rule (field_named s.table d n)) [] t r))
    where
      go : (o : Option Field) → field_named table d n ≡ o → known_value known (option_and_then constant_only o) ≡ Some v → Ruled (constant_rule o) t → Of t v
      go None q e r = absurd (cc (e))
      go (Some h) q e r =
          let a = ruled_ask h.is_static 22 (gives h.type) t r in
          let only : option_and_then constant_only (Some h) ≡ Some h = ap (λ (b : Bool). if b then Some h else None) a.0 in
          subst (λ (u : JavaType). Of u v) (ruled_gives h.type t a.1) (k h v (d, n, q, a.0) (unfiltered (value_at known h.place) v (sym (ap (known_value known) only) ∙ e)))

  -- ---- the width by which a constant is evaluated is that of its type

  number_kept : (s : Scope) (p : Place) (w : Width) (n : ℕ) (t : JavaType) (v : Value) → Ruled (rules.number_rule s w n) t → Some (Int (wrap w (pos n))) ≡ Some v → Of t v
  number_kept s p w n t v r e =
      let h = ruled_ask _ 6 (Fits (rules.Value (NumberType w))) t r in
      subst (λ (u : JavaType). Of u v) (ruled_value (NumberType w) t h.1) (whole_kept w _ v (some_is _ v e))

  inside_operand : (c : ℕ) (s : Scope) (o : UnaryOperator) → IsInside c s → IsInside c (operand o s)
  inside_operand c s unaries.Minus i = i
  inside_operand c s unaries.Plus i = i
  inside_operand c s unaries.Complement i = i
  inside_operand c s unaries.Not i = i

  -- of the type that an operator gives on numbers
  number_given : (o : BinaryOperator) (u w : Width) → on_numbers o u ≡ Some (NumberType w) → u ≡ w
  number_given operators.Multiply u w e = ap width_in (some_inside (NumberType u) (NumberType w) e)
  number_given operators.Divide u w e = ap width_in (some_inside (NumberType u) (NumberType w) e)
  number_given operators.Remainder u w e = ap width_in (some_inside (NumberType u) (NumberType w) e)
  number_given operators.Add u w e = ap width_in (some_inside (NumberType u) (NumberType w) e)
  number_given operators.Subtract u w e = ap width_in (some_inside (NumberType u) (NumberType w) e)
  number_given operators.ShiftLeft u w e = ap width_in (some_inside (NumberType u) (NumberType w) e)
  number_given operators.ShiftRight u w e = ap width_in (some_inside (NumberType u) (NumberType w) e)
  number_given operators.ShiftRightUnsigned u w e = ap width_in (some_inside (NumberType u) (NumberType w) e)
  number_given operators.BitAnd u w e = ap width_in (some_inside (NumberType u) (NumberType w) e)
  number_given operators.BitXor u w e = ap width_in (some_inside (NumberType u) (NumberType w) e)
  number_given operators.BitOr u w e = ap width_in (some_inside (NumberType u) (NumberType w) e)
  number_given operators.And u w e = absurd (cc (e))
  number_given operators.Or u w e = absurd (cc (e))
  number_given _ u w e = absurd (cc (some_inside BooleanType (NumberType w) e))

  -- a name is of its constant's width
  named_width : (c : ℕ) (s : Scope) (n : List ℕ) (w : Width) → IsInside c s → Ruled (name_rule s (meant s n)) (NumberType w) → field_width (field_meant table c n) ≡ w
  named_width c s n w i r = go (field_meant table c n) refl
    where
      there : meant s n ≡ field_or_none (field_meant table c n)
      there = ap (λ (ls : _). meant_by ls (field_meant s.table s.class n) n) i.2 ∙ (ap (λ (x : Table). field_or_none (field_meant x s.class n)) i.0 ∙ ap (λ (x : ℕ). field_or_none (field_meant table x n)) i.1)

      go : (o : Option Field) → field_meant table c n ≡ o → field_width o ≡ w
      go None q = absurd (cc ((ruled_as (name_rule s (meant s n)) (name_rule s (field_or_none None)) (NumberType w) (ap (name_rule s) (there ∙ ap field_or_none q)) r).1))
      go (Some h) q = by h.is_static refl (ruled_as (name_rule s (meant s n)) (name_rule s (FieldName h)) (NumberType w) (ap (name_rule s) (there ∙ ap field_or_none q)) r)
        where
          by : (b : Bool) → h.is_static ≡ b → Ruled (if b then gives h.type else ask (not s.is_static) 5 (Fits (rules.variable_of h.type))) (NumberType w) → width_in h.type ≡ w
          by true b r = ap width_in (ruled_gives h.type (NumberType w) r)
          by false b r = absurd (cc (not_true s.is_static (ruled_ask (not s.is_static) 5 (Fits (rules.variable_of h.type)) (NumberType w) r).0, i.3))

  -- and so after a dot
  accessed_width : (s : Scope) (p : Place) (n : List ℕ) (x : Judged) (w : Width) → s.table ≡ table → (d : Option ℕ) → is_some (constant_of table d n) ≡ true → type_in (field_of s p n d x).typed ≡ Some (NumberType w) → field_width (constant_of table d n) ≡ w
  accessed_width s p n x w ts None m r = absurd (cc (m))
  accessed_width s p n x w ts (Some d) m r = go (field_named table d n) m (ruled_as (constant_rule (field_named s.table d n)) (constant_rule (field_named table d n)) (NumberType w) (ap (λ (y : Table). constant_rule (field_named y d n)) ts) (ruled_node p (constant_rule (field_named s.table d n)) [] (NumberType w) r))
    where
      go : (o : Option Field) → is_some (option_and_then constant_only o) ≡ true → Ruled (constant_rule o) (NumberType w) → field_width (option_and_then constant_only o) ≡ w
      go None m r = absurd (cc (m))
      go (Some h) m r =
          let a = ruled_ask h.is_static 22 (gives h.type) (NumberType w) r in
          let only : option_and_then constant_only (Some h) ≡ Some h = ap (λ (b : Bool). if b then Some h else None) a.0 in
          ap field_width only ∙ ap width_in (ruled_gives h.type (NumberType w) a.1)

  -- a type of numbers is related to such types alone
  number_apart : (s : Scope) (b : JavaType) (u : Width) → is_number b ≡ false → is_assignable s.table b (NumberType u) ≡ false
  number_apart s (NumberType w) u e = absurd (cc (e))
  number_apart s NullType u e = refl
  number_apart s (ClassType c) u e = refl
  number_apart s (SetType InferredType) u e = refl
  number_apart s (SetType t) u e = refl
  number_apart s (ListType InferredType) u e = refl
  number_apart s (ListType t) u e = refl
  number_apart s _ u e = refl

  apart_number : (s : Scope) (b : JavaType) (u : Width) → is_number b ≡ false → is_assignable s.table (NumberType u) b ≡ false
  apart_number s (NumberType w) u e = absurd (cc (e))
  apart_number s _ u e = refl

  -- of two arms the wider width
  wider_arms : (s : Scope) (m n w u v : Width) → (if is_assignable s.table (NumberType m) (NumberType n) then NumberType n else NumberType m) ≡ NumberType w → u ≡ m → v ≡ n → wider u v ≡ w
  wider_arms s Bits32 Bits32 w u v e f g = ap (λ (x : Width). wider x v) f ∙ (g ∙ ap width_in e)
  wider_arms s Bits32 Bits64 w u v e f g = ap (λ (x : Width). wider x v) f ∙ (g ∙ ap width_in e)
  wider_arms s Bits64 Bits32 w u v e f g = ap (λ (x : Width). wider x v) f ∙ ap width_in e
  wider_arms s Bits64 Bits64 w u v e f g = ap (λ (x : Width). wider x v) f ∙ ap width_in e

  abbrev Arm : Bool → JavaType → JavaType → JavaType
  Arm n a b = if n then b else a

  wider_given : (s : Scope) (a b : JavaType) (w u v : Width) → are_related s.table a b ≡ true → Arm (is_assignable s.table a b) a b ≡ NumberType w → ((x : Width) → a ≡ NumberType x → u ≡ x) → ((x : Width) → b ≡ NumberType x → v ≡ x) → wider u v ≡ w
  wider_given s a b w u v h e f g = go (is_number a) refl (is_number b) refl
    where
      neither : (n : Bool) → is_number a ≡ false → is_number b ≡ false → Arm n a b ≡ NumberType w → ⊥
      neither true i j e = cc (j, ap is_number e)
      neither false i j e = cc (i, ap is_number e)

      go : (p : Bool) → is_number a ≡ p → (q : Bool) → is_number b ≡ q → wider u v ≡ w
      go true i true j =
          let m = alone_is a i in
          let n = alone_is b j in
          wider_arms s m.0 n.0 w u v (sym (ap (λ (x : JavaType). Arm (is_assignable s.table x b) x b) m.1 ∙ ap (λ (x : JavaType). Arm (is_assignable s.table (NumberType m.0) x) (NumberType m.0) x) n.1) ∙ e) (f m.0 m.1) (g n.0 n.1)
      go true i false j =
          let m = alone_is a i in
          let over : is_assignable s.table a b ≡ false = ap (λ (x : JavaType). is_assignable s.table x b) m.1 ∙ apart_number s b m.0 j in
          let under : is_assignable s.table b a ≡ false = ap (λ (x : JavaType). is_assignable s.table b x) m.1 ∙ number_apart s b m.0 j in
          absurd (cc (sym (ap (λ (x : Bool). x || is_assignable s.table b a) over ∙ under) ∙ h))
      go false i true j =
          let n = alone_is b j in
          let over : is_assignable s.table a b ≡ false = ap (λ (x : JavaType). is_assignable s.table a x) n.1 ∙ number_apart s a n.0 i in
          absurd (cc (i, ap is_number (sym (ap (λ (x : Bool). Arm x a b) over) ∙ e)))
      go false i false j = absurd (neither (is_assignable s.table a b) i j e)

  -- an operator on operands of their types' widths
  operands_width : (s : Scope) (o : BinaryOperator) (a b : JavaType) (w u v : Width) → Ruled (operator_rule s o a b) (NumberType w) → ((x : Width) → a ≡ NumberType x → u ≡ x) → ((x : Width) → b ≡ NumberType x → v ≡ x) → operator_width o u v ≡ w
  operands_width s o a b w u v r f g = go (is_junction o) refl
    where
      by : Use o a b (NumberType w) → operator_width o u v ≡ w
      by (numbers m n p q k) = ap (λ (z : Width). operator_width o z v) (f m p) ∙ (ap (operator_width o m) (g n q) ∙ number_given o (operator_width o m n) w k)
      by (booleans p q k l) = absurd (cc (l))
      by (references p q k l) = absurd (cc (l))

      -- `&&` and `||` give booleans
      junction : (o : BinaryOperator) → is_junction o ≡ true → Ruled (operator_rule s o a b) (NumberType w) → ⊥
      junction operators.And j q = cc (ruled_value BooleanType (NumberType w) (ruled_ask (both_boolean a b) 12 (Fits (rules.Value BooleanType)) (NumberType w) q).1)
      junction operators.Or j q = cc (ruled_value BooleanType (NumberType w) (ruled_ask (both_boolean a b) 12 (Fits (rules.Value BooleanType)) (NumberType w) q).1)
      junction _ j q = cc (j)

      go : (j : Bool) → is_junction o ≡ j → operator_width o u v ≡ w
      go true j = absurd (junction o j r)
      go false j = by (used_by s o a b (NumberType w) j (kind_plain s (kind_of o) a b (NumberType w) r))

  some_known : (known : List Known) (o : Option Field) → is_some (known_value known o) ≡ true → is_some o ≡ true
  some_known known (Some h) e = refl
  some_known known None e = absurd (cc (e))

  width_kept : (known : List Known) (c : ℕ) (s : Scope) (e : Tree) (w : Width) → IsInside c s → type_in (judged s e).typed ≡ Some (NumberType w) → is_constant table known c e ≡ true → constant_width table c e ≡ w
  unfolding judged is_constant constant_width
  width_kept known c s (trees.Number p n) w i r m = ap width_in (ruled_value (NumberType Bits32) (NumberType w) (ruled_ask _ 6 (Fits (rules.Value (NumberType Bits32))) (NumberType w) (ruled_node p (rules.number_rule s Bits32 n) [] (NumberType w) r)).1)
  width_kept known c s (trees.LongNumber p n) w i r m = ap width_in (ruled_value (NumberType Bits64) (NumberType w) (ruled_ask _ 6 (Fits (rules.Value (NumberType Bits64))) (NumberType w) (ruled_node p (rules.number_rule s Bits64 n) [] (NumberType w) r)).1)
  width_kept known c s (trees.Truth p b) w i r m = absurd (cc (some_inside BooleanType (NumberType w) r))
  width_kept known c s (trees.Null p) w i r m = absurd (cc (some_inside NullType (NumberType w) r))
  width_kept known c s (trees.Variable p n) w i r m = named_width c s n w i (ruled_node p (name_rule s (meant s n)) [] (NumberType w) r)
  width_kept known c s (trees.FieldAccess p x n) w i r m =
      accessed_width s p n (judged (value s) x) w i.0 (class_meant table c x) (some_known known (constant_of table (class_meant table c x) n) m) (ap (λ (d : Option ℕ). type_in (field_of s p n d (judged (value s) x)).typed) (sym (class_same c s x i)) ∙ r)
  width_kept known c s (trees.Unary p o x) w i r m =
      let a = ruled_part (unary_rule o) (judged (operand o s) x).typed (NumberType w) (ruled_node p (on_one (unary_rule o) (judged (operand o s) x).typed) (judged (operand o s) x).faults (NumberType w) r) in
      width_kept known c (operand o s) x w (inside_operand c s o i) (a.1 ∙ ap (λ (z : JavaType). Some z) (of_number o a.0 a.2)) m
    where
      -- it gives the type of its operand
      of_number : (o : UnaryOperator) (a : JavaType) → Ruled (unary_rule o a) (NumberType w) → a ≡ NumberType w
      of_number unaries.Not a q = absurd (cc (ruled_value BooleanType (NumberType w) (ruled_ask (rules.is_boolean a) 13 (Fits (rules.Value BooleanType)) (NumberType w) q).1))
      of_number unaries.Plus a q = let h = ruled_alone a (NumberType w) 14 q in h.1 ∙ h.2
      of_number unaries.Minus a q = let h = ruled_alone a (NumberType w) 14 q in h.1 ∙ h.2
      of_number unaries.Complement a q = let h = ruled_alone a (NumberType w) 14 q in h.1 ∙ h.2
  width_kept known c s (trees.Binary p o x y) w i r m =
      let a = ruled_both (operator_rule s o) (judged (value s) x).typed (judged (value s) y).typed (NumberType w) (ruled_node p (on_two (operator_rule s o) (judged (value s) x).typed (judged (value s) y).typed) ((judged (value s) x).faults ++ (judged (value s) y).faults) (NumberType w) r) in
      let both = and_parts (is_constant table known c x) (is_constant table known c y) m in
      operands_width s o a.0 a.1 w (constant_width table c x) (constant_width table c y) a.4
      (λ u q. width_kept known c (value s) x u i (a.2 ∙ ap (λ (z : JavaType). Some z) q) both.0)
      (λ u q. width_kept known c (value s) y u i (a.3 ∙ ap (λ (z : JavaType). Some z) q) both.1)
  width_kept known c s (trees.Conditional p x y z) w i r m =
      let jx = judged (value s) x in
      let jy = judged (value s) y in
      let jz = judged (value s) z in
      let a = ruled_part (λ n. on_two (choice_rule s n) jy.typed jz.typed) jx.typed (NumberType w) (ruled_node p (on_one (λ n. on_two (choice_rule s n) jy.typed jz.typed) jx.typed) (jx.faults ++ jy.faults ++ jz.faults) (NumberType w) r) in
      let b = ruled_both (choice_rule s a.0) jy.typed jz.typed (NumberType w) a.2 in
      let last = and_parts (is_constant table known c x && is_constant table known c y) (is_constant table known c z) m in
      let first = and_parts (is_constant table known c x) (is_constant table known c y) last.0 in
      let h = ruled_ask (rules.is_boolean a.0 && are_related s.table b.0 b.1) 15 (Fits (rules.Value (if is_assignable s.table b.0 b.1 then b.1 else b.0))) (NumberType w) b.4 in
      wider_given s b.0 b.1 w (constant_width table c y) (constant_width table c z) (and_parts (rules.is_boolean a.0) (are_related s.table b.0 b.1) h.0).1 (ruled_value (if is_assignable s.table b.0 b.1 then b.1 else b.0) (NumberType w) h.1)
      (λ v q. width_kept known c (value s) y v i (b.2 ∙ ap (λ (n : JavaType). Some n) q) first.1)
      (λ v q. width_kept known c (value s) z v i (b.3 ∙ ap (λ (n : JavaType). Some n) q) last.1)
  width_kept known c s (trees.Cast p k x) w i r m =
      let a = ruled_both (cast_rule s) (judged s k).typed (judged (value s) x).typed (NumberType w) (ruled_node p (on_two (cast_rule s) (judged s k).typed (judged (value s) x).typed) ((judged s k).faults ++ (judged (value s) x).faults) (NumberType w) r) in
      by (number_width k) (subst (λ (z : JavaType). IsCast (number_width k) z) (to_is a.0 a.1 a.4) (cast_is s k a.0 (and_parts (is_primitive k) (is_constant table known c x) m).0 a.2))
    where
      by : (o : Option Width) → IsCast o (NumberType w) → unwrap_or o Bits32 ≡ w
      by (Some u) h = sym (ap width_in h)
      by None h = absurd (cc (h))

      to_is : (to from : JavaType) → Ruled (cast_rule s to from) (NumberType w) → to ≡ NumberType w
      to_is to from q = ruled_value to (NumberType w) (ruled_ask ((are_numbers to from || both_boolean to from) || (related_references s from to && not (is_collection to) && not (is_collection from))) 20 (Fits (rules.Value to)) (NumberType w) q).1
  width_kept known c s _ w i r m = absurd (cc (m))

  pub evaluated_kept : (known : List Known) (c : ℕ) (s : Scope) (e : Tree) (t : JavaType) (v : Value) → AreKnown known → IsInside c s → type_in (judged s e).typed ≡ Some t → is_constant table known c e ≡ true → evaluated table known c e ≡ Some v → Of t v
  unfolding judged is_constant evaluated
  evaluated_kept known c s (trees.Number p n) t v k i r m e = number_kept s p Bits32 n t v (ruled_node p (rules.number_rule s Bits32 n) [] t r) e
  evaluated_kept known c s (trees.LongNumber p n) t v k i r m e = number_kept s p Bits64 n t v (ruled_node p (rules.number_rule s Bits64 n) [] t r) e
  evaluated_kept known c s (trees.Truth p b) t v k i r m e = subst (λ (u : JavaType). Of u v) (some_inside BooleanType t r) (subst (λ (c : Value). Of BooleanType c) (some_is (Truth b) v e) refl)
  evaluated_kept known c s (trees.Null p) t v k i r m e = subst (λ (u : JavaType). Of u v) (some_inside NullType t r) (subst (λ (c : Value). Of NullType c) (some_is Null v e) refl)
  evaluated_kept known c s (trees.Variable p n) t v k i r m e = named known c s n t v k i (ruled_node p (name_rule s (meant s n)) [] t r) e
  evaluated_kept known c s (trees.FieldAccess p x n) t v k i r m e =
      accessed known c s p n (judged (value s) x) t v k i.0 (class_meant table c x) (ap (λ (d : Option ℕ). type_in (field_of s p n d (judged (value s) x)).typed) (sym (class_same c s x i)) ∙ r) e
  evaluated_kept known c s (trees.Unary p o x) t v k i r m e = go (evaluated table known c x) e (λ u w q z. evaluated_kept known c (operand o s) x u w k (inside_operand c s o i) q m z)
    where
      go : (y : Option Value) → option_and_then (unary_value (constant_width table c x) o) y ≡ Some v → ((u : JavaType) (w : Value) → type_in (judged (operand o s) x).typed ≡ Some u → y ≡ Some w → Of u w) → Of t v
      go None e f = absurd (cc (e))
      go (Some w) e f =
          let a = ruled_part (unary_rule o) (judged (operand o s) x).typed t (ruled_node p (on_one (unary_rule o) (judged (operand o s) x).typed) (judged (operand o s) x).faults t r) in
          unary_kept (constant_width table c x) o a.0 t w v (λ u n. width_kept known c (operand o s) x u (inside_operand c s o i) (a.1 ∙ ap (λ (z : JavaType). Some z) n) m) a.2 (f a.0 w a.1 refl) e
  evaluated_kept known c s (trees.Binary p o x y) t v k i r m e =
      let a = ruled_both (operator_rule s o) (judged (value s) x).typed (judged (value s) y).typed t (ruled_node p (on_two (operator_rule s o) (judged (value s) x).typed (judged (value s) y).typed) ((judged (value s) x).faults ++ (judged (value s) y).faults) t r) in
      let both = and_parts (is_constant table known c x) (is_constant table known c y) m in
      binary_kept s (operator_width o (constant_width table c x) (constant_width table c y)) o a.0 a.1 t (evaluated table known c x) (evaluated table known c y) v a.4
      (λ h l p q. ap (λ (z : Width). operator_width o z (constant_width table c y)) (width_kept known c (value s) x h i (a.2 ∙ ap (λ (z : JavaType). Some z) p) both.0) ∙ ap (operator_width o h) (width_kept known c (value s) y l i (a.3 ∙ ap (λ (z : JavaType). Some z) q) both.1))
      (λ w q. evaluated_kept known c (value s) x a.0 w k i a.2 both.0 q) (λ w q. evaluated_kept known c (value s) y a.1 w k i a.3 both.1 q) e
  evaluated_kept known c s (trees.Conditional p x y z) t v k i r m e =
      let jx = judged (value s) x in
      let jy = judged (value s) y in
      let jz = judged (value s) z in
      let a = ruled_part (λ n. on_two (choice_rule s n) jy.typed jz.typed) jx.typed t (ruled_node p (on_one (λ n. on_two (choice_rule s n) jy.typed jz.typed) jx.typed) (jx.faults ++ jy.faults ++ jz.faults) t r) in
      let b = ruled_both (choice_rule s a.0) jy.typed jz.typed t a.2 in
      let last = and_parts (is_constant table known c x && is_constant table known c y) (is_constant table known c z) m in
      let first = and_parts (is_constant table known c x) (is_constant table known c y) last.0 in
      choice_kept s a.0 b.0 b.1 t (evaluated table known c x) (evaluated table known c y) (evaluated table known c z) v i.0 b.4 (λ w q. evaluated_kept known c (value s) y b.0 w k i b.2 first.1 q) (λ w q. evaluated_kept known c (value s) z b.1 w k i b.3 last.1 q) e
  evaluated_kept known c s (trees.Cast p w x) t v k i r m e = go (evaluated table known c x) e (λ y q. evaluated_kept known c (value s) x a.1 y k i a.3 both.1 q)
    where
      both : (is_primitive w ≡ true) × (is_constant table known c x ≡ true)
      both = and_parts (is_primitive w) (is_constant table known c x) m

      a : (to : JavaType) × (from : JavaType) × (type_in (judged s w).typed ≡ Some to) × (type_in (judged (value s) x).typed ≡ Some from) × Ruled (cast_rule s to from) t
      a = ruled_both (cast_rule s) (judged s w).typed (judged (value s) x).typed t (ruled_node p (on_two (cast_rule s) (judged s w).typed (judged (value s) x).typed) ((judged s w).faults ++ (judged (value s) x).faults) t r)

      go : (y : Option Value) → option_map (cast_value (number_width w)) y ≡ Some v → ((z : Value) → y ≡ Some z → Of a.1 z) → Of t v
      go None e f = absurd (cc (e))
      go (Some y) e f = subst (λ (z : Value). Of t z) (some_is (cast_value (number_width w) y) v e) (cast_kept s a.0 a.1 t (number_width w) y a.4 (cast_is s w a.0 both.0 a.2) (f y refl))
  evaluated_kept known c s _ t v k i r m e = absurd (cc (e))

  -- ---- one constant after another

  value_behind : (known more : List Known) (p : Place) → (r : Option Value) → value_at known p ≡ r → value_at (known ++ more) p ≡ (elim r as (λ z. Option Value) [ Some v ↦ Some v | None ↦ value_at more p ])
  value_behind [] more p r q = go r q
    where
      go : (r : Option Value) → None ≡ r → value_at more p ≡ (elim r as (λ z. Option Value) [ Some v ↦ Some v | None ↦ value_at more p ])
      go None q = refl
      go (Some v) q = absurd (cc (q))
  value_behind (x ∷ known) more p r q = go (is_at_place x.place p) q (value_behind known more p r)
    where
      go : (b : Bool) → (if b then Some x.value else value_at known p) ≡ r → (value_at known p ≡ r → value_at (known ++ more) p ≡ (elim r as (λ z. Option Value) [ Some v ↦ Some v | None ↦ value_at more p ])) → (if b then Some x.value else value_at (known ++ more) p) ≡ (elim r as (λ z. Option Value) [ Some v ↦ Some v | None ↦ value_at more p ])
      go false q f = f q
      go true q f = here r q
        where
          here : (r : Option Value) → Some x.value ≡ r → Some x.value ≡ (elim r as (λ z. Option Value) [ Some v ↦ Some v | None ↦ value_at more p ])
          here (Some v) q = q
          here None q = absurd (cc (q))

  -- the expression of a constant gives values of its type
  abbrev pub Gives : Field → Type 0
  Gives g = (known : List Known) (v : Value) → AreKnown known → is_constant table known g.class g.initial ≡ true → evaluated table known g.class g.initial ≡ Some v → Of g.type v

  -- a constant that replaces another is of its type
  abbrev pub IsAlone : Field → Type 0
  IsAlone g = (h : Field) → IsConstant h → is_at_place g.place h.place ≡ true → g.type ≡ h.type

  behind_known : (known : List Known) (g : Field) (v : Value) → AreKnown known → IsAlone g → Of g.type v → AreKnown (known ++ record { place = g.place; value = v } ∷ [])
  behind_known known g v k alone i h w c e = go (value_at known h.place) refl (sym (value_behind known (record { place = g.place; value = v } ∷ []) h.place (value_at known h.place) refl) ∙ e)
    where
      last : (b : Bool) → is_at_place g.place h.place ≡ b → (if b then Some v else None) ≡ Some w → Of h.type w
      last true q e = subst (λ (u : JavaType). Of u w) (alone h c q) (subst (λ (x : Value). Of g.type x) (some_is v w e) i)
      last false q e = absurd (cc (e))

      go : (r : Option Value) → value_at known h.place ≡ r → (elim r as (λ z. Option Value) [ Some x ↦ Some x | None ↦ value_at (record { place = g.place; value = v } ∷ []) h.place ]) ≡ Some w → Of h.type w
      go (Some x) q e = k h w c (q ∙ e)
      go None q e = last (is_at_place g.place h.place) refl e

  with_known : (known : List Known) (g : Field) → AreKnown known → IsAlone g → Gives g → AreKnown (with_constant table known g)
  with_known known g k alone f = go (is_constant table known g.class g.initial) refl
    where
      placed : is_constant table known g.class g.initial ≡ true → (r : Option Value) → evaluated table known g.class g.initial ≡ r → AreKnown (known ++ known_as g.place r)
      placed b None q = subst AreKnown (sym (Rattle.std.proofs.lemmas.List.append-nil known)) k
      placed b (Some v) q = behind_known known g v k alone (f known v k b q)

      go : (b : Bool) → is_constant table known g.class g.initial ≡ b → AreKnown (if b then known ++ known_as g.place (evaluated table known g.class g.initial) else known)
      go true q = placed q (evaluated table known g.class g.initial) refl
      go false q = k

  pub all_known : (known : List Known) (fs : List Field) → AreKnown known → AllOf IsAlone fs → AllOf Gives fs → AreKnown (fold (with_constant table) known fs)
  all_known known [] k a f = k
  all_known known (g ∷ fs) k a f = all_known (with_constant table known g) fs (with_known known g k a.0 f.0) a.1 f.1
