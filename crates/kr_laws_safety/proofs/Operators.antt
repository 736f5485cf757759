-- Operators on operands of the types that the typing rules require, and new arrays.
use Rattle.std.proofs.Common.{◌≡◌, ℕ, suc, ◌+◌, ◌-◌, ◌≤◌, ◌⊎◌, inl, inr, Bool, true, false, List, [], ◌∷◌, get_or, Option, Some, None, Result, Ok, Err, refl, sym, ap, ◌∙◌, arith, subst}
use Rattle.std.specs.Prelude.{ℤ, pos, negsuc, replicate, nat_lt, ◌&&◌, ◌||◌, if◌then◌else◌}
use Rattle.std.proofs.lemmas.Bool.{ltb-true, ltb-false, and_parts, or_cases}
use Rattle.std.proofs.lemmas.List.{length-replicate}
use Rattle.kr_ast.specs.declared.node.BinaryOperator.{BinaryOperator}
use Rattle.kr_ast.specs.declared.node.BinaryOperator.TheVariants.{Multiply, Divide, Remainder, Add, Subtract, ShiftLeft, ShiftRight, ShiftRightUnsigned, Less, Greater, LessOrEqual, GreaterOrEqual, Equal, NotEqual, BitAnd, BitXor, BitOr, And, Or}
use Rattle.kr_ast.specs.declared.node.UnaryOperator.{UnaryOperator}
use Rattle.kr_ast.specs.declared.node.UnaryOperator.TheVariants.{Plus, Minus, Complement, Not}
use Rattle.kr_value.specs.declared.value.Value.{Value}
use Rattle.kr_value.specs.declared.value.Value.TheVariants.{Int, Bool as Truth, Null, Ref as Reference}
use Rattle.kr_value.specs.declared.object.Class.TheVariants.{Array}
use Rattle.kr_value.specs.Heaps.{object_in}
use Rattle.kr_classes_table.specs.Types.{JavaType, NumberType, int_type, BooleanType, VoidType, ArrayType, is_same, is_reference, width_in}
use Rattle.kr_classes_table.specs.Table.{Table, is_assignable}
use Rattle.kr_classes_table.specs.declared.errors.OperatorError.TheVariants.{ZeroDivisor}
use Rattle.kr_classes_table.specs.Operators.{is_zero, operator_width}
use Rattle.kr_classes_table.specs.Numbers.{Width, Bits32, Bits64, wider, bits as number_bits, whole_of}
use Rattle.kr_classes_table.specs.Arrays.{array_number_from, array_number}
use Rattle.kr_types_meaning.specs.Scopes.{Scope}
use Rattle.kr_types_meaning.specs.Rules as rules
use Rattle.kr_types_meaning.specs.Promotion.{promoted, promoted_alone, is_number, are_numbers}
use Rattle.kr_types_meaning.specs.Rules.{Typed, Judgement, Fits, Breaks, ask, is_boolean, both_boolean, related_references, operator_rule, unary_rule, of_promoted, shift_rule, bit_rule}
use Rattle.kr_mean.specs.declared.kind.Stop.{Stop}
use Rattle.kr_mean.specs.declared.kind.Stop.TheVariants.{Trapped, OutOfFuel, Stuck}
use Rattle.kr_mean.specs.Program.{Program, default_of, is_array_of}
use Rattle.kr_mean.specs.Steps.{State, Run, say, stop}
use Rattle.kr_mean.specs.Operators.{said as ended, into, operated, operated_alone, binary_operation, compound_operation, unary_operation}
use Rattle.kr_mean.specs.Meaning.{make_array, create_array}
use Rattle.kr_mean.specs.declared.kind.Kind.TheVariants.{ArrayTooLong, NegativeArraySizeException}
use Rattle.kr_laws_safety.specs.Fits.{IsWithin, IsOf, IsHeapOf, type_at}
use Rattle.kr_laws_safety.specs.Triples.{Fixed, IsStateOf, Fine, Safe, Gives}
use Rattle.kr_laws_safety.specs.Steps.{is_junction}
use Rattle.kr_laws_types.specs.DerivedExpressions.{is_compound}
use Rattle.kr_laws_pruning.proofs.Spaces.{some_is}
use Rattle.kr_laws_safety.proofs.Promoted.{alone_is, numbers_are}
use Rattle.kr_laws_safety.proofs.Heaps.{value_more, extends_self, object_found, all_replicate, same_type}
use Rattle.kr_laws_safety.proofs.Vectors.{type_same}
use Rattle.kr_laws_safety.proofs.Steps.{IsObjectType, Assigned, object_type, type_known, no_number, fine_trap, safe_make, safe_map}

-- ---- numbers

pub whole_within : (w : Width) (n : ℕ) → IsWithin w (whole_of w n)
whole_within Bits32 n = go (nat_lt n 2147483648) refl
  where
    go : (b : Bool) → nat_lt n 2147483648 ≡ b → IsWithin Bits32 (if b then pos n else negsuc (4294967295 - n))
    go true e = ltb-true n 2147483648 e
    go false e = omega (arith, ltb-false n 2147483648 e)
whole_within Bits64 n = go (nat_lt n 9223372036854775808) refl
  where
    go : (b : Bool) → nat_lt n 9223372036854775808 ≡ b → IsWithin Bits64 (if b then pos n else negsuc (18446744073709551615 - n))
    go true e = ltb-true n 9223372036854775808 e
    go false e = omega (arith, ltb-false n 9223372036854775808 e)

-- the result of an operator: a value of a type that needs no object, or a trap
abbrev pub Good : JavaType → Result Value Stop → Type 0
Good t (Ok v) = (table : Table) (types : List JavaType) → IsOf table types t v
Good t (Err (Trapped k)) = Unit {0}
Good t (Err OutOfFuel) = ⊥
Good t (Err Stuck) = ⊥

whole_good : (width : Width) (n : ℕ) → Good (NumberType width) (Ok (Int (whole_of width n)))
whole_good width n table types = (width, refl, whole_within width n)

-- the type that an operator gives on numbers of a width
abbrev pub on_numbers : BinaryOperator → Width → Option JavaType
on_numbers Less w = Some BooleanType
on_numbers Greater w = Some BooleanType
on_numbers LessOrEqual w = Some BooleanType
on_numbers GreaterOrEqual w = Some BooleanType
on_numbers Equal w = Some BooleanType
on_numbers NotEqual w = Some BooleanType
on_numbers And w = None
on_numbers Or w = None
on_numbers o w = Some (NumberType w)

divided : (width : Width) (b : Bool) (n : ℕ) → Good (NumberType width) (ended (if b then Err ZeroDivisor else Ok (Int (whole_of width n))))
divided width true n = tt
divided width false n = whole_good width n

abbrev pub OnNumbers : Option JavaType → Result Value Stop → Type 0
OnNumbers None r = Unit {0}
OnNumbers (Some t) r = Good t r

pub numbers_good : (width : Width) (o : BinaryOperator) (x y : ℤ) → OnNumbers (on_numbers o width) (operated (binary_operation width o) (Int x) (Int y))
numbers_good width Divide x y = divided width (is_zero y) _
numbers_good width Remainder x y = divided width (is_zero y) _
numbers_good width Less x y = λ table types. refl
numbers_good width Greater x y = λ table types. refl
numbers_good width LessOrEqual x y = λ table types. refl
numbers_good width GreaterOrEqual x y = λ table types. refl
numbers_good width Equal x y = λ table types. refl
numbers_good width NotEqual x y = λ table types. refl
numbers_good width And x y = tt
numbers_good width Or x y = tt
numbers_good width _ x y = whole_good width _

-- ---- booleans

abbrev pub on_booleans : BinaryOperator → Bool
on_booleans Equal = true
on_booleans NotEqual = true
on_booleans BitAnd = true
on_booleans BitXor = true
on_booleans BitOr = true
on_booleans o = false

abbrev pub OnBooleans : Bool → Result Value Stop → Type 0
OnBooleans true r = Good BooleanType r
OnBooleans false r = Unit {0}

pub booleans_good : (width : Width) (o : BinaryOperator) (x y : Bool) → OnBooleans (on_booleans o) (operated (binary_operation width o) (Truth x) (Truth y))
booleans_good width Equal x y = λ table types. refl
booleans_good width NotEqual x y = λ table types. refl
booleans_good width BitAnd x y = λ table types. refl
booleans_good width BitXor x y = λ table types. refl
booleans_good width BitOr x y = λ table types. refl
booleans_good width _ x y = tt

-- ---- results that are converted

-- on numbers, an operator that assigns
pub converted_good : (to width : Width) (o : BinaryOperator) (x y : ℤ) → is_compound o ≡ true → Good (NumberType to) (operated (compound_operation to width o) (Int x) (Int y))
converted_good to width Divide x y c = go (is_zero y) _
  where
    go : (b : Bool) (z : ℤ) → Good (NumberType to) (ended (into (Some to) (if b then Err ZeroDivisor else Ok (Int z))))
    go true z = tt
    go false z = whole_good to (number_bits to z)
converted_good to width Remainder x y c = go (is_zero y) _
  where
    go : (b : Bool) (z : ℤ) → Good (NumberType to) (ended (into (Some to) (if b then Err ZeroDivisor else Ok (Int z))))
    go true z = tt
    go false z = whole_good to (number_bits to z)
converted_good to width Less x y c = absurd (cc (c))
converted_good to width Greater x y c = absurd (cc (c))
converted_good to width LessOrEqual x y c = absurd (cc (c))
converted_good to width GreaterOrEqual x y c = absurd (cc (c))
converted_good to width Equal x y c = absurd (cc (c))
converted_good to width NotEqual x y c = absurd (cc (c))
converted_good to width And x y c = absurd (cc (c))
converted_good to width Or x y c = absurd (cc (c))
converted_good to width _ x y c = whole_good to _

-- on booleans
pub booleans_converted : (to width : Width) (o : BinaryOperator) (x y : Bool) → on_booleans o ≡ true → is_compound o ≡ true → Good BooleanType (operated (compound_operation to width o) (Truth x) (Truth y))
booleans_converted to width BitAnd x y e c = λ table types. refl
booleans_converted to width BitXor x y e c = λ table types. refl
booleans_converted to width BitOr x y e c = λ table types. refl
booleans_converted to width Equal x y e c = absurd (cc (c))
booleans_converted to width NotEqual x y e c = absurd (cc (c))
booleans_converted to width _ x y e c = absurd (cc (e))

-- ---- requirements of the rules

pub ask_holds : (b : Bool) (r : ℕ) (v : Judgement) (t : Typed) → ask b r v ≡ Fits t → (b ≡ true) × (v ≡ Fits t)
ask_holds true r v t e = (refl, e)
ask_holds false r v t e = absurd (cc (e))

same_fits : (t u : JavaType) → Fits (rules.Value t) ≡ Fits (rules.Value u) → t ≡ u
same_fits t u e = ap type_in e
  where
    type_in : Judgement → JavaType
    type_in (Fits (rules.Value x)) = x
    type_in v = t

-- how an operator is used: on numbers, on booleans, or on references
pub data Use (o : BinaryOperator) (a b t : JavaType) : Type 0 where
  numbers : (v w : Width) → a ≡ NumberType v → b ≡ NumberType w → on_numbers o (operator_width o v w) ≡ Some t → Use o a b t
  booleans : a ≡ BooleanType → b ≡ BooleanType → on_booleans o ≡ true → t ≡ BooleanType → Use o a b t
  references : is_reference a ≡ true → is_reference b ≡ true → (o ≡ Equal) ⊎ (o ≡ NotEqual) → t ≡ BooleanType → Use o a b t

both_booleans : (a b : JavaType) → both_boolean a b ≡ true → (a ≡ BooleanType) × (b ≡ BooleanType)
both_booleans a b e = let r = and_parts (is_boolean a) (is_boolean b) e in (same_type a BooleanType r.0, same_type b BooleanType r.1)

-- of an operator that gives one type on all numbers
compared : (o : BinaryOperator) (a b t u : JavaType) (r : ℕ) → ((w : Width) → on_numbers o w ≡ Some u) → ask (are_numbers a b) r (Fits (rules.Value u)) ≡ Fits (rules.Value t) → Use o a b t
compared o a b t u r q e =
    let h = ask_holds (are_numbers a b) r (Fits (rules.Value u)) (rules.Value t) e in
    let x = numbers_are a b h.0 in
    numbers x.0 x.1 x.2 x.3 (q (operator_width o x.0 x.1) ∙ ap (λ (y : JavaType). Some y) (same_fits u t h.1))

-- of an operator that promotes both operands
promotes : (o : BinaryOperator) (a b t : JavaType) (r : ℕ) → ((v w : Width) → on_numbers o (operator_width o v w) ≡ Some (NumberType (wider v w))) → of_promoted (promoted a b) r ≡ Fits (rules.Value t) → Use o a b t
promotes o (NumberType v) (NumberType w) t r q e = numbers v w refl refl (q v w ∙ ap (λ (y : JavaType). Some y) (same_fits (NumberType (wider v w)) t e))
promotes o _ b t r q e = absurd (cc (e))

-- of a shift, which promotes each alone
shifted : (o : BinaryOperator) (a b t : JavaType) → ((v w : Width) → on_numbers o (operator_width o v w) ≡ Some (NumberType v)) → shift_rule a b ≡ Fits (rules.Value t) → Use o a b t
shifted o (NumberType v) b t q e =
    let h = ask_holds (is_number b) 8 (Fits (rules.Value (NumberType v))) (rules.Value t) e in
    let x = alone_is b h.0 in
    numbers v x.0 refl x.1 (q v x.0 ∙ ap (λ (y : JavaType). Some y) (same_fits (NumberType v) t h.1))
shifted o _ b t q e = absurd (cc ((ask_holds (is_number b) 8 (Breaks 8) (rules.Value t) e).1))

-- of one operand
alone_fits : (a t : JavaType) (r : ℕ) → of_promoted (promoted_alone a) r ≡ Fits (rules.Value t) → (w : Width) × (a ≡ NumberType w) × (NumberType w ≡ t)
alone_fits (NumberType w) t r e = (w, refl, same_fits (NumberType w) t e)
alone_fits _ t r e = absurd (cc (e))

-- of a bit operator
bits : (o : BinaryOperator) (a b t : JavaType) → ((v w : Width) → on_numbers o (operator_width o v w) ≡ Some (NumberType (wider v w))) → on_booleans o ≡ true → bit_rule a b ≡ Fits (rules.Value t) → Use o a b t
bits o a b t q p e = go (both_boolean a b) refl e
  where
    go : (n : Bool) → both_boolean a b ≡ n → (if n then Fits (rules.Value BooleanType) else of_promoted (promoted a b) 11) ≡ Fits (rules.Value t) → Use o a b t
    go true i f = let x = both_booleans a b i in booleans x.0 x.1 p (sym (same_fits BooleanType t f))
    go false i f = promotes o a b t 11 q f

-- of `==` and `!=`
equals : (s : Scope) (o : BinaryOperator) (a b t : JavaType) → ((w : Width) → on_numbers o w ≡ Some BooleanType) → on_booleans o ≡ true → (o ≡ Equal) ⊎ (o ≡ NotEqual) → ask (are_numbers a b || both_boolean a b || related_references s a b) 10 (Fits (rules.Value BooleanType)) ≡ Fits (rules.Value t) → Use o a b t
equals s o a b t q p k e =
    let h = ask_holds (are_numbers a b || both_boolean a b || related_references s a b) 10 (Fits (rules.Value BooleanType)) (rules.Value t) e in
    go (same_fits BooleanType t h.1) (or_cases (are_numbers a b || both_boolean a b) (related_references s a b) h.0)
  where
    plain : BooleanType ≡ t → (are_numbers a b ≡ true) ⊎ (both_boolean a b ≡ true) → Use o a b t
    plain f (inl i) = let x = numbers_are a b i in numbers x.0 x.1 x.2 x.3 (q (operator_width o x.0 x.1) ∙ ap (λ (y : JavaType). Some y) f)
    plain f (inr i) = let x = both_booleans a b i in booleans x.0 x.1 p (sym f)

    go : BooleanType ≡ t → ((are_numbers a b || both_boolean a b) ≡ true) ⊎ (related_references s a b ≡ true) → Use o a b t
    go f (inl i) = plain f (or_cases (are_numbers a b) (both_boolean a b) i)
    go f (inr i) =
        let x = and_parts (is_reference a && is_reference b) (Rattle.kr_classes_table.specs.Table.are_related s.table a b) i in
        let y = and_parts (is_reference a) (is_reference b) x.0 in
        references y.0 y.1 k (sym f)

pub used : (s : Scope) (o : BinaryOperator) (a b t : JavaType) → is_junction o ≡ false → operator_rule s o a b ≡ Fits (rules.Value t) → Use o a b t
used s Multiply a b t j e = promotes Multiply a b t 7 (λ v w. refl) e
used s Divide a b t j e = promotes Divide a b t 7 (λ v w. refl) e
used s Remainder a b t j e = promotes Remainder a b t 7 (λ v w. refl) e
used s Add a b t j e = promotes Add a b t 7 (λ v w. refl) e
used s Subtract a b t j e = promotes Subtract a b t 7 (λ v w. refl) e
used s ShiftLeft a b t j e = shifted ShiftLeft a b t (λ v w. refl) e
used s ShiftRight a b t j e = shifted ShiftRight a b t (λ v w. refl) e
used s ShiftRightUnsigned a b t j e = shifted ShiftRightUnsigned a b t (λ v w. refl) e
used s Less a b t j e = compared Less a b t BooleanType 9 (λ w. refl) e
used s Greater a b t j e = compared Greater a b t BooleanType 9 (λ w. refl) e
used s LessOrEqual a b t j e = compared LessOrEqual a b t BooleanType 9 (λ w. refl) e
used s GreaterOrEqual a b t j e = compared GreaterOrEqual a b t BooleanType 9 (λ w. refl) e
used s Equal a b t j e = equals s Equal a b t (λ w. refl) refl (inl refl) e
used s NotEqual a b t j e = equals s NotEqual a b t (λ w. refl) refl (inr refl) e
used s BitAnd a b t j e = bits BitAnd a b t (λ v w. refl) refl e
used s BitXor a b t j e = bits BitXor a b t (λ v w. refl) refl e
used s BitOr a b t j e = bits BitOr a b t (λ v w. refl) refl e
used s And a b t j e = absurd (cc (j))
used s Or a b t j e = absurd (cc (j))

-- ---- the operators themselves

module _ (program : Program) (fixed : Fixed) where
  -- an object is no boolean
  pub no_boolean : (types : List JavaType) (s : State) (o : ℕ) → IsHeapOf program types s.heap → IsOf program.table types BooleanType (Reference o) → ⊥
  no_boolean types s o h i = go (type_at types o) (type_known program fixed types s o BooleanType h i) (object_type program types (type_at types o) (object_in s.heap o) (object_found program types types s.heap o h i.0))
    where
      go : (u : JavaType) → Assigned program.table u BooleanType → IsObjectType u → ⊥
      go u (inl e) k = subst IsObjectType e k
      go u (inr r) k = absurd (cc (r.3))

  pub number_known : (types : List JavaType) (s : State) (u : Width) (v : Value) → IsHeapOf program types s.heap → IsOf program.table types (NumberType u) v → (z : ℤ) × (v ≡ Int z)
  number_known types s u (Int z) h i = (z, refl)
  number_known types s u (Truth b) h i = absurd (cc (i))
  number_known types s u Null h i = absurd (cc (i))
  number_known types s u (Reference o) h i = absurd (no_number program fixed types s u o h i)

  pub boolean_known : (types : List JavaType) (s : State) (v : Value) → IsHeapOf program types s.heap → IsOf program.table types BooleanType v → (b : Bool) × (v ≡ Truth b)
  boolean_known types s (Truth b) h i = (b, refl)
  boolean_known types s (Int z) h i = absurd (cc (i.1))
  boolean_known types s Null h i = absurd (cc (i))
  boolean_known types s (Reference o) h i = absurd (no_boolean types s o h i)

  abbrev pub IsReferenceValue : Value → Type 0
  IsReferenceValue v = (v ≡ Null) ⊎ ((o : ℕ) × (v ≡ Reference o))

  pub reference_known : (types : List JavaType) (t : JavaType) (v : Value) → is_reference t ≡ true → IsOf program.table types t v → IsReferenceValue v
  reference_known types t Null r i = inl refl
  reference_known types t (Reference o) r i = inr (o, refl)
  reference_known types t (Int z) r i = absurd (cc (r, ap is_reference i.1))
  reference_known types t (Truth b) r i = absurd (cc (r, ap is_reference i))

  -- a good result is a value
  pub said : (types : List JavaType) (this : Option ℕ) (ls : List JavaType) (t : JavaType) (r : Result Value Stop) (s : State) → IsStateOf program fixed types this ls s → Good t r → Fine program fixed types this ls (Gives program ls t) r s
  said types this ls t (Ok v) s h g = (types, ls, extends_self types, h, (refl, g program.table types), extends_self ls)
  said types this ls t (Err (Trapped k)) s h g = fine_trap program fixed types this ls k s h
  said types this ls t (Err OutOfFuel) s h g = absurd g
  said types this ls t (Err Stuck) s h g = absurd g

  pub references_good : (width : Width) (o : BinaryOperator) (v w : Value) → (o ≡ Equal) ⊎ (o ≡ NotEqual) → IsReferenceValue v → IsReferenceValue w → Good BooleanType (operated (binary_operation width o) v w)
  references_good width o v w k (inl e) (inl f) = rw (e, f) (null_null o k)
    where
      null_null : (o : BinaryOperator) → (o ≡ Equal) ⊎ (o ≡ NotEqual) → Good BooleanType (operated (binary_operation width o) Null Null)
      null_null o (inl q) = rw q (λ table types. refl)
      null_null o (inr q) = rw q (λ table types. refl)
  references_good width o v w k (inl e) (inr f) = rw (e, f.1) (null_object o f.0 k)
    where
      null_object : (o : BinaryOperator) (p : ℕ) → (o ≡ Equal) ⊎ (o ≡ NotEqual) → Good BooleanType (operated (binary_operation width o) Null (Reference p))
      null_object o p (inl q) = rw q (λ table types. refl)
      null_object o p (inr q) = rw q (λ table types. refl)
  references_good width o v w k (inr e) (inl f) = rw (e.1, f) (object_null o e.0 k)
    where
      object_null : (o : BinaryOperator) (p : ℕ) → (o ≡ Equal) ⊎ (o ≡ NotEqual) → Good BooleanType (operated (binary_operation width o) (Reference p) Null)
      object_null o p (inl q) = rw q (λ table types. refl)
      object_null o p (inr q) = rw q (λ table types. refl)
  references_good width o v w k (inr e) (inr f) = rw (e.1, f.1) (two_objects o e.0 f.0 k)
    where
      two_objects : (o : BinaryOperator) (p q : ℕ) → (o ≡ Equal) ⊎ (o ≡ NotEqual) → Good BooleanType (operated (binary_operation width o) (Reference p) (Reference q))
      two_objects o p q (inl r) = rw r (λ table types. refl)
      two_objects o p q (inr r) = rw r (λ table types. refl)

  -- the type of an operator's numbers is its operands'
  width_used : (o : BinaryOperator) (width v w : Width) (a b : JavaType) → width ≡ operator_width o (width_in a) (width_in b) → a ≡ NumberType v → b ≡ NumberType w → width ≡ operator_width o v w
  width_used o width v w a b e p q = e ∙ (ap (λ (x : JavaType). operator_width o (width_in x) (width_in b)) p ∙ ap (λ (x : JavaType). operator_width o v (width_in x)) q)

  pub safe_operated : (types : List JavaType) (this : Option ℕ) (ls : List JavaType) (s : Scope) (width : Width) (o : BinaryOperator) (a b t : JavaType) (v w : Value) → is_junction o ≡ false → operator_rule s o a b ≡ Fits (rules.Value t) → width ≡ operator_width o (width_in a) (width_in b)
      → IsOf program.table types a v → IsOf program.table types b w → Safe program fixed types this ls (say (operated (binary_operation width o) v w)) (Gives program ls t)
  safe_operated types this ls s width o a b t v w j e d i k = record { by = λ state h. said types this ls t (operated (binary_operation width o) v w) state h (go state h (used s o a b t j e)) }
    where
      go : (state : State) → IsStateOf program fixed types this ls state → Use o a b t → Good t (operated (binary_operation width o) v w)
      go state h (numbers m n p q r) =
          let x = number_known types state m v h.heap (subst (λ (y : JavaType). IsOf program.table types y v) p i) in
          let z = number_known types state n w h.heap (subst (λ (y : JavaType). IsOf program.table types y w) q k) in
          let gives : on_numbers o width ≡ Some t = ap (on_numbers o) (width_used o width m n a b d p q) ∙ r in
          rw (x.1, z.1) (subst (λ (y : Option JavaType). OnNumbers y (operated (binary_operation width o) (Int x.0) (Int z.0))) gives (numbers_good width o x.0 z.0))
      go state h (booleans p q r f) =
          let x = boolean_known types state v h.heap (subst (λ (y : JavaType). IsOf program.table types y v) p i) in
          let z = boolean_known types state w h.heap (subst (λ (y : JavaType). IsOf program.table types y w) q k) in
          rw (x.1, z.1, f) (subst (λ (y : Bool). OnBooleans y (operated (binary_operation width o) (Truth x.0) (Truth z.0))) r (booleans_good width o x.0 z.0))
      go state h (references p q r f) = rw f (references_good width o v w r (reference_known types a v p i) (reference_known types b w q k))

  -- of a compound assignment, whose numbers are converted to the type of the target
  pub safe_compound : (types : List JavaType) (this : Option ℕ) (ls : List JavaType) (to width : Width) (o : BinaryOperator) (a b t : JavaType) (v w : Value) → is_compound o ≡ true → Use o a b t → to ≡ width_in a
      → IsOf program.table types a v → IsOf program.table types b w → Safe program fixed types this ls (say (operated (compound_operation to width o) v w)) (Gives program ls a)
  safe_compound types this ls to width o a b t v w c used d i k = record { by = λ state h. said types this ls a (operated (compound_operation to width o) v w) state h (go state h used) }
    where
      go : (state : State) → IsStateOf program fixed types this ls state → Use o a b t → Good a (operated (compound_operation to width o) v w)
      go state h (numbers m n p q r) =
          let x = number_known types state m v h.heap (subst (λ (y : JavaType). IsOf program.table types y v) p i) in
          let z = number_known types state n w h.heap (subst (λ (y : JavaType). IsOf program.table types y w) q k) in
          let same : NumberType to ≡ a = ap NumberType (d ∙ ap width_in p) ∙ sym p in
          rw (x.1, z.1) (subst (λ (y : JavaType). Good y (operated (compound_operation to width o) (Int x.0) (Int z.0))) same (converted_good to width o x.0 z.0 c))
      go state h (booleans p q r f) =
          let x = boolean_known types state v h.heap (subst (λ (y : JavaType). IsOf program.table types y v) p i) in
          let z = boolean_known types state w h.heap (subst (λ (y : JavaType). IsOf program.table types y w) q k) in
          rw (x.1, z.1) (subst (λ (y : JavaType). Good y (operated (compound_operation to width o) (Truth x.0) (Truth z.0))) (sym p) (booleans_converted to width o x.0 z.0 r c))
      go state h (references p q (inl r) f) = absurd (cc (ap is_compound r, c))
      go state h (references p q (inr r) f) = absurd (cc (ap is_compound r, c))

  -- one operand
  pub safe_operated_alone : (types : List JavaType) (this : Option ℕ) (ls : List JavaType) (width : Width) (o : UnaryOperator) (a t : JavaType) (v : Value) → unary_rule o a ≡ Fits (rules.Value t) → width ≡ width_in a → IsOf program.table types a v → Safe program fixed types this ls (say (operated_alone (unary_operation width o) v)) (Gives program ls t)
  safe_operated_alone types this ls width o a t v e d i = record { by = λ state h. said types this ls t (operated_alone (unary_operation width o) v) state h (go o state h e) }
    where
      number : (state : State) → IsStateOf program fixed types this ls state → of_promoted (promoted_alone a) 14 ≡ Fits (rules.Value t) → ((z : ℤ) × (v ≡ Int z)) × (NumberType width ≡ t)
      number state h e =
          let r = alone_fits a t 14 e in
          (number_known types state r.0 v h.heap (subst (λ (y : JavaType). IsOf program.table types y v) r.1 i), ap NumberType (d ∙ ap width_in r.1) ∙ r.2)

      go : (o : UnaryOperator) (state : State) → IsStateOf program fixed types this ls state → unary_rule o a ≡ Fits (rules.Value t) → Good t (operated_alone (unary_operation width o) v)
      go Plus state h e = let r = number state h e in subst (λ (y : JavaType). Good y (operated_alone (unary_operation width Plus) v)) r.1 (rw r.0.1 (whole_good width _))
      go Minus state h e = let r = number state h e in subst (λ (y : JavaType). Good y (operated_alone (unary_operation width Minus) v)) r.1 (rw r.0.1 (whole_good width _))
      go Complement state h e = let r = number state h e in subst (λ (y : JavaType). Good y (operated_alone (unary_operation width Complement) v)) r.1 (rw r.0.1 (whole_good width _))
      go Not state h e =
          let r = ask_holds (is_boolean a) 13 (Fits (rules.Value BooleanType)) (rules.Value t) e in
          let x = boolean_known types state v h.heap (subst (λ (y : JavaType). IsOf program.table types y v) (same_type a BooleanType r.0) i) in
          subst (λ (y : JavaType). Good y (operated_alone (unary_operation width Not) v)) (same_fits BooleanType t r.1) (rw x.1 (λ table types. refl))

  -- a number of any width is cast to one
  pub safe_number_cast : (types : List JavaType) (this : Option ℕ) (ls : List JavaType) (width from : Width) (v : Value) → IsOf program.table types (NumberType from) v → Safe program fixed types this ls (say (operated_alone (unary_operation width Plus) v)) (Gives program ls (NumberType width))
  safe_number_cast types this ls width from v i =
      record { by = λ state h. let x = number_known types state from v h.heap i in said types this ls (NumberType width) (operated_alone (unary_operation width Plus) v) state h (rw x.1 (whole_good width _)) }

  -- ---- new arrays

  numbered : (k : ℕ) (us : List JavaType) (t : JavaType) (n : ℕ) → array_number_from k us t ≡ Some n → (i : ℕ) × (n ≡ k + i) × (get_or us i VoidType ≡ t)
  numbered k [] t n e = absurd (cc (e))
  numbered k (u ∷ us) t n e = go (is_same t u) refl (numbered (k + 1) us t n) e
    where
      go : (b : Bool) → is_same t u ≡ b → (array_number_from (k + 1) us t ≡ Some n → (i : ℕ) × (n ≡ k + 1 + i) × (get_or us i VoidType ≡ t)) → (if b then Some k else array_number_from (k + 1) us t) ≡ Some n → (i : ℕ) × (n ≡ k + i) × (get_or (u ∷ us) i VoidType ≡ t)
      go true q f g = let x : k ≡ n = some_is k n g in (0, omega (arith, x), sym (same_type t u q))
      go false q f g = let r = f g in (suc r.0, omega (arith, r.1), r.2)

  is_numbered : (t : JavaType) (k : ℕ) → array_number program.arrays (ArrayType t) ≡ Some k → is_array_of program t (Array k) ≡ true
  is_numbered t k e =
      let r = numbered 0 program.arrays (ArrayType t) k e in
      let q : k ≡ r.0 = omega (arith, r.1) in
      ap (λ (x : ℕ). is_same (get_or program.arrays x VoidType) (ArrayType t)) q ∙ (ap (λ (u : JavaType). is_same u (ArrayType t)) r.2 ∙ type_same t)

  -- elements of a type that have a default, of which there is an array type
  pub safe_create_array : (types : List JavaType) (this : Option ℕ) (ls : List JavaType) (t : JavaType) (k : ℕ) (v : Value) → array_number program.arrays (ArrayType t) ≡ Some k → IsOf program.table [] t (default_of t) → IsOf program.table types int_type v
      → Safe program fixed types this ls (create_array program t v) (Gives program ls (ArrayType t))
  safe_create_array types this ls t k v e d i = record { by = λ s h. go s h (number_known types s Bits32 v h.heap i) }
    where
      Made : Run Value → State → Type 0
      Made m s = Fine program fixed types this ls (Gives program ls (ArrayType t)) (m s).said (m s).after

      made : (n : ℕ) → n ≤ 64 → Safe program fixed types this ls (make_array t n (Some k)) (Gives program ls (ArrayType t))
      made n small =
          safe_map program fixed types this ls (make_array t n (Some k)) _ _
          (safe_make program fixed types this ls (ArrayType t) (Array k) (replicate n (default_of t)) (is_numbered t k e, all_replicate program.table types t n (default_of t) (value_more program.table [] types t (default_of t) (types, refl) d), omega (arith, small, length-replicate n (default_of t))))
          (λ more ms x h. (h.0, subst (λ (y : Value). IsOf program.table more (ArrayType t) y) (sym h.2) (h.3, ap (λ (u : JavaType). is_assignable program.table u (ArrayType t)) h.4 ∙ type_same t)))

      sized : (s : State) → IsStateOf program fixed types this ls s → (n : ℕ) (b : Bool) → nat_lt 64 n ≡ b → Made (if b then stop (Trapped ArrayTooLong) else make_array t n (array_number program.arrays (ArrayType t))) s
      sized s h n true q = fine_trap program fixed types this ls ArrayTooLong s h
      sized s h n false q = subst (λ (x : Option ℕ). Made (make_array t n x) s) (sym e) ((made n (ltb-false 64 n q)).by s h)

      go : (s : State) → IsStateOf program fixed types this ls s → (z : ℤ) × (v ≡ Int z) → Made (create_array program t v) s
      go s h r = subst (λ (x : Value). Made (create_array program t x) s) (sym r.1) (of r.0)
        where
          of : (z : ℤ) → Made (create_array program t (Int z)) s
          of (pos n) = sized s h n (nat_lt 64 n) refl
          of (negsuc n) = fine_trap program fixed types this ls NegativeArraySizeException s h
