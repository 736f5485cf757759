-- Assignments, compound assignments, `++` and `--`.
use Rattle.std.proofs.Common.{◌≡◌, ℕ, inl, inr, Bool, true, false, List, [], ◌++◌, Option, Some, None, refl, sym, ap, ◌∙◌, arith, subst}
use Rattle.std.specs.Prelude.{pos, not, bytes_eq, codes, if◌then◌else◌, option_and_then}
use Rattle.kr_base.specs.declared.place.Place.{Place}
use Rattle.kr_ast.specs.declared.node.BinaryOperator.{BinaryOperator}
use Rattle.kr_ast.specs.declared.node.BinaryOperator.TheVariants as operators
use Rattle.kr_ast.specs.declared.node.StepOperator.{StepOperator}
use Rattle.kr_ast.specs.declared.node.StepOperator.TheVariants as steps
use Rattle.kr_ast.specs.Tree as trees
use Rattle.kr_ast.specs.Tree.{Tree}
use Rattle.kr_value.specs.declared.value.Value.{Value}
use Rattle.kr_value.specs.declared.value.Value.TheVariants.{Int}
use Rattle.kr_classes_table.specs.Numbers.{Width, Bits32, Bits64, wider}
use Rattle.kr_classes_table.specs.Operators.{operator_width}
use Rattle.kr_classes_table.specs.Types.{BooleanType, JavaType, NumberType, int_type, ClassType, ArrayType, is_void, is_known, width_in}
use Rattle.kr_classes_table.specs.Table.{Field, field_named, is_below, is_assignable}
use Rattle.kr_classes_table.specs.Constants.{field_meant}
use Rattle.kr_types_meaning.specs.Scopes.{Scope, Meant, LocalName, FieldName, NoName, value, meant, class_before}
use Rattle.kr_types_meaning.specs.Rules as rules
use Rattle.kr_types_meaning.specs.Promotion.{promoted, promoted_alone, is_number}
use Rattle.kr_types_meaning.specs.Rules.{Typed, Untyped, Judgement, Fits, ask, gives, both_boolean, is_variable, is_broken, name_rule, operator_rule, assignment_rule, compound_rule, step_rule, written_rule, access_rule, constant_rule, element_rule, of_promoted, shift_rule, bit_rule}
use Rattle.kr_types_meaning.specs.Typing.{judge, on_one, on_two, field_of, judged, type_in, type_of}
use Rattle.kr_mean.specs.Program.{Program}
use Rattle.kr_mean.specs.Steps.{Run, say, get_this, read_local, assign, load_field, element, store, store_element}
use Rattle.kr_mean.specs.Operators.{operated, binary_operation, compound_operation, step_operation, step_operator, gives_old}
use Rattle.kr_mean.specs.Meaning.{Parts, Target, LocalTarget, OwnField, FieldOf, ElementOf, NoTarget, name_target, field_target, element_target, field_of_type, typed_field, target_of, assigned, changed, Change, change_to, change_from, compound, stepped, type_width, width_at, width_of}
use Rattle.kr_laws_safety.specs.Fits.{IsWithin, IsOf}
use Rattle.kr_laws_safety.specs.Triples.{Fixed, Safe, Gives, Keeps, type_of_local}
use Rattle.kr_laws_safety.specs.Steps.{is_junction, HasField}
use Rattle.kr_laws_safety.proofs.Heaps.{value_more}
use Rattle.kr_laws_safety.proofs.Steps.{safe_give, safe_map, safe_local, safe_assign, safe_load_field, safe_element, safe_store, safe_store_element}
use Rattle.kr_laws_safety.proofs.Operators.{Use, numbers, booleans, references, used as used_by, safe_operated, safe_compound}
use Rattle.kr_laws_types.specs.Types.{is_value_type, is_variable_type}
use Rattle.kr_laws_types.specs.Shapes.{Expression}
use Rattle.kr_laws_types.specs.DerivedExpressions.{is_compound}
use Rattle.kr_laws_types.specs.Expressions.{plain, is_place}
use Rattle.kr_laws_safety.specs.Typed.{IsTypedProgram}
use Rattle.kr_laws_safety.specs.Claims.{this_of, types_of, is_target, IsScope, Coded, PartsSafe}
use Rattle.kr_laws_safety.proofs.Targets.{not_true, variable_target, variable_not_void}
use Rattle.kr_laws_safety.proofs.Promoted.{alone_is}
use Rattle.kr_laws_safety.proofs.Glue.{Ruled, ruled, ruled_one, ruled_two, ruled_ask, ruled_value, ruled_variable, ruled_varies, on_type, int_is, safe_next, safe_keep, safe_as, settled, typed_at}
use Rattle.kr_laws_safety.proofs.Scoping.{IsMeant, meant_is, field_found, type_plain}
use Rattle.kr_laws_safety.proofs.Operands.{Goal, part_as, safe_here, field_ruled}
use Rattle.kr_laws_types.proofs.Typed.{front_none, back_none, below_none}

-- ---- operators that take what they are assigned to

-- a rule that isn't broken gives a type
numbers_kept : (a b : JavaType) (r : ℕ) → not (is_broken (of_promoted (promoted a b) r)) ≡ true → (t : JavaType) × (of_promoted (promoted a b) r ≡ Fits (rules.Value t))
numbers_kept a b r e = go (promoted a b) e
  where
    go : (o : Option JavaType) → not (is_broken (of_promoted o r)) ≡ true → (t : JavaType) × (of_promoted o r ≡ Fits (rules.Value t))
    go (Some t) e = (t, refl)
    go None e = absurd (cc (e))

shift_kept : (a b : JavaType) → not (is_broken (shift_rule a b)) ≡ true → (t : JavaType) × (shift_rule a b ≡ Fits (rules.Value t))
shift_kept a b e = go (is_number b) (promoted_alone a) e
  where
    go : (n : Bool) (o : Option JavaType) → not (is_broken (ask n 8 (of_promoted o 8))) ≡ true → (t : JavaType) × (ask n 8 (of_promoted o 8) ≡ Fits (rules.Value t))
    go true (Some t) e = (t, refl)
    go true None e = absurd (cc (e))
    go false o e = absurd (cc (e))

bits_kept : (a b : JavaType) → not (is_broken (bit_rule a b)) ≡ true → (t : JavaType) × (bit_rule a b ≡ Fits (rules.Value t))
bits_kept a b e = go (both_boolean a b) (promoted a b) e
  where
    go : (n : Bool) (o : Option JavaType) → not (is_broken (if n then Fits (rules.Value BooleanType) else of_promoted o 11)) ≡ true
        → (t : JavaType) × ((if n then Fits (rules.Value BooleanType) else of_promoted o 11) ≡ Fits (rules.Value t))
    go true o e = (BooleanType, refl)
    go false (Some t) e = (t, refl)
    go false None e = absurd (cc (e))

compound_gives : (s : Scope) (o : BinaryOperator) (a b : JavaType) → is_compound o ≡ true → not (is_broken (operator_rule s o a b)) ≡ true → (t : JavaType) × (operator_rule s o a b ≡ Fits (rules.Value t))
compound_gives s operators.Multiply a b c e = numbers_kept a b 7 e
compound_gives s operators.Divide a b c e = numbers_kept a b 7 e
compound_gives s operators.Remainder a b c e = numbers_kept a b 7 e
compound_gives s operators.Add a b c e = numbers_kept a b 7 e
compound_gives s operators.Subtract a b c e = numbers_kept a b 7 e
compound_gives s operators.ShiftLeft a b c e = shift_kept a b e
compound_gives s operators.ShiftRight a b c e = shift_kept a b e
compound_gives s operators.ShiftRightUnsigned a b c e = shift_kept a b e
compound_gives s operators.BitAnd a b c e = bits_kept a b e
compound_gives s operators.BitXor a b c e = bits_kept a b e
compound_gives s operators.BitOr a b c e = bits_kept a b e
compound_gives s _ a b c e = absurd (cc (c))

compound_plain : (o : BinaryOperator) → is_compound o ≡ true → is_junction o ≡ false
compound_plain operators.And c = absurd (cc (c))
compound_plain operators.Or c = absurd (cc (c))
compound_plain _ c = refl

-- the right operand is one that values are used as
compound_operand : (o : BinaryOperator) (a b t : JavaType) → is_compound o ≡ true → Use o a b t → (is_target b ≡ true) × (is_void b ≡ false)
compound_operand o a b t c (numbers v w x y z) = (ap is_target y, ap is_void y)
compound_operand o a b t c (booleans x y z w) = (ap is_target y, ap is_void y)
compound_operand o a b t c (references x y (inl z) w) = absurd (cc (ap is_compound z, c))
compound_operand o a b t c (references x y (inr z) w) = absurd (cc (ap is_compound z, c))

-- one is an int
wider_one : (w : Width) → wider w Bits32 ≡ w
wider_one Bits32 = refl
wider_one Bits64 = refl

-- `++` and `--` are sums and differences
step_plain : (o : StepOperator) → is_junction (step_operator o) ≡ false
step_plain steps.IncrementBefore = refl
step_plain steps.IncrementBehind = refl
step_plain steps.DecrementBefore = refl
step_plain steps.DecrementBehind = refl

step_gives : (s : Scope) (o : StepOperator) (w : Width) → operator_rule s (step_operator o) (NumberType w) int_type ≡ Fits (rules.Value (NumberType w))
step_gives s steps.IncrementBefore w = ap (λ (v : Width). Fits (rules.Value (NumberType v))) (wider_one w)
step_gives s steps.IncrementBehind w = ap (λ (v : Width). Fits (rules.Value (NumberType v))) (wider_one w)
step_gives s steps.DecrementBefore w = ap (λ (v : Width). Fits (rules.Value (NumberType v))) (wider_one w)
step_gives s steps.DecrementBehind w = ap (λ (v : Width). Fits (rules.Value (NumberType v))) (wider_one w)

-- they work at the width of the variable
step_wide : (o : StepOperator) (w : Width) → w ≡ operator_width (step_operator o) w Bits32
step_wide steps.IncrementBefore w = sym (wider_one w)
step_wide steps.IncrementBehind w = sym (wider_one w)
step_wide steps.DecrementBefore w = sym (wider_one w)
step_wide steps.DecrementBehind w = sym (wider_one w)

module _ (program : Program) (fixed : Fixed) (facts : IsTypedProgram program) (p : Parts) (q : PartsSafe program fixed p) where
  -- ---- targets

  -- a part of a target without broken nodes
  record Part (s : Scope) (e : Tree) (t : JavaType) : Type 0 where
    coded : Coded program fixed (Expression false) s e
    unbroken : (judged (value s) e).faults ≡ []
    typed : type_in (judged (value s) e).typed ≡ Some t

  data Writes (s : Scope) (t : JavaType) : Target → Type 0 where
    local : (k : ℕ) → type_of_local (types_of s.locals) k ≡ Some t → Writes s t (LocalTarget k)
    own : (f : Field) → s.is_static ≡ false → HasField program s.class f.name f.type → is_below program.table s.class f.class ≡ true → f.type ≡ t → Writes s t (OwnField f)
    other : (e : Tree) (f : Field) (c : ℕ) → Part s e (ClassType c) → HasField program c f.name f.type → is_below program.table c f.class ≡ true → f.type ≡ t → Writes s t (FieldOf e f)
    at : (b i : Tree) → Part s b (ArrayType t) → Part s i int_type → is_variable_type t ≡ true → Writes s t (ElementOf b i t)

  not_given : (pl : Place) (t : JavaType) → is_variable (judge pl (gives t) []).typed ≡ true → ⊥
  not_given pl t e = go (is_known t) e
    where
      go : (b : Bool) → is_variable (if b then rules.Value t else Untyped) ≡ true → ⊥
      go true e = cc (e)
      go false e = cc (e)

  name_writes : (s : Scope) (pl : Place) (n : List ℕ) (t : JavaType) (m : Meant) → IsMeant s.locals (field_meant program.table s.class n) m → Ruled (name_rule (settled program fixed s) m) t → is_variable (judge pl (name_rule (settled program fixed s) m) []).typed ≡ true → Writes (settled program fixed s) t (name_target m)
  name_writes s pl n t (LocalName k u) h r v = local k (h ∙ ap (λ (x : JavaType). Some x) (ruled_varies u t r))
  name_writes s pl n t (FieldName f) h r v = go f.is_static refl r v
    where
      go : (b : Bool) → f.is_static ≡ b → Ruled (if b then gives f.type else ask (not s.is_static) 5 (Fits (rules.variable_of f.type))) t → is_variable (judge pl (if b then gives f.type else ask (not s.is_static) 5 (Fits (rules.variable_of f.type))) []).typed ≡ true → Writes (settled program fixed s) t (if b then NoTarget else OwnField f)
      go true b r v = absurd (not_given pl f.type v)
      go false b r v =
          let d = field_found program.table s.class n f h in
          let x = facts.fields d.0 n f d.1 in
          let asked = ruled_ask (not s.is_static) 5 (Fits (rules.variable_of f.type)) t r in
          own f (not_true s.is_static asked.0) (subst (λ (c : ℕ). HasField program c f.name f.type) (d.2 b) (x.instance b)) (subst (λ (c : ℕ). is_below program.table c f.class ≡ true) (d.2 b) x.below) (ruled_varies f.type t asked.1)
  name_writes s pl n t NoName h r v = absurd (cc (r.1))

  field_writes : (s : Scope) (pl : Place) (e : Tree) (n : List ℕ) (t : JavaType) → IsScope program fixed (settled program fixed s) → Coded program fixed (Expression false) (settled program fixed s) e → (c : Option ℕ) → (field_of (settled program fixed s) pl n c (judged (value (settled program fixed s)) e)).faults ≡ []
      → type_in (field_of (settled program fixed s) pl n c (judged (value (settled program fixed s)) e)).typed ≡ Some t → is_variable (field_of (settled program fixed s) pl n c (judged (value (settled program fixed s)) e)).typed ≡ true
      → Writes (settled program fixed s) t (field_target e (typed_field (plain (settled program fixed s)) e n))
  field_writes s pl e n t k h (Some c) f r v = absurd (go (field_named program.table c n) v)
    where
      constant : (x : Field) (b : Bool) → is_variable (judge pl (ask b 22 (gives x.type)) []).typed ≡ true → ⊥
      constant x true v = not_given pl x.type v
      constant x false v = cc (v)

      go : (x : Option Field) → is_variable (judge pl (constant_rule x) []).typed ≡ true → ⊥
      go None v = cc (v)
      go (Some x) v = constant x x.is_static v
  field_writes s pl e n t k h None f r v =
      let S = settled program fixed s in
      let below = below_none pl (on_one (access_rule S n) (judged (value S) e).typed) (judged (value S) e).faults f in
      let x = typed_at program fixed facts (value S) e k h below in
      let rule = ruled_one pl (access_rule S n) (judged (value S) e) x.type t x.known f r in
      go x.type x.known (type_plain S e ∙ x.known) below rule (subst (λ (y : Judgement). is_variable (judge pl y (judged (value S) e).faults).typed ≡ true) (on_type (access_rule S n) (judged (value S) e).typed x.type x.known) v)
    where
      instance : (c : ℕ) (g : Field) → field_named program.table c n ≡ Some g → g.is_static ≡ false → field_of_type program.table n (Some (ClassType c)) ≡ Some g
      instance c g e b = ap (λ (y : Option Field). option_and_then (λ f. if f.is_static then None else Some f) y) e ∙ ap (λ (z : Bool). if z then None else Some g) b

      length : (b : Bool) (fs : List Rattle.kr_classes_table.specs.Rules.Fault) → is_variable (judge pl (ask b 22 (Fits (rules.Value int_type))) fs).typed ≡ true → ⊥
      length true fs v = cc (v)
      length false fs v = cc (v)

      go : (a : JavaType) → type_in (judged (value (settled program fixed s)) e).typed ≡ Some a → type_of (plain (settled program fixed s)) e ≡ Some a → (judged (value (settled program fixed s)) e).faults ≡ [] → Ruled (access_rule (settled program fixed s) n a) t
          → is_variable (judge pl (access_rule (settled program fixed s) n a) (judged (value (settled program fixed s)) e).faults).typed ≡ true → Writes (settled program fixed s) t (field_target e (typed_field (plain (settled program fixed s)) e n))
      go (ClassType c) known type below r v =
          let g = field_ruled program fixed facts p q c n t r in
          let y = facts.fields c n g.0 g.1 in
          subst (λ (z : Option Field). Writes (settled program fixed s) t (field_target e z)) (sym (ap (λ (z : Option JavaType). field_of_type program.table n z) type ∙ instance c g.0 g.1 g.2))
          (other e g.0 c (record { coded = h; unbroken = below; typed = known }) (y.instance g.2) y.below g.3)
      go (ArrayType a) known type below r v = absurd (length (bytes_eq n (codes "length")) (judged (value (settled program fixed s)) e).faults v)
      go _ known type below r v = absurd (cc (r.1))

  element_writes : (s : Scope) (pl : Place) (b i : Tree) (t : JavaType) → IsScope program fixed s → Coded program fixed (Expression false) s b → Coded program fixed (Expression false) s i → (judged (value s) (trees.ArrayAccess pl b i)).faults ≡ [] → type_in (judged (value s) (trees.ArrayAccess pl b i)).typed ≡ Some t
      → Writes s t (element_target b i (type_of (plain s) b))
  unfolding judged
  element_writes s pl b i t k h l f r =
      let below = below_none pl (on_two element_rule (judged (value s) b).typed (judged (value s) i).typed) ((judged (value s) b).faults ++ (judged (value s) i).faults) f in
      let front = front_none (judged (value s) b).faults (judged (value s) i).faults below in
      let back = back_none (judged (value s) b).faults (judged (value s) i).faults below in
      let x = typed_at program fixed facts (value s) b k h front in
      let y = typed_at program fixed facts (value s) i k l back in
      go x.type y.type x.known y.known x.kind front back (type_plain s b ∙ x.known) (ruled_two pl element_rule (judged (value s) b) (judged (value s) i) x.type y.type t x.known y.known f r)
    where
      go : (c d : JavaType) → type_in (judged (value s) b).typed ≡ Some c → type_in (judged (value s) i).typed ≡ Some d → is_value_type c ≡ true → (judged (value s) b).faults ≡ [] → (judged (value s) i).faults ≡ [] → type_of (plain s) b ≡ Some c → Ruled (element_rule c d) t → Writes s t (element_target b i (type_of (plain s) b))
      go (ArrayType a) d x y v front back type r =
          let asked = ruled_ask (rules.is_int d) 23 (Fits (rules.Variable a)) t r in
          let is = ruled_variable a t asked.1 in
          subst (λ (z : Option JavaType). Writes s t (element_target b i z)) (sym (type ∙ ap (λ (n : JavaType). Some (ArrayType n)) is))
          (at b i (record { coded = h; unbroken = front; typed = x ∙ ap (λ (n : JavaType). Some (ArrayType n)) is }) (record { coded = l; unbroken = back; typed = y ∙ ap (λ (n : JavaType). Some n) (int_is d asked.0) }) (subst (λ (n : JavaType). is_variable_type n ≡ true) is v))
      go _ d x y v front back type r = absurd (cc (r.1))

  -- a variable by its type may be written
  target_writes : (s : Scope) (b : Tree) (t : JavaType) → IsScope program fixed (settled program fixed s) → Coded program fixed (Expression false) (settled program fixed s) b → (judged (value (settled program fixed s)) b).faults ≡ [] → type_in (judged (value (settled program fixed s)) b).typed ≡ Some t
      → is_variable (judged (value (settled program fixed s)) b).typed ≡ true → is_place b ≡ true → Writes (settled program fixed s) t (target_of (plain (settled program fixed s)) b)
  unfolding judged
  target_writes s (trees.Variable pl n) t k h f r v i = name_writes s pl n t (meant (settled program fixed s) n) (meant_is s.locals (field_meant program.table s.class n) n) (ruled pl _ [] t f r) v
  target_writes s (trees.FieldAccess pl e n) t k h f r v i = field_writes s pl e n t k h (class_before (settled program fixed s) e) f r v
  target_writes s (trees.ArrayAccess pl b j) t k h f r v i = element_writes (settled program fixed s) pl b j t k h.0 h.1 f r
  target_writes s _ t k h f r v i = absurd (cc (i))

  -- ---- writes

  part_given : (s : Scope) (e : Tree) (t : JavaType) → IsScope program fixed s → Part s e t → is_target t ≡ true → is_void t ≡ false → (types : List JavaType) → Safe program fixed types (this_of s) (types_of s.locals) (p.value (plain s) e) (Gives program (types_of s.locals) t)
  part_given s e t k x g d types = part_as program fixed facts p q (value s) e k x.coded x.unbroken types t x.typed g d

  stored : (types : List JavaType) (this : Option ℕ) (ls : List JavaType) (f : Field) (c : ℕ) (o v : Value) (t : JavaType) → HasField program c f.name f.type → is_below program.table c f.class ≡ true → f.type ≡ t → IsOf program.table types (ClassType c) o → IsOf program.table types t v → Safe program fixed types this ls (store program f o v) (Keeps ls)
  stored types this ls f c o v t has below e i j = safe_store program fixed types this ls f c o v has below (λ d b. facts.below d c f.class b below) i (subst (λ (n : JavaType). IsOf program.table types n v) (sym e) j)

  -- a value is written, and given
  write : (s : Scope) (t : JavaType) (target : Target) → IsScope program fixed s → Writes s t target → (m : Run Value) → ((types : List JavaType) → Safe program fixed types (this_of s) (types_of s.locals) m (Gives program (types_of s.locals) t)) → (types : List JavaType)
      → Safe program fixed types (this_of s) (types_of s.locals) (assigned program p (plain s) target m) (Gives program (types_of s.locals) t)
  write s t _ y (local k e) m given types =
      safe_next program fixed types (this_of s) (types_of s.locals) m _ _ _ (given types)
      (λ more v x i. safe_keep program fixed more (this_of s) (types_of s.locals) (assign k v) _ _ (safe_assign program fixed more (this_of s) (types_of s.locals) k t v e i)
      (λ others u z. safe_give program fixed others (this_of s) (types_of s.locals) v _ (refl, value_more program.table more others t v z i)))
  write s t _ y (own f static has below e) m given types =
      safe_next program fixed types (this_of s) (types_of s.locals) m _ _ _ (given types)
      (λ more v x i. safe_next program fixed more (this_of s) (types_of s.locals) get_this _ _ _ (safe_here program fixed facts p q s more static)
      (λ others o z j. let i' = value_more program.table more others t v z i in safe_keep program fixed others (this_of s) (types_of s.locals) (store program f o v) _ _ (stored others (this_of s) (types_of s.locals) f s.class o v t has below e j i')
      (λ last u w. safe_give program fixed last (this_of s) (types_of s.locals) v _ (refl, value_more program.table others last t v w i'))))
  write s t _ y (other b f c part has below e) m given types =
      safe_next program fixed types (this_of s) (types_of s.locals) (p.value (plain s) b) _ _ _ (part_given s b (ClassType c) y part refl refl types)
      (λ more o x j. safe_next program fixed more (this_of s) (types_of s.locals) m _ _ _ (given more)
      (λ others v z i. safe_keep program fixed others (this_of s) (types_of s.locals) (store program f o v) _ _ (stored others (this_of s) (types_of s.locals) f c o v t has below e (value_more program.table more others (ClassType c) o z j) i)
      (λ last u w. safe_give program fixed last (this_of s) (types_of s.locals) v _ (refl, value_more program.table others last t v w i))))
  write s t _ y (at b n array index kind) m given types =
      safe_next program fixed types (this_of s) (types_of s.locals) (p.value (plain s) b) _ _ _ (part_given s b (ArrayType t) y array kind refl types)
      (λ more o x j. safe_next program fixed more (this_of s) (types_of s.locals) (p.value (plain s) n) _ _ _ (part_given s n int_type y index refl refl more)
      (λ others l z h. safe_next program fixed others (this_of s) (types_of s.locals) m _ _ _ (given others)
      (λ last v w i. safe_keep program fixed last (this_of s) (types_of s.locals) (store_element program t o l v) _ _ (safe_store_element program fixed last (this_of s) (types_of s.locals) t o l v (value_more program.table others last (ArrayType t) o w (value_more program.table more others (ArrayType t) o z j)) (value_more program.table others last int_type l w h) i)
      (λ end u d. safe_give program fixed end (this_of s) (types_of s.locals) v _ (refl, value_more program.table last end t v d i)))))

  -- a change of a value of a type
  abbrev IsChange : List JavaType → JavaType → Change → Type 0
  IsChange more t c = IsOf program.table more t c.new × IsOf program.table more t c.given

  abbrev Changes : Scope → JavaType → (Value → Run Change) → Type 0
  Changes s t f = (types : List JavaType) (v : Value) → IsOf program.table types t v → Safe program fixed types (this_of s) (types_of s.locals) (f v) (λ more after c. (after ≡ types_of s.locals) × IsChange more t c)

  change : (s : Scope) (t : JavaType) (target : Target) → IsScope program fixed s → Writes s t target → (f : Value → Run Change) → Changes s t f → (types : List JavaType) → Safe program fixed types (this_of s) (types_of s.locals) (changed program p (plain s) target f) (Gives program (types_of s.locals) t)
  change s t _ y (local k e) f given types =
      safe_next program fixed types (this_of s) (types_of s.locals) (read_local k) _ _ _ (safe_local program fixed types (this_of s) (types_of s.locals) k t e)
      (λ more v x i. safe_next program fixed more (this_of s) (types_of s.locals) (f v) _ _ _ (given more v i)
      (λ others c z j. safe_keep program fixed others (this_of s) (types_of s.locals) (assign k c.new) _ _ (safe_assign program fixed others (this_of s) (types_of s.locals) k t c.new e j.0)
      (λ last u w. safe_give program fixed last (this_of s) (types_of s.locals) c.given _ (refl, value_more program.table others last t c.given w j.1))))
  change s t _ y (own g static has below e) f given types =
      safe_next program fixed types (this_of s) (types_of s.locals) get_this _ _ _ (safe_here program fixed facts p q s types static)
      (λ a o x i. safe_next program fixed a (this_of s) (types_of s.locals) (load_field program g.name o) _ _ _ (safe_load_field program fixed a (this_of s) (types_of s.locals) s.class g.name g.type o has i)
      (λ b v z j. safe_next program fixed b (this_of s) (types_of s.locals) (f v) _ _ _ (given b v (subst (λ (n : JavaType). IsOf program.table b n v) e j))
      (λ d c w l. safe_keep program fixed d (this_of s) (types_of s.locals) (store program g o c.new) _ _ (stored d (this_of s) (types_of s.locals) g s.class o c.new t has below e (value_more program.table b d (ClassType s.class) o w (value_more program.table a b (ClassType s.class) o z i)) l.0)
      (λ end u m. safe_give program fixed end (this_of s) (types_of s.locals) c.given _ (refl, value_more program.table d end t c.given m l.1)))))
  change s t _ y (other h g k part has below e) f given types =
      safe_next program fixed types (this_of s) (types_of s.locals) (p.value (plain s) h) _ _ _ (part_given s h (ClassType k) y part refl refl types)
      (λ a o x i. safe_next program fixed a (this_of s) (types_of s.locals) (load_field program g.name o) _ _ _ (safe_load_field program fixed a (this_of s) (types_of s.locals) k g.name g.type o has i)
      (λ b v z j. safe_next program fixed b (this_of s) (types_of s.locals) (f v) _ _ _ (given b v (subst (λ (n : JavaType). IsOf program.table b n v) e j))
      (λ d c w l. safe_keep program fixed d (this_of s) (types_of s.locals) (store program g o c.new) _ _ (stored d (this_of s) (types_of s.locals) g k o c.new t has below e (value_more program.table b d (ClassType k) o w (value_more program.table a b (ClassType k) o z i)) l.0)
      (λ end u m. safe_give program fixed end (this_of s) (types_of s.locals) c.given _ (refl, value_more program.table d end t c.given m l.1)))))
  change s t _ y (at h n array index kind) f given types =
      safe_next program fixed types (this_of s) (types_of s.locals) (p.value (plain s) h) _ _ _ (part_given s h (ArrayType t) y array kind refl types)
      (λ a o x i. safe_next program fixed a (this_of s) (types_of s.locals) (p.value (plain s) n) _ _ _ (part_given s n int_type y index refl refl a)
      (λ b l z j. let o' = value_more program.table a b (ArrayType t) o z i in safe_next program fixed b (this_of s) (types_of s.locals) (element o l) _ _ _ (safe_element program fixed b (this_of s) (types_of s.locals) t o l o' j)
      (λ d v w r. let o'' = value_more program.table b d (ArrayType t) o w o' in let l' = value_more program.table b d int_type l w j in safe_next program fixed d (this_of s) (types_of s.locals) (f v) _ _ _ (given d v r)
      (λ end c m g. safe_keep program fixed end (this_of s) (types_of s.locals) (store_element program t o l c.new) _ _ (safe_store_element program fixed end (this_of s) (types_of s.locals) t o l c.new (value_more program.table d end (ArrayType t) o m o'') (value_more program.table d end int_type l m l') g.0)
      (λ last u k. safe_give program fixed last (this_of s) (types_of s.locals) c.given _ (refl, value_more program.table end last t c.given k g.1))))))

  -- ---- the expressions

  -- by the rule of a write, a variable is written
  written_is : (s : Scope) (x : Typed) (u t : JavaType) → Ruled (written_rule s x u) t → (is_variable x ≡ true) × (u ≡ t)
  written_is s x u t r =
      let a = ruled_ask (is_variable x) 19 (ask (rules.is_code s.part) 39 (Fits (rules.Value u))) t r in
      (a.0, ruled_value u t (ruled_ask (rules.is_code s.part) 39 (Fits (rules.Value u)) t a.1).1)

  pub assignment : (s : Scope) (pl : Place) (b e : Tree) → IsScope program fixed (settled program fixed s) → Coded program fixed (Expression false) (settled program fixed s) b → Coded program fixed (Expression false) (settled program fixed s) e → (judged (settled program fixed s) (trees.Assignment pl b e)).faults ≡ []
      → Goal program fixed facts p q (settled program fixed s) (trees.Assignment pl b e)
  unfolding judged
  assignment s pl b e k h l f types t u r g a =
      let S = settled program fixed s in
      let jb = judged (value S) b in
      let je = judged (value S) e in
      let below = below_none pl (on_two (assignment_rule S jb.typed) jb.typed je.typed) (jb.faults ++ je.faults) f in
      let front = front_none jb.faults je.faults below in
      let back = back_none jb.faults je.faults below in
      let x = typed_at program fixed facts (value S) b k h front in
      let y = typed_at program fixed facts (value S) e k l back in
      let rule = ruled_two pl (assignment_rule S jb.typed) jb je x.type y.type t x.known y.known f r in
      let asked = ruled_ask (is_assignable program.table y.type x.type) 16 (written_rule S jb.typed x.type) t rule in
      let is = written_is S jb.typed x.type t asked.1 in
      let place = x.variable is.0 in
      let writes = target_writes s b x.type k h front x.known is.0 place.0 in
      safe_as program fixed facts.below types (this_of s) (types_of s.locals) _ x.type u (subst (λ (n : JavaType). is_assignable program.table n u ≡ true) (sym is.1) a)
      (write S x.type (target_of (plain S) b) k writes (p.value (plain S) e)
      (λ more. safe_map program fixed more (this_of s) (types_of s.locals) (p.value (plain S) e) _ _ (q.value (value S) e k l back more y.type x.type y.known (variable_target x.type place.1) asked.0) (λ others ms v z. (z.0, z.1 (variable_not_void x.type place.1))))
      types)

  pub compound_assignment : (s : Scope) (pl : Place) (o : BinaryOperator) (b e : Tree) → is_compound o ≡ true → IsScope program fixed (settled program fixed s) → Coded program fixed (Expression false) (settled program fixed s) b → Coded program fixed (Expression false) (settled program fixed s) e
      → (judged (settled program fixed s) (trees.CompoundAssignment pl o b e)).faults ≡ [] → Goal program fixed facts p q (settled program fixed s) (trees.CompoundAssignment pl o b e)
  unfolding judged
  compound_assignment s pl o b e c k h l f types t u r g a =
      let S = settled program fixed s in
      let jb = judged (value S) b in
      let je = judged (value S) e in
      let below = below_none pl (on_two (compound_rule S o jb.typed) jb.typed je.typed) (jb.faults ++ je.faults) f in
      let front = front_none jb.faults je.faults below in
      let back = back_none jb.faults je.faults below in
      let x = typed_at program fixed facts (value S) b k h front in
      let y = typed_at program fixed facts (value S) e k l back in
      let rule = ruled_two pl (compound_rule S o jb.typed) jb je x.type y.type t x.known y.known f r in
      let asked = ruled_ask (not (is_broken (operator_rule S o x.type y.type))) 17 (written_rule S jb.typed x.type) t rule in
      let is = written_is S jb.typed x.type t asked.1 in
      let place = x.variable is.0 in
      let writes = target_writes s b x.type k h front x.known is.0 place.0 in
      let rule' = compound_gives S o x.type y.type c asked.0 in
      let used = used_by S o x.type y.type rule'.0 (compound_plain o c) rule'.1 in
      let operand = compound_operand o x.type y.type rule'.0 c used in
      let to : width_at (plain S) b ≡ width_in x.type = ap type_width (type_plain S b ∙ x.known) in
      safe_as program fixed facts.below types (this_of s) (types_of s.locals) _ x.type u (subst (λ (n : JavaType). is_assignable program.table n u ≡ true) (sym is.1) a)
      (change S x.type (target_of (plain S) b) k writes (compound (compound_operation (width_at (plain S) b) (width_of (plain S) o b e) o) (p.value (plain S) e))
      (λ more v i. safe_next program fixed more (this_of s) (types_of s.locals) (p.value (plain S) e) _ _ _ (part_as program fixed facts p q (value S) e k l back more y.type y.known operand.0 operand.1)
      (λ others w z j. safe_next program fixed others (this_of s) (types_of s.locals) (say (operated (compound_operation (width_at (plain S) b) (width_of (plain S) o b e) o) v w)) _ _ _ (safe_compound program fixed others (this_of s) (types_of s.locals) (width_at (plain S) b) (width_of (plain S) o b e) o x.type y.type rule'.0 v w c used to (value_more program.table more others x.type v z i) j)
      (λ last n m d. safe_give program fixed last (this_of s) (types_of s.locals) (change_to n) _ (refl, (d, d)))))
      types)

  pub step : (s : Scope) (pl : Place) (o : StepOperator) (b : Tree) → IsScope program fixed (settled program fixed s) → Coded program fixed (Expression false) (settled program fixed s) b → (judged (settled program fixed s) (trees.Step pl o b)).faults ≡ [] → Goal program fixed facts p q (settled program fixed s) (trees.Step pl o b)
  unfolding judged
  step s pl o b k h f types t u r g a =
      let S = settled program fixed s in
      let jb = judged (value S) b in
      let below = below_none pl (on_one (step_rule S jb.typed) jb.typed) jb.faults f in
      let x = typed_at program fixed facts (value S) b k h below in
      let rule = ruled_one pl (step_rule S jb.typed) jb x.type t x.known f r in
      let asked = ruled_ask (is_number x.type) 18 (written_rule S jb.typed x.type) t rule in
      let is = written_is S jb.typed x.type t asked.1 in
      let place = x.variable is.0 in
      let number = alone_is x.type asked.0 in
      let writes = subst (λ (n : JavaType). Writes S n (target_of (plain S) b)) number.1 (target_writes s b x.type k h below x.known is.0 place.0) in
      let wide : width_at (plain S) b ≡ number.0 = ap type_width (type_plain S b ∙ (x.known ∙ ap (λ (n : JavaType). Some n) number.1)) in
      safe_as program fixed facts.below types (this_of s) (types_of s.locals) _ (NumberType number.0) u (subst (λ (n : JavaType). is_assignable program.table n u ≡ true) (sym is.1 ∙ number.1) a)
      (change S (NumberType number.0) (target_of (plain S) b) k writes (stepped (step_operation (width_at (plain S) b) o))
      (λ more v i. safe_next program fixed more (this_of s) (types_of s.locals) (say (operated (binary_operation (width_at (plain S) b) (step_operator o)) v (Int (pos 1)))) _ _ _
      (safe_operated program fixed more (this_of s) (types_of s.locals) S (width_at (plain S) b) (step_operator o) (NumberType number.0) int_type (NumberType number.0) v (Int (pos 1)) (step_plain o) (step_gives S o number.0) (wide ∙ step_wide o number.0) i (Bits32, refl, one))
      (λ others w z j. safe_give program fixed others (this_of s) (types_of s.locals) (change_from (gives_old o) v w) _ (refl, from (NumberType number.0) (gives_old o) others v w (value_more program.table more others (NumberType number.0) v z i) j)))
      types)
    where
      one : IsWithin Bits32 (pos 1)
      one = omega arith

      from : (z : JavaType) (n : Bool) (others : List JavaType) (v w : Value) → IsOf program.table others z v → IsOf program.table others z w → IsChange others z (change_from n v w)
      from z true others v w i j = (j, i)
      from z false others v w i j = (j, j)
