-- Expressions whose parts are operands: literals, names, fields, elements, operators, casts and tests of classes.
use Rattle.std.proofs.Common.{◌≡◌, ℕ, Bool, true, false, List, [], ◌∷◌, ◌++◌, Option, Some, None, refl, sym, ap, ◌∙◌, subst}
use Rattle.std.specs.Prelude.{pos, ◌||◌, not, bytes_eq, codes, if◌then◌else◌, option_and_then}
use Rattle.std.proofs.lemmas.Bool.{and_parts}
use Rattle.kr_base.specs.declared.place.Place.{Place}
use Rattle.kr_ast.specs.declared.node.UnaryOperator.{UnaryOperator}
use Rattle.kr_ast.specs.declared.node.UnaryOperator.TheVariants as unaries
use Rattle.kr_ast.specs.declared.node.BinaryOperator.{BinaryOperator}
use Rattle.kr_ast.specs.declared.node.BinaryOperator.TheVariants as operators
use Rattle.kr_ast.specs.declared.node.Primitive.TheVariants as primitives
use Rattle.kr_ast.specs.Tree as trees
use Rattle.kr_ast.specs.Tree.{Tree}
use Rattle.kr_value.specs.declared.value.Value.{Value}
use Rattle.kr_value.specs.declared.value.Value.TheVariants.{Int, Bool as Truth, Null}
use Rattle.kr_classes_table.specs.Types.{JavaType, NumberType, int_type, BooleanType, NullType, ClassType, ArrayType, SetType, ListType, UnknownType, AppliedType, is_void, is_known, is_reference, width_in}
use Rattle.kr_classes_table.specs.Table.{Field, class_or, class_named, applied, field_named, is_assignable}
use Rattle.kr_classes_table.specs.Constants.{constant_only, constant_of, field_meant, known_value as constant_value}
use Rattle.kr_classes_table.specs.Numbers.{Width, Bits32, Bits64, wrap}
use Rattle.kr_classes_table.specs.Operators.{operator_width}
use Rattle.kr_types_meaning.specs.Scopes.{Scope, Meant, LocalName, FieldName, NoName, value, under_minus, written, meant, class_before}
use Rattle.kr_types_meaning.specs.Rules as rules
use Rattle.kr_types_meaning.specs.Promotion.{are_numbers}
use Rattle.kr_types_meaning.specs.Rules.{Untyped, Fits, ask, gives, both_boolean, number_rule, this_rule, name_rule, unary_rule, operator_rule, field_rule, access_rule, constant_rule, element_rule}
use Rattle.kr_types_meaning.specs.Typing.{judge, on_one, on_two, field_of, operand, judged, type_in}
use Rattle.kr_types_meaning.proofs.Types.{types_law}
use Rattle.kr_mean.specs.Program.{Program}
use Rattle.kr_mean.specs.Steps.{Run, say, give, given, ◌>>=◌, get_this, load_field}
use Rattle.kr_mean.specs.Operators.{operated, operated_alone, binary_operation, unary_operation}
use Rattle.kr_mean.specs.Meaning.{Parts, constant, read_name, access, binary, is_primitive, value_of, type_width, width_at, width_of, operand_width}
use Rattle.kr_laws_safety.specs.Fits.{IsOf}
use Rattle.kr_laws_safety.specs.Triples.{Fixed, Safe, Gives}
use Rattle.kr_laws_safety.specs.Steps.{is_junction, HasField}
use Rattle.kr_laws_safety.proofs.Heaps.{value_more}
use Rattle.kr_laws_safety.proofs.Steps.{safe_give, safe_map, safe_choose, safe_this, safe_local, safe_load_field, safe_element}
use Rattle.kr_laws_safety.proofs.Operators.{whole_within, Use, numbers, booleans, references, used as used_by, reference_known, said, references_good, safe_operated, safe_operated_alone}
use Rattle.kr_laws_types.specs.Types.{is_value_type, HasVariables}
use Rattle.kr_laws_types.specs.Shapes.{Expression}
use Rattle.kr_laws_types.specs.DerivedExpressions.{IsWritten}
use Rattle.kr_laws_types.specs.Expressions.{plain}
use Rattle.kr_laws_types.proofs.Given.{operator_fine, unary_fine}
use Rattle.kr_laws_types.proofs.Expressions.{written_shaped}
use Rattle.kr_laws_safety.specs.Typed.{IsField, IsTypedProgram}
use Rattle.kr_laws_safety.specs.Claims.{this_of, types_of, is_target, GivesAs, IsScope, Coded, PartsSafe}
use Rattle.kr_laws_safety.proofs.Targets.{not_true, assignable_itself, Used, used}
use Rattle.kr_laws_safety.proofs.Glue.{Ruled, ruled_alone, ruled, ruled_one, ruled_two, ruled_ask, same_types, ruled_value, ruled_variable, ruled_gives, ruled_varies, ruled_plainly, int_is, boolean_is, safe_next, safe_as, settled, typed_at, has_variables}
use Rattle.kr_laws_safety.proofs.Scoping.{meant_is, field_found, class_plain, type_plain, operand_plain}
use Rattle.kr_laws_safety.proofs.Classes.{safe_length_named}
use Rattle.kr_laws_types.proofs.Typed.{front_none, back_none, below_none}

-- two operands, where both are looked at
both_operands : (width : Width) (o : BinaryOperator) (m n : Run Value) → is_junction o ≡ false → binary width o m n ≡ (m >>= (λ v. n >>= (λ w. say (operated (binary_operation width o) v w))))
both_operands width operators.And m n j = absurd (cc (j))
both_operands width operators.Or m n j = absurd (cc (j))
both_operands width _ m n j = refl

-- ---- types in casts

-- a type that is written by a name, with an argument or as an array's is no primitive one
named_reference : (c : Option ℕ) (o n : List ℕ) (f : JavaType) → (are_numbers (class_or c (UnknownType o n)) f || both_boolean (class_or c (UnknownType o n)) f) ≡ false
named_reference (Some c) o n f = refl
named_reference None o n f = refl

applied_reference : (h t f : JavaType) → (are_numbers (applied h t) f || both_boolean (applied h t) f) ≡ false
applied_reference (UnknownType [] n) t f = go (bytes_eq n (codes "HashSet")) (bytes_eq n (codes "LinkedList"))
  where
    go : (b c : Bool) → (are_numbers (if b then SetType t else if c then ListType t else AppliedType (UnknownType [] n) t) f || both_boolean (if b then SetType t else if c then ListType t else AppliedType (UnknownType [] n) t) f) ≡ false
    go true c = refl
    go false true = refl
    go false false = refl
applied_reference (UnknownType (o ∷ os) n) t f = refl
applied_reference _ t f = refl

pub written_reference : (s : Scope) (t : Tree) (f : JavaType) → IsWritten t → is_primitive t ≡ false → (are_numbers (written s t) f || both_boolean (written s t) f) ≡ false
written_reference s (trees.PrimitiveType p k) f h e = absurd (cc (e))
written_reference s (trees.NamedType p n) f h e = named_reference (class_named s.table.headings (trees.NamedType p n)) [] n f
written_reference s (trees.QualifiedType p o n) f h e = named_reference (class_named s.table.headings (trees.QualifiedType p o n)) o n f
written_reference s (trees.GenericType p k a) f h e = applied_reference (written s k) (written s a) f
written_reference s (trees.ArrayType p a) f h e = refl
written_reference s _ f h e = absurd h

-- a primitive type is no reference
pub primitive_plain : (s : Scope) (t : Tree) → IsWritten t → is_primitive t ≡ true → is_reference (written s t) ≡ false
primitive_plain s (trees.PrimitiveType p primitives.Int) h e = refl
primitive_plain s (trees.PrimitiveType p primitives.Long) h e = refl
primitive_plain s (trees.PrimitiveType p primitives.Boolean) h e = refl
primitive_plain s (trees.PrimitiveType p primitives.Void) h e = absurd h
primitive_plain s _ h e = absurd (cc (e))

-- the type of a type's node
pub written_is : (s : Scope) (t : Tree) (u : JavaType) → IsWritten t → type_in (judged s t).typed ≡ Some u → u ≡ written s t
written_is s t u h e = go (is_known (written s t)) (ap type_in (sym (types_law s t (written_shaped t h))) ∙ e)
  where
    go : (b : Bool) → type_in (if b then rules.Value (written s t) else Untyped) ≡ Some u → u ≡ written s t
    go true e = same_types (Some (written s t)) u (written s t) e refl
    go false e = absurd (cc (e))

module _ (program : Program) (fixed : Fixed) (facts : IsTypedProgram program) (p : Parts) (q : PartsSafe program fixed p) where
  -- an expression used as a type
  abbrev pub Goal : Scope → Tree → Type 0
  Goal s e = (types : List JavaType) (t u : JavaType) → type_in (judged s e).typed ≡ Some t → is_target u ≡ true → is_assignable program.table t u ≡ true → Safe program fixed types (this_of s) (types_of s.locals) (value_of program p (plain s) e) (GivesAs program (types_of s.locals) u)

  -- ---- parts

  -- a part gives a value of its type, where this is one that values are used as
  pub part_as : (s : Scope) (e : Tree) → IsScope program fixed s → Coded program fixed (Expression false) s e → (judged s e).faults ≡ [] → (types : List JavaType) (u : JavaType) → type_in (judged s e).typed ≡ Some u → is_target u ≡ true → is_void u ≡ false
      → Safe program fixed types (this_of s) (types_of s.locals) (p.value (plain s) e) (Gives program (types_of s.locals) u)
  part_as s e k h f types u r g d = safe_map program fixed types (this_of s) (types_of s.locals) (p.value (plain s) e) _ _ (q.value s e k h f types u u r g (assignable_itself program.table u g)) (λ more ms v x. (x.0, x.1 d))

  -- a part used as some type
  pub part_used : (s : Scope) (e : Tree) → IsScope program fixed s → Coded program fixed (Expression false) s e → (judged s e).faults ≡ [] → (types : List JavaType) (t : JavaType) → type_in (judged s e).typed ≡ Some t → (x : Used program.table t)
      → Safe program fixed types (this_of s) (types_of s.locals) (p.value (plain s) e) (Gives program (types_of s.locals) x.type)
  part_used s e k h f types t r x = safe_map program fixed types (this_of s) (types_of s.locals) (p.value (plain s) e) _ _ (q.value s e k h f types t x.type r x.target x.fits) (λ more ms v y. (y.0, y.1 x.given))

  -- ---- literals

  number_by : (s : Scope) (pl : Place) (w : Width) (n : ℕ) (t u : JavaType) → (judge pl (number_rule s w n) []).faults ≡ [] → type_in (judge pl (number_rule s w n) []).typed ≡ Some t → is_assignable program.table t u ≡ true → (types : List JavaType)
      → Safe program fixed types (this_of s) (types_of s.locals) (give (Int (wrap w (pos n)))) (GivesAs program (types_of s.locals) u)
  number_by s pl w n t u f r a types =
      let is = ruled_value (NumberType w) t (ruled_ask _ 6 (Fits (rules.Value (NumberType w))) t (ruled pl (number_rule s w n) [] t f r)).1 in
      safe_as program fixed facts.below types (this_of s) (types_of s.locals) _ t u a (safe_give program fixed types (this_of s) (types_of s.locals) (Int (wrap w (pos n))) _ (refl, (w, sym is, whole_within w _)))

  pub number : (s : Scope) (pl : Place) (n : ℕ) → (judged s (trees.Number pl n)).faults ≡ [] → Goal s (trees.Number pl n)
  unfolding judged
  number s pl n f types t u r g a = number_by s pl Bits32 n t u f r a types

  pub long_number : (s : Scope) (pl : Place) (n : ℕ) → (judged s (trees.LongNumber pl n)).faults ≡ [] → Goal s (trees.LongNumber pl n)
  unfolding judged
  long_number s pl n f types t u r g a = number_by s pl Bits64 n t u f r a types

  pub truth : (s : Scope) (pl : Place) (b : Bool) → Goal s (trees.Truth pl b)
  unfolding judged
  truth s pl b types t u r g a = safe_as program fixed facts.below types (this_of s) (types_of s.locals) _ t u a (safe_give program fixed types (this_of s) (types_of s.locals) (Truth b) _ (refl, same_types (Some BooleanType) t BooleanType r refl))

  pub null : (s : Scope) (pl : Place) → Goal s (trees.Null pl)
  unfolding judged
  null s pl types t u r g a = safe_as program fixed facts.below types (this_of s) (types_of s.locals) _ t u a (safe_give program fixed types (this_of s) (types_of s.locals) Null _ (refl, ap is_reference (same_types (Some NullType) t NullType r refl)))

  -- `this` in code that has one
  pub safe_here : (s : Scope) (types : List JavaType) → s.is_static ≡ false → Safe program fixed types (this_of s) (types_of s.locals) get_this (Gives program (types_of s.locals) (ClassType s.class))
  safe_here s types e =
      subst (λ (b : Bool). Safe program fixed types (if b then None else Some s.class) (types_of s.locals) get_this (Gives program (types_of s.locals) (ClassType s.class))) (sym e)
      (safe_map program fixed types (Some s.class) (types_of s.locals) get_this _ _ (safe_this program fixed types s.class (types_of s.locals)) (λ more ms v x. (x.0, subst (λ (w : Value). IsOf program.table more (ClassType s.class) w) (sym x.1.1) x.1.2)))

  pub this_object : (s : Scope) (pl : Place) → (judged s (trees.This pl)).faults ≡ [] → Goal s (trees.This pl)
  unfolding judged
  this_object s pl f types t u r g a =
      let h = ruled_ask (not s.is_static) 5 (Fits (rules.Value (ClassType s.class))) t (ruled pl (this_rule s) [] t f r) in
      safe_as program fixed facts.below types (this_of s) (types_of s.locals) _ (ClassType s.class) u (subst (λ (x : JavaType). is_assignable program.table x u ≡ true) (sym (ruled_value (ClassType s.class) t h.1)) a) (safe_here s types (not_true s.is_static h.0))

  -- ---- names

  -- a constant's value
  pub safe_constant : (s : Scope) (types : List JavaType) (c : ℕ) (n : List ℕ) (f : Field) → s.values ≡ program.values → IsField program c n f → f.is_static ≡ true → Safe program fixed types (this_of s) (types_of s.locals) (constant (plain s) (Some f)) (Gives program (types_of s.locals) f.type)
  safe_constant s types c n f e h b =
      let v = h.constant b in
      subst (λ (x : Option Value). Safe program fixed types (this_of s) (types_of s.locals) (given x) (Gives program (types_of s.locals) f.type)) (sym (ap (λ vs. constant_value vs (Some f)) e ∙ v.1))
      (safe_give program fixed types (this_of s) (types_of s.locals) v.0 _ (refl, value_more program.table [] types f.type v.0 (types, refl) v.2))

  pub name_read : (s : Scope) (n : List ℕ) (types : List JavaType) (t : JavaType) → Ruled (name_rule (settled program fixed s) (meant (settled program fixed s) n)) t
      → Safe program fixed types (this_of s) (types_of s.locals) (read_name program (plain (settled program fixed s)) (meant (settled program fixed s) n)) (Gives program (types_of s.locals) t)
  name_read s n types t r = go (meant (settled program fixed s) n) (meant_is s.locals (field_meant program.table s.class n) n) r
    where
      Read : Meant → Type 0
      Read m = Safe program fixed types (this_of s) (types_of s.locals) (read_name program (plain (settled program fixed s)) m) (Gives program (types_of s.locals) t)

      field : (f : Field) → field_meant program.table s.class n ≡ Some f → (b : Bool) → f.is_static ≡ b → Ruled (if b then gives f.type else ask (not s.is_static) 5 (Fits (rules.variable_of f.type))) t
          → Safe program fixed types (this_of s) (types_of s.locals) (if b then constant (plain (settled program fixed s)) (Some f) else get_this >>= load_field program f.name) (Gives program (types_of s.locals) t)
      field f e true b r =
          let d = field_found program.table s.class n f e in
          subst (λ (x : JavaType). Safe program fixed types (this_of s) (types_of s.locals) (constant (plain (settled program fixed s)) (Some f)) (Gives program (types_of s.locals) x)) (ruled_gives f.type t r)
          (safe_constant (settled program fixed s) types d.0 n f refl (facts.fields d.0 n f d.1) b)
      field f e false b r =
          let d = field_found program.table s.class n f e in
          let h = ruled_ask (not s.is_static) 5 (Fits (rules.variable_of f.type)) t r in
          let has = subst (λ (c : ℕ). HasField program c f.name f.type) (d.2 b) ((facts.fields d.0 n f d.1).instance b) in
          subst (λ (x : JavaType). Safe program fixed types (this_of s) (types_of s.locals) (get_this >>= load_field program f.name) (Gives program (types_of s.locals) x)) (ruled_varies f.type t h.1)
          (safe_next program fixed types (this_of s) (types_of s.locals) get_this (load_field program f.name) _ _ (safe_here s types (not_true s.is_static h.0)) (λ more v x i. safe_load_field program fixed more (this_of s) (types_of s.locals) s.class f.name f.type v has i))

      go : (m : Meant) → Rattle.kr_laws_safety.proofs.Scoping.IsMeant s.locals (field_meant program.table s.class n) m → Ruled (name_rule (settled program fixed s) m) t → Read m
      go (LocalName k v) h r = safe_local program fixed types (this_of s) (types_of s.locals) k t (h ∙ ap (λ (x : JavaType). Some x) (ruled_varies v t r))
      go (FieldName f) h r = field f h f.is_static refl r
      go NoName h r = absurd (cc (r.1))

  pub variable : (s : Scope) (pl : Place) (n : List ℕ) → (judged (settled program fixed s) (trees.Variable pl n)).faults ≡ [] → Goal (settled program fixed s) (trees.Variable pl n)
  unfolding judged
  variable s pl n f types t u r g a = safe_as program fixed facts.below types (this_of s) (types_of s.locals) _ t u a (name_read s n types t (ruled pl _ [] t f r))

  -- ---- fields and elements

  -- the rule of a field of an object, and what it is
  pub field_ruled : (c : ℕ) (n : List ℕ) (t : JavaType) → Ruled (field_rule (field_named program.table c n)) t → (f : Field) × (field_named program.table c n ≡ Some f) × (f.is_static ≡ false) × (f.type ≡ t)
  field_ruled c n t r = go (field_named program.table c n) refl r
    where
      go : (x : Option Field) → field_named program.table c n ≡ x → Ruled (field_rule x) t → (f : Field) × (field_named program.table c n ≡ Some f) × (f.is_static ≡ false) × (f.type ≡ t)
      go None e r = absurd (cc (r.1))
      go (Some f) e r = let h = ruled_ask (not f.is_static) 22 (Fits (rules.variable_of f.type)) t r in (f, e, not_true f.is_static h.0, ruled_varies f.type t h.1)

  constant_ruled : (c : ℕ) (n : List ℕ) (t : JavaType) → Ruled (constant_rule (field_named program.table c n)) t → (f : Field) × (field_named program.table c n ≡ Some f) × (f.is_static ≡ true) × (f.type ≡ t)
  constant_ruled c n t r = go (field_named program.table c n) refl r
    where
      go : (x : Option Field) → field_named program.table c n ≡ x → Ruled (constant_rule x) t → (f : Field) × (field_named program.table c n ≡ Some f) × (f.is_static ≡ true) × (f.type ≡ t)
      go None e r = absurd (cc (r.1))
      go (Some f) e r = let h = ruled_ask f.is_static 22 (gives f.type) t r in (f, e, h.0, ruled_gives f.type t h.1)

  -- a scope that knows the program's table
  abbrev here : Scope
  here = Rattle.kr_types_meaning.specs.Scopes.scope_of program.table program.values 0

  -- the member of an object by a name
  loaded : (types : List JavaType) (this : Option ℕ) (ls : List JavaType) (n : List ℕ) (a t : JavaType) (v : Value) → Ruled (access_rule here n a) t → IsOf program.table types a v
      → Safe program fixed types this ls (load_field program n v) (Gives program ls t)
  loaded types this ls n (ClassType c) t v r i =
      let f = field_ruled c n t r in
      let h = facts.fields c n f.0 f.1 in
      subst (λ (x : JavaType). Safe program fixed types this ls (load_field program n v) (Gives program ls x)) f.3 (safe_load_field program fixed types this ls c n f.0.type v (subst (λ (x : List ℕ). HasField program c x f.0.type) h.name (h.instance f.2)) i)
  loaded types this ls n (ArrayType e) t v r i =
      let h = ruled_ask (bytes_eq n (codes "length")) 22 (Fits (rules.Value int_type)) t r in
      subst (λ (x : JavaType). Safe program fixed types this ls (load_field program n v) (Gives program ls x)) (ruled_value int_type t h.1) (safe_length_named program fixed types this ls e n v h.0 i)
  loaded types this ls n _ t v r i = absurd (cc (r.1))

  -- a value assigned to a type with fields is of it
  accessed_is : (n : List ℕ) (a t : JavaType) → is_value_type a ≡ true → Ruled (access_rule here n a) t → (is_target a ≡ true) × (is_void a ≡ false)
  accessed_is n (ClassType c) t h r = (refl, refl)
  accessed_is n (ArrayType e) t h r = (h, refl)
  accessed_is n _ t h r = absurd (cc (r.1))

  pub field_access : (s : Scope) (pl : Place) (e : Tree) (n : List ℕ) → IsScope program fixed (settled program fixed s) → Coded program fixed (Expression false) (settled program fixed s) e → (judged (settled program fixed s) (trees.FieldAccess pl e n)).faults ≡ [] → Goal (settled program fixed s) (trees.FieldAccess pl e n)
  unfolding judged
  field_access s pl e n k h f types t u r g a = subst (λ (c : Option ℕ). Accessed c) (sym (class_plain (settled program fixed s) e)) (go (class_before (settled program fixed s) e) f r)
    where
      Accessed : Option ℕ → Type 0
      Accessed c = Safe program fixed types (this_of s) (types_of s.locals) (access program p (plain (settled program fixed s)) e n c) (GivesAs program (types_of s.locals) u)

      go : (c : Option ℕ) → (field_of (settled program fixed s) pl n c (judged (value (settled program fixed s)) e)).faults ≡ [] → type_in (field_of (settled program fixed s) pl n c (judged (value (settled program fixed s)) e)).typed ≡ Some t → Accessed c
      go (Some c) f r =
          let x = constant_ruled c n t (ruled pl (constant_rule (field_named program.table c n)) [] t f r) in
          let only : constant_of program.table (Some c) n ≡ Some x.0 = ap (λ (y : Option Field). option_and_then constant_only y) x.1 ∙ ap (λ (b : Bool). if b then Some x.0 else None) x.2 in
          subst (λ (y : Option Field). Safe program fixed types (this_of s) (types_of s.locals) (constant (plain (settled program fixed s)) y) (GivesAs program (types_of s.locals) u)) (sym only)
          (safe_as program fixed facts.below types (this_of s) (types_of s.locals) _ x.0.type u (subst (λ (y : JavaType). is_assignable program.table y u ≡ true) (sym x.3) a) (safe_constant (settled program fixed s) types c n x.0 refl (facts.fields c n x.0 x.1) x.2))
      go None f r =
          let below = below_none pl (on_one (access_rule (settled program fixed s) n) (judged (value (settled program fixed s)) e).typed) (judged (value (settled program fixed s)) e).faults f in
          let x = typed_at program fixed facts (value (settled program fixed s)) e k h below in
          let rule = ruled_one pl (access_rule (settled program fixed s) n) (judged (value (settled program fixed s)) e) x.type t x.known f r in
          let is = accessed_is n x.type t x.kind rule in
          safe_as program fixed facts.below types (this_of s) (types_of s.locals) _ t u a
          (safe_next program fixed types (this_of s) (types_of s.locals) (p.value (plain (settled program fixed s)) e) (load_field program n) _ _ (part_as (value (settled program fixed s)) e k h below types x.type x.known is.0 is.1) (λ more v y i. loaded more (this_of s) (types_of s.locals) n x.type t v rule i))

  pub array_access : (s : Scope) (pl : Place) (b i : Tree) → IsScope program fixed s → Coded program fixed (Expression false) s b → Coded program fixed (Expression false) s i → (judged s (trees.ArrayAccess pl b i)).faults ≡ [] → Goal s (trees.ArrayAccess pl b i)
  unfolding judged
  array_access s pl b i k h l f types t u r g a =
      let below = below_none pl (on_two element_rule (judged (value s) b).typed (judged (value s) i).typed) ((judged (value s) b).faults ++ (judged (value s) i).faults) f in
      let front = front_none (judged (value s) b).faults (judged (value s) i).faults below in
      let back = back_none (judged (value s) b).faults (judged (value s) i).faults below in
      let x = typed_at program fixed facts (value s) b k h front in
      let y = typed_at program fixed facts (value s) i k l back in
      let rule = element_ruled x.type y.type t (ruled_two pl element_rule (judged (value s) b) (judged (value s) i) x.type y.type t x.known y.known f r) in
      let array = subst (λ (z : JavaType). type_in (judged (value s) b).typed ≡ Some z) rule.0 x.known in
      let index = subst (λ (z : JavaType). type_in (judged (value s) i).typed ≡ Some z) rule.1 y.known in
      let target = subst (λ (z : JavaType). is_value_type z ≡ true) rule.0 x.kind in
      safe_as program fixed facts.below types (this_of s) (types_of s.locals) _ t u a
      (safe_next program fixed types (this_of s) (types_of s.locals) (p.value (plain s) b) _ _ _ (part_as (value s) b k h front types (ArrayType t) array target refl)
      (λ more v w j. safe_next program fixed more (this_of s) (types_of s.locals) (p.value (plain s) i) _ _ _ (part_as (value s) i k l back more int_type index refl refl)
      (λ others z q m. safe_element program fixed others (this_of s) (types_of s.locals) t v z (value_more program.table more others (ArrayType t) v q j) m)))
    where
      element_ruled : (c d t : JavaType) → Ruled (element_rule c d) t → (c ≡ ArrayType t) × (d ≡ int_type)
      element_ruled (ArrayType e) d t r = let h = ruled_ask (rules.is_int d) 23 (Fits (rules.Variable e)) t r in (ap ArrayType (ruled_variable e t h.1), int_is d h.0)
      element_ruled _ d t r = absurd (cc (r.1))

  -- ---- operators

  -- the width by which an operator works is that of its operand's type
  operand_wide : (s : Scope) (o : UnaryOperator) (e : Tree) (x : JavaType) → type_in (judged (operand o s) e).typed ≡ Some x → operand_width (plain s) o e ≡ width_in x
  operand_wide s o e x k = ap type_width (operand_plain s o e ∙ k)

  unary_in : (w : Scope) (pl : Place) (o : UnaryOperator) (e : Tree) (width : Width) → ((x : JavaType) → type_in (judged w e).typed ≡ Some x → width ≡ width_in x) → IsScope program fixed w → Coded program fixed (Expression false) w e → (judge pl (on_one (unary_rule o) (judged w e).typed) (judged w e).faults).faults ≡ [] → (types : List JavaType) (t u : JavaType)
      → type_in (judge pl (on_one (unary_rule o) (judged w e).typed) (judged w e).faults).typed ≡ Some t → is_assignable program.table t u ≡ true
      → Safe program fixed types (this_of w) (types_of w.locals) (p.value (plain w) e >>= (λ v. say (operated_alone (unary_operation width o) v))) (GivesAs program (types_of w.locals) u)
  unary_in w pl o e width wide k h f types t u r a =
      let below = below_none pl (on_one (unary_rule o) (judged w e).typed) (judged w e).faults f in
      let x = typed_at program fixed facts w e k h below in
      let rule = ruled_one pl (unary_rule o) (judged w e) x.type t x.known f r in
      let is = unary_is o x.type t rule in
      safe_as program fixed facts.below types (this_of w) (types_of w.locals) _ t u a
      (safe_next program fixed types (this_of w) (types_of w.locals) (p.value (plain w) e) _ _ _ (part_as w e k h below types x.type x.known is.0 is.1)
      (λ more v y i. safe_operated_alone program fixed more (this_of w) (types_of w.locals) width o x.type t v (ruled_plainly false (unary_rule o x.type) t (unary_fine (record w { role = Rattle.kr_types_meaning.specs.Scopes.AsValue }) (subst HasVariables (sym k.0) (has_variables program fixed facts)) o x.type) rule) (wide x.type x.known) i))
    where
      number_target : (v : Width) (c : JavaType) → c ≡ NumberType v → (is_target c ≡ true) × (is_void c ≡ false)
      number_target v c e = subst (λ (z : JavaType). (is_target z ≡ true) × (is_void z ≡ false)) (sym e) (refl, refl)

      unary_is : (o : UnaryOperator) (c t : JavaType) → Ruled (unary_rule o c) t → (is_target c ≡ true) × (is_void c ≡ false)
      unary_is unaries.Not c t r = subst (λ (z : JavaType). (is_target z ≡ true) × (is_void z ≡ false)) (sym (boolean_is c (ruled_ask (rules.is_boolean c) 13 (Fits (rules.Value BooleanType)) t r).0)) (refl, refl)
      unary_is unaries.Plus c t r = let n = ruled_alone c t 14 r in number_target n.0 c n.1
      unary_is unaries.Minus c t r = let n = ruled_alone c t 14 r in number_target n.0 c n.1
      unary_is unaries.Complement c t r = let n = ruled_alone c t 14 r in number_target n.0 c n.1

  pub unary : (s : Scope) (pl : Place) (o : UnaryOperator) (e : Tree) → IsScope program fixed s → Coded program fixed (Expression false) s e → (judged s (trees.Unary pl o e)).faults ≡ [] → Goal s (trees.Unary pl o e)
  unfolding judged
  unary s pl unaries.Minus e k h f types t u r g a = unary_in (under_minus s) pl unaries.Minus e (operand_width (plain s) unaries.Minus e) (operand_wide s unaries.Minus e) k h f types t u r a
  unary s pl unaries.Plus e k h f types t u r g a = unary_in (value s) pl unaries.Plus e (operand_width (plain s) unaries.Plus e) (operand_wide s unaries.Plus e) k h f types t u r a
  unary s pl unaries.Complement e k h f types t u r g a = unary_in (value s) pl unaries.Complement e (operand_width (plain s) unaries.Complement e) (operand_wide s unaries.Complement e) k h f types t u r a
  unary s pl unaries.Not e k h f types t u r g a = unary_in (value s) pl unaries.Not e (operand_width (plain s) unaries.Not e) (operand_wide s unaries.Not e) k h f types t u r a

  -- on ints, on booleans, on references
  operands : (s : Scope) (o : BinaryOperator) (b c : Tree) → IsScope program fixed s → Coded program fixed (Expression false) s b → Coded program fixed (Expression false) s c → (judged (value s) b).faults ≡ [] → (judged (value s) c).faults ≡ [] → (types : List JavaType) (x y t : JavaType)
      → is_junction o ≡ false → is_value_type x ≡ true → is_value_type y ≡ true → type_in (judged (value s) b).typed ≡ Some x → type_in (judged (value s) c).typed ≡ Some y → operator_rule s o x y ≡ Fits (rules.Value t) → Use o x y t
      → Safe program fixed types (this_of s) (types_of s.locals) (p.value (plain s) b >>= (λ v. p.value (plain s) c >>= (λ w. say (operated (binary_operation (width_of (plain s) o b c) o) v w)))) (Gives program (types_of s.locals) t)
  operands s o b c k h l f d types x y t j vx vy rx ry e way = go way
    where
      wide : (z w : JavaType) → x ≡ z → y ≡ w → width_of (plain s) o b c ≡ operator_width o (width_in z) (width_in w)
      wide z w ez ew =
          ap (λ (n : Width). operator_width o n (width_at (plain s) c)) (ap type_width (type_plain s b ∙ (rx ∙ ap (λ (n : JavaType). Some n) ez)))
          ∙ ap (λ (n : Width). operator_width o (width_in z) n) (ap type_width (type_plain s c ∙ (ry ∙ ap (λ (n : JavaType). Some n) ew)))

      both : (z w : JavaType) → is_target z ≡ true → is_void z ≡ false → is_target w ≡ true → is_void w ≡ false → x ≡ z → y ≡ w → operator_rule s o z w ≡ Fits (rules.Value t) → Safe program fixed types (this_of s) (types_of s.locals) (p.value (plain s) b >>= (λ v. p.value (plain s) c >>= (λ w. say (operated (binary_operation (width_of (plain s) o b c) o) v w)))) (Gives program (types_of s.locals) t)
      both z w tz gz tw gw ez ew e =
          safe_next program fixed types (this_of s) (types_of s.locals) (p.value (plain s) b) _ _ _ (part_as (value s) b k h f types z (rx ∙ ap (λ (n : JavaType). Some n) ez) tz gz)
          (λ more v q i. safe_next program fixed more (this_of s) (types_of s.locals) (p.value (plain s) c) _ _ _ (part_as (value s) c k l d more w (ry ∙ ap (λ (n : JavaType). Some n) ew) tw gw)
          (λ others u m n. safe_operated program fixed others (this_of s) (types_of s.locals) s (width_of (plain s) o b c) o z w t v u j e (wide z w ez ew) (value_more program.table more others z v m i) n))

      go : Use o x y t → Safe program fixed types (this_of s) (types_of s.locals) (p.value (plain s) b >>= (λ v. p.value (plain s) c >>= (λ w. say (operated (binary_operation (width_of (plain s) o b c) o) v w)))) (Gives program (types_of s.locals) t)
      go (numbers m n ex ey z) = both (NumberType m) (NumberType n) refl refl refl refl ex ey (ap (λ (k : JavaType). operator_rule s o k (NumberType n)) (sym ex) ∙ (ap (λ (k : JavaType). operator_rule s o x k) (sym ey) ∙ e))
      go (booleans ex ey z m) = both BooleanType BooleanType refl refl refl refl ex ey (ap (λ (n : JavaType). operator_rule s o n BooleanType) (sym ex) ∙ (ap (λ (n : JavaType). operator_rule s o x n) (sym ey) ∙ e))
      go (references rx' ry' z m) =
          let ux = used program.table x vx in
          let uy = used program.table y vy in
          safe_next program fixed types (this_of s) (types_of s.locals) (p.value (plain s) b) _ _ _ (part_used (value s) b k h f types x rx ux)
          (λ more v q i. safe_next program fixed more (this_of s) (types_of s.locals) (p.value (plain s) c) _ _ _ (part_used (value s) c k l d more y ry uy)
          (λ others w n i'. subst (λ (a : JavaType). Safe program fixed others (this_of s) (types_of s.locals) (say (operated (binary_operation (width_of (plain s) o b c) o) v w)) (Gives program (types_of s.locals) a)) (sym m)
          (record { by = λ state st. said program fixed others (this_of s) (types_of s.locals) BooleanType (operated (binary_operation (width_of (plain s) o b c) o) v w) state st (references_good program fixed (width_of (plain s) o b c) o v w z (reference_known program fixed more ux.type v (ux.reference rx') i) (reference_known program fixed others uy.type w (uy.reference ry') i')) })))

  -- `&&` and `||`
  junction_is : (s : Scope) (o : BinaryOperator) (x y t : JavaType) → is_junction o ≡ true → Ruled (operator_rule s o x y) t → (x ≡ BooleanType) × (y ≡ BooleanType) × (BooleanType ≡ t)
  junction_is s operators.And x y t j r = let h = ruled_ask (both_boolean x y) 12 (Fits (rules.Value BooleanType)) t r in let z = and_parts (rules.is_boolean x) (rules.is_boolean y) h.0 in (boolean_is x z.0, boolean_is y z.1, ruled_value BooleanType t h.1)
  junction_is s operators.Or x y t j r = let h = ruled_ask (both_boolean x y) 12 (Fits (rules.Value BooleanType)) t r in let z = and_parts (rules.is_boolean x) (rules.is_boolean y) h.0 in (boolean_is x z.0, boolean_is y z.1, ruled_value BooleanType t h.1)
  junction_is s _ x y t j r = absurd (cc (j))

  joined : (width : Width) (o : BinaryOperator) (types : List JavaType) (this : Option ℕ) (ls : List JavaType) (m n : Run Value) → is_junction o ≡ true → ((types : List JavaType) → Safe program fixed types this ls m (Gives program ls BooleanType)) → ((types : List JavaType) → Safe program fixed types this ls n (Gives program ls BooleanType)) → Safe program fixed types this ls (binary width o m n) (Gives program ls BooleanType)
  joined width operators.And types this ls m n j x y = safe_next program fixed types this ls m _ _ _ (x types) (λ more v q i. safe_choose program fixed more this ls v n (give (Truth false)) _ i (y more) (safe_give program fixed more this ls (Truth false) _ (refl, refl)))
  joined width operators.Or types this ls m n j x y = safe_next program fixed types this ls m _ _ _ (x types) (λ more v q i. safe_choose program fixed more this ls v (give (Truth true)) n _ i (safe_give program fixed more this ls (Truth true) _ (refl, refl)) (y more))
  joined width _ types this ls m n j x y = absurd (cc (j))

  pub operation : (s : Scope) (pl : Place) (o : BinaryOperator) (b c : Tree) → IsScope program fixed s → Coded program fixed (Expression false) s b → Coded program fixed (Expression false) s c → (judged s (trees.Binary pl o b c)).faults ≡ [] → Goal s (trees.Binary pl o b c)
  unfolding judged
  operation s pl o b c k h l f types t u r g a =
      let below = below_none pl (on_two (operator_rule s o) (judged (value s) b).typed (judged (value s) c).typed) ((judged (value s) b).faults ++ (judged (value s) c).faults) f in
      let front = front_none (judged (value s) b).faults (judged (value s) c).faults below in
      let back = back_none (judged (value s) b).faults (judged (value s) c).faults below in
      let x = typed_at program fixed facts (value s) b k h front in
      let y = typed_at program fixed facts (value s) c k l back in
      let rule = ruled_two pl (operator_rule s o) (judged (value s) b) (judged (value s) c) x.type y.type t x.known y.known f r in
      let plainly = ruled_plainly (rules.is_statement s.role) (operator_rule s o x.type y.type) t (operator_fine s (subst HasVariables (sym k.0) (has_variables program fixed facts)) o x.type y.type x.kind) rule in
      safe_as program fixed facts.below types (this_of s) (types_of s.locals) _ t u a (go (is_junction o) refl front back x.type y.type x.kind y.kind x.known y.known rule plainly)
    where
      go : (j : Bool) → is_junction o ≡ j → (judged (value s) b).faults ≡ [] → (judged (value s) c).faults ≡ [] → (x y : JavaType) → is_value_type x ≡ true → is_value_type y ≡ true → type_in (judged (value s) b).typed ≡ Some x → type_in (judged (value s) c).typed ≡ Some y → Ruled (operator_rule s o x y) t
          → operator_rule s o x y ≡ Fits (rules.Value t) → Safe program fixed types (this_of s) (types_of s.locals) (binary (width_of (plain s) o b c) o (p.value (plain s) b) (p.value (plain s) c)) (Gives program (types_of s.locals) t)
      go true j front back x y vx vy rx ry rule plainly =
          let is = junction_is s o x y t j rule in
          subst (λ (z : JavaType). Safe program fixed types (this_of s) (types_of s.locals) (binary (width_of (plain s) o b c) o (p.value (plain s) b) (p.value (plain s) c)) (Gives program (types_of s.locals) z)) is.2
          (joined (width_of (plain s) o b c) o types (this_of s) (types_of s.locals) _ _ j (λ more. part_as (value s) b k h front more BooleanType (rx ∙ ap (λ (n : JavaType). Some n) is.0) refl refl) (λ more. part_as (value s) c k l back more BooleanType (ry ∙ ap (λ (n : JavaType). Some n) is.1) refl refl))
      go false j front back x y vx vy rx ry rule plainly =
          subst (λ (m : Run Value). Safe program fixed types (this_of s) (types_of s.locals) m (Gives program (types_of s.locals) t)) (sym (both_operands (width_of (plain s) o b c) o (p.value (plain s) b) (p.value (plain s) c) j))
          (operands s o b c k h l front back types x y t j vx vy rx ry plainly (used_by s o x y t j plainly))
