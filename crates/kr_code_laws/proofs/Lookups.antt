-- The tables of code agree with the meaning's look-ups in the program.
use Rattle.std.proofs.Common.{◌≡◌, ℕ, Bool, true, false, List, [], ◌∷◌, Option, Some, None, refl, sym, ap, ◌∙◌}
use Rattle.std.specs.Prelude.{nat_lt, if◌then◌else◌}
use Rattle.kr_value.specs.declared.value.Value.{Value}
use Rattle.kr_value.specs.declared.value.Value.TheVariants.{Int, Bool as Truth, Null, Ref as Reference}
use Rattle.kr_value.specs.declared.object.Class.{Class}
use Rattle.kr_value.specs.declared.object.Class.TheVariants.{Object, Array, Set, List as ListClass}
use Rattle.kr_value.specs.declared.object.Spot.TheVariants.{Length}
use Rattle.kr_value.specs.Heaps.{object_in}
use Rattle.kr_classes_table.specs.Types.{JavaType, ArrayType}
use Rattle.kr_mean.specs.declared.kind.Kind.TheVariants.{ClassCastException}
use Rattle.kr_mean.specs.declared.kind.Stop.TheVariants.{Trapped, Stuck}
use Rattle.kr_mean.specs.Program.{Program, is_of_type, is_array_of}
use Rattle.kr_mean.specs.Steps.{give, stop, class_of, load, load_at, load_in, load_field, store_at, store, store_new_if, store_new, store_element_if, store_element, State, make}
use Rattle.kr_mean.specs.Meaning.{cast, instance}
use Rattle.kr_code.specs.declared.code.Code.{Code}
use Rattle.kr_mean.specs.declared.kind.Kind.{Kind}
use Rattle.kr_mean.specs.Thrown.{class_of_kind, step_kinds, is_class, kind_among, kind_of, throw_as, throw_in, throw, is_caught, object_of_class, object_or_new, object_of}
use Rattle.kr_code.specs.Tables.{is_instance, class_in_kind, kind_in, is_caught_by}
use Rattle.kr_code.specs.Steps.{load_by_class, load_named, store_field, store_unless, store_initial, store_item, cast_to, instance_of, throw_class, throw_object, new_thrown, taken_or_new, taken}
use Rattle.kr_code.specs.Resolved.{Numbering, AreTables}
use Rattle.kr_code_laws.proofs.Agreeing.{Agree, then_same}

module _ (program : Program) (code : Code) (n : Numbering) (tables : AreTables program code n) where
  loads_by_class : (k : ℕ) (o : Value) (class : Class) → Agree (load_by_class code o k class) (load_in program o (n.name k) class)
  loads_by_class k o (Object c) s = ap (λ (x : Option ℕ). load_at o x s) (tables.positions k c)
  loads_by_class k o (Array t) s = ap (λ (b : Bool). (if b then load o Length else stop Stuck) s) (sym (tables.length_name k))
  loads_by_class k o Set s = refl
  loads_by_class k o ListClass s = refl

  pub loads : (k : ℕ) (o : Value) → Agree (load_named code k o) (load_field program (n.name k) o)
  loads k o = then_same (class_of o) (class_of o) _ _ (λ s. refl) (loads_by_class k o)

  pub stores : (k : ℕ) (o v : Value) → Agree (store_field code k o v) (store program (n.field k) o v)
  stores k (Reference o) v s = ap (λ (x : Option ℕ). store_at o x v s) (tables.spots k (object_in s.heap o).class)
  stores k (Int i) v s = refl
  stores k (Truth b) v s = refl
  stores k Null v s = refl

  pub stores_initial : (k : ℕ) (o v : Value) → Agree (store_initial code k o v) (store_new program (n.field k) o v)
  stores_initial k (Reference o) v s = go (nat_lt o s.candidates)
    where
      go : (b : Bool) → store_unless b code k o v s ≡ store_new_if b program (n.field k) o v s
      go true = refl
      go false = stores k (Reference o) v s
  stores_initial k (Int i) v s = refl
  stores_initial k (Truth b) v s = refl
  stores_initial k Null v s = refl

  array_instance : (k : ℕ) (t : JavaType) (class : Class) → n.type k ≡ ArrayType t → is_instance code k class ≡ is_array_of program t class
  array_instance k t class e = tables.instances k class ∙ ap (λ (x : JavaType). is_of_type program x class) e

  pub stores_item : (k : ℕ) (t : JavaType) → n.type k ≡ ArrayType t → (o i v : Value) → Agree (store_item code k o i v) (store_element program t o i v)
  stores_item k t e (Reference o) (Int i) v s = ap (λ (b : Bool). store_element_if b o i v s) (array_instance k t (object_in s.heap o).class e)
  stores_item k t e (Reference o) (Truth b) v s = refl
  stores_item k t e (Reference o) Null v s = refl
  stores_item k t e (Reference o) (Reference p) v s = refl
  stores_item k t e Null (Int i) v s = refl
  stores_item k t e Null (Truth b) v s = refl
  stores_item k t e Null Null v s = refl
  stores_item k t e Null (Reference p) v s = refl
  stores_item k t e (Int j) i v s = refl
  stores_item k t e (Truth b) i v s = refl

  pub casts : (k : ℕ) (v : Value) (class : Option Class) → Agree (cast_to code k v class) (cast program (n.type k) v class)
  casts k v None s = refl
  casts k v (Some c) s = ap (λ (b : Bool). (if b then give v else stop (Trapped ClassCastException)) s) (tables.instances k c)

  pub instances : (k : ℕ) (class : Option Class) → instance_of code k class ≡ instance program (n.type k) class
  instances k None = refl
  instances k (Some c) = ap (λ (b : Bool). Truth b) (tables.instances k c)

  -- ---- what is thrown

  kinds_among : (f g : Kind → Option ℕ) → ((k : Kind) → f k ≡ g k) → (c : ℕ) (ks : List Kind) → kind_among f c ks ≡ kind_among g c ks
  kinds_among f g e c [] = refl
  kinds_among f g e c (k ∷ ks) = ap (λ (x : Option ℕ). if is_class c x then k else kind_among f c ks) (e k) ∙ ap (λ (r : Kind). if is_class c (g k) then k else r) (kinds_among f g e c ks)

  kinds_same : (c : ℕ) → kind_in code c ≡ kind_of program c
  kinds_same c = kinds_among (class_in_kind code) (class_of_kind program) tables.traps c step_kinds

  throws_class : {A : Type 0} (v : Value) (class : Class) → Agree {A = A} (throw_class code v class) (throw_in program v class)
  throws_class v (Object c) s = ap (λ (k : Kind). throw_as k v s) (kinds_same c)
  throws_class v (Array t) s = refl
  throws_class v Set s = refl
  throws_class v ListClass s = refl

  pub throws : {A : Type 0} (v : Value) → Agree {A = A} (throw_object code v) (throw program v)
  throws v = then_same (class_of v) (class_of v) _ _ (λ s. refl) (throws_class v)

  new_same : (c : Option ℕ) → Agree (new_thrown code c) (object_of_class program c)
  new_same None s = refl
  new_same (Some c) s = ap (λ (vs : List Value). make (Object c) vs s) (tables.defaults c)

  pub takes : (k : Kind) → Agree (taken code k) (object_of program k)
  takes k s = go s.thrown s
    where
      go : (x : Option Value) (t : State) → taken_or_new code k x t ≡ object_or_new program k x t
      go (Some v) t = refl
      go None t = ap (λ (c : Option ℕ). new_thrown code c t) (tables.traps k) ∙ new_same (class_of_kind program k) t

  -- the same classes fit
  pub fits : (t : ℕ) (to : JavaType) (k : Kind) → n.type t ≡ to → is_caught_by code t (class_in_kind code k) ≡ is_caught program to (class_of_kind program k)
  fits t to k e = ap (is_caught_by code t) (tables.traps k) ∙ go (class_of_kind program k)
    where
      go : (c : Option ℕ) → is_caught_by code t c ≡ is_caught program to c
      go None = refl
      go (Some c) = tables.instances t (Object c) ∙ ap (λ (u : JavaType). is_of_type program u (Object c)) e
