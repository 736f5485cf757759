-- Between crates: types while a program runs: each step keeps them.
use Rattle.std.specs.Prelude.{◌≡◌, ℕ, ◌<◌, ◌≤◌, true, false, List, [], ◌∷◌, ◌++◌, length, Option, Some, codes, pos}
use Rattle.kr_base.specs.declared.place.Place.{Place}
use Rattle.kr_ast.specs.declared.node.BinaryOperator.{BinaryOperator}
use Rattle.kr_ast.specs.declared.node.UnaryOperator.{UnaryOperator}
use Rattle.kr_classes_table.specs.Arrays.{array_number}
use Rattle.kr_value.specs.declared.value.Value.{Value}
use Rattle.kr_value.specs.declared.value.Value.TheVariants.{Int, Ref as Reference}
use Rattle.kr_value.specs.declared.object.Class.{Class}
use Rattle.kr_value.specs.declared.object.Spot.TheVariants.{Length}
use Rattle.kr_classes_table.specs.Types.{JavaType, int_type, BooleanType, ClassType, ArrayType, ListType, is_reference, width_in}
use Rattle.kr_classes_table.specs.Table.{Field, is_below}
use Rattle.kr_mean.specs.Program.{Program, default_of}
use Rattle.kr_types_meaning.specs.Scopes.{Scope}
use Rattle.kr_types_meaning.specs.Rules.{Fits, Value as Typed, operator_rule, unary_rule}
use Rattle.kr_mean.specs.Steps.{Run, say, tick, get_this, read_local, declare, assign, get_result, get_old, within, scoped, class_or_null, load, load_field, store, store_new, element, store_element, make, collect}
use Rattle.kr_classes_table.specs.Numbers.{Width}
use Rattle.kr_classes_table.specs.Operators.{operator_width}
use Rattle.kr_mean.specs.Operators.{operated, operated_alone, binary_operation, unary_operation}
use Rattle.kr_mean.specs.declared.flow.Flow.{Flow}
use Rattle.kr_mean.specs.Meaning.{create_array}
use Rattle.kr_laws_safety.specs.Fits.{IsOf, AreOf, IsLength, IsObjectOf, type_at}
use Rattle.kr_laws_safety.specs.Triples.{Fixed, IsThis, Extends, Safe, Gives, Keeps, type_of_local, type_of_old}
use Rattle.kr_laws_safety.specs.Steps.{HasField, IsSeen, Collection, type_with, is_junction}

-- Each step of the meaning on values of its types, operators among them: it isn't stuck, what it gives is of its type, and what it leaves of its types, also where it traps.
pub record KeepTypes (program : Program) (fixed : Fixed) : Type 0 where
  -- the frame
  pub ticks : (types : List JavaType) (this : Option ℕ) (ls : List JavaType) → Safe program fixed types this ls tick (Keeps ls)
  pub gets_this : (types : List JavaType) (c : ℕ) (ls : List JavaType) → Safe program fixed types (Some c) ls get_this (λ more after v. (after ≡ ls) × IsThis program.table more (Some c) v)
  pub reads_local : (types : List JavaType) (this : Option ℕ) (ls : List JavaType) (k : ℕ) (t : JavaType) → type_of_local ls k ≡ Some t → Safe program fixed types this ls (read_local k) (Gives program ls t)
  pub declares : (types : List JavaType) (this : Option ℕ) (ls : List JavaType) (t : JavaType) (v : Value) → IsOf program.table types t v → Safe program fixed types this ls (declare v) (λ more after u. after ≡ ls ++ t ∷ [])
  pub assigns : (types : List JavaType) (this : Option ℕ) (ls : List JavaType) (k : ℕ) (t : JavaType) (v : Value) → type_of_local ls k ≡ Some t → IsOf program.table types t v → Safe program fixed types this ls (assign k v) (Keeps ls)
  -- the values that a contract sees
  pub gets_result : (types : List JavaType) (this : Option ℕ) (ls : List JavaType) (t : JavaType) → fixed.result ≡ Some t → Safe program fixed types this ls get_result (Gives program ls t)
  pub gets_old : (types : List JavaType) (this : Option ℕ) (ls : List JavaType) (p : Place) (t : JavaType) → type_of_old fixed.olds p ≡ Some t → Safe program fixed types this ls (get_old p) (Gives program ls t)
  -- a body in a frame of its own, and a block: `this` and the locals are as they were
  pub runs_within : (types : List JavaType) (this inner : Option ℕ) (ls ps : List JavaType) (t : JavaType) (receiver : Value) (vs : List Value) (body : Run Value) → IsThis program.table types inner receiver → AreOf program.table types ps vs
      → Safe program fixed types inner ps body (λ more after v. IsOf program.table more t v) → Safe program fixed types this ls (within receiver (length ps) vs body) (Gives program ls t)
  pub runs_scoped : (types : List JavaType) (this : Option ℕ) (ls : List JavaType) (m : Run Flow) → Safe program fixed types this ls m (λ more after flow. Extends ls after) → Safe program fixed types this ls (scoped m) (Keeps ls)
  -- objects
  pub sees_class : (types : List JavaType) (this : Option ℕ) (ls : List JavaType) (t : JavaType) (v : Value) → is_reference t ≡ true → IsOf program.table types t v → Safe program fixed types this ls (class_or_null v) (λ more after seen. (after ≡ ls) × (more ≡ types) × IsSeen program types v seen)
  pub loads_field : (types : List JavaType) (this : Option ℕ) (ls : List JavaType) (c : ℕ) (n : List ℕ) (t : JavaType) (v : Value) → HasField program c n t → IsOf program.table types (ClassType c) v → Safe program fixed types this ls (load_field program n v) (Gives program ls t)
  pub stores_field : (types : List JavaType) (this : Option ℕ) (ls : List JavaType) (f : Field) (c : ℕ) (v x : Value) → HasField program c f.name f.type → is_below program.table c f.class ≡ true → ((d : ℕ) → is_below program.table d c ≡ true → is_below program.table d f.class ≡ true) → IsOf program.table types (ClassType c) v → IsOf program.table types f.type x → Safe program fixed types this ls (store program f v x) (Keeps ls)
  pub stores_new_field : (types : List JavaType) (this : Option ℕ) (ls : List JavaType) (f : Field) (c o : ℕ) (x : Value) → fixed.candidates ≤ o → HasField program c f.name f.type → is_below program.table c f.class ≡ true → ((d : ℕ) → is_below program.table d c ≡ true → is_below program.table d f.class ≡ true) → IsOf program.table types (ClassType c) (Reference o) → IsOf program.table types f.type x → Safe program fixed types this ls (store_new program f (Reference o) x) (Keeps ls)
  -- arrays
  pub loads_length : (types : List JavaType) (this : Option ℕ) (ls : List JavaType) (t : JavaType) (v : Value) → IsOf program.table types (ArrayType t) v → Safe program fixed types this ls (load v Length) (λ more after x. (after ≡ ls) × (n : ℕ) × (x ≡ Int (pos n)) × IsLength n)
  pub loads_element : (types : List JavaType) (this : Option ℕ) (ls : List JavaType) (t : JavaType) (v w : Value) → IsOf program.table types (ArrayType t) v → IsOf program.table types int_type w → Safe program fixed types this ls (element v w) (Gives program ls t)
  pub stores_element : (types : List JavaType) (this : Option ℕ) (ls : List JavaType) (t : JavaType) (v w x : Value) → IsOf program.table types (ArrayType t) v → IsOf program.table types int_type w → IsOf program.table types t x → Safe program fixed types this ls (store_element program t v w x) (Keeps ls)
  -- a new object or array
  pub makes : (types : List JavaType) (this : Option ℕ) (ls : List JavaType) (u : JavaType) (class : Class) (vs : List Value) → IsObjectOf program types u (record { class = class; values = vs }) → Safe program fixed types this ls (make class vs) (λ more after v. (after ≡ ls) × (o : ℕ) × (v ≡ Reference o) × (o < length more) × (type_at more o ≡ u) × (fixed.candidates ≤ o))
  -- collections
  pub adds : (types : List JavaType) (this : Option ℕ) (ls : List JavaType) (k : Collection) (t : JavaType) (v x : Value) → IsOf program.table types (type_with k t) v → IsOf program.table types t x → Safe program fixed types this ls (collect (codes "add") v (x ∷ [])) (Gives program ls BooleanType)
  pub contains : (types : List JavaType) (this : Option ℕ) (ls : List JavaType) (k : Collection) (t : JavaType) (v x : Value) → IsOf program.table types (type_with k t) v → Safe program fixed types this ls (collect (codes "contains") v (x ∷ [])) (Gives program ls BooleanType)
  pub removes : (types : List JavaType) (this : Option ℕ) (ls : List JavaType) (k : Collection) (t : JavaType) (v x : Value) → IsOf program.table types (type_with k t) v → Safe program fixed types this ls (collect (codes "remove") v (x ∷ [])) (Gives program ls BooleanType)
  pub gives_size : (types : List JavaType) (this : Option ℕ) (ls : List JavaType) (k : Collection) (t : JavaType) (v : Value) → IsOf program.table types (type_with k t) v → Safe program fixed types this ls (collect (codes "size") v []) (Gives program ls int_type)
  pub gives_is_empty : (types : List JavaType) (this : Option ℕ) (ls : List JavaType) (k : Collection) (t : JavaType) (v : Value) → IsOf program.table types (type_with k t) v → Safe program fixed types this ls (collect (codes "isEmpty") v []) (Gives program ls BooleanType)
  pub removes_first : (types : List JavaType) (this : Option ℕ) (ls : List JavaType) (t : JavaType) (v : Value) → IsOf program.table types (ListType t) v → Safe program fixed types this ls (collect (codes "removeFirst") v []) (Gives program ls t)
  -- operators on operands as the typing rules require them, and new arrays
  pub operates : (types : List JavaType) (this : Option ℕ) (ls : List JavaType) (s : Scope) (width : Width) (o : BinaryOperator) (a b t : JavaType) (v w : Value) → is_junction o ≡ false → operator_rule s o a b ≡ Fits (Typed t) → width ≡ operator_width o (width_in a) (width_in b) → IsOf program.table types a v → IsOf program.table types b w
      → Safe program fixed types this ls (say (operated (binary_operation width o) v w)) (Gives program ls t)
  pub operates_alone : (types : List JavaType) (this : Option ℕ) (ls : List JavaType) (width : Width) (o : UnaryOperator) (a t : JavaType) (v : Value) → unary_rule o a ≡ Fits (Typed t) → width ≡ width_in a → IsOf program.table types a v → Safe program fixed types this ls (say (operated_alone (unary_operation width o) v)) (Gives program ls t)
  pub creates_array : (types : List JavaType) (this : Option ℕ) (ls : List JavaType) (t : JavaType) (k : ℕ) (v : Value) → array_number program.arrays (ArrayType t) ≡ Some k → IsOf program.table [] t (default_of t) → IsOf program.table types int_type v
      → Safe program fixed types this ls (create_array program t v) (Gives program ls (ArrayType t))

abbrev pub StepsLaw : Type 0
StepsLaw = (program : Program) (fixed : Fixed) → KeepTypes program fixed
