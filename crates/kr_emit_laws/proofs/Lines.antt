-- Runs of single lines.
use Rattle.std.proofs.Common.{◌≡◌, ℕ, ◌+◌, ◌*◌, ◌<◌, ◌^◌, Bool, true, false, List, [], ◌∷◌, ◌++◌, length, get_or, Option, Some, None, refl, sym, ap, ◌∙◌, arith}
use Rattle.std.specs.Prelude.{pos, negsuc, codes, nat_lt, replicate, if◌then◌else◌, option_and_then}
use Rattle.std.proofs.lemmas.List.{length-append}
use Rattle.kr_base.specs.declared.place.Place.{Place}
use Rattle.kr_ast.specs.Tree as trees
use Rattle.kr_ast.specs.Tree.{Tree, Nil}
use Rattle.kr_value.specs.declared.value.Value.{Value}
use Rattle.kr_value.specs.declared.value.Value.TheVariants.{Int, Bool as Truth, Null, Ref as Reference}
use Rattle.kr_value.specs.declared.object.Class.TheVariants.{Object, Array}
use Rattle.kr_value.specs.Heaps.{HeapObject, object_in}
use Rattle.kr_classes_table.specs.Numbers.{Width, Bits32, Bits64, half, is_within}
use Rattle.kr_classes_table.specs.Types.{JavaType, VoidType, ClassType, ArrayType, is_known}
use Rattle.kr_classes_table.specs.Table.{Field, Table, field_named, line_of, type_named}
use Rattle.kr_classes_table.specs.Arrays.{array_number}
use Rattle.kr_classes_table.specs.Constants.{field_meant}
use Rattle.kr_types_meaning.specs.Scopes.{LocalName, Scope, meant, written}
use Rattle.kr_types_meaning.specs.Typing.{type_of}
use Rattle.kr_mean.specs.declared.flow.Flow.TheVariants.{Next}
use Rattle.kr_mean.specs.Program.{Program, default_of, spot_of_field, is_array_of}
use Rattle.kr_mean.specs.Steps.{Local, give, local_at, plain_local, put}
use Rattle.kr_mean.specs.Meaning.{execute, field_of_type, flow_of, typed_field, unbounded, value}
use Rattle.kr_laws_runs.proofs.Respects.{AllOf}
use Rattle.kr_emit_laws.specs.Syntax.{Boolean, Creates as CreatesLine, CreatesArray, Local as LocalOperand, NullOperand, Operand, SetsElement, SetsField, TypeName, Whole}
use Rattle.kr_emit_laws.specs.BuilderTree.{operand_tree, type_tree}
use Rattle.kr_emit_laws.proofs.Bodies.{Runs, runs_one}
use Rattle.kr_emit_laws.proofs.Creations.{IsImplied, creates_array, creates_object, declared_on, goes_declared, object_filled, with_new}
use Rattle.kr_emit_laws.proofs.Expressions.{goes_local, goes_long, goes_minus_int, goes_minus_long, goes_null, goes_number, goes_to_element, goes_to_field, goes_truth, local_type}
use Rattle.kr_emit_laws.proofs.Goes.{Goes, Memory, goes_give, goes_more, goes_statement, goes_then, goes_tick, with_heap}
use Rattle.kr_emit_laws.proofs.Heaps.{object}
use Rattle.kr_emit_laws.proofs.Names.{IsIn, in_more, local_name, new_typed, ref_at, refs, refs_more, with_typed, refs_long}

-- Locals of these types have the objects of their numbers.
pub record IsReady (program : Program) (types : List JavaType) (s : Scope) (m : Memory) : Type 0 where
  pub scope : IsIn program types s
  pub locals : m.locals ≡ refs (length types)

-- ---- operands

abbrev pub width_by : Bool → Width
width_by true = Bits64
width_by false = Bits32

-- a number of its width, an object that has a local
abbrev pub IsWritten : ℕ → Operand → Type 0
IsWritten k (Whole is_long z) = is_within (width_by is_long) z ≡ true
IsWritten k (Boolean b) = Unit {0}
IsWritten k NullOperand = Unit {0}
IsWritten k (LocalOperand i) = i < k

abbrev pub operand_value : Operand → Value
operand_value (Whole is_long z) = Int z
operand_value (Boolean b) = Truth b
operand_value NullOperand = Null
operand_value (LocalOperand i) = Reference i

-- an instance field of a name, and its number in objects of a class
pub record IsSpotOf (program : Program) (c : ℕ) (name : List ℕ) (k : ℕ) : Type 0 where
  pub field : Field
  pub named : field_named program.table c name ≡ Some field
  pub instance : field.is_static ≡ false
  pub spot : spot_of_field program field (Object c) ≡ Some k

-- ---- what a creation leaves

abbrev pub with_object : HeapObject → Memory → Memory
with_object x m = record { this_value = m.this_value; locals = m.locals ++ plain_local (Reference (length m.heap)) ∷ []; heap = m.heap ++ x ∷ [] }

module _ (program : Program) (at : List ℕ → Place) (types : List JavaType) (s : Scope) (m : Memory) (ready : IsReady program types s m) where
  k : ℕ
  k = length types

  local_here : (i : ℕ) → i < length types → local_at m.locals i ≡ Some (plain_local (Reference i))
  local_here i h = ap (λ (ls : List Local). local_at ls i) ready.locals ∙ ref_at (length types) i h

  name_here : (i : ℕ) → i < length types → meant s (local_name i) ≡ LocalName i (get_or types i VoidType)
  name_here i h = ready.scope.knows.named i h (field_meant s.table s.class (local_name i))

  pub goes_object : (p : Place) (i : ℕ) → i < length types → Goes (value program s (trees.Variable p (local_name i))) m (Reference i) m 1
  goes_object p i h = goes_local program s p (local_name i) i (get_or types i VoidType) m (Reference i) (name_here i h) (local_here i h)

  object_type : (p : Place) (i : ℕ) (t : JavaType) → i < length types → get_or types i VoidType ≡ t → is_known t ≡ true → type_of s (trees.Variable p (local_name i)) ≡ Some t
  object_type p i t h e known = local_type s p (local_name i) i t (name_here i h ∙ ap (λ (u : JavaType). LocalName i u) e) known

  pub goes_operand : (front : List ℕ) (x : Operand) → IsWritten (length types) x → Goes (value program s (operand_tree at front x)) m (operand_value x) m 2
  goes_operand front (Whole true (pos n)) h = goes_more 2 (omega arith) (goes_long program s (at front) n m h)
  goes_operand front (Whole true (negsuc n)) h = goes_minus_long program s (at front) (at (front ++ codes "-")) n m h
  goes_operand front (Whole false (pos n)) h = goes_more 2 (omega arith) (goes_number program s (at front) n m h)
  goes_operand front (Whole false (negsuc n)) h = goes_minus_int program s (at front) (at (front ++ codes "-")) n m h
  goes_operand front (Boolean b) h = goes_more 2 (omega arith) (goes_truth program s (at front) b m)
  goes_operand front NullOperand h = goes_more 2 (omega arith) (goes_null program s (at front) m)
  goes_operand front (LocalOperand i) h = goes_more 2 (omega arith) (goes_object (at front) i h)

  -- ---- assignments

  goes_expression : (p : Place) (e : Tree) (v : Value) (n : Memory) (cost : ℕ) → Goes (value program s e) m v n cost → Goes (execute program s (trees.ExpressionStatement p e)) m Next n (1 + cost)
  goes_expression p e v n cost goes =
      goes_statement program s (trees.ExpressionStatement p e)
      (goes_more (1 + cost) (omega arith) (goes_then (λ _. flow_of program (unbounded program) s (trees.ExpressionStatement p e)) (goes_tick m) (goes_then (λ _. give Next) goes (goes_give Next n))))

  pub runs_sets_field : (i c : ℕ) (name : List ℕ) (j : ℕ) (x : Operand) → i < length types → get_or types i VoidType ≡ ClassType c → IsSpotOf program c name j → (object_in m.heap i).class ≡ Object c → IsWritten (length types) x
      → Runs program at (SetsField i name x ∷ []) s m s (with_heap (put m.heap i j (operand_value x)) m) 5
  runs_sets_field i c name j x inside type spot class written =
      runs_one program at (SetsField i name x) s s m (with_heap (put m.heap i j (operand_value x)) m) 5 (λ front. refl) (λ front.
      let p : Place = at front in
      let variable : Tree = trees.Variable p (local_name i) in
      let typed : typed_field s variable name ≡ Some spot.field =
      ap (λ (t : Option JavaType). field_of_type s.table name t) (object_type p i (ClassType c) inside type refl)
      ∙ (ap (λ (t : Table). field_of_type t name (Some (ClassType c))) ready.scope.table
      ∙ (ap (λ (f : Option Field). option_and_then (λ (g : Field). if g.is_static then None else Some g) f) spot.named ∙ ap (λ (b : Bool). let f : Option Field = if b then None else Some spot.field in f) spot.instance)) in
      let there : spot_of_field program spot.field (object_in m.heap i).class ≡ Some j = ap (λ (k : _). spot_of_field program spot.field k) class ∙ spot.spot in
      goes_expression p (trees.Assignment p (trees.FieldAccess p variable name) (operand_tree at _ x)) (operand_value x) (with_heap (put m.heap i j (operand_value x)) m) 4
      (goes_to_field program s p p variable (operand_tree at _ x) name spot.field m i j (operand_value x) typed (goes_object p i inside) (goes_operand _ x written) there))

  pub runs_sets_element : (i j : ℕ) (t : JavaType) (x : Operand) → i < length types → get_or types i VoidType ≡ ArrayType t → is_known t ≡ true → is_array_of program t (object_in m.heap i).class ≡ true → nat_lt j (length (object_in m.heap i).values) ≡ true → nat_lt j (half Bits32) ≡ true
      → IsWritten (length types) x → Runs program at (SetsElement i j x ∷ []) s m s (with_heap (put m.heap i j (operand_value x)) m) 6
  runs_sets_element i j t x inside type known array there small written =
      runs_one program at (SetsElement i j x) s s m (with_heap (put m.heap i j (operand_value x)) m) 6 (λ front. refl) (λ front.
      let p : Place = at front in
      let variable : Tree = trees.Variable p (local_name i) in
      goes_expression p (trees.Assignment p (trees.ArrayAccess p variable (trees.Number _ j)) (operand_tree at _ x)) (operand_value x) (with_heap (put m.heap i j (operand_value x)) m) 5
      (goes_to_element program s p p variable (trees.Number _ j) (operand_tree at _ x) t m i j (operand_value x) (object_type p i (ArrayType t) inside type known) (goes_object p i inside) (goes_number program s _ j m small) (goes_operand _ x written) array there))

  -- ---- creations

  -- the names of a type mean it
  abbrev pub Means : TypeName → JavaType → Type 0
  Means name t = (p : Place) → type_named program.table.headings (type_tree p name) ≡ t

  means_here : (p : Place) (name : TypeName) (t : JavaType) → Means name t → type_named s.table.headings (type_tree p name) ≡ t
  means_here p name t h = ap (λ (table : Table). type_named table.headings (type_tree p name)) ready.scope.table ∙ h p

  long_here : length s.locals ≡ length m.locals
  long_here = ready.scope.knows.long ∙ (sym (refs_long (length types)) ∙ ap (λ (ls : List Local). length ls) (sym ready.locals))

  pub ready_more : (t : JavaType) (x : HeapObject) → length m.heap ≡ length types → length types < 2 ^ 64 → IsReady program (types ++ t ∷ []) (with_typed s t (local_name (length types))) (with_object x m)
  ready_more t x e small = record {
    scope = in_more program types s t (length types) ready.scope refl small;
    locals =
        ap (λ (ls : List Local). ls ++ plain_local (Reference (length m.heap)) ∷ []) ready.locals
        ∙ (ap (λ (i : ℕ). refs (length types) ++ plain_local (Reference i) ∷ []) e ∙ (refs_more (length types) ∙ ap refs (sym (length-append types (t ∷ [])))));
  }

  pub runs_creates : (name : TypeName) (c : ℕ) → Means name (ClassType c) → (line : AllOf (IsImplied program c) (line_of program.table c)) → length m.heap ≡ length types
      → Runs program at (CreatesLine name (length types) ∷ []) s m (with_typed s (ClassType c) (local_name (length types))) (with_object (object (Object c) (object_filled program c line m.heap).values) m) (2 + 2 * declared_on program (line_of program.table c))
  runs_creates name c means line e =
      let x : HeapObject = object (Object c) (object_filled program c line m.heap).values in
      let cost : ℕ = 1 + 2 * declared_on program (line_of program.table c) in
      runs_one program at (CreatesLine name (length types)) s (with_typed s (ClassType c) (local_name (length types))) m (with_object x m) (2 + 2 * declared_on program (line_of program.table c))
      (λ front. new_typed s (type_tree (at front) name) (local_name (length types)) (ClassType c) (means_here (at front) name (ClassType c) means))
      (λ front.
      goes_more (2 + 2 * declared_on program (line_of program.table c)) (omega arith)
      (goes_declared program s (at front) _ (type_tree (at front) name) (trees.ObjectCreation _ (type_tree _ name) Nil) (local_name (length types)) (Object c) (λ heap. (object_filled program c line heap).values) cost m refl long_here
      (creates_object program (with_new s (type_tree (at front) name) (local_name (length types))) _ (type_tree _ name) c (means_here _ name (ClassType c) means) line)))

  pub runs_creates_array : (name : TypeName) (t : JavaType) (size a : ℕ) → Means name t → array_number program.arrays (ArrayType t) ≡ Some a → nat_lt 64 size ≡ false → nat_lt size (half Bits32) ≡ true → length m.heap ≡ length types
      → Runs program at (CreatesArray name (length types) (pos size) ∷ []) s m (with_typed s (ArrayType t) (local_name (length types))) (with_object (object (Array a) (replicate size (default_of t))) m) 3
  runs_creates_array name t size a means number few small e =
      runs_one program at (CreatesArray name (length types) (pos size)) s (with_typed s (ArrayType t) (local_name (length types))) m (with_object (object (Array a) (replicate size (default_of t))) m) 3
      (λ front. new_typed s (trees.ArrayType (at front) (type_tree (at front) name)) (local_name (length types)) (ArrayType t) (ap (λ (u : JavaType). ArrayType u) (means_here (at front) name t means)))
      (λ front.
      goes_declared program s (at front) _ (trees.ArrayType (at front) (type_tree (at front) name)) (trees.ArrayCreation _ (type_tree _ name) (trees.Number _ size)) (local_name (length types)) (Array a) (λ heap. replicate size (default_of t)) 2 m refl long_here
      (creates_array program (with_new s (trees.ArrayType (at front) (type_tree (at front) name)) (local_name (length types))) _ (type_tree _ name) (trees.Number _ size) t size a (means_here _ name t means) number few (λ n. goes_number program _ _ size n small)))
