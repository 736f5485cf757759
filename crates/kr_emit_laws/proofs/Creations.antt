-- Runs of creations: objects whose fields have literals as initial values or none, and arrays.
use Rattle.std.proofs.Common.{◌≡◌, ℕ, suc, ◌+◌, ◌*◌, ◌⊎◌, inl, inr, Bool, true, false, List, [], ◌∷◌, ◌++◌, length, Option, Some, None, refl, sym, ap, ◌∙◌, arith, subst}
use Rattle.std.specs.Prelude.{map, pos, nat_lt, replicate, slice_set, if◌then◌else◌}
use Rattle.std.proofs.lemmas.List.{set_at, length-map, length-append, length-set}
use Rattle.std.proofs.lemmas.Bool.{lt-ltb}
use Rattle.kr_base.specs.declared.place.Place.{Place}
use Rattle.kr_ast.specs.Tree as trees
use Rattle.kr_ast.specs.Tree.{Tree, Nil, Cons}
use Rattle.kr_value.specs.declared.value.Value.{Value}
use Rattle.kr_value.specs.declared.value.Value.TheVariants.{Int, Ref as Reference}
use Rattle.kr_value.specs.declared.object.Class.{Class}
use Rattle.kr_value.specs.declared.object.Class.TheVariants.{Object, Array}
use Rattle.kr_value.specs.Heaps.{HeapObject, object_in}
use Rattle.kr_classes_table.specs.Types.{JavaType, ClassType, ArrayType}
use Rattle.kr_classes_table.specs.Table.{Constructor, Field, fields_of, line_of}
use Rattle.kr_classes_table.specs.Arrays.{array_number}
use Rattle.kr_types_meaning.specs.Scopes.{Locals, Scope, after, bind_local, declaring, written}
use Rattle.kr_mean.specs.declared.flow.Flow.TheVariants.{Next}
use Rattle.kr_mean.specs.declared.kind.Kind.TheVariants.{ArrayTooLong}
use Rattle.kr_mean.specs.declared.kind.Stop.TheVariants.{Trapped}
use Rattle.kr_mean.specs.Program.{Program, class_scope, constructor_of, declared_fields, default_of, spot_of_field}
use Rattle.kr_mean.specs.Steps.{Local, Run, ◌>>◌, assign, declare, give, make, plain_local, stop, store_new}
use Rattle.kr_mean.specs.Meaning.{all_declared, all_initialised, constructed, constructed_by, create, create_array, declared, declaring_locals, execute, initial_value, initialised, make_array, unbounded, value}
use Rattle.kr_laws_runs.proofs.Respects.{AllOf}
use Rattle.kr_laws_safety.proofs.Creations.{initialised_present, is_nil}
use Rattle.kr_laws_safety.proofs.Statements.{initial_present}
use Rattle.kr_emit_laws.proofs.Heaps.{here, object, put_here}
use Rattle.kr_emit_laws.proofs.Goes.{Goes, Memory, goes_assign, goes_declare, goes_give, goes_make, goes_more, goes_node, goes_statement, goes_store_new, goes_then, goes_tick, goes_within, with_heap, with_locals}

-- ---- the newest object

abbrev pub making : List HeapObject → ℕ → List Value → Memory → Memory
making heap c values m = with_heap (heap ++ object (Object c) values ∷ []) m

-- ---- initial values

-- an expression has a value wherever it is run, and changes nothing
abbrev pub HasValue : Program → Scope → Tree → Type 0
HasValue program s e = (v : Value) × ((m : Memory) → Goes (value program s e) m v m 2)

-- a field of the objects of a class: nothing, or a value, is set first
pub record IsSimple (program : Program) (c : ℕ) (f : Field) : Type 0 where
  pub initial : (f.initial ≡ trees.Nil) ⊎ ((is_nil f.initial ≡ false) × HasValue program (class_scope program f.class) f.initial)
  pub spot : ℕ
  pub is : spot_of_field program f (Object c) ≡ Some spot

-- a class of a line has no constructor
pub record IsImplied (program : Program) (c d : ℕ) : Type 0 where
  pub constructor : constructor_of program d ≡ None
  pub fields : AllOf (IsSimple program c) (declared_fields program d)

-- a step sets values of the newest object
pub record Fills (run : Run (Unit {0})) (heap : List HeapObject) (c : ℕ) (before : List Value) (cost : ℕ) : Type 0 where
  pub values : List Value
  pub long : length values ≡ length before
  pub goes : (m : Memory) → Goes run (making heap c before m) tt (making heap c values m) cost

field_fills : (program : Program) (heap : List HeapObject) (c : ℕ) (values : List Value) (f : Field) → IsSimple program c f → Fills (initialised program (unbounded program) (Reference (length heap)) f f.initial) heap c values 2
field_fills program heap c values f simple = go simple.initial
  where
    run : Tree → Run (Unit {0})
    run e = initialised program (unbounded program) (Reference (length heap)) f e

    go : (f.initial ≡ trees.Nil) ⊎ ((is_nil f.initial ≡ false) × HasValue program (class_scope program f.class) f.initial) → Fills (initialised program (unbounded program) (Reference (length heap)) f f.initial) heap c values 2
    go (inl e) = record {
      values = values;
      long = refl;
      goes = λ m.
          goes_more 2 (omega arith)
          (subst (λ (x : Tree). Goes (initialised program (unbounded program) (Reference (length heap)) f x) (making heap c values m) tt (making heap c values m) 0) (sym e) (goes_give tt (making heap c values m)));
    }
    go (inr h) = record {
      values = slice_set values simple.spot h.1.0;
      long = length-set values simple.spot h.1.0;
      goes = λ m.
          let old : Memory = making heap c values m in
          let new : Memory = making heap c (slice_set values simple.spot h.1.0) m in
          let spot : spot_of_field program f (object_in old.heap (length heap)).class ≡ Some simple.spot = ap (λ (x : HeapObject). spot_of_field program f x.class) (here heap [] (object (Object c) values) (length heap) refl) ∙ simple.is in
          let x : Goes (store_new program f (Reference (length heap)) h.1.0) old tt new 0 =
          subst (λ (after : List HeapObject). Goes (store_new program f (Reference (length heap)) h.1.0) old tt (with_heap after m) 0) (put_here heap [] (Object c) values (length heap) simple.spot h.1.0 refl)
          (goes_store_new old program f (length heap) simple.spot h.1.0 spot) in
          subst (λ (run : Run (Unit {0})). Goes run old tt new 2) (sym (initialised_present program (unbounded program) (Reference (length heap)) f f.initial h.0))
          (goes_then (λ v. store_new program f (Reference (length heap)) v) (h.1.1 old) x);
    }

fields_fill : (program : Program) (heap : List HeapObject) (c : ℕ) (values : List Value) (fs : List Field) → AllOf (IsSimple program c) fs → Fills (all_initialised program (unbounded program) (Reference (length heap)) fs) heap c values (2 * length fs)
fields_fill program heap c values [] h = record { values = values; long = refl; goes = λ m. goes_give tt (making heap c values m) }
fields_fill program heap c values (f ∷ fs) h =
    let x = field_fills program heap c values f h.0 in
    let y = fields_fill program heap c x.values fs h.1 in
    record {
      values = y.values;
      long = y.long ∙ x.long;
      goes = λ m. goes_more (2 * suc (length fs)) (omega arith) (goes_then (λ _. all_initialised program (unbounded program) (Reference (length heap)) fs) (x.goes m) (y.goes m));
    }

-- ---- construction

-- the fields that a line of classes declares
abbrev pub declared_on : Program → List ℕ → ℕ
declared_on program [] = 0
declared_on program (d ∷ ds) = declared_on program ds + length (declared_fields program d)

line_fills : (program : Program) (heap : List HeapObject) (c : ℕ) (values : List Value) (ds : List ℕ) → AllOf (IsImplied program c) ds → Fills (constructed program (unbounded program) ds (Reference (length heap)) []) heap c values (2 * declared_on program ds)
line_fills program heap c values [] h = record { values = values; long = refl; goes = λ m. goes_give tt (making heap c values m) }
line_fills program heap c values (d ∷ ds) h =
    let o : Value = Reference (length heap) in
    let x = line_fills program heap c values ds h.1 in
    let fs : List Field = declared_fields program d in
    let y = fields_fill program heap c x.values fs h.0.fields in
    record {
      values = y.values;
      long = y.long ∙ x.long;
      goes = λ m.
          let inner : Memory = record { this_value = o; locals = []; heap = m.heap } in
          let body : Goes (constructed program (unbounded program) ds o [] >> all_initialised program (unbounded program) o fs) (making heap c values inner) tt (making heap c y.values inner) (2 * declared_on program ds + 2 * length fs) =
          goes_then (λ _. all_initialised program (unbounded program) o fs) (x.goes inner) (y.goes inner) in
          goes_more (2 * (declared_on program ds + length fs)) (omega arith)
          (subst (λ (k : Option Constructor). Goes (constructed_by program (unbounded program) d k o [] (constructed program (unbounded program) ds o)) (making heap c values m) tt (making heap c y.values m) (2 * declared_on program ds + 2 * length fs)) (sym h.0.constructor)
          (goes_within (making heap c values m) (making heap c y.values inner) o 0 [] refl body));
    }

-- ---- creations

-- An expression gives a new object of a class, with these values where so many objects are there.
pub record Creates (program : Program) (s : Scope) (e : Tree) (class : Class) (values : List HeapObject → List Value) (cost : ℕ) : Type 0 where
  pub goes : (m : Memory) → Goes (value program s e) m (Reference (length m.heap)) (with_heap (m.heap ++ object class (values m.heap) ∷ []) m) cost

abbrev defaults : Program → ℕ → List Value
defaults program c = map (λ (f : Field). default_of f.type) (fields_of program.table c)

pub object_filled : (program : Program) (c : ℕ) → AllOf (IsImplied program c) (line_of program.table c) → (heap : List HeapObject)
    → Fills (constructed program (unbounded program) (line_of program.table c) (Reference (length heap)) []) heap c (map (λ (f : Field). default_of f.type) (fields_of program.table c)) (2 * declared_on program (line_of program.table c))
object_filled program c line heap = line_fills program heap c (defaults program c) (line_of program.table c) line

pub object_long : (program : Program) (c : ℕ) (line : AllOf (IsImplied program c) (line_of program.table c)) (heap : List HeapObject) → length (object_filled program c line heap).values ≡ length (fields_of program.table c)
object_long program c line heap = (object_filled program c line heap).long ∙ length-map (fields_of program.table c) (λ (f : Field). default_of f.type)

pub creates_object : (program : Program) (s : Scope) (p : Place) (t : Tree) (c : ℕ) → written s t ≡ ClassType c → (line : AllOf (IsImplied program c) (line_of program.table c))
    → Creates program s (trees.ObjectCreation p t Nil) (Object c) (λ heap. (object_filled program c line heap).values) (1 + 2 * declared_on program (line_of program.table c))
creates_object program s p t c is line = record {
  goes = λ m.
      let fresh : Goes (make (Object c) (defaults program c)) m (Reference (length m.heap)) (making m.heap c (defaults program c) m) 0 = goes_make m (Object c) (defaults program c) in
      let filled = object_filled program c line m.heap in
      let after : Memory = making m.heap c filled.values m in
      let created : Goes (create program (unbounded program) (ClassType c) []) m (Reference (length m.heap)) after (2 * declared_on program (line_of program.table c)) =
      goes_more (2 * declared_on program (line_of program.table c)) (omega arith)
      (goes_then (λ o. constructed program (unbounded program) (line_of program.table c) o [] >> give o) fresh
      (goes_then (λ _. give (Reference (length m.heap))) (filled.goes m) (goes_give (Reference (length m.heap)) after))) in
      goes_node program s (trees.ObjectCreation p t Nil)
      (goes_more (2 * declared_on program (line_of program.table c)) (omega arith)
      (goes_then (λ vs. create program (unbounded program) (written s t) vs) (goes_give [] m)
      (subst (λ (u : JavaType). Goes (create program (unbounded program) u []) m (Reference (length m.heap)) after (2 * declared_on program (line_of program.table c))) (sym is) created)));
}

pub creates_array : (program : Program) (s : Scope) (p : Place) (t e : Tree) (type : JavaType) (n k : ℕ) → written s t ≡ type → array_number program.arrays (ArrayType type) ≡ Some k → nat_lt 64 n ≡ false → ((m : Memory) → Goes (value program s e) m (Int (pos n)) m 1)
    → Creates program s (trees.ArrayCreation p t e) (Array k) (λ heap. replicate n (default_of type)) 2
creates_array program s p t e type n k is number small given = record {
  goes = λ m.
      let after : Memory = with_heap (m.heap ++ object (Array k) (replicate n (default_of type)) ∷ []) m in
      let o : Value = Reference (length m.heap) in
      let made : Goes (make_array type n (Some k)) m o after 0 = goes_make m (Array k) (replicate n (default_of type)) in
      let numbered : Goes (make_array type n (array_number program.arrays (ArrayType type))) m o after 0 = subst (λ (x : Option ℕ). Goes (make_array type n x) m o after 0) (sym number) made in
      let created : Goes (create_array program type (Int (pos n))) m o after 0 =
      subst (λ (b : Bool). Goes (let run : Run Value = if b then stop (Trapped ArrayTooLong) else make_array type n (array_number program.arrays (ArrayType type)) in run) m o after 0) (sym small) numbered in
      goes_node program s (trees.ArrayCreation p t e)
      (goes_then (λ x. create_array program (written s t) x) (given m) (subst (λ (u : JavaType). Goes (create_array program u (Int (pos n))) m o after 0) (sym is) created));
}

-- ---- locals

-- the scope of a local's initial value, which is that of the statements after it
abbrev pub with_new : Scope → Tree → List ℕ → Scope
with_new s type n = let t = declaring Locals type s in bind_local n t.declared t

pub goes_declared : (program : Program) (s : Scope) (p q : Place) (type e : Tree) (n : List ℕ) (class : Class) (values : List HeapObject → List Value) (cost : ℕ) (m : Memory) → is_nil e ≡ false → length s.locals ≡ length m.locals → Creates program (with_new s type n) e class values cost
    → Goes (execute program s (trees.Local p type (Cons (trees.Declarator q n e) Nil))) m Next (record { this_value = m.this_value; locals = m.locals ++ plain_local (Reference (length m.heap)) ∷ []; heap = m.heap ++ object class (values m.heap) ∷ [] }) (1 + cost)
goes_declared program s p q type e n class values cost m there long created =
    let inner : Scope = declaring_locals s type in
    let k : ℕ = length s.locals in
    let d : Value = default_of inner.declared in
    let begun : Memory = with_locals (m.locals ++ plain_local d ∷ []) m in
    let o : Value = Reference (length m.heap) in
    let heap : List HeapObject = m.heap ++ object class (values m.heap) ∷ [] in
    let made : Memory = with_heap heap begun in
    let end : Memory = record { this_value = m.this_value; locals = m.locals ++ plain_local o ∷ []; heap = heap } in
    let inside : nat_lt k (length (m.locals ++ plain_local d ∷ [])) ≡ true = lt-ltb k (length (m.locals ++ plain_local d ∷ [])) (omega (arith, long, length-append m.locals (plain_local d ∷ []))) in
    let set : Goes (assign k o) made tt end 0 =
    subst (λ (ls : List Local). Goes (assign k o) made tt (with_locals ls made) 0) (set_at m.locals (plain_local d) [] (plain_local o) k (sym long)) (goes_assign made k o inside) in
    let given : Goes (initial_value (unbounded program) (with_new s type n) k e) begun tt end cost =
    subst (λ (run : Run (Unit {0})). Goes run begun tt end cost) (sym (initial_present (unbounded program) (with_new s type n) k e there))
    (goes_more cost (omega arith) (goes_then (λ v. assign k v) (created.goes begun) set)) in
    let one : Goes (declared (unbounded program) inner (trees.Declarator q n e)) m tt end (1 + cost) =
    goes_more (1 + cost) (omega arith)
    (goes_then (λ _. declare d >> initial_value (unbounded program) (with_new s type n) k e) (goes_tick m) (goes_then (λ _. initial_value (unbounded program) (with_new s type n) k e) (goes_declare m d) given)) in
    goes_statement program s (trees.Local p type (Cons (trees.Declarator q n e) Nil))
    (goes_more (1 + cost) (omega arith) (goes_then (λ _. all_declared (unbounded program) (after inner (trees.Declarator q n e)) []) one (goes_give Next end)))
