-- Runs that give a value, by what they leave in memory and a bound on the fuel that they take.
use Rattle.std.proofs.Common.{◌≡◌, ℕ, zero, suc, ◌+◌, ◌-◌, ◌≤◌, Bool, true, false, List, [], ◌∷◌, ◌++◌, length, Option, Some, None, refl, ap, ◌∙◌, arith}
use Rattle.std.specs.Prelude.{map, nat_eq, nat_lt, slice_set, pos, if◌then◌else◌}
use Rattle.std.proofs.lemmas.Bool.{le-ltb}
use Rattle.kr_ast.specs.Tree.{Tree}
use Rattle.kr_value.specs.declared.value.Value.{Value}
use Rattle.kr_value.specs.declared.value.Value.TheVariants.{Int, Ref as Reference}
use Rattle.kr_value.specs.declared.object.Class.{Class}
use Rattle.kr_value.specs.Heaps.{HeapObject, object_in}
use Rattle.kr_classes_table.specs.Types.{JavaType}
use Rattle.kr_classes_table.specs.Table.{Field}
use Rattle.kr_types_meaning.specs.Scopes.{Scope}
use Rattle.kr_mean.specs.declared.flow.Flow.{Flow}
use Rattle.kr_mean.specs.Program.{Program, spot_of_field, is_array_of}
use Rattle.kr_mean.specs.Steps.{Local, Outcome, Run, State, ◌>>◌, assign, assign_if, back_to, bind, declare, entered, give, go_on, local_at, local_given, make, plain_local, put, read_local, store, store_at, store_element, store_element_if, store_index, store_new, store_new_if, tick, within}
use Rattle.kr_mean.specs.Meaning.{execute, statement, unbounded, value, value_of}
use Rattle.kr_laws_runs.proofs.Bounds.{execute_is, value_is}

-- what a run changes, but for fuel
pub record Memory : Type 0 where
  pub this_value : Value
  pub locals : List Local
  pub heap : List HeapObject

-- outside of the search, so that nothing is a candidate
abbrev pub state : Memory → ℕ → State
state m fuel = record { this_value = m.this_value; locals = m.locals; result = None; olds = []; thrown = None; heap = m.heap; candidates = 0; fuel = fuel }

pub record Left {A : Type 0} (o : Outcome A) (a : A) (to : Memory) (least : ℕ) : Type 0 where
  pub fuel : ℕ
  pub is : o ≡ give a (state to fuel)
  pub enough : least ≤ fuel

-- With so much fuel or more, the run gives the value and leaves the memory; it takes no more fuel than that.
pub record Goes {A : Type 0} (run : Run A) (from : Memory) (a : A) (to : Memory) (cost : ℕ) : Type 0 where
  pub by : (fuel : ℕ) → cost ≤ fuel → Left (run (state from fuel)) a to (fuel - cost)

-- ---- sequences

pub goes_give : {A : Type 0} (a : A) (s : Memory) → Goes (give a) s a s 0
goes_give a s = record { by = λ fuel e. record { fuel = fuel; is = refl; enough = omega arith } }

pub goes_then : {A B : Type 0} {m : Run A} (f : A → Run B) {s t u : Memory} {a : A} {b : B} {c d : ℕ} → Goes m s a t c → Goes (f a) t b u d → Goes (bind m f) s b u (c + d)
unfolding bind
goes_then {A} {B} {m} f {s} {t} {u} {a} {b} {c} {d} p q = record {
  by = λ fuel e.
      let x : Left (m (state s fuel)) a t (fuel - c) = p.by fuel (omega (arith, e)) in
      let y : Left (f a (state t x.fuel)) b u (x.fuel - d) = q.by x.fuel (omega (arith, e, x.enough)) in
      record { fuel = y.fuel; is = ap (λ (o : Outcome A). go_on o.said o.after o.reads f) x.is ∙ y.is; enough = omega (arith, e, x.enough, y.enough) };
}

pub goes_more : {A : Type 0} {m : Run A} {s t : Memory} {a : A} {c : ℕ} (d : ℕ) → c ≤ d → Goes m s a t c → Goes m s a t d
goes_more {A} {m} {s} {t} {a} {c} d le p = record {
  by = λ fuel e.
      let x : Left (m (state s fuel)) a t (fuel - c) = p.by fuel (omega (arith, e, le)) in
      record { fuel = x.fuel; is = x.is; enough = omega (arith, le, x.enough) };
}

pub goes_tick : (s : Memory) → Goes tick s tt s 1
goes_tick s = record { by = go }
  where
    go : (fuel : ℕ) → 1 ≤ fuel → Left (tick (state s fuel)) tt s (fuel - 1)
    go zero e = absurd (omega (arith, e))
    go (suc n) e = record { fuel = n; is = refl; enough = omega arith }

-- ---- nodes

pub goes_node : {s t : Memory} {v : Value} {c : ℕ} (program : Program) (scope : Scope) (e : Tree) → Goes (value_of program (unbounded program) scope e) s v t c → Goes (value program scope e) s v t (1 + c)
goes_node {s} {t} {v} {c} program scope e p =
    let q : Goes (tick >> value_of program (unbounded program) scope e) s v t (1 + c) = goes_then (λ _. value_of program (unbounded program) scope e) (goes_tick s) p in
    record {
      by = λ fuel le.
          let x : Left ((tick >> value_of program (unbounded program) scope e) (state s fuel)) v t (fuel - (1 + c)) = q.by fuel le in
          record { fuel = x.fuel; is = value_is program scope e (state s fuel) ∙ x.is; enough = x.enough };
    }

pub goes_statement : {s t : Memory} {flow : Flow} {c : ℕ} (program : Program) (scope : Scope) (e : Tree) → Goes (statement program (unbounded program) scope e) s flow t c → Goes (execute program scope e) s flow t c
goes_statement {s} {t} {flow} {c} program scope e q = record {
  by = λ fuel le.
      let x : Left (statement program (unbounded program) scope e (state s fuel)) flow t (fuel - c) = q.by fuel le in
      record { fuel = x.fuel; is = execute_is program scope e (state s fuel) ∙ x.is; enough = x.enough };
}

-- ---- the frame

abbrev pub with_locals : List Local → Memory → Memory
with_locals ls s = record { this_value = s.this_value; locals = ls; heap = s.heap }

abbrev pub with_heap : List HeapObject → Memory → Memory
with_heap heap s = record { this_value = s.this_value; locals = s.locals; heap = heap }

pub goes_read : (s : Memory) (k : ℕ) (v : Value) → local_at s.locals k ≡ Some (plain_local v) → Goes (read_local k) s v s 0
goes_read s k v e = record { by = λ fuel le. record { fuel = fuel; is = ap (λ (x : Option Local). local_given x (state s fuel)) e; enough = omega arith } }

pub goes_declare : (s : Memory) (v : Value) → Goes (declare v) s tt (with_locals (s.locals ++ plain_local v ∷ []) s) 0
goes_declare s v = record { by = λ fuel le. record { fuel = fuel; is = refl; enough = omega arith } }

pub goes_assign : (s : Memory) (k : ℕ) (v : Value) → nat_lt k (length s.locals) ≡ true → Goes (assign k v) s tt (with_locals (slice_set s.locals k (plain_local v)) s) 0
goes_assign s k v e = record { by = λ fuel le. record { fuel = fuel; is = ap (λ (b : Bool). assign_if b k v (state s fuel)) e; enough = omega arith } }

pub goes_within : {A : Type 0} {body : Run A} {a : A} {c : ℕ} (s t : Memory) (receiver : Value) (n : ℕ) (arguments : List Value) → nat_eq (length arguments) n ≡ true
    → Goes body (record { this_value = receiver; locals = map plain_local arguments; heap = s.heap }) a t c → Goes (within receiver n arguments body) s a (with_heap t.heap s) c
goes_within {A} {body} {a} {c} s t receiver n arguments e p = record {
  by = λ fuel le.
      let inner : Memory = record { this_value = receiver; locals = map plain_local arguments; heap = s.heap } in
      let x : Left (body (state inner fuel)) a t (fuel - c) = p.by fuel le in
      record {
        fuel = x.fuel;
        is = ap (λ (b : Bool). entered b receiver arguments body (state s fuel)) e ∙ ap (back_to (state s fuel)) x.is;
        enough = x.enough;
      };
}

-- ---- the heap

pub goes_make : (s : Memory) (class : Class) (values : List Value) → Goes (make class values) s (Reference (length s.heap)) (with_heap (s.heap ++ record { class = class; values = values } ∷ []) s) 0
goes_make s class values = record { by = λ fuel le. record { fuel = fuel; is = refl; enough = omega arith } }

pub goes_store : (s : Memory) (program : Program) (f : Field) (o k : ℕ) (v : Value) → spot_of_field program f (object_in s.heap o).class ≡ Some k → Goes (store program f (Reference o) v) s tt (with_heap (put s.heap o k v) s) 0
goes_store s program f o k v e = record { by = λ fuel le. record { fuel = fuel; is = ap (λ (x : Option ℕ). store_at o x v (state s fuel)) e; enough = omega arith } }

none_below : (o : ℕ) → nat_lt o 0 ≡ false
none_below o = le-ltb o 0 (omega arith)

pub goes_store_new : (s : Memory) (program : Program) (f : Field) (o k : ℕ) (v : Value) → spot_of_field program f (object_in s.heap o).class ≡ Some k → Goes (store_new program f (Reference o) v) s tt (with_heap (put s.heap o k v) s) 0
goes_store_new s program f o k v e = record {
  by = λ fuel le. record {
    fuel = fuel;
    is = ap (λ (b : Bool). store_new_if b program f o v (state s fuel)) (none_below o) ∙ ap (λ (x : Option ℕ). store_at o x v (state s fuel)) e;
    enough = omega arith;
  };
}

pub goes_store_element : (s : Memory) (program : Program) (t : JavaType) (o i : ℕ) (v : Value) → is_array_of program t (object_in s.heap o).class ≡ true → nat_lt i (length (object_in s.heap o).values) ≡ true
    → Goes (store_element program t (Reference o) (Int (pos i)) v) s tt (with_heap (put s.heap o i v) s) 0
goes_store_element s program t o i v is within_it = record {
  by = λ fuel le. record {
    fuel = fuel;
    is = ap (λ (b : Bool). store_element_if b o (pos i) v (state s fuel)) is ∙ ap (λ (b : Bool). let k : Option ℕ = (if b then Some i else None) in store_index o k v (state s fuel)) within_it;
    enough = omega arith;
  };
}
