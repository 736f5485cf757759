-- The steps of the meaning on values of their types.
use Rattle.std.proofs.Common.{◌≡◌, ℕ, zero, suc, ◌<◌, ◌≤◌, ◌⊎◌, inl, inr, Bool, true, false, List, [], ◌∷◌, ◌++◌, length, get_or, Result, Ok, Err, Option, Some, None, refl, sym, ap, ◌∙◌, arith, subst}
use Rattle.std.specs.Prelude.{ℤ, pos, negsuc, map, take, slice_set, nat_eq, nat_lt, ◌||◌, if◌then◌else◌}
use Rattle.std.proofs.lemmas.Bool.{eq-eqb, lt-ltb, ltb-true, le-ltb}
use Rattle.std.proofs.lemmas.List.{length-append, length-map, length-set}
use Rattle.kr_laws_pruning.proofs.Spaces.{some_is}
use Rattle.kr_base.specs.declared.place.Place.{Place}
use Rattle.kr_value.specs.declared.value.Value.{Value}
use Rattle.kr_value.specs.declared.value.Value.TheVariants.{Int, Bool as Truth, Null, Ref as Reference}
use Rattle.kr_value.specs.declared.object.Class.{Class}
use Rattle.kr_value.specs.declared.object.Class.TheVariants.{Object, Array, Set, List as ListClass}
use Rattle.kr_value.specs.declared.object.Spot.TheVariants.{Field as FieldSpot, Length}
use Rattle.kr_value.specs.Heaps.{HeapObject, object_in, has_spot, has_spot_of}
use Rattle.kr_classes_table.specs.Numbers.{Width, Bits32}
use Rattle.kr_classes_table.specs.Types.{JavaType, NumberType, int_type, BooleanType, VoidType, ClassType, ArrayType, SetType, ListType, is_element, is_reference}
use Rattle.kr_classes_table.specs.Table.{Table, Field, ancestors, is_among, is_below, is_assignable}
use Rattle.kr_classes_table.specs.Constants.{is_at_place}
use Rattle.kr_mean.specs.declared.kind.Kind.{Kind}
use Rattle.kr_mean.specs.declared.kind.Kind.TheVariants.{NullPointerException, ArrayIndexOutOfBoundsException}
use Rattle.kr_mean.specs.declared.kind.Stop.{Stop}
use Rattle.kr_mean.specs.declared.kind.Stop.TheVariants.{Trapped, OutOfFuel, Stuck}
use Rattle.kr_mean.specs.Program.{Program, is_array_of, field_position, spot_of_field}
use Rattle.kr_mean.specs.Places.{SlotPlace}
use Rattle.kr_mean.specs.Steps.{Local, Old, State, Outcome, Run, give, stop, go_on, bind, ◌>>=◌, ◌>>◌, tick, tick_at, get_this, local_at, local_given, read_local, plain_local, declare, assign_if, assign, given, get_result, old_at, get_old, entered, within, scoped, load_if, load, load_at, load_in, load_field, index_within, element_read, element_if, element, class_or_null, put, store_at, store, store_new_if, store_new, store_index, store_element_if, store_element, make}
use Rattle.kr_mean.specs.Meaning.{choose}
use Rattle.kr_laws_safety.specs.Fits.{IsOf, AreOf, IsLength, IsObjectOf, IsHeapOf, type_at}
use Rattle.kr_laws_safety.specs.Triples.{Fixed, IsThis, values_in, IsResult, AreOlds, IsStateOf, Extends, IsThrownAs, FineTrap, Fine, Safe, Closes, Gives, Keeps, type_of_local, type_of_old}
use Rattle.kr_laws_safety.specs.Steps.{field_types, HasField, IsClassOf, IsSeen}
use Rattle.kr_laws_safety.proofs.Heaps.{extends_self, extends_twice, value_more, values_more, one_more, heap_append, heap_long, last_type, object_found, object_set, value_found, value_set, values_long, values_front, all_found, all_set, same_type}

-- ---- types of objects

abbrev pub IsObjectType : JavaType → Type 0
IsObjectType (ClassType c) = Unit {0}
IsObjectType (ArrayType t) = Unit {0}
IsObjectType (SetType t) = is_element t ≡ true
IsObjectType (ListType t) = is_element t ≡ true
IsObjectType VoidType = Unit {0}
IsObjectType t = ⊥

pub object_type : (program : Program) (types : List JavaType) (t : JavaType) (o : HeapObject) → IsObjectOf program types t o → IsObjectType t
object_type program types (ClassType c) o h = tt
object_type program types (ArrayType t) o h = tt
object_type program types (SetType t) o h = h.1
object_type program types (ListType t) o h = h.1
object_type program types VoidType o h = tt
object_type program types _ o h = absurd h

abbrev pub Assigned : Table → JavaType → JavaType → Type 0
Assigned table u t = (u ≡ t) ⊎ ((c : ℕ) × (d : ℕ) × (u ≡ ClassType c) × (t ≡ ClassType d) × (is_below table c d ≡ true))

pub assigned : (table : Table) (u t : JavaType) → IsObjectType u → is_assignable table u t ≡ true → Assigned table u t
assigned table (ClassType c) (ClassType d) h e = inr (c, d, refl, refl, e)
assigned table (ClassType c) t h e = inl (same_type (ClassType c) t e)
assigned table (ArrayType s) t h e = inl (same_type (ArrayType s) t e)
assigned table (SetType (ClassType c)) t h e = inl (same_type (SetType (ClassType c)) t e)
assigned table (SetType (ArrayType s)) t h e = inl (same_type (SetType (ArrayType s)) t e)
assigned table (SetType _) t h e = absurd (cc (h))
assigned table (ListType (ClassType c)) t h e = inl (same_type (ListType (ClassType c)) t e)
assigned table (ListType (ArrayType s)) t h e = inl (same_type (ListType (ArrayType s)) t e)
assigned table (ListType _) t h e = absurd (cc (h))
assigned table VoidType t h e = inl (same_type VoidType t e)
assigned table _ t h e = absurd h

pub below_itself : (table : Table) (c : ℕ) → is_below table c c ≡ true
below_itself table c = ap (λ (b : Bool). b || is_among c (ancestors table c)) (eq-eqb c c refl)

module _ (program : Program) (fixed : Fixed) where
  -- ---- states

  this_more : (types more : List JavaType) (this : Option ℕ) (v : Value) → Extends types more → IsThis program.table types this v → IsThis program.table more this v
  this_more types more None v x h = tt
  this_more types more (Some c) v x h = (h.0, h.1, value_more program.table types more (ClassType c) (Reference h.0) x h.2)

  result_more : (types more : List JavaType) (r : Option JavaType) (v : Option Value) → Extends types more → IsResult program.table types r v → IsResult program.table more r v
  result_more types more None v x h = tt
  result_more types more (Some t) (Some v) x h = value_more program.table types more t v x h
  result_more types more (Some t) None x h = absurd h

  olds_more : (types more : List JavaType) (ps : List (Place × JavaType)) (os : List Old) → Extends types more → AreOlds program.table types ps os → AreOlds program.table more ps os
  olds_more types more [] os x h = tt
  olds_more types more (p ∷ ps) (o ∷ os) x h = (h.0, value_more program.table types more p.1 o.value x h.1, olds_more types more ps os x h.2)
  olds_more types more (p ∷ ps) [] x h = absurd h

  -- another heap
  pub with_heap : (types more : List JavaType) (this : Option ℕ) (ls : List JavaType) (s : State) (heap : List HeapObject) → Extends types more → IsStateOf program fixed types this ls s → IsHeapOf program more heap → length s.heap ≤ length heap → IsStateOf program fixed more this ls (record s { heap = heap })
  with_heap types more this ls s heap x h k l = record {
    heap = k;
    this_is = this_more types more this s.this_value x h.this_is;
    locals_are = values_more program.table types more ls (values_in s.locals) x h.locals_are;
    result = result_more types more fixed.result s.result x h.result;
    olds = olds_more types more fixed.olds s.olds x h.olds;
    thrown = h.thrown;
    candidates = h.candidates;
    enough = omega (arith, h.enough, l);
  }

  with_locals : (types : List JavaType) (this : Option ℕ) (ls ms : List JavaType) (s : State) (locals : List Local) → IsStateOf program fixed types this ls s → AreOf program.table types ms (values_in locals) → IsStateOf program fixed types this ms (record s { locals = locals })
  with_locals types this ls ms s locals h k = record { heap = h.heap; this_is = h.this_is; locals_are = k; result = h.result; olds = h.olds; thrown = h.thrown; candidates = h.candidates; enough = h.enough }

  pub unthrown : (types : List JavaType) (this : Option ℕ) (ls : List JavaType) (s : State) → IsStateOf program fixed types this ls s → IsStateOf program fixed types this ls (record s { thrown = None })
  unthrown types this ls s h = record { heap = h.heap; this_is = h.this_is; locals_are = h.locals_are; result = h.result; olds = h.olds; thrown = refl; candidates = h.candidates; enough = h.enough }

  -- ---- composition of runs

  pub safe_give : (types : List JavaType) (this : Option ℕ) (ls : List JavaType) {A : Type 0} (a : A) (Q : List JavaType → List JavaType → A → Type 0) → Q types ls a → Safe program fixed types this ls (give a) Q
  safe_give types this ls a Q q = record { by = λ s h. (types, ls, extends_self types, h, q, extends_self ls) }

  -- a step that traps throws no object
  pub fine_trap : (types : List JavaType) (this : Option ℕ) (ls : List JavaType) (k : Kind) (s : State) → IsStateOf program fixed types this ls s → FineTrap program fixed types this ls k s
  fine_trap types this ls k s h = (types, ls, extends_self types, unthrown types this ls s h, extends_self ls, subst (λ (x : Option Value). IsThrownAs program types k x) (sym h.thrown) tt)

  pub safe_trap : (types : List JavaType) (this : Option ℕ) (ls : List JavaType) {A : Type 0} (k : Kind) (Q : List JavaType → List JavaType → A → Type 0) → Safe program fixed types this ls (stop {A = A} (Trapped k)) Q
  safe_trap types this ls k Q = record { by = λ s h. fine_trap types this ls k s h }

  pub safe_spent : (types : List JavaType) (this : Option ℕ) (ls : List JavaType) {A : Type 0} (Q : List JavaType → List JavaType → A → Type 0) → Safe program fixed types this ls (stop {A = A} OutOfFuel) Q
  safe_spent types this ls Q = record { by = λ s h. tt }

  -- the end of a run that began with more objects and locals
  pub fine_more : (types more : List JavaType) (this : Option ℕ) (ls ms : List JavaType) {B : Type 0} (Q : List JavaType → List JavaType → B → Type 0) → Extends types more → Extends ls ms → (r : Result B Stop) (t : State) → Fine program fixed more this ms Q r t → Fine program fixed types this ls Q r t
  fine_more types more this ls ms Q x y (Ok b) t h = (h.0, h.1, extends_twice types more h.0 x h.2, h.3, h.4, extends_twice ls ms h.1 y h.5)
  fine_more types more this ls ms Q x y (Err (Trapped k)) t h = (h.0, h.1, extends_twice types more h.0 x h.2, h.3, extends_twice ls ms h.1 y h.4, h.5)
  fine_more types more this ls ms Q x y (Err OutOfFuel) t h = tt
  fine_more types more this ls ms Q x y (Err Stuck) t h = h

  pub fine_then : (types : List JavaType) (this : Option ℕ) (ls : List JavaType) {A B : Type 0} (f : A → Run B) (R : List JavaType → List JavaType → A → Type 0) (Q : List JavaType → List JavaType → B → Type 0)
      → ((more ms : List JavaType) (a : A) → Extends types more → R more ms a → Safe program fixed more this ms (f a) Q) → (r : Result A Stop) (t : State) (ps : List SlotPlace) → Fine program fixed types this ls R r t → Fine program fixed types this ls Q (go_on r t ps f).said (go_on r t ps f).after
  fine_then types this ls f R Q q (Ok a) t ps h = fine_more types h.0 this ls h.1 Q h.2 h.5 (f a t).said (f a t).after ((q h.0 h.1 a h.2 h.4).by t h.3)
  fine_then types this ls f R Q q (Err (Trapped k)) t ps h = h
  fine_then types this ls f R Q q (Err OutOfFuel) t ps h = tt
  fine_then types this ls f R Q q (Err Stuck) t ps h = h

  pub safe_then : (types : List JavaType) (this : Option ℕ) (ls : List JavaType) {A B : Type 0} (m : Run A) (f : A → Run B) (R : List JavaType → List JavaType → A → Type 0) (Q : List JavaType → List JavaType → B → Type 0) → Safe program fixed types this ls m R
      → ((more ms : List JavaType) (a : A) → Extends types more → R more ms a → Safe program fixed more this ms (f a) Q) → Safe program fixed types this ls (m >>= f) Q
  unfolding bind
  safe_then types this ls m f R Q p q = record { by = λ s h. fine_then types this ls f R Q q (m s).said (m s).after (m s).reads (p.by s h) }

  pub safe_map : (types : List JavaType) (this : Option ℕ) (ls : List JavaType) {A : Type 0} (m : Run A) (R Q : List JavaType → List JavaType → A → Type 0) → Safe program fixed types this ls m R → ((more ms : List JavaType) (a : A) → R more ms a → Q more ms a) → Safe program fixed types this ls m Q
  safe_map types this ls {A} m R Q p q = record { by = λ s h. go (m s).said (m s).after (p.by s h) }
    where
      go : (r : Result A Stop) (t : State) → Fine program fixed types this ls R r t → Fine program fixed types this ls Q r t
      go (Ok a) t h = (h.0, h.1, h.2, h.3, q h.0 h.1 a h.4, h.5)
      go (Err (Trapped k)) t h = h
      go (Err OutOfFuel) t h = tt
      go (Err Stuck) t h = h

  pub safe_tick : (types : List JavaType) (this : Option ℕ) (ls : List JavaType) → Safe program fixed types this ls tick (Keeps ls)
  safe_tick types this ls = record { by = λ s h. go s s.fuel h }
    where
      go : (s : State) (n : ℕ) → IsStateOf program fixed types this ls s → Fine program fixed types this ls (Keeps ls) (tick_at n s).said (tick_at n s).after
      go s zero h = tt
      go s (suc n) h = (types, ls, extends_self types, record { heap = h.heap; this_is = h.this_is; locals_are = h.locals_are; result = h.result; olds = h.olds; thrown = h.thrown; candidates = h.candidates; enough = h.enough }, refl, extends_self ls)

  pub safe_choose : (types : List JavaType) (this : Option ℕ) (ls : List JavaType) {A : Type 0} (v : Value) (m n : Run A) (Q : List JavaType → List JavaType → A → Type 0) → IsOf program.table types BooleanType v → Safe program fixed types this ls m Q → Safe program fixed types this ls n Q → Safe program fixed types this ls (choose v m n) Q
  safe_choose types this ls (Truth true) m n Q i p q = p
  safe_choose types this ls (Truth false) m n Q i p q = q
  safe_choose types this ls (Int z) m n Q i p q = absurd (cc (i.1))
  safe_choose types this ls Null m n Q i p q = absurd (cc (i))
  safe_choose types this ls (Reference o) m n Q i p q = record { by = λ s h. no_boolean s h }
    where
      no_boolean : (s : State) → IsStateOf program fixed types this ls s → ⊥
      no_boolean s h = go (type_at types o) (object_type program types (type_at types o) (object_in s.heap o) (object_found program types types s.heap o h.heap i.0)) i.1
        where
          go : (u : JavaType) → IsObjectType u → is_assignable program.table u BooleanType ≡ true → ⊥
          go u k e = no_assigned u (assigned program.table u BooleanType k e) k
            where
              no_assigned : (u : JavaType) → Assigned program.table u BooleanType → IsObjectType u → ⊥
              no_assigned u (inl e) k = subst IsObjectType e k
              no_assigned u (inr r) k = absurd (cc (r.3))

  -- ---- the frame

  pub safe_this : (types : List JavaType) (c : ℕ) (ls : List JavaType) → Safe program fixed types (Some c) ls get_this (λ more after v. (after ≡ ls) × IsThis program.table more (Some c) v)
  safe_this types c ls = record { by = λ s h. (types, ls, extends_self types, h, (refl, h.this_is), extends_self ls) }

  local_found : (types ts : List JavaType) (xs : List Local) (k : ℕ) (t : JavaType) → AreOf program.table types ts (values_in xs) → type_of_local ts k ≡ Some t → (l : Local) × (local_at xs k ≡ Some l) × IsOf program.table types t l.value
  local_found types [] xs k t h e = absurd (cc (e))
  local_found types (u ∷ ts) [] k t h e = absurd h
  local_found types (u ∷ ts) (x ∷ xs) zero t h e = (x, refl, subst (λ (z : Option JavaType). OfOption z) e h.0)
    where
      OfOption : Option JavaType → Type 0
      OfOption None = Unit {0}
      OfOption (Some y) = IsOf program.table types y x.value
  local_found types (u ∷ ts) (x ∷ xs) (suc k) t h e = local_found types ts xs k t h.1 e

  pub safe_local : (types : List JavaType) (this : Option ℕ) (ls : List JavaType) (k : ℕ) (t : JavaType) → type_of_local ls k ≡ Some t → Safe program fixed types this ls (read_local k) (Gives program ls t)
  safe_local types this ls k t e = record { by = λ s h. go s h (local_found types ls s.locals k t h.locals_are e) }
    where
      go : (s : State) → IsStateOf program fixed types this ls s → (l : Local) × (local_at s.locals k ≡ Some l) × IsOf program.table types t l.value → Fine program fixed types this ls (Gives program ls t) (read_local k s).said (read_local k s).after
      go s h r = subst (λ (x : Option Local). Fine program fixed types this ls (Gives program ls t) (local_given x s).said (local_given x s).after) (sym r.1) (types, ls, extends_self types, h, (refl, r.2), extends_self ls)

  pub safe_declare : (types : List JavaType) (this : Option ℕ) (ls : List JavaType) (t : JavaType) (v : Value) → IsOf program.table types t v → Safe program fixed types this ls (declare v) (λ more after u. after ≡ ls ++ t ∷ [])
  safe_declare types this ls t v i = record { by = λ s h. (types, ls ++ t ∷ [], extends_self types, with_locals types this ls (ls ++ t ∷ []) s (s.locals ++ plain_local v ∷ []) h (declared s.locals ls h.locals_are), refl, one_more ls t) }
    where
      declared : (xs : List Local) (ts : List JavaType) → AreOf program.table types ts (values_in xs) → AreOf program.table types (ts ++ t ∷ []) (values_in (xs ++ plain_local v ∷ []))
      declared [] [] h = (i, tt)
      declared (x ∷ xs) (u ∷ ts) h = (h.0, declared xs ts h.1)
      declared (x ∷ xs) [] h = absurd h
      declared [] (u ∷ ts) h = absurd h

  assigned_local : (types ts : List JavaType) (xs : List Local) (k : ℕ) (t : JavaType) (v : Value) → AreOf program.table types ts (values_in xs) → type_of_local ts k ≡ Some t → IsOf program.table types t v
      → (k < length xs) × AreOf program.table types ts (values_in (slice_set xs k (plain_local v)))
  assigned_local types [] xs k t v h e i = absurd (cc (e))
  assigned_local types (u ∷ ts) [] k t v h e i = absurd h
  assigned_local types (u ∷ ts) (x ∷ xs) zero t v h e i = (omega arith, (subst (λ (z : JavaType). IsOf program.table types z v) (sym (some_is u t e)) i, h.1))
  assigned_local types (u ∷ ts) (x ∷ xs) (suc k) t v h e i = let r = assigned_local types ts xs k t v h.1 e i in (omega (arith, r.0), (h.0, r.1))

  pub safe_assign : (types : List JavaType) (this : Option ℕ) (ls : List JavaType) (k : ℕ) (t : JavaType) (v : Value) → type_of_local ls k ≡ Some t → IsOf program.table types t v → Safe program fixed types this ls (assign k v) (Keeps ls)
  safe_assign types this ls k t v e i = record { by = λ s h. go s h (assigned_local types ls s.locals k t v h.locals_are e i) }
    where
      go : (s : State) → IsStateOf program fixed types this ls s → (k < length s.locals) × AreOf program.table types ls (values_in (slice_set s.locals k (plain_local v))) → Fine program fixed types this ls (Keeps ls) (assign k v s).said (assign k v s).after
      go s h r =
          let q : nat_lt k (length s.locals) ≡ true = lt-ltb k (length s.locals) r.0 in
          subst (λ (b : Bool). Fine program fixed types this ls (Keeps ls) (assign_if b k v s).said (assign_if b k v s).after) (sym q) (types, ls, extends_self types, with_locals types this ls ls s (slice_set s.locals k (plain_local v)) h r.1, refl, extends_self ls)

  -- a body in a frame of its own: `this` and the locals are as they were
  inside_state : (types : List JavaType) (this inner : Option ℕ) (ls ps : List JavaType) (receiver : Value) (vs : List Value) (s : State) → IsThis program.table types inner receiver → AreOf program.table types ps vs → IsStateOf program fixed types this ls s → IsStateOf program fixed types inner ps (record s { this_value = receiver; locals = map plain_local vs })
  inside_state types this inner ls ps receiver vs s i j h = record { heap = h.heap; this_is = i; locals_are = subst (λ (x : List Value). AreOf program.table types ps x) (sym (plain_values vs)) j; result = h.result; olds = h.olds; thrown = h.thrown; candidates = h.candidates; enough = h.enough }
    where
      plain_values : (vs : List Value) → values_in (map plain_local vs) ≡ vs
      plain_values [] = refl
      plain_values (v ∷ vs) = ap (λ (x : List Value). v ∷ x) (plain_values vs)

  back_state : (types more : List JavaType) (this inner : Option ℕ) (ls ms : List JavaType) (s t : State) → Extends types more → IsStateOf program fixed types this ls s → IsStateOf program fixed more inner ms t → IsStateOf program fixed more this ls (record t { this_value = s.this_value; locals = s.locals })
  back_state types more this inner ls ms s t x h k = record {
    heap = k.heap;
    this_is = this_more types more this s.this_value x h.this_is;
    locals_are = values_more program.table types more ls (values_in s.locals) x h.locals_are;
    result = k.result;
    olds = k.olds;
    thrown = k.thrown;
    candidates = k.candidates;
    enough = k.enough;
  }

  pub safe_within : (types : List JavaType) (this inner : Option ℕ) (ls ps : List JavaType) {A : Type 0} (receiver : Value) (vs : List Value) (body : Run A) (Q : List JavaType → A → Type 0) → IsThis program.table types inner receiver → AreOf program.table types ps vs
      → Safe program fixed types inner ps body (λ more after a. Q more a) → Safe program fixed types this ls (within receiver (length ps) vs body) (λ more after a. (after ≡ ls) × Q more a)
  safe_within types this inner ls ps {A} receiver vs body Q i j p = record { by = λ s h. go s h (eq-eqb (length vs) (length ps) (values_long program.table types ps vs j)) }
    where
      by_said : (s : State) → IsStateOf program fixed types this ls s → (r : Result A Stop) (t : State) → Fine program fixed types inner ps (λ more after a. Q more a) r t → Fine program fixed types this ls (λ more after a. (after ≡ ls) × Q more a) r (record t { this_value = s.this_value; locals = s.locals })
      by_said s h (Ok a) t f = (f.0, ls, f.2, back_state types f.0 this inner ls f.1 s t f.2 h f.3, (refl, f.4), extends_self ls)
      by_said s h (Err (Trapped k)) t f = (f.0, ls, f.2, back_state types f.0 this inner ls f.1 s (record t { thrown = None }) f.2 h f.3, extends_self ls, f.5)
      by_said s h (Err OutOfFuel) t f = tt
      by_said s h (Err Stuck) t f = f

      go : (s : State) → IsStateOf program fixed types this ls s → nat_eq (length vs) (length ps) ≡ true → Fine program fixed types this ls (λ more after a. (after ≡ ls) × Q more a) (within receiver (length ps) vs body s).said (within receiver (length ps) vs body s).after
      go s h e =
          let inside : State = record s { this_value = receiver; locals = map plain_local vs } in
          subst (λ (b : Bool). Fine program fixed types this ls (λ more after a. (after ≡ ls) × Q more a) (entered b receiver vs body s).said (entered b receiver vs body s).after) (sym e) (by_said s h (body inside).said (body inside).after (p.by inside (inside_state types this inner ls ps receiver vs s i j h)))

  pub closes_within : (types : List JavaType) (this inner : Option ℕ) (ls ps : List JavaType) {A : Type 0} (receiver : Value) (vs : List Value) (body : Run A) (Q : List JavaType → List JavaType → A → Type 0) → IsThis program.table types inner receiver → AreOf program.table types ps vs
      → Safe program fixed types inner ps body Q → Closes program fixed types this ls (within receiver (length ps) vs body)
  closes_within types this inner ls ps {A} receiver vs body Q i j p = record { by = λ s h k e. go s h k (nat_eq (length vs) (length ps)) (eq-eqb (length vs) (length ps) (values_long program.table types ps vs j)) e }
    where
      Closed : State → Kind → Outcome A → Type 0
      Closed s k o = (more : List JavaType) × Extends types more × IsStateOf program fixed more this ls (record o.after { thrown = None }) × IsThrownAs program more k o.after.thrown

      go : (s : State) → IsStateOf program fixed types this ls s → (k : Kind) (b : Bool) → b ≡ true → (entered b receiver vs body s).said ≡ Err (Trapped k) → Closed s k (entered b receiver vs body s)
      go s h k false q e = absurd (cc (q))
      go s h k true q e =
          let inside : State = record s { this_value = receiver; locals = map plain_local vs } in
          let f : FineTrap program fixed types inner ps k (body inside).after = subst (λ (r : Result A Stop). Fine program fixed types inner ps Q r (body inside).after) e (p.by inside (inside_state types this inner ls ps receiver vs s i j h)) in
          (f.0, f.2, back_state types f.0 this inner ls f.1 s (record (body inside).after { thrown = None }) f.2 h f.3, f.5)

  -- locals declared inside end with it
  taken_locals : (types ls us : List JavaType) (n : ℕ) (xs : List Local) → length ls ≡ n → AreOf program.table types (ls ++ us) (values_in xs) → AreOf program.table types ls (values_in (take n xs))
  taken_locals types ls us n xs e h = subst (λ (k : ℕ). AreOf program.table types ls (values_in (take k xs))) e (subst (λ (x : List Value). AreOf program.table types ls x) (sym (map_take (length ls) xs)) (values_front program.table types ls us (values_in xs) h))
    where
      map_take : (k : ℕ) (xs : List Local) → values_in (take k xs) ≡ take k (values_in xs)
      map_take zero xs = refl
      map_take (suc k) [] = refl
      map_take (suc k) (x ∷ xs) = ap (λ (y : List Value). x.value ∷ y) (map_take k xs)

  front_state : (types : List JavaType) (this : Option ℕ) (ls ms : List JavaType) (n : ℕ) (t : State) → length ls ≡ n → Extends ls ms → IsStateOf program fixed types this ms t → IsStateOf program fixed types this ls (record t { locals = take n t.locals })
  front_state types this ls ms n t long x k =
      let inside = subst (λ (y : List JavaType). AreOf program.table types y (values_in t.locals)) x.1 k.locals_are in
      record { heap = k.heap; this_is = k.this_is; locals_are = taken_locals types ls x.0 n t.locals long inside; result = k.result; olds = k.olds; thrown = k.thrown; candidates = k.candidates; enough = k.enough }

  pub locals_long : (types ls : List JavaType) (xs : List Local) → AreOf program.table types ls (values_in xs) → length ls ≡ length xs
  locals_long types ls xs h = sym (values_long program.table types ls (values_in xs) h) ∙ length-map xs (λ (l : Local). l.value)

  pub fine_scoped : (types : List JavaType) (this : Option ℕ) (ls : List JavaType) {A : Type 0} (Q : List JavaType → A → Type 0) (n : ℕ) → length ls ≡ n → (r : Result A Stop) (t : State) → Fine program fixed types this ls (λ more after a. Extends ls after × Q more a) r t
      → Fine program fixed types this ls (λ more after a. (after ≡ ls) × Q more a) r (record t { locals = take n t.locals })
  fine_scoped types this ls Q n long (Ok a) t f = (f.0, ls, f.2, front_state f.0 this ls f.1 n t long f.5 f.3, (refl, f.4.1), extends_self ls)
  fine_scoped types this ls Q n long (Err (Trapped k)) t f = (f.0, ls, f.2, front_state f.0 this ls f.1 n (record t { thrown = None }) long f.4 f.3, extends_self ls, f.5)
  fine_scoped types this ls Q n long (Err OutOfFuel) t f = tt
  fine_scoped types this ls Q n long (Err Stuck) t f = f

  pub safe_scoped : (types : List JavaType) (this : Option ℕ) (ls : List JavaType) {A : Type 0} (m : Run A) (Q : List JavaType → A → Type 0) → Safe program fixed types this ls m (λ more after a. Extends ls after × Q more a) → Safe program fixed types this ls (scoped m) (λ more after a. (after ≡ ls) × Q more a)
  safe_scoped types this ls m Q p = record { by = λ s h. fine_scoped types this ls Q (length s.locals) (locals_long types ls s.locals h.locals_are) (m s).said (m s).after (p.by s h) }

  -- so a block leaves the locals from before where it traps
  pub closes_scoped : (types : List JavaType) (this : Option ℕ) (ls : List JavaType) {A : Type 0} (m : Run A) (Q : List JavaType → List JavaType → A → Type 0) → Safe program fixed types this ls m Q → Closes program fixed types this ls (scoped m)
  closes_scoped types this ls m Q p = record { by = λ s h k e. go s h k (subst (λ (r : Result _ Stop). Fine program fixed types this ls Q r (m s).after) e (p.by s h)) }
    where
      go : (s : State) → IsStateOf program fixed types this ls s → (k : Kind) → Fine program fixed types this ls Q (Err (Trapped k)) (m s).after
          → (more : List JavaType) × Extends types more × IsStateOf program fixed more this ls (record (scoped m s).after { thrown = None }) × IsThrownAs program more k (scoped m s).after.thrown
      go s h k f = (f.0, f.2, front_state f.0 this ls f.1 (length s.locals) (record (m s).after { thrown = None }) (locals_long types ls s.locals h.locals_are) f.4 f.3, f.5)

  pub closes_tick : (types : List JavaType) (this : Option ℕ) (ls : List JavaType) {A : Type 0} (m : Run A) → Closes program fixed types this ls m → Closes program fixed types this ls (tick >> m)
  unfolding bind
  closes_tick types this ls {A} m p = record { by = λ s h k e. go s s.fuel h k e }
    where
      ticked : State → ℕ → Outcome A
      ticked s n = go_on (tick_at n s).said (tick_at n s).after (tick_at n s).reads (λ (u : Unit {0}). m)

      go : (s : State) (n : ℕ) → IsStateOf program fixed types this ls s → (k : Kind) → (ticked s n).said ≡ Err (Trapped k)
          → (more : List JavaType) × Extends types more × IsStateOf program fixed more this ls (record (ticked s n).after { thrown = None }) × IsThrownAs program more k (ticked s n).after.thrown
      go s zero h k e = absurd (cc (e))
      go s (suc n) h k e = p.by (record s { fuel = n }) (record { heap = h.heap; this_is = h.this_is; locals_are = h.locals_are; result = h.result; olds = h.olds; thrown = h.thrown; candidates = h.candidates; enough = h.enough }) k e

  -- ---- the class of a reference

  class_is : (types : List JavaType) (t u : JavaType) (x : HeapObject) → is_reference t ≡ true → is_assignable program.table u t ≡ true → IsObjectOf program types u x → IsClassOf program u x.class
  class_is types t (ClassType c) x r a h = h.0
  class_is types t (ArrayType e) x r a h = h.0
  class_is types t (SetType e) x r a h = h.0
  class_is types t (ListType e) x r a h = h.0
  class_is types t VoidType x r a h = absurd (cc (r, ap is_reference (same_type VoidType t a)))
  class_is types t _ x r a h = absurd h

  pub safe_see : (types : List JavaType) (this : Option ℕ) (ls : List JavaType) (t : JavaType) (v : Value) → is_reference t ≡ true → IsOf program.table types t v → Safe program fixed types this ls (class_or_null v) (λ more after seen. (after ≡ ls) × (more ≡ types) × IsSeen program types v seen)
  safe_see types this ls t (Int z) r i = absurd (cc (r, ap is_reference i.1))
  safe_see types this ls t (Truth b) r i = absurd (cc (r, ap is_reference i))
  safe_see types this ls t Null r i = record { by = λ s h. (types, ls, extends_self types, h, (refl, refl, refl), extends_self ls) }
  safe_see types this ls t (Reference o) r i = record { by = λ s h. (types, ls, extends_self types, h, (refl, refl, ((object_in s.heap o).class, refl, class_is types t (type_at types o) (object_in s.heap o) r i.1 (object_found program types types s.heap o h.heap i.0))), extends_self ls) }

  -- the type of an object is the required one, or below it
  pub type_known : (types : List JavaType) (s : State) (o : ℕ) (t : JavaType) → IsHeapOf program types s.heap → IsOf program.table types t (Reference o) → Assigned program.table (type_at types o) t
  type_known types s o t h i = assigned program.table (type_at types o) t (object_type program types (type_at types o) (object_in s.heap o) (object_found program types types s.heap o h i.0)) i.1

  pub class_known : (types : List JavaType) (s : State) (o c : ℕ) → IsHeapOf program types s.heap → IsOf program.table types (ClassType c) (Reference o) → (d : ℕ) × (type_at types o ≡ ClassType d) × (is_below program.table d c ≡ true)
  class_known types s o c h i = go (type_known types s o (ClassType c) h i)
    where
      go : Assigned program.table (type_at types o) (ClassType c) → (d : ℕ) × (type_at types o ≡ ClassType d) × (is_below program.table d c ≡ true)
      go (inl e) = (c, e, below_itself program.table c)
      go (inr r) = (r.0, r.2, ap (λ (x : JavaType). is_assignable program.table (ClassType r.0) x) r.3 ∙ r.4)

  pub array_known : (types : List JavaType) (s : State) (o : ℕ) (t : JavaType) → IsHeapOf program types s.heap → IsOf program.table types (ArrayType t) (Reference o) → type_at types o ≡ ArrayType t
  array_known types s o t h i = go (type_known types s o (ArrayType t) h i)
    where
      go : Assigned program.table (type_at types o) (ArrayType t) → type_at types o ≡ ArrayType t
      go (inl e) = e
      go (inr r) = absurd (cc (r.3))

  object_of_class : (types : List JavaType) (s : State) (o c d : ℕ) → IsHeapOf program types s.heap → o < length types → type_at types o ≡ ClassType d → IsObjectOf program types (ClassType d) (object_in s.heap o)
  object_of_class types s o c d h l e = subst (λ (u : JavaType). IsObjectOf program types u (object_in s.heap o)) e (object_found program types types s.heap o h l)

  -- reads a field of an object
  pub safe_load_field : (types : List JavaType) (this : Option ℕ) (ls : List JavaType) (c : ℕ) (n : List ℕ) (t : JavaType) (v : Value) → HasField program c n t → IsOf program.table types (ClassType c) v → Safe program fixed types this ls (load_field program n v) (Gives program ls t)
  unfolding bind
  safe_load_field types this ls c n t (Int z) f i = absurd (cc (i.1))
  safe_load_field types this ls c n t (Truth b) f i = absurd (cc (i))
  safe_load_field types this ls c n t Null f i = record { by = λ s h. fine_trap types this ls NullPointerException s h }
  safe_load_field types this ls c n t (Reference o) f i = record { by = λ s h. go s h (class_known types s o c h.heap i) }
    where
      go : (s : State) → IsStateOf program fixed types this ls s → (d : ℕ) × (type_at types o ≡ ClassType d) × (is_below program.table d c ≡ true) → Fine program fixed types this ls (Gives program ls t) (load_field program n (Reference o) s).said (load_field program n (Reference o) s).after
      go s h r =
          let at = f.at r.0 r.2 in
          let x = object_of_class types s o c r.0 h.heap i.0 r.1 in
          let long : length (object_in s.heap o).values ≡ length (field_types program r.0) = values_long program.table types (field_types program r.0) (object_in s.heap o).values x.1 in
          let found : has_spot (object_in s.heap o) (FieldSpot at.0) ≡ true = ap (λ (k : Class). has_spot_of k (length (object_in s.heap o).values) (FieldSpot at.0)) x.0 ∙ lt-ltb at.0 (length (object_in s.heap o).values) (omega (arith, at.2, long)) in
          let value = subst (λ (u : JavaType). IsOf program.table types u (get_or (object_in s.heap o).values at.0 Null)) at.3 (value_found program.table types (field_types program r.0) (object_in s.heap o).values at.0 x.1 at.2) in
          subst (λ (k : Class). Fine program fixed types this ls (Gives program ls t) (load_in program (Reference o) n k s).said (load_in program (Reference o) n k s).after) (sym x.0)
          (subst (λ (y : Option ℕ). Fine program fixed types this ls (Gives program ls t) (load_at (Reference o) y s).said (load_at (Reference o) y s).after) (sym at.1)
          (subst (λ (b : Bool). Fine program fixed types this ls (Gives program ls t) (load_if b o (FieldSpot at.0) s).said (load_if b o (FieldSpot at.0) s).after) (sym found) (types, ls, extends_self types, h, (refl, value), extends_self ls)))

  -- ---- arrays

  array_of_type : (types : List JavaType) (s : State) (o : ℕ) (t : JavaType) → IsHeapOf program types s.heap → o < length types → type_at types o ≡ ArrayType t → IsObjectOf program types (ArrayType t) (object_in s.heap o)
  array_of_type types s o t h l e = subst (λ (u : JavaType). IsObjectOf program types u (object_in s.heap o)) e (object_found program types types s.heap o h l)

  is_array : (t : JavaType) (class : Class) → is_array_of program t class ≡ true → (k : ℕ) × (class ≡ Array k)
  is_array t (Array k) e = (k, refl)
  is_array t (Object c) e = absurd (cc (e))
  is_array t Set e = absurd (cc (e))
  is_array t ListClass e = absurd (cc (e))

  has_length : (x : HeapObject) (t : JavaType) → is_array_of program t x.class ≡ true → has_spot x Length ≡ true
  has_length x t e = let r = is_array t x.class e in ap (λ (k : Class). has_spot_of k (length x.values) Length) r.1

  index_below : (z : ℤ) (n k : ℕ) → index_within z n ≡ Some k → k < n
  index_below (pos i) n k e = go (nat_lt i n) refl e
    where
      go : (b : Bool) → nat_lt i n ≡ b → (if b then Some i else None) ≡ Some k → k < n
      go true q f = let same : i ≡ k = some_is i k f in let lt : i < n = ltb-true i n q in omega (arith, same, lt)
      go false q f = absurd (cc (f))
  index_below (negsuc i) n k e = absurd (cc (e))

  -- an object is no number
  pub no_number : (types : List JavaType) (s : State) (w : Width) (o : ℕ) → IsHeapOf program types s.heap → IsOf program.table types (NumberType w) (Reference o) → ⊥
  no_number types s w o h i = go (type_at types o) (type_known types s o (NumberType w) h i) (object_type program types (type_at types o) (object_in s.heap o) (object_found program types types s.heap o h i.0))
    where
      go : (u : JavaType) → Assigned program.table u (NumberType w) → IsObjectType u → ⊥
      go u (inl e) k = subst IsObjectType e k
      go u (inr r) k = absurd (cc (r.3))

  pub no_int : (types : List JavaType) (s : State) (o : ℕ) → IsHeapOf program types s.heap → IsOf program.table types int_type (Reference o) → ⊥
  no_int types s o h i = no_number types s Bits32 o h i

  -- the length of an array
  pub safe_length : (types : List JavaType) (this : Option ℕ) (ls : List JavaType) (t : JavaType) (v : Value) → IsOf program.table types (ArrayType t) v → Safe program fixed types this ls (load v Length) (λ more after x. (after ≡ ls) × (n : ℕ) × (x ≡ Int (pos n)) × IsLength n)
  safe_length types this ls t (Int z) i = absurd (cc (i.1))
  safe_length types this ls t (Truth b) i = absurd (cc (i))
  safe_length types this ls t Null i = record { by = λ s h. fine_trap types this ls NullPointerException s h }
  safe_length types this ls t (Reference o) i = record { by = λ s h. go s h (array_of_type types s o t h.heap i.0 (array_known types s o t h.heap i)) }
    where
      go : (s : State) → IsStateOf program fixed types this ls s → IsObjectOf program types (ArrayType t) (object_in s.heap o) → Fine program fixed types this ls (λ more after x. (after ≡ ls) × (n : ℕ) × (x ≡ Int (pos n)) × IsLength n) (load (Reference o) Length s).said (load (Reference o) Length s).after
      go s h x =
          subst (λ (b : Bool). Fine program fixed types this ls (λ more after x. (after ≡ ls) × (n : ℕ) × (x ≡ Int (pos n)) × IsLength n) (load_if b o Length s).said (load_if b o Length s).after) (sym (has_length (object_in s.heap o) t x.0)) (types, ls, extends_self types, h, (refl, length (object_in s.heap o).values, refl, x.2), extends_self ls)

  -- an element
  pub safe_element : (types : List JavaType) (this : Option ℕ) (ls : List JavaType) (t : JavaType) (v w : Value) → IsOf program.table types (ArrayType t) v → IsOf program.table types int_type w → Safe program fixed types this ls (element v w) (Gives program ls t)
  safe_element types this ls t (Int z) w i j = absurd (cc (i.1))
  safe_element types this ls t (Truth b) w i j = absurd (cc (i))
  safe_element types this ls t Null (Int z) i j = record { by = λ s h. fine_trap types this ls NullPointerException s h }
  safe_element types this ls t Null (Truth b) i j = absurd (cc (j))
  safe_element types this ls t Null Null i j = absurd (cc (j))
  safe_element types this ls t Null (Reference p) i j = record { by = λ s h. absurd (no_int types s p h.heap j) }
  safe_element types this ls t (Reference o) (Truth b) i j = absurd (cc (j))
  safe_element types this ls t (Reference o) Null i j = absurd (cc (j))
  safe_element types this ls t (Reference o) (Reference p) i j = record { by = λ s h. absurd (no_int types s p h.heap j) }
  safe_element types this ls t (Reference o) (Int z) i j = record { by = λ s h. go s h (array_of_type types s o t h.heap i.0 (array_known types s o t h.heap i)) }
    where
      read : (s : State) → IsStateOf program fixed types this ls s → IsObjectOf program types (ArrayType t) (object_in s.heap o) → (k : Option ℕ) → index_within z (length (object_in s.heap o).values) ≡ k → Fine program fixed types this ls (Gives program ls t) (element_read k o s).said (element_read k o s).after
      read s h x None e = fine_trap types this ls ArrayIndexOutOfBoundsException s h
      read s h x (Some k) e = (types, ls, extends_self types, h, (refl, all_found program.table types t (object_in s.heap o).values k x.1 (index_below z (length (object_in s.heap o).values) k e)), extends_self ls)

      go : (s : State) → IsStateOf program fixed types this ls s → IsObjectOf program types (ArrayType t) (object_in s.heap o) → Fine program fixed types this ls (Gives program ls t) (element (Reference o) (Int z) s).said (element (Reference o) (Int z) s).after
      go s h x =
          subst (λ (b : Bool). Fine program fixed types this ls (Gives program ls t) (element_if b o z s).said (element_if b o z s).after) (sym (has_length (object_in s.heap o) t x.0))
          (read s h x (index_within z (length (object_in s.heap o).values)) refl)

  pub set_long : (heap : List HeapObject) (o : ℕ) (x : HeapObject) (types : List JavaType) → IsHeapOf program types heap → IsObjectOf program types (type_at types o) x → length heap ≤ length (slice_set heap o x)
  set_long heap o x types h k = let a = heap_long program types types heap h in let b = heap_long program types types (slice_set heap o x) (object_set program types types heap o x h k) in omega (arith, a, b)

  -- writes an element
  pub safe_store_element : (types : List JavaType) (this : Option ℕ) (ls : List JavaType) (t : JavaType) (v w x : Value) → IsOf program.table types (ArrayType t) v → IsOf program.table types int_type w → IsOf program.table types t x → Safe program fixed types this ls (store_element program t v w x) (Keeps ls)
  safe_store_element types this ls t (Int z) w x i j y = absurd (cc (i.1))
  safe_store_element types this ls t (Truth b) w x i j y = absurd (cc (i))
  safe_store_element types this ls t Null (Int z) x i j y = record { by = λ s h. fine_trap types this ls NullPointerException s h }
  safe_store_element types this ls t Null (Truth b) x i j y = absurd (cc (j))
  safe_store_element types this ls t Null Null x i j y = absurd (cc (j))
  safe_store_element types this ls t Null (Reference p) x i j y = record { by = λ s h. absurd (no_int types s p h.heap j) }
  safe_store_element types this ls t (Reference o) (Truth b) x i j y = absurd (cc (j))
  safe_store_element types this ls t (Reference o) Null x i j y = absurd (cc (j))
  safe_store_element types this ls t (Reference o) (Reference p) x i j y = record { by = λ s h. absurd (no_int types s p h.heap j) }
  safe_store_element types this ls t (Reference o) (Int z) x i j y = record { by = λ s h. go s h (array_known types s o t h.heap i) }
    where
      changed : (s : State) → IsObjectOf program types (ArrayType t) (object_in s.heap o) → (k : ℕ) → IsObjectOf program types (ArrayType t) (record { class = (object_in s.heap o).class; values = slice_set (object_in s.heap o).values k x })
      changed s a k = (a.0, all_set program.table types t (object_in s.heap o).values k x a.1 y, subst IsLength (sym (length-set (object_in s.heap o).values k x)) a.2)

      stored : (s : State) → IsStateOf program fixed types this ls s → type_at types o ≡ ArrayType t → (k : Option ℕ) → Fine program fixed types this ls (Keeps ls) (store_index o k x s).said (store_index o k x s).after
      stored s h e None = fine_trap types this ls ArrayIndexOutOfBoundsException s h
      stored s h e (Some k) =
          let new = subst (λ (u : JavaType). IsObjectOf program types u (record { class = (object_in s.heap o).class; values = slice_set (object_in s.heap o).values k x })) (sym e) (changed s (array_of_type types s o t h.heap i.0 e) k) in
          (types, ls, extends_self types, with_heap types types this ls s (put s.heap o k x) (extends_self types) h (object_set program types types s.heap o _ h.heap new) (set_long s.heap o _ types h.heap new), refl, extends_self ls)

      go : (s : State) → IsStateOf program fixed types this ls s → type_at types o ≡ ArrayType t → Fine program fixed types this ls (Keeps ls) (store_element program t (Reference o) (Int z) x s).said (store_element program t (Reference o) (Int z) x s).after
      go s h e =
          subst (λ (b : Bool). Fine program fixed types this ls (Keeps ls) (store_element_if b o z x s).said (store_element_if b o z x s).after) (sym (array_of_type types s o t h.heap i.0 e).0)
          (stored s h e (index_within z (length (object_in s.heap o).values)))

  -- ---- fields

  -- writes a field of an object
  pub safe_store : (types : List JavaType) (this : Option ℕ) (ls : List JavaType) (f : Field) (c : ℕ) (v x : Value) → HasField program c f.name f.type → is_below program.table c f.class ≡ true
      → ((d : ℕ) → is_below program.table d c ≡ true → is_below program.table d f.class ≡ true) → IsOf program.table types (ClassType c) v → IsOf program.table types f.type x → Safe program fixed types this ls (store program f v x) (Keeps ls)
  safe_store types this ls f c (Int z) x has b up i y = absurd (cc (i.1))
  safe_store types this ls f c (Truth z) x has b up i y = absurd (cc (i))
  safe_store types this ls f c Null x has b up i y = record { by = λ s h. fine_trap types this ls NullPointerException s h }
  safe_store types this ls f c (Reference o) x has b up i y = record { by = λ s h. go s h (class_known types s o c h.heap i) }
    where
      go : (s : State) → IsStateOf program fixed types this ls s → (d : ℕ) × (type_at types o ≡ ClassType d) × (is_below program.table d c ≡ true) → Fine program fixed types this ls (Keeps ls) (store program f (Reference o) x s).said (store program f (Reference o) x s).after
      go s h r =
          let at = has.at r.0 r.2 in
          let a = object_of_class types s o c r.0 h.heap i.0 r.1 in
          let spot : spot_of_field program f (object_in s.heap o).class ≡ Some at.0 = ap (λ (k : Class). spot_of_field program f k) a.0 ∙ (ap (λ (q : Bool). if q then field_position program r.0 f.name else None) (up r.0 r.2) ∙ at.1) in
          let set = value_set program.table types (field_types program r.0) (object_in s.heap o).values at.0 x a.1 (subst (λ (u : JavaType). IsOf program.table types u x) (sym at.3) y) in
          let new : IsObjectOf program types (ClassType r.0) (record { class = (object_in s.heap o).class; values = slice_set (object_in s.heap o).values at.0 x }) = (a.0, set) in
          let new' = subst (λ (u : JavaType). IsObjectOf program types u (record { class = (object_in s.heap o).class; values = slice_set (object_in s.heap o).values at.0 x })) (sym r.1) new in
          subst (λ (k : Option ℕ). Fine program fixed types this ls (Keeps ls) (store_at o k x s).said (store_at o k x s).after) (sym spot)
          (types, ls, extends_self types, with_heap types types this ls s (put s.heap o at.0 x) (extends_self types) h (object_set program types types s.heap o _ h.heap new') (set_long s.heap o _ types h.heap new'), refl, extends_self ls)

  -- ---- new objects

  -- a new object of a type, whose values are of those types
  pub safe_make : (types : List JavaType) (this : Option ℕ) (ls : List JavaType) (u : JavaType) (class : Class) (vs : List Value) → IsObjectOf program types u (record { class = class; values = vs })
      → Safe program fixed types this ls (make class vs) (λ more after v. (after ≡ ls) × (o : ℕ) × (v ≡ Reference o) × (o < length more) × (type_at more o ≡ u) × (fixed.candidates ≤ o))
  safe_make types this ls u class vs k = record { by = λ s h. go s h }
    where
      go : (s : State) → IsStateOf program fixed types this ls s → Fine program fixed types this ls (λ more after v. (after ≡ ls) × (o : ℕ) × (v ≡ Reference o) × (o < length more) × (type_at more o ≡ u) × (fixed.candidates ≤ o)) (make class vs s).said (make class vs s).after
      go s h =
          let heap = s.heap ++ record { class = class; values = vs } ∷ [] in
          let long = heap_long program types types s.heap h.heap in
          let e : type_at (types ++ u ∷ []) (length s.heap) ≡ u = ap (λ (n : ℕ). type_at (types ++ u ∷ []) n) long ∙ last_type types u in (
            types ++ u ∷ [],
            ls,
            one_more types u,
            with_heap types (types ++ u ∷ []) this ls s heap (one_more types u) h (heap_append program types s.heap u (record { class = class; values = vs }) h.heap k) (omega (arith, length-append s.heap (record { class = class; values = vs } ∷ []))),
            (refl, length s.heap, refl, omega (arith, long, length-append types (u ∷ [])), e, h.enough),
            extends_self ls,
          )

  -- writes a field of an object that the run has made
  pub safe_store_new : (types : List JavaType) (this : Option ℕ) (ls : List JavaType) (f : Field) (c o : ℕ) (x : Value) → fixed.candidates ≤ o → HasField program c f.name f.type → is_below program.table c f.class ≡ true
      → ((d : ℕ) → is_below program.table d c ≡ true → is_below program.table d f.class ≡ true) → IsOf program.table types (ClassType c) (Reference o) → IsOf program.table types f.type x → Safe program fixed types this ls (store_new program f (Reference o) x) (Keeps ls)
  safe_store_new types this ls f c o x l has b up i y = record { by = λ s h. go s h (le-ltb o s.candidates (omega (arith, l, h.candidates))) }
    where
      go : (s : State) → IsStateOf program fixed types this ls s → nat_lt o s.candidates ≡ false → Fine program fixed types this ls (Keeps ls) (store_new program f (Reference o) x s).said (store_new program f (Reference o) x s).after
      go s h e = subst (λ (q : Bool). Fine program fixed types this ls (Keeps ls) (store_new_if q program f o x s).said (store_new_if q program f o x s).after) (sym e) ((safe_store types this ls f c (Reference o) x has b up i y).by s h)

  -- ---- the values that a contract sees

  pub safe_result : (types : List JavaType) (this : Option ℕ) (ls : List JavaType) (t : JavaType) → fixed.result ≡ Some t → Safe program fixed types this ls get_result (Gives program ls t)
  safe_result types this ls t e = record { by = λ s h. go s h s.result (subst (λ (x : Option JavaType). IsResult program.table types x s.result) e h.result) }
    where
      go : (s : State) → IsStateOf program fixed types this ls s → (r : Option Value) → IsResult program.table types (Some t) r → Fine program fixed types this ls (Gives program ls t) (given r s).said (given r s).after
      go s h (Some v) i = (types, ls, extends_self types, h, (refl, i), extends_self ls)
      go s h None i = absurd i

  old_found : (types : List JavaType) (ps : List (Place × JavaType)) (os : List Old) (p : Place) (t : JavaType) → AreOlds program.table types ps os → type_of_old ps p ≡ Some t → (v : Value) × (old_at os p ≡ Some v) × IsOf program.table types t v
  old_found types [] os p t h e = absurd (cc (e))
  old_found types (x ∷ ps) [] p t h e = absurd h
  old_found types (x ∷ ps) (o ∷ os) p t h e = go (is_at_place x.0 p) refl (old_found types ps os p t h.2) e
    where
      go : (b : Bool) → is_at_place x.0 p ≡ b → (type_of_old ps p ≡ Some t → (v : Value) × (old_at os p ≡ Some v) × IsOf program.table types t v) → (if b then Some x.1 else type_of_old ps p) ≡ Some t → (v : Value) × (old_at (o ∷ os) p ≡ Some v) × IsOf program.table types t v
      go true q f g = (o.value, ap (λ (z : Place). if is_at_place z p then Some o.value else old_at os p) h.0 ∙ ap (λ (b : Bool). if b then Some o.value else old_at os p) q, subst (λ (u : JavaType). IsOf program.table types u o.value) (some_is x.1 t g) h.1)
      go false q f g = let r = f g in (r.0, ap (λ (z : Place). if is_at_place z p then Some o.value else old_at os p) h.0 ∙ (ap (λ (b : Bool). if b then Some o.value else old_at os p) q ∙ r.1), r.2)

  pub safe_old : (types : List JavaType) (this : Option ℕ) (ls : List JavaType) (p : Place) (t : JavaType) → type_of_old fixed.olds p ≡ Some t → Safe program fixed types this ls (get_old p) (Gives program ls t)
  safe_old types this ls p t e = record { by = λ s h. go s h (old_found types fixed.olds s.olds p t h.olds e) }
    where
      go : (s : State) → IsStateOf program fixed types this ls s → (v : Value) × (old_at s.olds p ≡ Some v) × IsOf program.table types t v → Fine program fixed types this ls (Gives program ls t) (get_old p s).said (get_old p s).after
      go s h r = subst (λ (x : Option Value). Fine program fixed types this ls (Gives program ls t) (given x s).said (given x s).after) (sym r.1) (types, ls, extends_self types, h, (refl, r.2), extends_self ls)
