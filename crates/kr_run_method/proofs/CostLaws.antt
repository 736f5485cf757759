-- A relation that all steps keep: with so much more fuel a run that isn't spent does the same, and has so much more left. So a
-- method's run has a cost.
use Rattle.std.proofs.Common.{◌≡◌, ◌⊎◌, inl, inr, ℕ, zero, suc, ◌+◌, ◌<◌, ◌≤◌, Bool, true, false, List, [], ◌∷◌, length, Result, Ok, Err, Option, Some, None, refl, sym, ap, ◌∙◌, arith, subst, ◌-◌}
use Rattle.std.specs.Prelude.{pos, negsuc, map, take, nat_eq, nat_lt, if◌then◌else◌}
use Rattle.kr_base.specs.declared.place.Place.{Place}
use Rattle.kr_ast.specs.Tree.{Tree}
use Rattle.kr_value.specs.declared.value.Value.{Value}
use Rattle.kr_value.specs.declared.value.Value.TheVariants.{Int, Bool as Truth, Null, Ref as Reference}
use Rattle.kr_value.specs.declared.object.Class.{Class}
use Rattle.kr_value.specs.declared.object.Spot.{Spot}
use Rattle.kr_value.specs.declared.object.Spot.TheVariants.{Field as FieldSpot, Length}
use Rattle.kr_value.specs.Heaps.{object_in, has_spot}
use Rattle.kr_classes_table.specs.Types.{JavaType, ArrayType, is_void}
use Rattle.kr_classes_table.specs.Table.{Field, Method}
use Rattle.kr_classes_table.specs.Arrays.{array_number}
use Rattle.kr_types_meaning.specs.Scopes.{Scope, after}
use Rattle.kr_mean.specs.Thrown.{class_of_kind, throw_as, object_of_class, object_or_new, object_of, handled, caught_by, attempted}
use Rattle.kr_mean.specs.declared.kind.Kind.{Kind}
use Rattle.kr_mean.specs.declared.kind.Stop.{Stop}
use Rattle.kr_mean.specs.declared.kind.Stop.TheVariants.{OutOfFuel, Stuck, Trapped}
use Rattle.kr_mean.specs.Program.{Program, spot_of_field, is_array_of, method_scope}
use Rattle.kr_mean.specs.Places.{SlotPlace}
use Rattle.kr_mean.specs.Collections.{Collected, collected}
use Rattle.kr_mean.specs.Steps.{Local, State, Outcome, Run, say, stop, go_on, bind, given, ◌>>=◌, ◌>>◌, tick, tick_at, get_this, local_at, local_given, read_local, declare, assign_if, assign, get_result, old_at, get_old, entered, within, scoped, back_to, plain_local, load_if, load, index_within, element_read, element_if, element, class_or_null, store_at, store, store_new_if, store_new, store_index, store_element_if, store_element, make, collect_as, collect}
use Rattle.kr_mean.specs.Operators.{operated, operated_alone}
use Rattle.kr_mean.specs.declared.flow.Flow.{Flow}
use Rattle.kr_mean.specs.declared.flow.Flow.TheVariants.{Next, Broke, Continued, Left, Gave}
use Rattle.kr_mean.specs.Meaning.{choose, run_method, make_array, create_array, exec, execute, eval, value, unbounded, then_on, returned, all, run_body}
use Rattle.kr_mean.specs.Code.{code, code_run}
use Rattle.kr_mean.specs.Purity.{written_by}
use Rattle.kr_laws_runs.proofs.Bounds.{AnyField, AnyType, AnyNode, OneOutcome, Under, under_logic, body_is, enough_for_statements, enough_for_values, may_any, all_any}
use Rattle.kr_laws_runs.proofs.Respects.{Any, Same, Each, Logic, OnOption, OnFlow, IsCode, parts_alike}
use Rattle.kr_mean.specs.declared.kind.Kind.TheVariants.{NoReturn}
use Rattle.kr_run_method.specs.CostLaws.{IsSpent, IsSameWith, Costs, with_fuel, value_with_fuel}

abbrev pub SaidSame : {A : Type 0} → (A → A → Type 0) → Result A Stop → Result A Stop → Type 0
SaidSame S (Ok a) (Ok b) = S a b
SaidSame S (Err e) (Err f) = f ≡ e
SaidSame S _ _ = ⊥

module _ (more : ℕ) where
  abbrev pub longer : State → State
  longer s = record s { fuel = s.fuel + more }

  -- a run that is spent, and that takes some of what there is more
  abbrev pub RunsOut : {A : Type 0} → Outcome A → Outcome A → Type 0
  RunsOut o o' = (o.said ≡ Err OutOfFuel) × (0 < more → o'.after.fuel < more)

  -- the run is out of fuel, or has the same result with more fuel
  abbrev pub GoesOn : {A : Type 0} → (A → A → Type 0) → Outcome A → Outcome A → Type 0
  GoesOn S o o' = RunsOut o o' ⊎ (SaidSame S o.said o'.said × (o'.after ≡ longer o.after))

  pub record LongerBy {A : Type 0} (S : A → A → Type 0) (m m' : Run A) : Type 0 where
    pub by : (s : State) → GoesOn S (m s) (m' (longer s))

  -- and gives no fuel back
  pub record Longer {A : Type 0} (S : A → A → Type 0) (m m' : Run A) : Type 0 where
    pub runs : LongerBy S m m'
    pub under : (j : ℕ) → Under j S m m'

  bind_longer : {A B : Type 0} (S : A → A → Type 0) (T : B → B → Type 0) (m m' : Run A) (f f' : A → Run B) → Longer S m m' → ((a b : A) → S a b → Longer T (f a) (f' b)) → LongerBy T (m >>= f) (m' >>= f')
  unfolding bind
  bind_longer {A} {B} S T m m' f f' p q = record { by = λ s. go s (p.runs.by s) }
    where
      step : (r r' : Result A Stop) (t : State) (ps qs : List SlotPlace) → SaidSame S r r' → GoesOn T (go_on r t ps f) (go_on r' (longer t) qs f')
      step (Ok a) (Ok b) t ps qs e = (q a b e).runs.by t
      step (Err x) (Err y) t ps qs e = inr (e, refl)
      step (Ok a) (Err y) t ps qs e = absurd e
      step (Err x) (Ok b) t ps qs e = absurd e

      -- later steps give no fuel back
      less : (r r' : Result A Stop) (t : State) (qs : List SlotPlace) → SaidSame S r r' → t.fuel < more → (go_on r' t qs f').after.fuel < more
      less (Ok a) (Ok b) t qs e lt = let x = ((q a b e).under t.fuel).by t (omega arith) in subst (λ (u : State). u.fuel < more) (sym x.after) (omega (arith, x.less, lt))
      less (Err x) (Err y) t qs e lt = lt
      less (Ok a) (Err y) t qs e lt = absurd e
      less (Err x) (Ok b) t qs e lt = absurd e

      go : (s : State) → GoesOn S (m s) (m' (longer s)) → GoesOn T (go_on (m s).said (m s).after (m s).reads f) (go_on (m' (longer s)).said (m' (longer s)).after (m' (longer s)).reads f')
      go s (inl x) = inl (ap (λ (r : Result A Stop). (go_on r (m s).after (m s).reads f).said) x.0, λ some. less (m (longer s)).said (m' (longer s)).said (m' (longer s)).after (m' (longer s)).reads ((p.under (longer s).fuel).by (longer s) (omega arith)).said (x.1 some))
      go s (inr x) = subst (λ (t : State). GoesOn T (go_on (m s).said (m s).after (m s).reads f) (go_on (m' (longer s)).said t (m' (longer s)).reads f')) (sym x.1) (step (m s).said (m' (longer s)).said (m s).after (m s).reads (m' (longer s)).reads x.0)

  -- ---- steps that don't look at the fuel

  abbrev Moved : {A : Type 0} → Outcome A → Outcome A → Type 0
  Moved o o' = (o'.said ≡ o.said) × (o'.after ≡ longer o.after)

  abbrev Moves : {A : Type 0} → Run A → Type 0
  Moves m = (s : State) → Moved (m s) (m (longer s))

  said_self : {A : Type 0} (S : A → A → Type 0) → ((a : A) → S a a) → (r : Result A Stop) → SaidSame S r r
  said_self S one (Ok a) = one a
  said_self S one (Err e) = refl

  self : {A : Type 0} (S : A → A → Type 0) → ((a : A) → S a a) → (m : Run A) → Moves m → LongerBy S m m
  self {A} S one m moves = record { by = λ s. inr (subst (λ (r : Result A Stop). SaidSame S (m s).said r) (sym (moves s).0) (said_self S one (m s).said), (moves s).1) }

  ticks : LongerBy Any tick tick
  ticks = record { by = λ s. go s s.fuel (s.fuel + more) refl refl }
    where
      go : (s : State) (n p : ℕ) → s.fuel ≡ n → s.fuel + more ≡ p → GoesOn Any (tick_at n s) (tick_at p (longer s))
      go s zero zero e f = inl (refl, λ some. absurd (omega (arith, e, f, some)))
      go s zero (suc p) e f = inl (refl, λ some. omega (arith, e, f))
      go s (suc n) zero e f = absurd (omega (arith, e, f))
      go s (suc n) (suc p) e f = inr (tt, ap (λ (x : ℕ). record s { fuel = x }) (omega (arith, e, f)))

  given_moves : {A : Type 0} (x : Option A) → Moves (given x)
  given_moves None s = (refl, refl)
  given_moves (Some a) s = (refl, refl)

  result_moves : Moves get_result
  result_moves s = given_moves s.result s

  old_moves : (p : Place) → Moves (get_old p)
  old_moves p s = given_moves (old_at s.olds p) s

  local_moves : (k : ℕ) → Moves (read_local k)
  local_moves k s = go (local_at s.locals k)
    where
      go : (x : Option Local) → Moved (local_given x s) (local_given x (longer s))
      go None = (refl, refl)
      go (Some l) = (refl, refl)

  assign_moves : (k : ℕ) (v : Value) → Moves (assign k v)
  assign_moves k v s = go (nat_lt k (length s.locals))
    where
      go : (b : Bool) → Moved (assign_if b k v s) (assign_if b k v (longer s))
      go true = (refl, refl)
      go false = (refl, refl)

  load_moves : (o : Value) (spot : Spot) → Moves (load o spot)
  load_moves (Reference o) spot s = go (has_spot (object_in s.heap o) spot)
    where
      go : (b : Bool) → Moved (load_if b o spot s) (load_if b o spot (longer s))
      go true = (refl, refl)
      go false = (refl, refl)
  load_moves (Int n) spot s = (refl, refl)
  load_moves (Truth b) spot s = (refl, refl)
  load_moves Null spot s = (refl, refl)

  element_moves : (o i : Value) → Moves (element o i)
  element_moves (Reference o) (Int z) s = go (has_spot (object_in s.heap o) Length)
    where
      read : (x : Option ℕ) → Moved (element_read x o s) (element_read x o (longer s))
      read None = (refl, refl)
      read (Some k) = (refl, refl)

      go : (b : Bool) → Moved (element_if b o z s) (element_if b o z (longer s))
      go true = read (index_within z (length (object_in s.heap o).values))
      go false = (refl, refl)
  element_moves Null (Int z) s = (refl, refl)
  element_moves (Int n) i s = (refl, refl)
  element_moves (Truth b) i s = (refl, refl)
  element_moves (Reference o) (Truth b) s = (refl, refl)
  element_moves (Reference o) Null s = (refl, refl)
  element_moves (Reference o) (Reference p) s = (refl, refl)
  element_moves Null (Truth b) s = (refl, refl)
  element_moves Null Null s = (refl, refl)
  element_moves Null (Reference p) s = (refl, refl)

  class_moves : (o : Value) → Moves (class_or_null o)
  class_moves (Reference o) s = (refl, refl)
  class_moves (Int n) s = (refl, refl)
  class_moves (Truth b) s = (refl, refl)
  class_moves Null s = (refl, refl)

  store_moves : (program : Program) (f : Field) (o v : Value) → Moves (store program f o v)
  store_moves program f (Reference o) v s = go (spot_of_field program f (object_in s.heap o).class)
    where
      go : (k : Option ℕ) → Moved (store_at o k v s) (store_at o k v (longer s))
      go None = (refl, refl)
      go (Some k) = (refl, refl)
  store_moves program f (Int i) v s = (refl, refl)
  store_moves program f (Truth b) v s = (refl, refl)
  store_moves program f Null v s = (refl, refl)

  store_new_moves : (program : Program) (f : Field) (o v : Value) → Moves (store_new program f o v)
  store_new_moves program f (Reference o) v s = go (nat_lt o s.candidates)
    where
      go : (b : Bool) → Moved (store_new_if b program f o v s) (store_new_if b program f o v (longer s))
      go true = (refl, refl)
      go false = store_moves program f (Reference o) v s
  store_new_moves program f (Int i) v s = (refl, refl)
  store_new_moves program f (Truth b) v s = (refl, refl)
  store_new_moves program f Null v s = (refl, refl)

  store_element_moves : (program : Program) (t : JavaType) (o i v : Value) → Moves (store_element program t o i v)
  store_element_moves program t (Reference o) (Int i) v s = go (is_array_of program t (object_in s.heap o).class)
    where
      put_at : (k : Option ℕ) → Moved (store_index o k v s) (store_index o k v (longer s))
      put_at None = (refl, refl)
      put_at (Some k) = (refl, refl)

      go : (b : Bool) → Moved (store_element_if b o i v s) (store_element_if b o i v (longer s))
      go true = put_at (index_within i (length (object_in s.heap o).values))
      go false = (refl, refl)
  store_element_moves program t Null (Int i) v s = (refl, refl)
  store_element_moves program t (Int n) i v s = (refl, refl)
  store_element_moves program t (Truth b) i v s = (refl, refl)
  store_element_moves program t (Reference o) (Truth b) v s = (refl, refl)
  store_element_moves program t (Reference o) Null v s = (refl, refl)
  store_element_moves program t (Reference o) (Reference p) v s = (refl, refl)
  store_element_moves program t Null (Truth b) v s = (refl, refl)
  store_element_moves program t Null Null v s = (refl, refl)
  store_element_moves program t Null (Reference p) v s = (refl, refl)

  array_moves : (program : Program) (t : JavaType) (v : Value) → Moves (create_array program t v)
  array_moves program t (Int (pos n)) s = go (nat_lt 64 n)
    where
      made : (k : Option ℕ) → Moved (make_array t n k s) (make_array t n k (longer s))
      made None = (refl, refl)
      made (Some k) = (refl, refl)

      go : (b : Bool) → Moved ((if b then stop (Rattle.kr_mean.specs.declared.kind.Stop.TheVariants.Trapped Rattle.kr_mean.specs.declared.kind.Kind.TheVariants.ArrayTooLong) else make_array t n (array_number program.arrays (ArrayType t))) s) ((if b then stop (Rattle.kr_mean.specs.declared.kind.Stop.TheVariants.Trapped Rattle.kr_mean.specs.declared.kind.Kind.TheVariants.ArrayTooLong) else make_array t n (array_number program.arrays (ArrayType t))) (longer s))
      go true = (refl, refl)
      go false = made (array_number program.arrays (ArrayType t))
  array_moves program t (Int (negsuc n)) s = (refl, refl)
  array_moves program t (Truth b) s = (refl, refl)
  array_moves program t Null s = (refl, refl)
  array_moves program t (Reference o) s = (refl, refl)

  collect_moves : (n : List ℕ) (o : Value) (vs : List Value) → Moves (collect n o vs)
  collect_moves n (Reference o) vs s = go (collected (object_in s.heap o).class n vs (object_in s.heap o).values)
    where
      go : (c : Option Collected) → Moved (collect_as c o s) (collect_as c o (longer s))
      go None = (refl, refl)
      go (Some c) = (refl, refl)
  collect_moves n (Int i) vs s = (refl, refl)
  collect_moves n (Truth b) vs s = (refl, refl)
  collect_moves n Null vs s = (refl, refl)

  -- ---- all steps keep the relation

  one : (v : Value) → Same v v
  one v = refl

  same_option : (x : Option Class) → Same x x
  same_option x = refl

  each_same : {A : Type 0} (xs ys : List A) → Each Same xs ys → ys ≡ xs
  each_same [] [] e = refl
  each_same [] (y ∷ ys) e = absurd e
  each_same (x ∷ xs) [] e = absurd e
  each_same (x ∷ xs) (y ∷ ys) e = ap (λ (z : _). z ∷ ys) e.0 ∙ ap (λ (l : List _). x ∷ l) (each_same xs ys e.1)

  stopped : {A : Type 0} (S : A → A → Type 0) (e : Stop) → LongerBy S (stop e) (stop e)
  stopped S e = record { by = λ s. inr (refl, refl) }

  chooses : {A : Type 0} (S : A → A → Type 0) (v v' : Value) (m m' n n' : Run A) → Same v v' → LongerBy S m m' → LongerBy S n n' → LongerBy S (choose v m n) (choose v' m' n')
  chooses S (Int i) v' m m' n n' r p q = rw r (stopped S Stuck)
  chooses S (Truth true) v' m m' n n' r p q = rw r p
  chooses S (Truth false) v' m m' n n' r p q = rw r q
  chooses S Null v' m m' n n' r p q = rw r (stopped S Stuck)
  chooses S (Reference o) v' m m' n n' r p q = rw r (stopped S Stuck)

  withins : {A : Type 0} (S : A → A → Type 0) (o o' : Value) (n : ℕ) (vs ws : List Value) (m m' : Run A) → Same o o' → Each Same vs ws → LongerBy S m m' → LongerBy S (within o n vs m) (within o' n ws m')
  withins {A} S o o' n vs ws m m' r e p = rw (r, each_same vs ws e) (record { by = λ s. go s (nat_eq (length vs) n) })
    where
      inside : State → State
      inside t = record t { this_value = o; locals = map plain_local vs }

      back : (s : State) (x y : Outcome A) → GoesOn S x y → GoesOn S (back_to s x) (back_to (longer s) y)
      back s x y (inl e) = inl e
      back s x y (inr h) = inr (h.0, ap (λ (t : State). record t { this_value = s.this_value; locals = s.locals }) h.1)

      go : (s : State) (b : Bool) → GoesOn S (entered b o vs m s) (entered b o vs m' (longer s))
      go s false = inr (refl, refl)
      go s true = back s (m (inside s)) (m' (longer (inside s))) (p.by (inside s))

  scopes : {A : Type 0} (S : A → A → Type 0) (m m' : Run A) → LongerBy S m m' → LongerBy S (scoped m) (scoped m')
  scopes {A} S m m' p = record { by = λ s. go s (m s) (m' (longer s)) (p.by s) }
    where
      cut : State → Outcome A → Outcome A
      cut s o = record { said = o.said; after = record o.after { locals = take (length s.locals) o.after.locals }; reads = o.reads }

      go : (s : State) (x y : Outcome A) → GoesOn S x y → GoesOn S (cut s x) (cut s y)
      go s x y (inl e) = inl e
      go s x y (inr h) = inr (h.0, ap (λ (t : State). record t { locals = take (length s.locals) t.locals }) h.1)

  abbrev there : {A : Type 0} → Result A Stop → State → List SlotPlace → Outcome A
  there r t ps = record { said = r; after = t; reads = ps }

  -- what catches takes no fuel back either
  attempt_longer : {A : Type 0} (S : A → A → Type 0) (m m' : Run A) (h h' : Kind → Option (Run A)) → Longer S m m' → ((k : Kind) → OnOption (λ (x y : Run A). Longer S x y) (h k) (h' k)) → LongerBy S (attempted m h) (attempted m' h')
  unfolding attempted
  attempt_longer {A} S m m' h h' p q = record { by = λ s. go s (m s) (m' (longer s)) (p.runs.by s) }
    where
      onward : (k : Kind) (t : State) (ps qs : List SlotPlace) → (x y : Option (Run A)) → OnOption (λ (x y : Run A). Longer S x y) x y → GoesOn S (caught_by x (there (Err (Trapped k)) t ps)) (caught_by y (there (Err (Trapped k)) (longer t) qs))
      onward k t ps qs None None v = inr (refl, refl)
      onward k t ps qs (Some x) (Some y) v = v.runs.by t
      onward k t ps qs None (Some y) v = absurd v
      onward k t ps qs (Some x) None v = absurd v

      stopped_at : (x : Stop) (t : State) (ps qs : List SlotPlace) → GoesOn S (caught_by (handled (Err x) h) (there (Err x) t ps)) (caught_by (handled (Err x) h') (there (Err x) (longer t) qs))
      stopped_at (Trapped k) t ps qs = onward k t ps qs (h k) (h' k) (q k)
      stopped_at OutOfFuel t ps qs = inr (refl, refl)
      stopped_at Stuck t ps qs = inr (refl, refl)

      step : (r r' : Result A Stop) (t : State) (ps qs : List SlotPlace) → SaidSame S r r' → GoesOn S (caught_by (handled r h) (there r t ps)) (caught_by (handled r' h') (there r' (longer t) qs))
      step (Ok a) (Ok b) t ps qs e = inr (e, refl)
      step (Err x) (Err y) t ps qs e = rw e (stopped_at x t ps qs)
      step (Ok a) (Err y) t ps qs e = absurd e
      step (Err x) (Ok b) t ps qs e = absurd e

      caught_less : (k : Kind) (t : State) (qs : List SlotPlace) (x y : Option (Run A)) → OnOption (λ (x y : Run A). Longer S x y) x y → t.fuel < more → (caught_by y (there (Err (Trapped k)) t qs)).after.fuel < more
      caught_less k t qs None None v lt = lt
      caught_less k t qs (Some x) (Some y) v lt = let z = (v.under t.fuel).by t (omega arith) in subst (λ (w : State). w.fuel < more) (sym z.after) (omega (arith, z.less, lt))
      caught_less k t qs None (Some y) v lt = absurd v
      caught_less k t qs (Some x) None v lt = absurd v

      less : (r : Result A Stop) (t : State) (qs : List SlotPlace) → t.fuel < more → (caught_by (handled r h') (there r t qs)).after.fuel < more
      less (Ok a) t qs lt = lt
      less (Err (Trapped k)) t qs lt = caught_less k t qs (h k) (h' k) (q k) lt
      less (Err OutOfFuel) t qs lt = lt
      less (Err Stuck) t qs lt = lt

      go : (s : State) (o o' : Outcome A) → GoesOn S o o' → GoesOn S (caught_by (handled o.said h) o) (caught_by (handled o'.said h') o')
      go s o o' (inl x) = inl (subst (λ (r : Result A Stop). (caught_by (handled r h) o).said ≡ Err OutOfFuel) (sym x.0) x.0, λ some. less o'.said o'.after o'.reads (x.1 some))
      go s o o' (inr x) = subst (λ (t : State). GoesOn S (caught_by (handled o.said h) o) (caught_by (handled o'.said h') (there o'.said t o'.reads))) (sym x.1) (step o.said o'.said o.after o.reads o'.reads x.0)

  handlers_under : {A : Type 0} (S : A → A → Type 0) (j : ℕ) (x y : Option (Run A)) → OnOption (λ (x y : Run A). Longer S x y) x y → OnOption (λ (x y : Run A). Under j S x y) x y
  handlers_under S j None None v = tt
  handlers_under S j (Some x) (Some y) v = v.under j
  handlers_under S j None (Some y) v = absurd v
  handlers_under S j (Some x) None v = absurd v

  object_moves : (program : Program) (k : Kind) → Moves (object_of program k)
  object_moves program k s = go s.thrown
    where
      made : (c : Option ℕ) → Moved (object_of_class program c s) (object_of_class program c (longer s))
      made None = (refl, refl)
      made (Some c) = (refl, refl)

      go : (x : Option Value) → Moved (object_or_new program k x s) (object_or_new program k x (longer s))
      go None = made (class_of_kind program k)
      go (Some v) = (refl, refl)

  throws_longer : {A : Type 0} (S : A → A → Type 0) (k : Kind) (v : Value) → LongerBy S (throw_as k v) (throw_as k v)
  throws_longer S k v = record { by = λ s. inr (refl, refl) }

  module _ (program : Program) where
    abbrev u : ℕ → Logic program AnyField AnyType
    u j = under_logic program j

    both : {A : Type 0} (S : A → A → Type 0) (m m' : Run A) → LongerBy S m m' → ((j : ℕ) → Under j S m m') → Longer S m m'
    both S m m' p q = record { runs = p; under = q }

    abbrev longer_logic : Logic program AnyField AnyType
    longer_logic = record {
      R = Same;
      Rel = λ S m m'. Longer S m m';
      gives_ = λ S a b e. record { runs = record { by = λ s. inr (e, refl) }; under = λ j. (u j).gives_ S a b e };
      stops = λ S e. record { runs = stopped S e; under = λ j. (u j).stops S e };
      binds = λ S T m m' f f' p q. record { runs = bind_longer S T m m' f f' p q; under = λ j. (u j).binds S T m m' f f' (p.under j) (λ a b e. (q a b e).under j) };
      ticks = record { runs = ticks; under = λ j. (u j).ticks };
      ints = λ z. refl;
      truths = λ b. refl;
      nulls = refl;
      gets_this = record { runs = self Same one get_this (λ s. (refl, refl)); under = λ j. (u j).gets_this };
      gets_result = record { runs = self Same one get_result result_moves; under = λ j. (u j).gets_result };
      gets_old = λ p. record { runs = self Same one (get_old p) (old_moves p); under = λ j. (u j).gets_old p };
      reads_local = λ k. record { runs = self Same one (read_local k) (local_moves k); under = λ j. (u j).reads_local k };
      declares = λ v w e. record { runs = rw e (self Any (λ a. tt) (declare v) (λ s. (refl, refl))); under = λ j. (u j).declares v w e };
      assigns = λ k v w e. record { runs = rw e (self Any (λ a. tt) (assign k v) (assign_moves k v)); under = λ j. (u j).assigns k v w e };
      loads = λ o o' k e. record { runs = rw e (self Same one (load o (FieldSpot k)) (load_moves o (FieldSpot k))); under = λ j. (u j).loads o o' k e };
      loads_length = λ o o' e. record { runs = rw e (self Same one (load o Length) (load_moves o Length)); under = λ j. (u j).loads_length o o' e };
      elements = λ o o' i k e f. record { runs = rw (e, f) (self Same one (element o i) (element_moves o i)); under = λ j. (u j).elements o o' i k e f };
      classes = λ o o' e. record { runs = rw e (self Same same_option (class_or_null o) (class_moves o)); under = λ j. (u j).classes o o' e };
      stores = λ f o o' v w may e g. record { runs = rw (e, g) (self Any (λ a. tt) (store program f o v) (store_moves program f o v)); under = λ j. (u j).stores f o o' v w may e g };
      stores_new = λ f o o' v w e g. record { runs = rw (e, g) (self Any (λ a. tt) (store_new program f o v) (store_new_moves program f o v)); under = λ j. (u j).stores_new f o o' v w e g };
      stores_element = λ t o o' i k v w may e f g. record { runs = rw (e, f, g) (self Any (λ a. tt) (store_element program t o i v) (store_element_moves program t o i v)); under = λ j. (u j).stores_element t o o' i k v w may e f g };
      makes = λ c vs ws e. record { runs = rw (each_same vs ws e) (self Same one (make c vs) (λ s. (refl, refl))); under = λ j. (u j).makes c vs ws e };
      makes_array = λ t v w e. record { runs = rw e (self Same one (create_array program t v) (array_moves program t v)); under = λ j. (u j).makes_array t v w e };
      collects = λ n o o' vs ws e f. record { runs = rw (e, each_same vs ws f) (self Same one (collect n o vs) (collect_moves n o vs)); under = λ j. (u j).collects n o o' vs ws e f };
      operates = λ o v v' w w' e f. record { runs = rw (e, f) (self Same one (say (operated o v w)) (λ s. (refl, refl))); under = λ j. (u j).operates o v v' w w' e f };
      operates_alone = λ o v v' e. record { runs = rw e (self Same one (say (operated_alone o v)) (λ s. (refl, refl))); under = λ j. (u j).operates_alone o v v' e };
      chooses = λ S v v' m m' n n' r p q. record { runs = chooses S v v' m m' n n' r p.runs q.runs; under = λ j. (u j).chooses S v v' m m' n n' r (p.under j) (q.under j) };
      withins = λ S o o' n vs ws m m' r e p. record { runs = withins S o o' n vs ws m m' r e p.runs; under = λ j. (u j).withins S o o' n vs ws m m' r e (p.under j) };
      scopes = λ S m m' p. record { runs = scopes S m m' p.runs; under = λ j. (u j).scopes S m m' (p.under j) };
      throws_as = λ S k v w e. record { runs = rw e (throws_longer S k v); under = λ j. (u j).throws_as S k v w e };
      objects = λ k. record { runs = self Same one (object_of program k) (object_moves program k); under = λ j. (u j).objects k };
      attempts = λ S m m' h h' p q. record { runs = attempt_longer S m m' h h' p q; under = λ j. (u j).attempts S m m' h h' (p.under j) (λ k. handlers_under S j (h k) (h' k) (q k)) };
    }

-- ---- methods

same_each : (vs : List Value) → Each Same vs vs
same_each [] = tt
same_each (v ∷ vs) = (refl, same_each vs)

module _ (program : Program) where
  any_code : IsCode program AnyField AnyType AnyNode
  any_code = record { runs = λ node h. all_any (code_run program node); writes = λ node h. may_any (written_by node.scope node.tree) }

  module _ (more : ℕ) where
    abbrev l : Logic program AnyField AnyType
    l = longer_logic more program

    executes : (s : Scope) (t : Tree) → Longer more (OnFlow Same) (execute program s t) (execute program s t)
    unfolding execute
    executes s t = record {
      runs = record {
        by = λ state. subst (λ (o : Outcome Flow). GoesOn more (OnFlow Same) o (exec program (state.fuel + more) s t (longer more state)))
            (enough_for_statements program (state.fuel + more) s t state (omega arith)) (((parts_alike program AnyField AnyType AnyNode any_code l (state.fuel + more)).exec s t (all_any (code s t))).runs.by state);
      };
      under = λ j. record {
        by = λ state small. subst (λ (o : Outcome Flow). OneOutcome state.fuel (OnFlow Same) o o) (enough_for_statements program j s t state small) ((((parts_alike program AnyField AnyType AnyNode any_code l j).exec s t (all_any (code s t))).under j).by state small);
      };
    }

    values : (s : Scope) (e : Tree) → Longer more Same (value program s e) (value program s e)
    unfolding value
    values s e = record {
      runs = record {
        by = λ state. subst (λ (o : Outcome Value). GoesOn more Same o (eval program (state.fuel + more) s e (longer more state)))
            (enough_for_values program (state.fuel + more) s e state (omega arith)) (((parts_alike program AnyField AnyType AnyNode any_code l (state.fuel + more)).value s e (all_any (code s e))).runs.by state);
      };
      under = λ j. record {
        by = λ state small. subst (λ (o : Outcome Value). OneOutcome state.fuel Same o o) (enough_for_values program j s e state small) ((((parts_alike program AnyField AnyType AnyNode any_code l j).value s e (all_any (code s e))).under j).by state small);
      };
    }

    thens : (v w : Flow) (m m' : Run Flow) → OnFlow Same v w → Longer more (OnFlow Same) m m' → Longer more (OnFlow Same) (then_on v m) (then_on w m')
    thens Next Next m m' r p = p
    thens Broke Broke m m' r p = l.gives_ (OnFlow Same) Broke Broke tt
    thens Continued Continued m m' r p = l.gives_ (OnFlow Same) Continued Continued tt
    thens Left Left m m' r p = l.gives_ (OnFlow Same) Left Left tt
    thens (Gave v) (Gave w) m m' r p = l.gives_ (OnFlow Same) (Gave v) (Gave w) r
    thens _ _ m m' r p = absurd r

    returns : (b : Bool) (v w : Flow) → OnFlow Same v w → Longer more Same (returned b v) (returned b w)
    returns true Next Next r = l.gives_ Same Null Null refl
    returns false Next Next r = l.stops Same (Trapped NoReturn)
    returns true Left Left r = l.gives_ Same Null Null refl
    returns false Left Left r = l.stops Same Stuck
    returns b Broke Broke r = l.stops Same Stuck
    returns b Continued Continued r = l.stops Same Stuck
    returns true (Gave v) (Gave w) r = l.stops Same Stuck
    returns false (Gave v) (Gave w) r = l.gives_ Same v w r
    returns b _ _ r = absurd r

    alls : (s : Scope) (ts : List Tree) → Longer more (OnFlow Same) (all (unbounded program) s ts) (all (unbounded program) s ts)
    alls s [] = l.gives_ (OnFlow Same) Next Next tt
    alls s (t ∷ ts) = l.binds (OnFlow Same) (OnFlow Same) _ _ _ _ (executes s t) (λ v w r. thens v w _ _ r (alls (after s t) ts))

    bodies : (m : Method) → Longer more Same (run_body program (unbounded program) m) (run_body program (unbounded program) m)
    bodies m = l.binds (OnFlow Same) Same _ _ _ _ (alls (method_scope program m) m.body) (λ v w r. returns (is_void m.result) v w r)

    methods : (receiver : Value) (arguments : List Value) (m : Method) → Longer more Same (run_method program (unbounded program) receiver arguments (Some m)) (run_method program (unbounded program) receiver arguments (Some m))
    methods receiver arguments m = l.withins Same receiver receiver (length m.parameters) arguments arguments _ _ refl (same_each arguments) (bodies m)

said_is : (r r' : Result Value Stop) → SaidSame Same r r' → r' ≡ r
said_is (Ok a) (Ok b) e = ap (λ (v : Value). Ok v) e
said_is (Err x) (Err y) e = ap (λ (z : Stop). Err z) e
said_is (Ok a) (Err y) e = absurd e
said_is (Err x) (Ok b) e = absurd e

-- the ends of a run with so much fuel and with more
abbrev GoOn : (ℕ → Outcome Value) → ℕ → ℕ → Type 0
GoOn run fuel more = RunsOut more (run fuel) (run (fuel + more)) ⊎ IsSameWith more (run fuel) (run (fuel + more))

same_with : (more : ℕ) (o o' : Outcome Value) → GoesOn more Same o o' → RunsOut more o o' ⊎ IsSameWith more o o'
same_with more o o' (inl e) = inl e
same_with more o o' (inr x) = inr (record { said = said_is o.said o'.said x.0; after = x.1 })

module _ (run : ℕ → Outcome Value) (goes_on : (fuel more : ℕ) → GoOn run fuel more) (none : (run 0).after.fuel ≤ 0) where
  decided : (o : Outcome Value) → IsSpent o ⊎ (IsSpent o → ⊥)
  decided o = go o.said refl
    where
      go : (r : Result Value Stop) → o.said ≡ r → IsSpent o ⊎ (IsSpent o → ⊥)
      go (Err OutOfFuel) e = inl e
      go (Ok v) e = inr (λ h. cc (e, h))
      go (Err (Trapped k)) e = inr (λ h. cc (e, h))
      go (Err Stuck) e = inr (λ h. cc (e, h))

  above : (fuel : ℕ) → (IsSpent (run fuel) → ⊥) → (more : ℕ) → IsSameWith more (run fuel) (run (fuel + more))
  above fuel fine more = go (goes_on fuel more)
    where
      go : GoOn run fuel more → IsSameWith more (run fuel) (run (fuel + more))
      go (inl e) = absurd (fine e.0)
      go (inr x) = x

  -- a run that is out of fuel is so with less, too
  spent_below : (fuel more : ℕ) → IsSpent (run (fuel + more)) → IsSpent (run fuel)
  spent_below fuel more short = go (goes_on fuel more)
    where
      go : GoOn run fuel more → IsSpent (run fuel)
      go (inl e) = e.0
      go (inr x) = sym x.said ∙ short

  all_below : (n : ℕ) → IsSpent (run n) → (fuel : ℕ) → fuel < suc n → IsSpent (run fuel)
  all_below n short fuel lt = spent_below fuel (n - fuel) (subst (λ (x : ℕ). IsSpent (run x)) (omega (arith, lt)) short)

  -- where one unit less is too little, nothing is left
  nothing_left : (n : ℕ) → IsSpent (run n) → (IsSpent (run (n + 1)) → ⊥) → (run (n + 1)).after.fuel ≡ 0
  nothing_left n short fine = go (goes_on n 1)
    where
      go : GoOn run n 1 → (run (n + 1)).after.fuel ≡ 0
      go (inl e) = omega (arith, e.1 (omega arith))
      go (inr x) = absurd (fine (x.said ∙ short))

  next : (n : ℕ) → n + 1 ≡ suc n
  next n = omega arith

  pub cost : (fuel : ℕ) → (IsSpent (run fuel) → ⊥) → (c : ℕ) × (c ≤ fuel) × Costs run c
  cost zero fine = (zero, omega arith, record { below = λ fuel lt. absurd (omega (arith, lt)); enough = fine; above = above zero fine; exact = omega (arith, none) })
  cost (suc n) fine = go (decided (run n)) (cost n)
    where
      go : IsSpent (run n) ⊎ (IsSpent (run n) → ⊥) → ((IsSpent (run n) → ⊥) → (c : ℕ) × (c ≤ n) × Costs run c) → (c : ℕ) × (c ≤ suc n) × Costs run c
      go (inl short) k = (
        suc n,
        omega arith,
        record {
          below = all_below n short;
          enough = fine;
          above = above (suc n) fine;
          exact = subst (λ (x : ℕ). (run x).after.fuel ≡ 0) (next n) (nothing_left n short (subst (λ (x : ℕ). IsSpent (run x) → ⊥) (sym (next n)) fine));
        },
      )
      go (inr less) k = let c = k less in (c.0, omega (arith, c.1), c.2)

-- ---- bodies, and values

module _ (program : Program) (receiver : Value) (arguments : List Value) (m : Method) (s : State) where
  abbrev body_run : ℕ → Outcome Value
  body_run = with_fuel program receiver arguments m s

  body_goes_on : (fuel more : ℕ) → GoOn body_run fuel more
  body_goes_on fuel more =
      let t : State = record s { fuel = fuel } in
      let here : body_run fuel ≡ run_method program (unbounded program) receiver arguments (Some m) t = body_is program receiver arguments m t in
      let there : body_run (fuel + more) ≡ run_method program (unbounded program) receiver arguments (Some m) (longer more t) = body_is program receiver arguments m (longer more t) in
      same_with more (body_run fuel) (body_run (fuel + more))
      (subst (λ (o : Outcome Value). GoesOn more Same o (body_run (fuel + more))) (sym here)
      (subst (λ (o : Outcome Value). GoesOn more Same (run_method program (unbounded program) receiver arguments (Some m) t) o) (sym there) ((methods program more receiver arguments m).runs.by t)))

  body_none : (body_run 0).after.fuel ≤ 0
  body_none =
      let t : State = record s { fuel = 0 } in
      subst (λ (o : Outcome Value). o.after.fuel ≤ 0) (sym (body_is program receiver arguments m t)) (((methods program 0 receiver arguments m).under 0).by t (omega arith)).less

  pub body_cost : (fuel : ℕ) → (IsSpent (body_run fuel) → ⊥) → (c : ℕ) × (c ≤ fuel) × Costs body_run c
  body_cost = cost body_run body_goes_on body_none

module _ (program : Program) (scope : Scope) (tree : Tree) (s : State) where
  abbrev value_run : ℕ → Outcome Value
  value_run = value_with_fuel program scope tree s

  value_goes_on : (fuel more : ℕ) → GoOn value_run fuel more
  value_goes_on fuel more = same_with more (value_run fuel) (value_run (fuel + more)) ((values program more scope tree).runs.by (record s { fuel = fuel }))

  value_none : (value_run 0).after.fuel ≤ 0
  value_none = (((values program 0 scope tree).under 0).by (record s { fuel = 0 }) (omega arith)).less

  pub value_cost : (fuel : ℕ) → (IsSpent (value_run fuel) → ⊥) → (c : ℕ) × (c ≤ fuel) × Costs value_run c
  value_cost = cost value_run value_goes_on value_none
