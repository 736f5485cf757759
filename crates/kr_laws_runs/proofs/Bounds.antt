-- A relation that all steps keep: two runs are one, where there is no more fuel than a bound. So a bound of at least the
-- fuel cuts nothing off, and the meaning has its equations.
use Rattle.std.proofs.Common.{◌≡◌, ℕ, zero, suc, ◌<◌, ◌≤◌, Bool, true, false, List, [], ◌∷◌, ◌++◌, length, Result, Ok, Err, Option, Some, None, refl, sym, ap, ◌∙◌, arith, subst}
use Rattle.std.specs.Prelude.{pos, negsuc, map, take, nat_eq, nat_lt, if◌then◌else◌}
use Rattle.kr_base.specs.declared.place.Place.{Place}
use Rattle.kr_ast.specs.Tree as trees
use Rattle.kr_ast.specs.Tree.{Tree}
use Rattle.kr_value.specs.declared.value.Value.{Value}
use Rattle.kr_value.specs.declared.value.Value.TheVariants.{Int, Bool as Truth, Null, Ref as Reference}
use Rattle.kr_value.specs.declared.object.Class.{Class}
use Rattle.kr_value.specs.declared.object.Spot.{Spot}
use Rattle.kr_value.specs.declared.object.Spot.TheVariants.{Field as FieldSpot, Length}
use Rattle.kr_value.specs.Heaps.{object_in, has_spot}
use Rattle.kr_classes_table.specs.Types.{JavaType, ArrayType}
use Rattle.kr_classes_table.specs.Table.{Field, Method, items}
use Rattle.kr_classes_table.specs.Arrays.{array_number}
use Rattle.kr_types_meaning.specs.Scopes.{Scope, after}
use Rattle.kr_mean.specs.declared.kind.Stop.{Stop}
use Rattle.kr_mean.specs.declared.kind.Kind.{Kind}
use Rattle.kr_mean.specs.declared.kind.Stop.TheVariants.{Trapped, OutOfFuel, Stuck}
use Rattle.kr_mean.specs.Thrown.{class_of_kind, object_of_class, object_or_new, object_of, handled, caught_by, attempted}
use Rattle.kr_mean.specs.Program.{Program, default_of, spot_of_field, is_array_of}
use Rattle.kr_mean.specs.Places.{SlotPlace}
use Rattle.kr_mean.specs.Collections.{Collected, collected}
use Rattle.kr_mean.specs.Steps.{Local, State, Outcome, Run, say, stop, go_on, bind, given, ◌>>=◌, ◌>>◌, tick, tick_at, get_this, local_at, local_given, read_local, declare, assign_if, assign, get_result, old_at, get_old, entered, within, scoped, load_if, load, index_within, element_read, element_if, element, class_or_null, store_at, store, store_new_if, store_new, store_index, store_element_if, store_element, make, collect_as, collect}
use Rattle.kr_mean.specs.Operators.{operated, operated_alone}
use Rattle.kr_mean.specs.declared.flow.Flow.{Flow}
use Rattle.kr_mean.specs.declared.flow.Flow.TheVariants.{Next, Broke, Continued, Left, Gave}
use Rattle.kr_mean.specs.Meaning.{Parts, Target, LocalTarget, OwnField, FieldOf, ElementOf, NoTarget, choose, rounds, run_method, make_array, create_array, value_of, declared, all_declared, declaring_locals, statement, spent, parts_within, eval, exec, value, execute, loop, unbounded, body_of}
use Rattle.kr_mean.specs.Code.{Node, code, code_of_method, code_run}
use Rattle.kr_mean.specs.Purity.{written_by}
use Rattle.kr_laws_runs.specs.Laws.{Spends, round, HasEquations}
use Rattle.kr_laws_runs.proofs.Respects.{Any, Same, Each, OnOption, OnFlow, AllOf, MayWrite, Logic, IsCode, PartsAlike, values, flows, then_rounds, runs_method}

abbrev pub SaidSame : {A : Type 0} → (A → A → Type 0) → Result A Stop → Result A Stop → Type 0
SaidSame S (Ok a) (Ok b) = S a b
SaidSame S (Err e) (Err f) = f ≡ e
SaidSame S _ _ = ⊥

-- the two outcomes are one, and have no more fuel than there was
pub record OneOutcome (fuel : ℕ) {A : Type 0} (S : A → A → Type 0) (o o' : Outcome A) : Type 0 where
  pub said : SaidSame S o.said o'.said
  pub after : o'.after ≡ o.after
  pub reads : o'.reads ≡ o.reads
  pub less : o.after.fuel ≤ fuel

pub record Under (j : ℕ) {A : Type 0} (S : A → A → Type 0) (m m' : Run A) : Type 0 where
  pub by : (s : State) → s.fuel ≤ j → OneOutcome s.fuel S (m s) (m' s)

fewer : (i j : ℕ) {A : Type 0} (S : A → A → Type 0) (m m' : Run A) → i ≤ j → Under j S m m' → Under i S m m'
fewer i j S m m' le p = record { by = λ s small. p.by s (omega (arith, le, small)) }

pub bind_under : (j : ℕ) {A B : Type 0} (S : A → A → Type 0) (T : B → B → Type 0) (m m' : Run A) (f f' : A → Run B) → Under j S m m' → ((a b : A) → S a b → Under j T (f a) (f' b)) → Under j T (m >>= f) (m' >>= f')
unfolding bind
bind_under j {A} {B} S T m m' f f' p q = record { by = λ s le. go s le (m s) (m' s) (p.by s le) }
  where
    step : (n : ℕ) (r r' : Result A Stop) (t : State) (ps : List SlotPlace) → n ≤ j → SaidSame S r r' → t.fuel ≤ n → OneOutcome n T (go_on r t ps f) (go_on r' t ps f')
    step n (Ok a) (Ok b) t ps le e l = let x = (q a b e).by t (omega (arith, l, le)) in record { said = x.said; after = x.after; reads = ap (λ (y : List SlotPlace). ps ++ y) x.reads; less = omega (arith, x.less, l) }
    step n (Err x) (Err y) t ps le e l = record { said = e; after = refl; reads = refl; less = l }
    step n (Ok a) (Err y) t ps le e l = absurd e
    step n (Err x) (Ok b) t ps le e l = absurd e

    go : (s : State) → s.fuel ≤ j → (o o' : Outcome A) → OneOutcome s.fuel S o o' → OneOutcome s.fuel T (go_on o.said o.after o.reads f) (go_on o'.said o'.after o'.reads f')
    go s le o o' x = subst (λ (t : State). OneOutcome s.fuel T (go_on o.said o.after o.reads f) (go_on o'.said t o'.reads f')) (sym x.after) (subst (λ (ps : List SlotPlace). OneOutcome s.fuel T (go_on o.said o.after o.reads f) (go_on o'.said o.after ps f')) (sym x.reads) (step s.fuel o.said o'.said o.after o.reads le x.said x.less))

abbrev there : {A : Type 0} → Result A Stop → State → List SlotPlace → Outcome A
there r t ps = record { said = r; after = t; reads = ps }

-- a trap that is caught goes on with the fuel that is left
pub attempt_under : (j : ℕ) {A : Type 0} (S : A → A → Type 0) (m m' : Run A) (h h' : Kind → Option (Run A)) → Under j S m m' → ((k : Kind) → OnOption (λ (x y : Run A). Under j S x y) (h k) (h' k))
    → Under j S (attempted m h) (attempted m' h')
unfolding attempted
attempt_under j {A} S m m' h h' p q = record { by = λ s le. go s le (m s) (m' s) (p.by s le) }
  where
    onward : (n : ℕ) (k : Kind) (t : State) (ps : List SlotPlace) → n ≤ j → t.fuel ≤ n → (x y : Option (Run A)) → OnOption (λ (x y : Run A). Under j S x y) x y
        → OneOutcome n S (caught_by x (there (Err (Trapped k)) t ps)) (caught_by y (there (Err (Trapped k)) t ps))
    onward n k t ps le l None None u = record { said = refl; after = refl; reads = refl; less = l }
    onward n k t ps le l (Some x) (Some y) u = let z = u.by t (omega (arith, l, le)) in record { said = z.said; after = z.after; reads = ap (λ (y : List SlotPlace). ps ++ y) z.reads; less = omega (arith, z.less, l) }
    onward n k t ps le l None (Some y) u = absurd u
    onward n k t ps le l (Some x) None u = absurd u

    stopped_at : (n : ℕ) (x : Stop) (t : State) (ps : List SlotPlace) → n ≤ j → t.fuel ≤ n → OneOutcome n S (caught_by (handled (Err x) h) (there (Err x) t ps)) (caught_by (handled (Err x) h') (there (Err x) t ps))
    stopped_at n (Trapped k) t ps le l = onward n k t ps le l (h k) (h' k) (q k)
    stopped_at n OutOfFuel t ps le l = record { said = refl; after = refl; reads = refl; less = l }
    stopped_at n Stuck t ps le l = record { said = refl; after = refl; reads = refl; less = l }

    step : (n : ℕ) (r r' : Result A Stop) (t : State) (ps : List SlotPlace) → n ≤ j → SaidSame S r r' → t.fuel ≤ n → OneOutcome n S (caught_by (handled r h) (there r t ps)) (caught_by (handled r' h') (there r' t ps))
    step n (Ok a) (Ok b) t ps le e l = record { said = e; after = refl; reads = refl; less = l }
    step n (Err x) (Err y) t ps le e l = rw e (stopped_at n x t ps le l)
    step n (Ok a) (Err y) t ps le e l = absurd e
    step n (Err x) (Ok b) t ps le e l = absurd e

    go : (s : State) → s.fuel ≤ j → (o o' : Outcome A) → OneOutcome s.fuel S o o' → OneOutcome s.fuel S (caught_by (handled o.said h) o) (caught_by (handled o'.said h') o')
    go s le o o' x =
        subst (λ (t : State). OneOutcome s.fuel S (caught_by (handled o.said h) o) (caught_by (handled o'.said h') (there o'.said t o'.reads))) (sym x.after)
        (subst (λ (ps : List SlotPlace). OneOutcome s.fuel S (caught_by (handled o.said h) o) (caught_by (handled o'.said h') (there o'.said o.after ps))) (sym x.reads) (step s.fuel o.said o'.said o.after o.reads le x.said x.less))

pub said_self : {A : Type 0} (S : A → A → Type 0) → ((a : A) → S a a) → (r : Result A Stop) → SaidSame S r r
said_self S one (Ok a) = one a
said_self S one (Err e) = refl

-- a step that gives no fuel back, beside itself
pub self : (j : ℕ) {A : Type 0} (S : A → A → Type 0) → ((a : A) → S a a) → (m : Run A) → Spends m → Under j S m m
self j S one m kept = record { by = λ s le. record { said = said_self S one (m s).said; after = refl; reads = refl; less = kept s } }

pub same_option : (x : Option Class) → Same x x
same_option x = refl

pub each_same : {A : Type 0} (xs ys : List A) → Each Same xs ys → ys ≡ xs
each_same [] [] e = refl
each_same [] (y ∷ ys) e = absurd e
each_same (x ∷ xs) [] e = absurd e
each_same (x ∷ xs) (y ∷ ys) e = ap (λ (z : _). z ∷ ys) e.0 ∙ ap (λ (l : List _). x ∷ l) (each_same xs ys e.1)

-- ---- steps give no fuel back

pub ticks_spend : Spends tick
ticks_spend s = go s.fuel refl
  where
    go : (n : ℕ) → s.fuel ≡ n → (tick_at n s).after.fuel ≤ s.fuel
    go zero e = omega arith
    go (suc n) e = omega (arith, e)

given_spends : {A : Type 0} (x : Option A) → Spends (given x)
given_spends None s = omega arith
given_spends (Some a) s = omega arith

pub result_spends : Spends get_result
result_spends s = given_spends s.result s

pub old_spends : (p : Place) → Spends (get_old p)
old_spends p s = given_spends (old_at s.olds p) s

pub local_spends : (k : ℕ) → Spends (read_local k)
local_spends k s = go (local_at s.locals k)
  where
    go : (x : Option Local) → (local_given x s).after.fuel ≤ s.fuel
    go None = omega arith
    go (Some l) = omega arith

pub assign_spends : (k : ℕ) (v : Value) → Spends (assign k v)
assign_spends k v s = go (nat_lt k (length s.locals))
  where
    go : (b : Bool) → (assign_if b k v s).after.fuel ≤ s.fuel
    go true = omega arith
    go false = omega arith

pub load_spends : (o : Value) (spot : Spot) → Spends (load o spot)
load_spends (Reference o) spot s = go (has_spot (object_in s.heap o) spot)
  where
    go : (b : Bool) → (load_if b o spot s).after.fuel ≤ s.fuel
    go true = omega arith
    go false = omega arith
load_spends (Int n) spot s = omega arith
load_spends (Truth b) spot s = omega arith
load_spends Null spot s = omega arith

pub element_spends : (o i : Value) → Spends (element o i)
element_spends (Reference o) (Int z) s = go (has_spot (object_in s.heap o) Length)
  where
    read : (x : Option ℕ) → (element_read x o s).after.fuel ≤ s.fuel
    read None = omega arith
    read (Some k) = omega arith

    go : (b : Bool) → (element_if b o z s).after.fuel ≤ s.fuel
    go true = read (index_within z (length (object_in s.heap o).values))
    go false = omega arith
element_spends Null (Int z) s = omega arith
element_spends (Int n) i s = omega arith
element_spends (Truth b) i s = omega arith
element_spends (Reference o) (Truth b) s = omega arith
element_spends (Reference o) Null s = omega arith
element_spends (Reference o) (Reference p) s = omega arith
element_spends Null (Truth b) s = omega arith
element_spends Null Null s = omega arith
element_spends Null (Reference p) s = omega arith

pub class_spends : (o : Value) → Spends (class_or_null o)
class_spends (Reference o) s = omega arith
class_spends (Int n) s = omega arith
class_spends (Truth b) s = omega arith
class_spends Null s = omega arith

pub store_spends : (program : Program) (f : Field) (o v : Value) → Spends (store program f o v)
store_spends program f (Reference o) v s = go (spot_of_field program f (object_in s.heap o).class)
  where
    go : (k : Option ℕ) → (store_at o k v s).after.fuel ≤ s.fuel
    go None = omega arith
    go (Some k) = omega arith
store_spends program f (Int i) v s = omega arith
store_spends program f (Truth b) v s = omega arith
store_spends program f Null v s = omega arith

pub store_new_spends : (program : Program) (f : Field) (o v : Value) → Spends (store_new program f o v)
store_new_spends program f (Reference o) v s = go (nat_lt o s.candidates)
  where
    go : (b : Bool) → (store_new_if b program f o v s).after.fuel ≤ s.fuel
    go true = omega arith
    go false = store_spends program f (Reference o) v s
store_new_spends program f (Int i) v s = omega arith
store_new_spends program f (Truth b) v s = omega arith
store_new_spends program f Null v s = omega arith

pub store_element_spends : (program : Program) (t : JavaType) (o i v : Value) → Spends (store_element program t o i v)
store_element_spends program t (Reference o) (Int i) v s = go (is_array_of program t (object_in s.heap o).class)
  where
    put_at : (k : Option ℕ) → (store_index o k v s).after.fuel ≤ s.fuel
    put_at None = omega arith
    put_at (Some k) = omega arith

    go : (b : Bool) → (store_element_if b o i v s).after.fuel ≤ s.fuel
    go true = put_at (index_within i (length (object_in s.heap o).values))
    go false = omega arith
store_element_spends program t Null (Int i) v s = omega arith
store_element_spends program t (Int n) i v s = omega arith
store_element_spends program t (Truth b) i v s = omega arith
store_element_spends program t (Reference o) (Truth b) v s = omega arith
store_element_spends program t (Reference o) Null v s = omega arith
store_element_spends program t (Reference o) (Reference p) v s = omega arith
store_element_spends program t Null (Truth b) v s = omega arith
store_element_spends program t Null Null v s = omega arith
store_element_spends program t Null (Reference p) v s = omega arith

pub array_spends : (program : Program) (t : JavaType) (v : Value) → Spends (create_array program t v)
array_spends program t (Int (pos n)) s = go (nat_lt 64 n)
  where
    made : (k : Option ℕ) → (make_array t n k s).after.fuel ≤ s.fuel
    made None = omega arith
    made (Some k) = omega arith

    go : (b : Bool) → ((if b then stop (Rattle.kr_mean.specs.declared.kind.Stop.TheVariants.Trapped Rattle.kr_mean.specs.declared.kind.Kind.TheVariants.ArrayTooLong) else make_array t n (array_number program.arrays (ArrayType t))) s).after.fuel ≤ s.fuel
    go true = omega arith
    go false = made (array_number program.arrays (ArrayType t))
array_spends program t (Int (negsuc n)) s = omega arith
array_spends program t (Truth b) s = omega arith
array_spends program t Null s = omega arith
array_spends program t (Reference o) s = omega arith

pub object_spends : (program : Program) (k : Kind) → Spends (object_of program k)
object_spends program k s = go s.thrown
  where
    made : (c : Option ℕ) → (object_of_class program c s).after.fuel ≤ s.fuel
    made None = omega arith
    made (Some c) = omega arith

    go : (x : Option Value) → (object_or_new program k x s).after.fuel ≤ s.fuel
    go None = made (class_of_kind program k)
    go (Some v) = omega arith

pub collect_spends : (n : List ℕ) (o : Value) (vs : List Value) → Spends (collect n o vs)
collect_spends n (Reference o) vs s = go (collected (object_in s.heap o).class n vs (object_in s.heap o).values)
  where
    go : (c : Option Collected) → (collect_as c o s).after.fuel ≤ s.fuel
    go None = omega arith
    go (Some c) = omega arith
collect_spends n (Int i) vs s = omega arith
collect_spends n (Truth b) vs s = omega arith
collect_spends n Null vs s = omega arith

-- ---- all steps keep the relation

abbrev pub AnyField : Field → Type 0
AnyField f = Unit {0}

abbrev pub AnyType : JavaType → Type 0
AnyType t = Unit {0}

abbrev pub AnyNode : Node → Type 0
AnyNode n = Unit {0}

module _ (program : Program) (j : ℕ) where
  pub one : (v : Value) → Same v v
  one v = refl

  pub stopped : {A : Type 0} (S : A → A → Type 0) (e : Stop) → Under j S (stop e) (stop e)
  stopped S e = record { by = λ s le. record { said = refl; after = refl; reads = refl; less = omega arith } }

  pub chooses : {A : Type 0} (S : A → A → Type 0) (v v' : Value) (m m' n n' : Run A) → Same v v' → Under j S m m' → Under j S n n' → Under j S (choose v m n) (choose v' m' n')
  chooses S (Int i) v' m m' n n' r p q = rw r (stopped S Stuck)
  chooses S (Truth true) v' m m' n n' r p q = rw r p
  chooses S (Truth false) v' m m' n n' r p q = rw r q
  chooses S Null v' m m' n n' r p q = rw r (stopped S Stuck)
  chooses S (Reference o) v' m m' n n' r p q = rw r (stopped S Stuck)

  pub withins : {A : Type 0} (S : A → A → Type 0) (o o' : Value) (n : ℕ) (vs ws : List Value) (m m' : Run A) → Same o o' → Each Same vs ws → Under j S m m' → Under j S (within o n vs m) (within o' n ws m')
  withins S o o' n vs ws m m' r e p = rw (r, each_same vs ws e) (record { by = λ s le. go s le (nat_eq (length vs) n) })
    where
      go : (s : State) → s.fuel ≤ j → (b : Bool) → OneOutcome s.fuel S (entered b o vs m s) (entered b o vs m' s)
      go s le false = record { said = refl; after = refl; reads = refl; less = omega arith }
      go s le true =
          let x = p.by (record s { this_value = o; locals = map Rattle.kr_mean.specs.Steps.plain_local vs }) le in
          record { said = x.said; after = ap (λ (t : State). record t { this_value = s.this_value; locals = s.locals }) x.after; reads = x.reads; less = x.less }

  pub scopes : {A : Type 0} (S : A → A → Type 0) (m m' : Run A) → Under j S m m' → Under j S (scoped m) (scoped m')
  scopes S m m' p = record { by = λ s le. let x = p.by s le in record { said = x.said; after = ap (λ (t : State). record t { locals = take (length s.locals) t.locals }) x.after; reads = x.reads; less = x.less } }

  abbrev pub under_logic : Logic program AnyField AnyType
  under_logic = record {
    R = Same;
    Rel = λ S m m'. Under j S m m';
    gives_ = λ S a b e. record { by = λ s le. record { said = e; after = refl; reads = refl; less = omega arith } };
    stops = stopped;
    binds = bind_under j;
    ticks = self j Any (λ a. tt) tick ticks_spend;
    ints = λ z. refl;
    truths = λ b. refl;
    nulls = refl;
    gets_this = self j Same one get_this (λ s. omega arith);
    gets_result = self j Same one get_result result_spends;
    gets_old = λ p. self j Same one (get_old p) (old_spends p);
    reads_local = λ k. self j Same one (read_local k) (local_spends k);
    declares = λ v w e. rw e (self j Any (λ a. tt) (declare v) (λ s. omega arith));
    assigns = λ k v w e. rw e (self j Any (λ a. tt) (assign k v) (assign_spends k v));
    loads = λ o o' k e. rw e (self j Same one (load o (FieldSpot k)) (load_spends o (FieldSpot k)));
    loads_length = λ o o' e. rw e (self j Same one (load o Length) (load_spends o Length));
    elements = λ o o' i k e f. rw (e, f) (self j Same one (element o i) (element_spends o i));
    classes = λ o o' e. rw e (self j Same same_option (class_or_null o) (class_spends o));
    stores = λ f o o' v w may e g. rw (e, g) (self j Any (λ a. tt) (store program f o v) (store_spends program f o v));
    stores_new = λ f o o' v w e g. rw (e, g) (self j Any (λ a. tt) (store_new program f o v) (store_new_spends program f o v));
    stores_element = λ t o o' i k v w may e f g. rw (e, f, g) (self j Any (λ a. tt) (store_element program t o i v) (store_element_spends program t o i v));
    makes = λ c vs ws e. rw (each_same vs ws e) (self j Same one (make c vs) (λ s. omega arith));
    makes_array = λ t v w e. rw e (self j Same one (create_array program t v) (array_spends program t v));
    collects = λ n o o' vs ws e f. rw (e, each_same vs ws f) (self j Same one (collect n o vs) (collect_spends n o vs));
    operates = λ o v v' w w' e f. rw (e, f) (self j Same one (say (operated o v w)) (λ s. omega arith));
    operates_alone = λ o v v' e. rw e (self j Same one (say (operated_alone o v)) (λ s. omega arith));
    chooses = chooses;
    withins = withins;
    scopes = scopes;
    throws_as = λ S k v w e. rw e (record { by = λ s le. record { said = refl; after = refl; reads = refl; less = omega arith } });
    objects = λ k. self j Same one (object_of program k) (object_spends program k);
    attempts = attempt_under j;
  }

-- ---- a bound of at least the fuel cuts nothing off

-- steps after a unit have less fuel
unit_first : (j : ℕ) {A : Type 0} (S : A → A → Type 0) (m m' : Run A) → ((i : ℕ) → i < j → Under i S m m') → Under j S (tick >> m) (tick >> m')
unfolding bind
unit_first j {A} S m m' p = record { by = λ s le. go s le s.fuel refl }
  where
    go : (s : State) → s.fuel ≤ j → (n : ℕ) → s.fuel ≡ n → OneOutcome s.fuel S (go_on (tick_at n s).said (tick_at n s).after (tick_at n s).reads (λ u. m)) (go_on (tick_at n s).said (tick_at n s).after (tick_at n s).reads (λ u. m'))
    go s le zero e = record { said = refl; after = refl; reads = refl; less = omega arith }
    go s le (suc n) e = let x = (p n (omega (arith, le, e))).by (record s { fuel = n }) (omega arith) in record { said = x.said; after = x.after; reads = x.reads; less = omega (arith, x.less, e) }

-- with no fuel it is spent
none_left : {A : Type 0} (m : Run A) (s : State) → s.fuel ≡ 0 → (tick >> m) s ≡ stop OutOfFuel s
unfolding bind
none_left m s e = rw e refl

both_spent : {A : Type 0} (S : A → A → Type 0) (m m' : Run A) → ((s : State) → s.fuel ≡ 0 → m s ≡ stop OutOfFuel s) → ((s : State) → s.fuel ≡ 0 → m' s ≡ stop OutOfFuel s) → (j : ℕ) → j ≤ 0 → Under j S m m'
both_spent {A} S m m' p q j l = record { by = λ s le. let e : s.fuel ≡ 0 = omega (arith, le, l) in rw (p s e, q s e) (record { said = refl; after = refl; reads = refl; less = omega arith }) }

said_same : {A : Type 0} (S : A → A → Type 0) → ((a b : A) → S a b → b ≡ a) → (r r' : Result A Stop) → SaidSame S r r' → r' ≡ r
said_same S one (Ok a) (Ok b) e = ap (λ (x : _). Ok x) (one a b e)
said_same S one (Err x) (Err y) e = ap (λ (z : Stop). Err z) e
said_same S one (Ok a) (Err y) e = absurd e
said_same S one (Err x) (Ok b) e = absurd e

outcome_same : {A : Type 0} (fuel : ℕ) (S : A → A → Type 0) → ((a b : A) → S a b → b ≡ a) → (o o' : Outcome A) → OneOutcome fuel S o o' → o ≡ o'
outcome_same {A} fuel S one o o' x = sym (ap (λ (r : Result A Stop). record { said = r; after = o'.after; reads = o'.reads }) (said_same S one o.said o'.said x.said) ∙ ap (λ (t : State). record { said = o.said; after = t; reads = o'.reads }) x.after ∙ ap (λ (ps : List SlotPlace). record { said = o.said; after = o.after; reads = ps }) x.reads)

same_value : (v w : Value) → Same v w → w ≡ v
same_value v w e = e

same_flow : (f g : Flow) → OnFlow Same f g → g ≡ f
same_flow Next Next e = refl
same_flow Broke Broke e = refl
same_flow Continued Continued e = refl
same_flow Left Left e = refl
same_flow (Gave v) (Gave w) e = ap (λ (x : Value). Gave x) e
same_flow _ _ e = absurd e

flow_self : (f : Flow) → OnFlow Same f f
flow_self Next = tt
flow_self Broke = tt
flow_self Continued = tt
flow_self Left = tt
flow_self (Gave v) = refl

pub all_any : {A : Type 0} (xs : List A) → AllOf (λ x. Unit {0}) xs
all_any [] = tt
all_any (x ∷ xs) = (tt, all_any xs)

pub may_any : (t : Target) → MayWrite AnyField AnyType t
may_any (LocalTarget k) = tt
may_any (OwnField f) = tt
may_any (FieldOf e f) = tt
may_any (ElementOf a i t) = tt
may_any NoTarget = tt

module _ (program : Program) where
  any_code : IsCode program AnyField AnyType AnyNode
  any_code = record { runs = λ node h. all_any (code_run program node); writes = λ node h. may_any (written_by node.scope node.tree) }

  abbrev Alike : ℕ → Parts → Parts → Type 0
  Alike j p p' = PartsAlike program AnyField AnyType AnyNode any_code (under_logic program j) p p'

  -- a group's declarators spend their units each
  groups_agree : (j : ℕ) (p p' : Parts) → ((i : ℕ) → i < j → Alike i p p') → (s : Scope) (ts : List Tree) → Under j (OnFlow Same) (all_declared p s ts) (all_declared p' s ts)
  groups_agree j p p' q s [] = record { by = λ s le. record { said = tt; after = refl; reads = refl; less = omega arith } }
  groups_agree j p p' q s (t ∷ ts) = bind_under j Any (OnFlow Same) _ _ _ _ (one_agrees s t) (λ x y u. groups_agree j p p' q (after s t) ts)
    where
      one_agrees : (s : Scope) (t : Tree) → Under j Any (declared p s t) (declared p' s t)
      one_agrees s (trees.Declarator r n e) =
          unit_first j Any _ _ (λ i lt. (under_logic program i).binds Any Any _ _ _ _ ((under_logic program i).declares (default_of s.declared) (default_of s.declared) refl) (λ x y u. Rattle.kr_laws_runs.proofs.Respects.initial_values program AnyField AnyType AnyNode any_code (under_logic program i) p p' (q i lt) (Rattle.kr_types_meaning.specs.Scopes.bind_local n s.declared s) (length s.locals) e (all_any (code (Rattle.kr_types_meaning.specs.Scopes.bind_local n s.declared s) e))))
      one_agrees s _ = stopped program j Any Stuck

  -- a statement begins with a unit, or each of its declarators does
  statements_agree : (j : ℕ) (p p' : Parts) → ((i : ℕ) → i < j → Alike i p p') → (s : Scope) (t : Tree) → Under j (OnFlow Same) (statement program p s t) (statement program p' s t)
  statements_agree j p p' q s (trees.Local r t ds) = groups_agree j p p' q (declaring_locals s t) (items ds)
  statements_agree j p p' q s t = unit_first j (OnFlow Same) _ _ (λ i lt. flows program AnyField AnyType AnyNode any_code (under_logic program i) p p' (q i lt) s t (all_any (code s t)))

  rounds_spent : (n : ℕ) (test : Run Value) (body : Run Flow) (s : State) → s.fuel ≡ 0 → rounds n test body s ≡ stop OutOfFuel s
  rounds_spent zero test body s e = refl
  rounds_spent (suc n) test body s e = none_left _ s e

  round_agrees : (j : ℕ) (test test' : Run Value) (body body' : Run Flow) → Under j Same test test' → Under j (OnFlow Same) body body' → (rest rest' : Run Flow) → ((i : ℕ) → i < j → Under i (OnFlow Same) rest rest') → Under j (OnFlow Same) (round test body rest) (round test' body' rest')
  round_agrees j test test' body body' p t rest rest' next =
      unit_first j (OnFlow Same) _ _ (λ i lt.
      bind_under i Same (OnFlow Same) test test' _ _ (fewer i j Same test test' (omega (arith, lt)) p) (λ v w x.
      chooses program i (OnFlow Same) v w _ _ _ _ x
      (bind_under i (OnFlow Same) (OnFlow Same) body body' _ _ (fewer i j (OnFlow Same) body body' (omega (arith, lt)) t) (λ f g y. then_rounds program AnyField AnyType AnyNode any_code (under_logic program i) f g _ _ y (next i lt)))
      ((under_logic program i).gives_ (OnFlow Same) Next Next tt)))

  rounds_agree : (r q j : ℕ) (test test' : Run Value) (body body' : Run Flow) → j ≤ r → j ≤ q → Under j Same test test' → Under j (OnFlow Same) body body' → Under j (OnFlow Same) (rounds r test body) (rounds q test' body')
  rounds_agree zero q j test test' body body' a b p t = both_spent (OnFlow Same) _ _ (λ s e. refl) (rounds_spent q test' body') j a
  rounds_agree (suc r) zero j test test' body body' a b p t = both_spent (OnFlow Same) _ _ (rounds_spent (suc r) test body) (λ s e. refl) j b
  rounds_agree (suc r) (suc q) j test test' body body' a b p t =
      round_agrees j test test' body body' p t (rounds r test body) (rounds q test' body')
      (λ i lt. rounds_agree r q i test test' body body' (omega (arith, a, lt)) (omega (arith, b, lt)) (fewer i j Same test test' (omega (arith, lt)) p) (fewer i j (OnFlow Same) body body' (omega (arith, lt)) t))

  none_below : (j : ℕ) → j ≤ 0 → (p p' : Parts) (i : ℕ) → i < j → Alike i p p'
  none_below j l p p' i lt = absurd (omega (arith, l, lt))

  eval_spent : (n : ℕ) (s : Scope) (e : Tree) (state : State) → state.fuel ≡ 0 → eval program n s e state ≡ stop OutOfFuel state
  unfolding eval
  eval_spent zero s e state f = refl
  eval_spent (suc n) s e state f = none_left (value_of program (parts_within program n) s e) state f

  mutual
    unfolding eval exec

    evals_agree : (k m j : ℕ) → j ≤ k → j ≤ m → (s : Scope) (e : Tree) → Under j Same (eval program k s e) (eval program m s e)
    evals_agree zero m j a b s e = both_spent Same _ _ (λ t f. refl) (eval_spent m s e) j a
    evals_agree (suc k) zero j a b s e = both_spent Same _ _ (eval_spent (suc k) s e) (λ t f. refl) j b
    evals_agree (suc k) (suc m) j a b s e =
        unit_first j Same _ _ (λ i lt. values program AnyField AnyType AnyNode any_code (under_logic program i) (parts_within program k) (parts_within program m)
        (record { value = λ s e h. evals_agree k m i (omega (arith, a, lt)) (omega (arith, b, lt)) s e; exec = λ s t h. execs_agree k m i (omega (arith, a, lt)) (omega (arith, b, lt)) s t; loops = λ t t' b' b'' p q. rounds_agree k m i t t' b' b'' (omega (arith, a, lt)) (omega (arith, b, lt)) p q }) s e (all_any (code s e)))

    execs_agree : (k m j : ℕ) → j ≤ k → j ≤ m → (s : Scope) (t : Tree) → Under j (OnFlow Same) (exec program k s t) (exec program m s t)
    execs_agree zero zero j a b s t = statements_agree j spent spent (none_below j a spent spent) s t
    execs_agree zero (suc m) j a b s t = statements_agree j spent (parts_within program m) (none_below j a spent (parts_within program m)) s t
    execs_agree (suc k) zero j a b s t = statements_agree j (parts_within program k) spent (none_below j b (parts_within program k) spent) s t
    execs_agree (suc k) (suc m) j a b s t =
        statements_agree j (parts_within program k) (parts_within program m)
        (λ i lt. record { value = λ s e h. evals_agree k m i (omega (arith, a, lt)) (omega (arith, b, lt)) s e; exec = λ s t h. execs_agree k m i (omega (arith, a, lt)) (omega (arith, b, lt)) s t; loops = λ t t' b' b'' p q. rounds_agree k m i t t' b' b'' (omega (arith, a, lt)) (omega (arith, b, lt)) p q }) s t

  -- ---- without a bound

  values_alike : (n i : ℕ) → i ≤ n → (s : Scope) (e : Tree) → Under i Same (eval program n s e) (value program s e)
  unfolding value
  values_alike n i l s e = record { by = λ state le. (evals_agree n state.fuel state.fuel (omega (arith, l, le)) (omega arith) s e).by state (omega arith) }

  executes_alike : (n i : ℕ) → i ≤ n → (s : Scope) (t : Tree) → Under i (OnFlow Same) (exec program n s t) (execute program s t)
  unfolding execute
  executes_alike n i l s t = record { by = λ state le. (execs_agree n state.fuel state.fuel (omega (arith, l, le)) (omega arith) s t).by state (omega arith) }

  loops_alike : (n i : ℕ) → i ≤ n → (test test' : Run Value) (body body' : Run Flow) → Under i Same test test' → Under i (OnFlow Same) body body' → Under i (OnFlow Same) (rounds n test body) (loop test' body')
  unfolding loop
  loops_alike n i l test test' body body' p q =
      record { by = λ state le. (rounds_agree n state.fuel state.fuel test test' body body' (omega (arith, l, le)) (omega arith) (fewer state.fuel i Same test test' le p) (fewer state.fuel i (OnFlow Same) body body' le q)).by state (omega arith) }

  unbounded_alike : (n i : ℕ) → i ≤ n → Alike i (parts_within program n) (unbounded program)
  unbounded_alike n i l = record { value = λ s e h. values_alike n i l s e; exec = λ s t h. executes_alike n i l s t; loops = λ t t' b b' p q. loops_alike n i l t t' b b' p q }

  pub value_is : (s : Scope) (e : Tree) (state : State) → value program s e state ≡ (tick >> value_of program (unbounded program) s e) state
  unfolding value eval
  value_is s e state = go state.fuel refl
    where
      go : (n : ℕ) → state.fuel ≡ n → eval program n s e state ≡ (tick >> value_of program (unbounded program) s e) state
      go zero f = sym (none_left (value_of program (unbounded program) s e) state f)
      go (suc n) f =
          outcome_same state.fuel Same same_value _ _
          ((unit_first (suc n) Same (value_of program (parts_within program n) s e) (value_of program (unbounded program) s e)
          (λ i lt. values program AnyField AnyType AnyNode any_code (under_logic program i) (parts_within program n) (unbounded program) (unbounded_alike n i (omega (arith, lt))) s e (all_any (code s e)))).by state (omega (arith, f)))

  pub execute_is : (s : Scope) (t : Tree) (state : State) → execute program s t state ≡ statement program (unbounded program) s t state
  unfolding execute exec
  execute_is s t state = go state.fuel refl
    where
      go : (n : ℕ) → state.fuel ≡ n → exec program n s t state ≡ statement program (unbounded program) s t state
      go zero f = outcome_same state.fuel (OnFlow Same) same_flow _ _ ((statements_agree 0 spent (unbounded program) (none_below 0 (omega arith) spent (unbounded program)) s t).by state (omega (arith, f)))
      go (suc n) f = outcome_same state.fuel (OnFlow Same) same_flow _ _ ((statements_agree (suc n) (parts_within program n) (unbounded program) (λ i lt. unbounded_alike n i (omega (arith, lt))) s t).by state (omega (arith, f)))

  flow_self_under : (j : ℕ) (body : Run Flow) → Spends body → Under j (OnFlow Same) body body
  flow_self_under j body q = self j (OnFlow Same) flow_self body q

  pub loop_is : (test : Run Value) (body : Run Flow) → Spends test → Spends body → (state : State) → loop test body state ≡ round test body (loop test body) state
  unfolding loop
  loop_is test body p q state = go state.fuel refl
    where
      go : (n : ℕ) → state.fuel ≡ n → rounds n test body state ≡ round test body (loop test body) state
      go zero f = sym (none_left _ state f)
      go (suc n) f =
          outcome_same state.fuel (OnFlow Same) same_flow _ _
          ((round_agrees (suc n) test test body body (self (suc n) Same (λ v. refl) test p) (flow_self_under (suc n) body q) (rounds n test body) (loop test body)
          (λ i lt. loops_alike n i (omega (arith, lt)) test test body body (self i Same (λ v. refl) test p) (flow_self_under i body q))).by state (omega (arith, f)))

  pub body_is : (receiver : Value) (arguments : List Value) (m : Method) (state : State) → body_of program receiver arguments m state ≡ run_method program (unbounded program) receiver arguments (Some m) state
  unfolding body_of
  body_is receiver arguments m state =
      outcome_same state.fuel Same same_value _ _
      ((runs_method program AnyField AnyType AnyNode any_code (under_logic program state.fuel) (parts_within program state.fuel) (unbounded program) (unbounded_alike state.fuel state.fuel (omega arith)) receiver receiver arguments arguments (Some m)
      (all_any (code_of_method program m), tt) refl (same_each arguments)).by state (omega arith))
    where
      same_each : (vs : List Value) → Each Same vs vs
      same_each [] = tt
      same_each (v ∷ vs) = (refl, same_each vs)

  pub value_spends : (s : Scope) (e : Tree) → Spends (value program s e)
  unfolding value
  value_spends s e state = ((values_alike state.fuel state.fuel (omega arith) s e).by state (omega arith)).less

  pub execute_spends : (s : Scope) (t : Tree) → Spends (execute program s t)
  unfolding execute
  execute_spends s t state = ((executes_alike state.fuel state.fuel (omega arith) s t).by state (omega arith)).less

  pub enough_for_values : (n : ℕ) (s : Scope) (e : Tree) (state : State) → state.fuel ≤ n → eval program n s e state ≡ value program s e state
  enough_for_values n s e state le = outcome_same state.fuel Same same_value _ _ ((values_alike n n (omega arith) s e).by state le)

  pub enough_for_statements : (n : ℕ) (s : Scope) (t : Tree) (state : State) → state.fuel ≤ n → exec program n s t state ≡ execute program s t state
  enough_for_statements n s t state le = outcome_same state.fuel (OnFlow Same) same_flow _ _ ((executes_alike n n (omega arith) s t).by state le)

  pub enough_for_loops : (n : ℕ) (test : Run Value) (body : Run Flow) → Spends test → Spends body → (state : State) → state.fuel ≤ n → rounds n test body state ≡ loop test body state
  enough_for_loops n test body p q state le = outcome_same state.fuel (OnFlow Same) same_flow _ _ ((loops_alike n n (omega arith) test test body body (self n Same (λ v. refl) test p) (flow_self_under n body q)).by state le)

pub has_equations : (program : Program) → HasEquations program
has_equations program = record {
  value_is = value_is program;
  execute_is = execute_is program;
  loop_is = loop_is program;
  body_is = body_is program;
  value_spends = value_spends program;
  execute_spends = execute_spends program;
  enough_for_values = enough_for_values program;
  enough_for_statements = enough_for_statements program;
  enough_for_loops = enough_for_loops program;
}
