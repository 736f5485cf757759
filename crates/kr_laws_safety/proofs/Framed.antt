-- No run changes `this`: a call restores it.
use Rattle.std.proofs.Common.{◌≡◌, ℕ, zero, suc, Bool, true, false, List, length, Result, Ok, Err, Option, Some, None, refl, sym, ap, ◌∙◌, subst}
use Rattle.std.specs.Prelude.{pos, negsuc, map, take, nat_eq, nat_lt, if◌then◌else◌}
use Rattle.kr_base.specs.declared.place.Place.{Place}
use Rattle.kr_ast.specs.Tree.{Tree}
use Rattle.kr_value.specs.declared.value.Value.{Value}
use Rattle.kr_value.specs.declared.value.Value.TheVariants.{Int, Bool as Truth, Null, Ref as Reference}
use Rattle.kr_value.specs.declared.object.Spot.{Spot}
use Rattle.kr_value.specs.declared.object.Spot.TheVariants.{Field as FieldSpot, Length}
use Rattle.kr_value.specs.Heaps.{object_in, has_spot}
use Rattle.kr_classes_table.specs.Types.{JavaType, ArrayType}
use Rattle.kr_classes_table.specs.Table.{Field}
use Rattle.kr_classes_table.specs.Arrays.{array_number}
use Rattle.kr_types_meaning.specs.Scopes.{Scope}
use Rattle.kr_mean.specs.declared.kind.Kind.{Kind}
use Rattle.kr_mean.specs.declared.kind.Stop.{Stop}
use Rattle.kr_mean.specs.declared.kind.Stop.TheVariants.{Trapped, OutOfFuel, Stuck}
use Rattle.kr_mean.specs.Thrown.{class_of_kind, object_of_class, object_or_new, object_of, handled, caught_by, attempted}
use Rattle.kr_mean.specs.Program.{Program, spot_of_field, is_array_of}
use Rattle.kr_mean.specs.Places.{SlotPlace}
use Rattle.kr_mean.specs.Collections.{Collected, collected}
use Rattle.kr_mean.specs.Steps.{Local, State, Outcome, Run, say, stop, go_on, bind, given, ◌>>=◌, ◌>>◌, tick, tick_at, get_this, local_at, local_given, read_local, plain_local, declare, assign_if, assign, get_result, old_at, get_old, entered, within, scoped, load_if, load, index_within, element_read, element_if, element, class_or_null, store_at, store, store_new_if, store_new, store_index, store_element_if, store_element, make, collect_as, collect}
use Rattle.kr_mean.specs.Operators.{operated, operated_alone}
use Rattle.kr_mean.specs.Meaning.{choose, make_array, create_array, value}
use Rattle.kr_mean.specs.Code.{code}
use Rattle.kr_laws_runs.proofs.Respects.{Any, Same, Each, OnOption, Logic, IsCode, evals}
use Rattle.kr_mean.specs.Code.{code_run}
use Rattle.kr_mean.specs.Purity.{written_by}
use Rattle.kr_laws_runs.proofs.Bounds.{SaidSame, AnyField, AnyType, AnyNode, may_any, all_any, each_same, said_self, same_option}

abbrev pub KeepsThis : {A : Type 0} → Run A → Type 0
KeepsThis m = (s : State) → (m s).after.this_value ≡ s.this_value

-- the two outcomes are one, and `this` is as it was
record OneFrame (s : State) {A : Type 0} (S : A → A → Type 0) (o o' : Outcome A) : Type 0 where
  said : SaidSame S o.said o'.said
  after : o'.after ≡ o.after
  kept : o.after.this_value ≡ s.this_value

record Framed {A : Type 0} (S : A → A → Type 0) (m m' : Run A) : Type 0 where
  by : (s : State) → OneFrame s S (m s) (m' s)

bind_framed : {A B : Type 0} (S : A → A → Type 0) (T : B → B → Type 0) (m m' : Run A) (f f' : A → Run B) → Framed S m m' → ((a b : A) → S a b → Framed T (f a) (f' b)) → Framed T (m >>= f) (m' >>= f')
unfolding bind
bind_framed {A} {B} S T m m' f f' p q = record { by = λ s. go s (m s) (m' s) (p.by s) }
  where
    step : (s : State) (r r' : Result A Stop) (t : State) (ps qs : List SlotPlace) → SaidSame S r r' → t.this_value ≡ s.this_value → OneFrame s T (go_on r t ps f) (go_on r' t qs f')
    step s (Ok a) (Ok b) t ps qs e l = let x = (q a b e).by t in record { said = x.said; after = x.after; kept = x.kept ∙ l }
    step s (Err x) (Err y) t ps qs e l = record { said = e; after = refl; kept = l }
    step s (Ok a) (Err y) t ps qs e l = absurd e
    step s (Err x) (Ok b) t ps qs e l = absurd e

    go : (s : State) (o o' : Outcome A) → OneFrame s S o o' → OneFrame s T (go_on o.said o.after o.reads f) (go_on o'.said o'.after o'.reads f')
    go s o o' x = subst (λ (t : State). OneFrame s T (go_on o.said o.after o.reads f) (go_on o'.said t o'.reads f')) (sym x.after) (step s o.said o'.said o.after o.reads o'.reads x.said x.kept)

-- a step that leaves `this`, beside itself
self : {A : Type 0} (S : A → A → Type 0) → ((a : A) → S a a) → (m : Run A) → KeepsThis m → Framed S m m
self S one m kept = record { by = λ s. record { said = said_self S one (m s).said; after = refl; kept = kept s } }

-- ---- steps leave `this` as it is

ticks_keep : KeepsThis tick
ticks_keep s = go s.fuel refl
  where
    go : (n : ℕ) → s.fuel ≡ n → (tick_at n s).after.this_value ≡ s.this_value
    go zero e = refl
    go (suc n) e = refl

given_keeps : {A : Type 0} (x : Option A) → KeepsThis (given x)
given_keeps None s = refl
given_keeps (Some a) s = refl

result_keeps : KeepsThis get_result
result_keeps s = given_keeps s.result s

old_keeps : (p : Place) → KeepsThis (get_old p)
old_keeps p s = given_keeps (old_at s.olds p) s

local_keeps : (k : ℕ) → KeepsThis (read_local k)
local_keeps k s = go (local_at s.locals k)
  where
    go : (x : Option Local) → (local_given x s).after.this_value ≡ s.this_value
    go None = refl
    go (Some l) = refl

assign_keeps : (k : ℕ) (v : Value) → KeepsThis (assign k v)
assign_keeps k v s = go (nat_lt k (length s.locals))
  where
    go : (b : Bool) → (assign_if b k v s).after.this_value ≡ s.this_value
    go true = refl
    go false = refl

load_keeps : (o : Value) (spot : Spot) → KeepsThis (load o spot)
load_keeps (Reference o) spot s = go (has_spot (object_in s.heap o) spot)
  where
    go : (b : Bool) → (load_if b o spot s).after.this_value ≡ s.this_value
    go true = refl
    go false = refl
load_keeps (Int n) spot s = refl
load_keeps (Truth b) spot s = refl
load_keeps Null spot s = refl

element_keeps : (o i : Value) → KeepsThis (element o i)
element_keeps (Reference o) (Int z) s = go (has_spot (object_in s.heap o) Length)
  where
    read : (x : Option ℕ) → (element_read x o s).after.this_value ≡ s.this_value
    read None = refl
    read (Some k) = refl

    go : (b : Bool) → (element_if b o z s).after.this_value ≡ s.this_value
    go true = read (index_within z (length (object_in s.heap o).values))
    go false = refl
element_keeps Null (Int z) s = refl
element_keeps (Int n) i s = refl
element_keeps (Truth b) i s = refl
element_keeps (Reference o) (Truth b) s = refl
element_keeps (Reference o) Null s = refl
element_keeps (Reference o) (Reference p) s = refl
element_keeps Null (Truth b) s = refl
element_keeps Null Null s = refl
element_keeps Null (Reference p) s = refl

class_keeps : (o : Value) → KeepsThis (class_or_null o)
class_keeps (Reference o) s = refl
class_keeps (Int n) s = refl
class_keeps (Truth b) s = refl
class_keeps Null s = refl

store_keeps : (program : Program) (f : Field) (o v : Value) → KeepsThis (store program f o v)
store_keeps program f (Reference o) v s = go (spot_of_field program f (object_in s.heap o).class)
  where
    go : (k : Option ℕ) → (store_at o k v s).after.this_value ≡ s.this_value
    go None = refl
    go (Some k) = refl
store_keeps program f (Int i) v s = refl
store_keeps program f (Truth b) v s = refl
store_keeps program f Null v s = refl

store_new_keeps : (program : Program) (f : Field) (o v : Value) → KeepsThis (store_new program f o v)
store_new_keeps program f (Reference o) v s = go (nat_lt o s.candidates)
  where
    go : (b : Bool) → (store_new_if b program f o v s).after.this_value ≡ s.this_value
    go true = refl
    go false = store_keeps program f (Reference o) v s
store_new_keeps program f (Int i) v s = refl
store_new_keeps program f (Truth b) v s = refl
store_new_keeps program f Null v s = refl

store_element_keeps : (program : Program) (t : JavaType) (o i v : Value) → KeepsThis (store_element program t o i v)
store_element_keeps program t (Reference o) (Int i) v s = go (is_array_of program t (object_in s.heap o).class)
  where
    put_at : (k : Option ℕ) → (store_index o k v s).after.this_value ≡ s.this_value
    put_at None = refl
    put_at (Some k) = refl

    go : (b : Bool) → (store_element_if b o i v s).after.this_value ≡ s.this_value
    go true = put_at (index_within i (length (object_in s.heap o).values))
    go false = refl
store_element_keeps program t Null (Int i) v s = refl
store_element_keeps program t (Int n) i v s = refl
store_element_keeps program t (Truth b) i v s = refl
store_element_keeps program t (Reference o) (Truth b) v s = refl
store_element_keeps program t (Reference o) Null v s = refl
store_element_keeps program t (Reference o) (Reference p) v s = refl
store_element_keeps program t Null (Truth b) v s = refl
store_element_keeps program t Null Null v s = refl
store_element_keeps program t Null (Reference p) v s = refl

array_keeps : (program : Program) (t : JavaType) (v : Value) → KeepsThis (create_array program t v)
array_keeps program t (Int (pos n)) s = go (nat_lt 64 n)
  where
    made : (k : Option ℕ) → (make_array t n k s).after.this_value ≡ s.this_value
    made None = refl
    made (Some k) = refl

    go : (b : Bool) → ((if b then stop (Rattle.kr_mean.specs.declared.kind.Stop.TheVariants.Trapped Rattle.kr_mean.specs.declared.kind.Kind.TheVariants.ArrayTooLong) else make_array t n (array_number program.arrays (ArrayType t))) s).after.this_value ≡ s.this_value
    go true = refl
    go false = made (array_number program.arrays (ArrayType t))
array_keeps program t (Int (negsuc n)) s = refl
array_keeps program t (Truth b) s = refl
array_keeps program t Null s = refl
array_keeps program t (Reference o) s = refl

collect_keeps : (n : List ℕ) (o : Value) (vs : List Value) → KeepsThis (collect n o vs)
collect_keeps n (Reference o) vs s = go (collected (object_in s.heap o).class n vs (object_in s.heap o).values)
  where
    go : (c : Option Collected) → (collect_as c o s).after.this_value ≡ s.this_value
    go None = refl
    go (Some c) = refl
collect_keeps n (Int i) vs s = refl
collect_keeps n (Truth b) vs s = refl
collect_keeps n Null vs s = refl

-- ---- all steps keep the relation

-- ---- all steps

one : (v : Value) → Same v v
one v = refl

stopped : {A : Type 0} (S : A → A → Type 0) (e : Stop) → Framed S (stop e) (stop e)
stopped S e = record { by = λ s. record { said = refl; after = refl; kept = refl } }

chooses : {A : Type 0} (S : A → A → Type 0) (v v' : Value) (m m' n n' : Run A) → Same v v' → Framed S m m' → Framed S n n' → Framed S (choose v m n) (choose v' m' n')
chooses S (Int i) v' m m' n n' r p q = rw r (stopped S Stuck)
chooses S (Truth true) v' m m' n n' r p q = rw r p
chooses S (Truth false) v' m m' n n' r p q = rw r q
chooses S Null v' m m' n n' r p q = rw r (stopped S Stuck)
chooses S (Reference o) v' m m' n n' r p q = rw r (stopped S Stuck)

withins : {A : Type 0} (S : A → A → Type 0) (o o' : Value) (n : ℕ) (vs ws : List Value) (m m' : Run A) → Same o o' → Each Same vs ws → Framed S m m' → Framed S (within o n vs m) (within o' n ws m')
withins S o o' n vs ws m m' r e p = rw (r, each_same vs ws e) (record { by = λ s. go s (nat_eq (length vs) n) })
  where
    go : (s : State) → (b : Bool) → OneFrame s S (entered b o vs m s) (entered b o vs m' s)
    go s false = record { said = refl; after = refl; kept = refl }
    go s true =
        let x = p.by (record s { this_value = o; locals = map plain_local vs }) in
        record { said = x.said; after = ap (λ (t : State). record t { this_value = s.this_value; locals = s.locals }) x.after; kept = refl }

scopes : {A : Type 0} (S : A → A → Type 0) (m m' : Run A) → Framed S m m' → Framed S (scoped m) (scoped m')
scopes S m m' p = record { by = λ s. let x = p.by s in record { said = x.said; after = ap (λ (t : State). record t { locals = take (length s.locals) t.locals }) x.after; kept = x.kept } }

abbrev there : {A : Type 0} → Result A Stop → State → List SlotPlace → Outcome A
there r t ps = record { said = r; after = t; reads = ps }

-- a trap that is caught goes on in the frame in which the attempt began
attempts : {A : Type 0} (S : A → A → Type 0) (m m' : Run A) (h h' : Kind → Option (Run A)) → Framed S m m' → ((k : Kind) → OnOption (λ (x y : Run A). Framed S x y) (h k) (h' k)) → Framed S (attempted m h) (attempted m' h')
unfolding attempted
attempts {A} S m m' h h' p q = record { by = λ s. go s (m s) (m' s) (p.by s) }
  where
    onward : (s : State) (k : Kind) (t : State) (ps qs : List SlotPlace) → t.this_value ≡ s.this_value → (x y : Option (Run A)) → OnOption (λ (x y : Run A). Framed S x y) x y → OneFrame s S (caught_by x (there (Err (Trapped k)) t ps)) (caught_by y (there (Err (Trapped k)) t qs))
    onward s k t ps qs l None None u = record { said = refl; after = refl; kept = l }
    onward s k t ps qs l (Some x) (Some y) u = let z = u.by t in record { said = z.said; after = z.after; kept = z.kept ∙ l }
    onward s k t ps qs l None (Some y) u = absurd u
    onward s k t ps qs l (Some x) None u = absurd u

    stopped_at : (s : State) (x : Stop) (t : State) (ps qs : List SlotPlace) → t.this_value ≡ s.this_value → OneFrame s S (caught_by (handled (Err x) h) (there (Err x) t ps)) (caught_by (handled (Err x) h') (there (Err x) t qs))
    stopped_at s (Trapped k) t ps qs l = onward s k t ps qs l (h k) (h' k) (q k)
    stopped_at s OutOfFuel t ps qs l = record { said = refl; after = refl; kept = l }
    stopped_at s Stuck t ps qs l = record { said = refl; after = refl; kept = l }

    step : (s : State) (r r' : Result A Stop) (t : State) (ps qs : List SlotPlace) → SaidSame S r r' → t.this_value ≡ s.this_value → OneFrame s S (caught_by (handled r h) (there r t ps)) (caught_by (handled r' h') (there r' t qs))
    step s (Ok a) (Ok b) t ps qs e l = record { said = e; after = refl; kept = l }
    step s (Err x) (Err y) t ps qs e l = rw e (stopped_at s x t ps qs l)
    step s (Ok a) (Err y) t ps qs e l = absurd e
    step s (Err x) (Ok b) t ps qs e l = absurd e

    go : (s : State) (o o' : Outcome A) → OneFrame s S o o' → OneFrame s S (caught_by (handled o.said h) o) (caught_by (handled o'.said h') o')
    go s o o' x = subst (λ (t : State). OneFrame s S (caught_by (handled o.said h) o) (caught_by (handled o'.said h') (there o'.said t o'.reads))) (sym x.after) (step s o.said o'.said o.after o.reads o'.reads x.said x.kept)

object_keeps : (program : Program) (k : Kind) → KeepsThis (object_of program k)
object_keeps program k s = go s.thrown
  where
    made : (c : Option ℕ) → (object_of_class program c s).after.this_value ≡ s.this_value
    made None = refl
    made (Some c) = refl

    go : (x : Option Value) → (object_or_new program k x s).after.this_value ≡ s.this_value
    go None = made (class_of_kind program k)
    go (Some v) = refl

abbrev frame_logic : (program : Program) → Logic program AnyField AnyType
frame_logic program = record {
  R = Same;
  Rel = λ S m m'. Framed S m m';
  gives_ = λ S a b e. record { by = λ s. record { said = e; after = refl; kept = refl } };
  stops = stopped;
  binds = bind_framed;
  ticks = self Any (λ a. tt) tick ticks_keep;
  ints = λ z. refl;
  truths = λ b. refl;
  nulls = refl;
  gets_this = self Same one get_this (λ s. refl);
  gets_result = self Same one get_result result_keeps;
  gets_old = λ p. self Same one (get_old p) (old_keeps p);
  reads_local = λ k. self Same one (read_local k) (local_keeps k);
  declares = λ v w e. rw e (self Any (λ a. tt) (declare v) (λ s. refl));
  assigns = λ k v w e. rw e (self Any (λ a. tt) (assign k v) (assign_keeps k v));
  loads = λ o o' k e. rw e (self Same one (load o (FieldSpot k)) (load_keeps o (FieldSpot k)));
  loads_length = λ o o' e. rw e (self Same one (load o Length) (load_keeps o Length));
  elements = λ o o' i k e f. rw (e, f) (self Same one (element o i) (element_keeps o i));
  classes = λ o o' e. rw e (self Same same_option (class_or_null o) (class_keeps o));
  stores = λ f o o' v w may e g. rw (e, g) (self Any (λ a. tt) (store program f o v) (store_keeps program f o v));
  stores_new = λ f o o' v w e g. rw (e, g) (self Any (λ a. tt) (store_new program f o v) (store_new_keeps program f o v));
  stores_element = λ t o o' i k v w may e f g. rw (e, f, g) (self Any (λ a. tt) (store_element program t o i v) (store_element_keeps program t o i v));
  makes = λ c vs ws e. rw (each_same vs ws e) (self Same one (make c vs) (λ s. refl));
  makes_array = λ t v w e. rw e (self Same one (create_array program t v) (array_keeps program t v));
  collects = λ n o o' vs ws e f. rw (e, each_same vs ws f) (self Same one (collect n o vs) (collect_keeps n o vs));
  operates = λ o v v' w w' e f. rw (e, f) (self Same one (say (operated o v w)) (λ s. refl));
  operates_alone = λ o v v' e. rw e (self Same one (say (operated_alone o v)) (λ s. refl));
  chooses = chooses;
  withins = withins;
  scopes = scopes;
  throws_as = λ S k v w e. rw e (record { by = λ s. record { said = refl; after = refl; kept = refl } });
  objects = λ k. self Same one (object_of program k) (object_keeps program k);
  attempts = attempts;
}

any_code : (program : Program) → IsCode program AnyField AnyType AnyNode
any_code program = record { runs = λ node h. all_any (code_run program node); writes = λ node h. may_any (written_by node.scope node.tree) }

-- an expression leaves `this` as it is
pub value_keeps : (program : Program) (s : Scope) (e : Tree) → KeepsThis (value program s e)
unfolding value
value_keeps program s e st = ((evals program AnyField AnyType AnyNode (any_code program) (frame_logic program) st.fuel s e (all_any (code s e))).by st).kept

-- one run after another
pub keeps_then : {A B : Type 0} (m : Run A) (f : A → Run B) → KeepsThis m → ((a : A) → KeepsThis (f a)) → KeepsThis (m >>= f)
unfolding bind
keeps_then {A} {B} m f k l s = go (m s).said (m s).after (m s).reads (k s)
  where
    go : (r : Result A Stop) (t : State) (ps : List SlotPlace) → t.this_value ≡ s.this_value → (go_on r t ps f).after.this_value ≡ s.this_value
    go (Ok a) t ps e = l a t ∙ e
    go (Err x) t ps e = e

-- a body restores `this`
pub within_keeps : {A : Type 0} (receiver : Value) (n : ℕ) (vs : List Value) (m : Run A) → KeepsThis (within receiver n vs m)
within_keeps receiver n vs m s = go (nat_eq (length vs) n)
  where
    go : (b : Bool) → (entered b receiver vs m s).after.this_value ≡ s.this_value
    go true = refl
    go false = refl
