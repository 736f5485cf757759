-- Two runs on two candidates go the same way, up to names, as long as the candidates agree on what is read; and they
-- read only what is known to be reachable.
use Rattle.std.proofs.Common.{◌≡◌, ℕ, zero, suc, ◌-◌, ◌<◌, ◌≤◌, ◌≢◌, ◌⊎◌, inl, inr, Bool, true, false, List, [], ◌∷◌, ◌++◌, length, get_or, Result, Ok, Err, Option, Some, None, refl, sym, ap, ◌∙◌, arith, subst}
use Rattle.std.specs.Prelude.{ℤ, pos, negsuc, ◌||◌, map, take, replicate, min, slice_set, nat_eq, nat_lt, bytes_eq, codes, if◌then◌else◌}
use Rattle.std.proofs.lemmas.List.{append-nil, get_or-set_same, get_or-set_other, get_or-append_right, set_past, length-set, get_or_append_left, length-append}
use Rattle.std.proofs.lemmas.Bool.{ltb-true, lt-ltb, le-ltb, eq-eqb, eqb-true, cases_lt, cases_eq}
use Rattle.kr_base.specs.declared.place.Place.{Place}
use Rattle.kr_ast.specs.declared.node.BinaryOperator.{BinaryOperator}
use Rattle.kr_ast.specs.declared.node.UnaryOperator.{UnaryOperator}
use Rattle.kr_ast.specs.declared.node.UnaryOperator.TheVariants.{Not}
use Rattle.kr_ast.specs.Tree.{Tree}
use Rattle.kr_value.specs.declared.value.Value.{Value}
use Rattle.kr_value.specs.declared.value.Value.TheVariants.{Int, Bool as Truth, Null, Ref as Reference}
use Rattle.kr_value.specs.declared.object.Class.{Class}
use Rattle.kr_value.specs.declared.object.Class.TheVariants.{Object, Array, Set, List as ListClass}
use Rattle.kr_value.specs.declared.object.Spot.{Spot}
use Rattle.kr_value.specs.declared.object.Spot.TheVariants.{Field, Length, Element}
use Rattle.kr_value.specs.Heaps.{HeapObject, no_object, object_in, has_spot_of, has_spot, value_of_spot}
use Rattle.kr_classes_table.specs.Types.{JavaType, NumberType, BooleanType, NullType, VoidType, ClassType, ArrayType, SetType, ListType, InferredType, UnknownType, AppliedType}
use Rattle.kr_classes_table.specs.Table.{Field as FieldOf, Method, fields_of}
use Rattle.kr_classes_table.specs.Arrays.{array_number}
use Rattle.kr_classes_table.specs.Constants.{is_at_place}
use Rattle.kr_classes_table.specs.declared.errors.OperatorError.TheVariants.{ZeroDivisor, NotDefined}
use Rattle.kr_classes_table.specs.Numbers.{Width}
use Rattle.kr_classes_table.specs.Operators.{Applied, of_wholes, of_booleans, of_references, apply_alone}
use Rattle.kr_laws_pruning.proofs.Plain.{IsPlain, wholes_plain, booleans_plain, references_plain, into_plain, alone_plain}
use Rattle.kr_types_meaning.specs.Scopes.{Scope}
use Rattle.kr_mean.specs.declared.kind.Kind.{Kind}
use Rattle.kr_mean.specs.declared.kind.Kind.TheVariants.{NegativeArraySizeException, ArrayTooLong}
use Rattle.kr_mean.specs.declared.kind.Stop.{Stop}
use Rattle.kr_mean.specs.declared.kind.Stop.TheVariants.{Trapped, OutOfFuel, Stuck}
use Rattle.kr_mean.specs.Program.{Program, default_of, spot_of_field, is_array_of}
use Rattle.kr_mean.specs.Places.{SlotPlace, This, Parameter, At}
use Rattle.kr_mean.specs.Collections.{is_same_value, has_member, without, Collected, gives, added_once, add, remove_first, is_collection, is_empty, called_with, called_alone, called_on, collected}
use Rattle.kr_mean.specs.Steps.{Local, Old, State, Outcome, Run, say, stop, go_on, bind, ◌>>=◌, given, tick, tick_at, get_result, old_at, get_old, local_at, place_reads, local_given, read_local, plain_local, declare, assign_if, assign, back_to, entered, within, scoped, load_if, load, index_within, element_read, element_if, element, class_or_null, put, store_at, store, store_new, store_index, store_element_if, store_element, make, collected_said, collect_as, collect}
use Rattle.kr_mean.specs.Thrown.{class_of_kind, throw_as, object_of_class, object_or_new, object_of, handled, caught_by, attempted}
use Rattle.kr_mean.specs.declared.operations.BinaryOperation.{BinaryOperation}
use Rattle.kr_mean.specs.declared.operations.UnaryOperation.{UnaryOperation}
use Rattle.kr_mean.specs.Operators.{said, into, operated, operated_alone, unary_operation}
use Rattle.kr_mean.specs.Meaning.{choose, make_array, create_array, parts_within, run_method, eval, value}
use Rattle.kr_mean.specs.Code.{Node, code, code_of_method}
use Rattle.kr_laws_runs.proofs.Respects.{Any, Same, Each, OnOption, AllOf, Logic, IsCode, evals, parts_alike, runs_method}

-- ---- two lists of reads

-- The next place is the same, up to names, and known, as long as the two agree on those before; where they agree to the
-- end, `same` holds.
abbrev pub Forked : (SlotPlace → SlotPlace) → (SlotPlace → Type 0) → (SlotPlace → Type 0) → Type 0 → List SlotPlace → List SlotPlace → Type 0
Forked on K A same [] [] = same
Forked on K A same [] (q ∷ qs) = ⊥
Forked on K A same (p ∷ ps) [] = ⊥
Forked on K A same (p ∷ ps) (q ∷ qs) = (q ≡ on p) × K p × (A p → Forked on K A same ps qs)

pub forked_then : (on : SlotPlace → SlotPlace) (K A : SlotPlace → Type 0) (X Y : Type 0) (ps qs rs ts : List SlotPlace) → Forked on K A X ps qs → (X → Forked on K A Y rs ts) → Forked on K A Y (ps ++ rs) (qs ++ ts)
forked_then on K A X Y [] [] rs ts f g = g f
forked_then on K A X Y [] (q ∷ qs) rs ts f g = absurd f
forked_then on K A X Y (p ∷ ps) [] rs ts f g = absurd f
forked_then on K A X Y (p ∷ ps) (q ∷ qs) rs ts f g = (f.0, f.1, λ a. forked_then on K A X Y ps qs rs ts (f.2 a) g)

pub forked_map : (on : SlotPlace → SlotPlace) (K A : SlotPlace → Type 0) (X Y : Type 0) (ps qs : List SlotPlace) → Forked on K A X ps qs → (X → Y) → Forked on K A Y ps qs
forked_map on K A X Y [] [] f g = g f
forked_map on K A X Y [] (q ∷ qs) f g = absurd f
forked_map on K A X Y (p ∷ ps) [] f g = absurd f
forked_map on K A X Y (p ∷ ps) (q ∷ qs) f g = (f.0, f.1, λ a. forked_map on K A X Y ps qs (f.2 a) g)

-- ---- lists that are alike

pub each_length : {A : Type 0} (S : A → A → Type 0) (xs ys : List A) → Each S xs ys → length ys ≡ length xs
each_length S [] [] e = refl
each_length S (x ∷ xs) (y ∷ ys) e = ap suc (each_length S xs ys e.1)
each_length S [] (y ∷ ys) e = absurd e
each_length S (x ∷ xs) [] e = absurd e

pub each_get : {A : Type 0} (S : A → A → Type 0) (xs ys : List A) (i : ℕ) (d : A) → S d d → Each S xs ys → S (get_or xs i d) (get_or ys i d)
each_get S [] [] i d z e = z
each_get S (x ∷ xs) (y ∷ ys) zero d z e = e.0
each_get S (x ∷ xs) (y ∷ ys) (suc i) d z e = each_get S xs ys i d z e.1
each_get S [] (y ∷ ys) i d z e = absurd e
each_get S (x ∷ xs) [] i d z e = absurd e

pub each_set : {A : Type 0} (S : A → A → Type 0) (xs ys : List A) (i : ℕ) (v w : A) → S v w → Each S xs ys → Each S (slice_set xs i v) (slice_set ys i w)
each_set S [] [] i v w z e = tt
each_set S (x ∷ xs) (y ∷ ys) zero v w z e = (z, e.1)
each_set S (x ∷ xs) (y ∷ ys) (suc i) v w z e = (e.0, each_set S xs ys i v w z e.1)
each_set S [] (y ∷ ys) i v w z e = absurd e
each_set S (x ∷ xs) [] i v w z e = absurd e

pub each_take : {A : Type 0} (S : A → A → Type 0) (n : ℕ) (xs ys : List A) → Each S xs ys → Each S (take n xs) (take n ys)
each_take S zero xs ys e = tt
each_take S (suc n) [] [] e = tt
each_take S (suc n) (x ∷ xs) (y ∷ ys) e = (e.0, each_take S n xs ys e.1)
each_take S (suc n) [] (y ∷ ys) e = absurd e
each_take S (suc n) (x ∷ xs) [] e = absurd e

pub each_append : {A : Type 0} (S : A → A → Type 0) (xs ys vs ws : List A) → Each S xs ys → Each S vs ws → Each S (xs ++ vs) (ys ++ ws)
each_append S [] [] vs ws e f = f
each_append S (x ∷ xs) (y ∷ ys) vs ws e f = (e.0, each_append S xs ys vs ws e.1 f)
each_append S [] (y ∷ ys) vs ws e f = absurd e
each_append S (x ∷ xs) [] vs ws e f = absurd e

-- ---- values under names

abbrev pub renamed_value : (ℕ → ℕ) → Value → Value
renamed_value name (Int n) = Int n
renamed_value name (Truth b) = Truth b
renamed_value name Null = Null
renamed_value name (Reference o) = Reference (name o)

abbrev pub renamed_place : (ℕ → ℕ) → SlotPlace → SlotPlace
renamed_place name This = This
renamed_place name (Parameter i) = Parameter i
renamed_place name (At o spot) = At (name o) spot

-- of an object, that it is known
abbrev pub Knows : (ℕ → Type 0) → Value → Type 0
Knows Known (Int i) = Unit {0}
Knows Known (Truth b) = Unit {0}
Knows Known Null = Unit {0}
Knows Known (Reference o) = Known o

-- of the first objects, those that are known
abbrev pub KnownValue : ℕ → (ℕ → Type 0) → Value → Type 0
KnownValue n Known (Int i) = Unit {0}
KnownValue n Known (Truth b) = Unit {0}
KnownValue n Known Null = Unit {0}
KnownValue n Known (Reference o) = o < n → Known o

-- a place of what is known; of an array an element that is there
abbrev pub KnownPlace : ℕ → ℕ → (ℕ → Type 0) → List HeapObject → SlotPlace → Type 0
KnownPlace n parameters Known heap This = Unit {0}
KnownPlace n parameters Known heap (Parameter i) = i < parameters
KnownPlace n parameters Known heap (At o (Field f)) = (o < n) × Known o
KnownPlace n parameters Known heap (At o Length) = (o < n) × Known o
KnownPlace n parameters Known heap (At o (Element k)) = (o < n) × Known o × (k < length (object_in heap o).values)

-- Two heaps, of which the first objects are the candidates, the second under other names as far as they agree. Other objects
-- keep their names; those after all that are there at first are made by a run. The known places of the first heap hold known
-- values.
pub record Setting : Type 1 where
  pub candidates : ℕ
  pub total : ℕ
  pub parameters : ℕ
  pub left : List HeapObject
  pub right : List HeapObject
  pub name : ℕ → ℕ
  pub Known : ℕ → Type 0
  pub Agree : SlotPlace → Type 0
  pub Counted : Class → Type 0
  pub enough : candidates ≤ total
  pub fresh : (o : ℕ) → total ≤ o → Known o
  pub apart : (o p : ℕ) → name o ≡ name p → o ≡ p
  pub within : (o : ℕ) → o < candidates → name o < candidates
  pub fixes : (o : ℕ) → candidates ≤ o → name o ≡ o
  pub classes : (o : ℕ) → o < candidates → (object_in right (name o)).class ≡ (object_in left o).class
  pub plain : (o : ℕ) → o < candidates → is_collection (object_in left o).class ≡ false
  pub counted : (o : ℕ) → o < candidates → Counted (object_in left o).class
  pub fields_same : (o f : ℕ) → o < candidates → has_spot (object_in right (name o)) (Field f) ≡ has_spot (object_in left o) (Field f)
  pub fields_agree : (o f : ℕ) → o < candidates → Known o → has_spot (object_in left o) (Field f) ≡ true → Agree (At o (Field f)) → value_of_spot (object_in right (name o)) (Field f) ≡ renamed_value name (value_of_spot (object_in left o) (Field f))
  pub fields_known : (o f : ℕ) → o < candidates → Known o → has_spot (object_in left o) (Field f) ≡ true → Knows Known (value_of_spot (object_in left o) (Field f))
  pub lengths_agree : (o : ℕ) → o < candidates → Known o → has_spot (object_in left o) Length ≡ true → Agree (At o Length) → length (object_in right (name o)).values ≡ length (object_in left o).values
  pub elements_agree : (o k : ℕ) → o < candidates → Known o → has_spot (object_in left o) Length ≡ true → length (object_in right (name o)).values ≡ length (object_in left o).values → k < length (object_in left o).values → Agree (At o (Element k))
      → value_of_spot (object_in right (name o)) (Element k) ≡ renamed_value name (value_of_spot (object_in left o) (Element k))
  pub elements_known : (o k : ℕ) → o < candidates → Known o → has_spot (object_in left o) Length ≡ true → k < length (object_in left o).values → Knows Known (value_of_spot (object_in left o) (Element k))

module _ (program : Program) (st : Setting) where
  abbrev pub Related : Value → Value → Type 0
  Related v w = (w ≡ renamed_value st.name v) × Knows st.Known v

  abbrev pub SlotLike : Option SlotPlace → Value → Value → Type 0
  SlotLike None v w = Related v w
  SlotLike (Some p) v w = (p ≡ renamed_place st.name p) × KnownPlace st.candidates st.parameters st.Known st.left p × (st.Agree p → Related v w)

  abbrev pub LocalLike : Local → Local → Type 0
  LocalLike l m = (m.place ≡ l.place) × SlotLike l.place l.value m.value

  abbrev pub OldLike : Old → Old → Type 0
  OldLike a b = (b.place ≡ a.place) × Related a.value b.value

  abbrev pub ObjectLike : HeapObject → HeapObject → Type 0
  ObjectLike a b = (b.class ≡ a.class) × Each Related a.values b.values

  pub record HeapLike (h h' : List HeapObject) : Type 0 where
    pub long : st.total ≤ length h
    pub same : length h' ≡ length h
    pub left : (o : ℕ) → o < st.candidates → object_in h o ≡ object_in st.left o
    pub right : (o : ℕ) → o < st.candidates → object_in h' o ≡ object_in st.right o
    pub made : (o : ℕ) → st.candidates ≤ o → st.Known o → ObjectLike (object_in h o) (object_in h' o)

  pub record Like (s s' : State) : Type 0 where
    pub this_value : Related s.this_value s'.this_value
    pub locals : Each LocalLike s.locals s'.locals
    pub result : OnOption Related s.result s'.result
    pub olds : Each OldLike s.olds s'.olds
    pub thrown : OnOption Related s.thrown s'.thrown
    pub heap : HeapLike s.heap s'.heap
    pub candidates : s.candidates ≡ st.candidates
    pub candidates' : s'.candidates ≡ st.candidates
    pub fuel : s'.fuel ≡ s.fuel

  abbrev pub SaidLike : {A : Type 0} → (A → A → Type 0) → Result A Stop → Result A Stop → Type 0
  SaidLike S (Ok a) (Ok b) = S a b
  SaidLike S (Err e) (Err f) = f ≡ e
  SaidLike S _ _ = ⊥

  abbrev pub Reaches : {A : Type 0} → (A → A → Type 0) → Outcome A → Outcome A → Type 0
  Reaches S o o' = SaidLike S o.said o'.said × Like o.after o'.after

  abbrev pub Meets : {A : Type 0} → (A → A → Type 0) → Outcome A → Outcome A → Type 0
  Meets S o o' = Forked (renamed_place st.name) (KnownPlace st.candidates st.parameters st.Known st.left) st.Agree (Reaches S o o') o.reads o'.reads

  pub record Goes {A : Type 0} (S : A → A → Type 0) (m m' : Run A) : Type 0 where
    pub by : (s s' : State) → Like s s' → Meets S (m s) (m' s')

  -- ---- one run after another

  -- reads after earlier ones
  abbrev then_reads : {A B : Type 0} → Result A Stop → State → (A → Run B) → List SlotPlace
  then_reads (Ok a) s f = (f a s).reads
  then_reads (Err e) s f = []

  reads_go_on : {A B : Type 0} (r : Result A Stop) (s : State) (ps : List SlotPlace) (f : A → Run B) → (go_on r s ps f).reads ≡ ps ++ then_reads r s f
  reads_go_on (Ok a) s ps f = refl
  reads_go_on (Err e) s ps f = sym (append-nil ps)

  -- from two states on
  pub bind_meets : {A B : Type 0} (S : A → A → Type 0) (T : B → B → Type 0) (m m' : Run A) (f f' : A → Run B) (s s' : State) → Meets S (m s) (m' s') → ((a b : A) → S a b → Goes T (f a) (f' b)) → Meets T ((m >>= f) s) ((m' >>= f') s')
  unfolding bind
  bind_meets {A} {B} S T m m' f f' s s' p q =
      let o = m s in
      let o' = m' s' in
      let whole = forked_then (renamed_place st.name) (KnownPlace st.candidates st.parameters st.Known st.left) st.Agree (Reaches S o o') (Reaches T (go_on o.said o.after o.reads f) (go_on o'.said o'.after o'.reads f')) o.reads o'.reads (then_reads o.said o.after f) (then_reads o'.said o'.after f') p (λ x. step o.said o'.said o.after o'.after o.reads o'.reads x.0 x.1) in
      subst (λ (ps : List SlotPlace). Forked (renamed_place st.name) (KnownPlace st.candidates st.parameters st.Known st.left) st.Agree (Reaches T (go_on o.said o.after o.reads f) (go_on o'.said o'.after o'.reads f')) ps (go_on o'.said o'.after o'.reads f').reads) (sym (reads_go_on o.said o.after o.reads f))
      (subst (λ (qs : List SlotPlace). Forked (renamed_place st.name) (KnownPlace st.candidates st.parameters st.Known st.left) st.Agree (Reaches T (go_on o.said o.after o.reads f) (go_on o'.said o'.after o'.reads f')) (o.reads ++ then_reads o.said o.after f) qs) (sym (reads_go_on o'.said o'.after o'.reads f')) whole)
    where
      step : (r r' : Result A Stop) (t t' : State) (ps qs : List SlotPlace) → SaidLike S r r' → Like t t' → Forked (renamed_place st.name) (KnownPlace st.candidates st.parameters st.Known st.left) st.Agree (Reaches T (go_on r t ps f) (go_on r' t' qs f')) (then_reads r t f) (then_reads r' t' f')
      step (Ok a) (Ok b) t t' ps qs e l = (q a b e).by t t' l
      step (Err x) (Err y) t t' ps qs e l = (e, l)
      step (Ok a) (Err y) t t' ps qs e l = absurd e
      step (Err x) (Ok b) t t' ps qs e l = absurd e

  pub bind_goes : {A B : Type 0} (S : A → A → Type 0) (T : B → B → Type 0) (m m' : Run A) (f f' : A → Run B) → Goes S m m' → ((a b : A) → S a b → Goes T (f a) (f' b)) → Goes T (m >>= f) (m' >>= f')
  bind_goes S T m m' f f' p q = record { by = λ s s' l. bind_meets S T m m' f f' s s' (p.by s s' l) q }

  -- ---- small steps

  pub say_like : {A : Type 0} (S : A → A → Type 0) (r r' : Result A Stop) → SaidLike S r r' → Goes S (say r) (say r')
  say_like S r r' e = record { by = λ s s' l. (e, l) }

  ticks : Goes Any tick tick
  ticks = record { by = λ s s' l. subst (λ (n : ℕ). Meets Any (tick_at s.fuel s) (tick_at n s')) (sym l.fuel) (go s.fuel s s' l) }
    where
      go : (n : ℕ) (s s' : State) → Like s s' → Meets Any (tick_at n s) (tick_at n s')
      go zero s s' l = (refl, l)
      go (suc n) s s' l = (tt, record { this_value = l.this_value; locals = l.locals; result = l.result; olds = l.olds; thrown = l.thrown; heap = l.heap; candidates = l.candidates; candidates' = l.candidates'; fuel = refl })

  same_null : Related Null Null
  same_null = (refl, tt)

  class_same : (h h' : List HeapObject) → HeapLike h h' → (o : ℕ) → st.Known o → (object_in h' (st.name o)).class ≡ (object_in h o).class
  class_same h h' l o k = go (cases_lt o st.candidates)
    where
      go : (o < st.candidates) ⊎ (st.candidates ≤ o) → (object_in h' (st.name o)).class ≡ (object_in h o).class
      go (inl lt) = ap (λ (x : HeapObject). x.class) (l.right (st.name o) (st.within o lt)) ∙ (st.classes o lt ∙ sym (ap (λ (x : HeapObject). x.class) (l.left o lt)))
      go (inr le) = ap (λ (p : ℕ). (object_in h' p).class) (st.fixes o le) ∙ (l.made o le k).0

  inside : (s : State) → s.candidates ≡ st.candidates → (o : ℕ) → o < st.candidates → nat_lt o s.candidates ≡ true
  inside s e o lt = ap (nat_lt o) e ∙ lt-ltb o st.candidates lt

  outside : (s : State) → s.candidates ≡ st.candidates → (o : ℕ) → st.candidates ≤ o → nat_lt o s.candidates ≡ false
  outside s e o le = ap (nat_lt o) e ∙ le-ltb o st.candidates le

  -- a load of a spot that isn't an element, by what holds of it on candidates and on objects that were made
  loads_spot : (o : ℕ) (spot : Spot) → st.Known o
      → ((lt : o < st.candidates) → has_spot (object_in st.right (st.name o)) spot ≡ has_spot (object_in st.left o) spot)
      → ((lt : o < st.candidates) → has_spot (object_in st.left o) spot ≡ true → (At (st.name o) spot ≡ renamed_place st.name (At o spot)) × KnownPlace st.candidates st.parameters st.Known st.left (At o spot) × (st.Agree (At o spot) → Related (value_of_spot (object_in st.left o) spot) (value_of_spot (object_in st.right (st.name o)) spot)))
      → ((a b : HeapObject) → ObjectLike a b → has_spot b spot ≡ has_spot a spot)
      → ((a b : HeapObject) → ObjectLike a b → Related (value_of_spot a spot) (value_of_spot b spot))
      → Goes Related (load (Reference o) spot) (load (Reference (st.name o)) spot)
  loads_spot o spot known fit old fit' new = record { by = λ s s' l. go s s' l (cases_lt o st.candidates) }
    where
      old_by : (s s' : State) → Like s s' → (lt : o < st.candidates) → (b : Bool) → has_spot (object_in st.left o) spot ≡ b → Meets Related (load_if b o spot s) (load_if b (st.name o) spot s')
      old_by s s' l lt false e = (refl, l)
      old_by s s' l lt true e =
          let b = inside s l.candidates o lt in
          let b' = inside s' l.candidates' (st.name o) (st.within o lt) in
          let is : object_in s.heap o ≡ object_in st.left o = l.heap.left o lt in
          let is' : object_in s'.heap (st.name o) ≡ object_in st.right (st.name o) = l.heap.right (st.name o) (st.within o lt) in
          let r = old lt e in
          rw (b, b', is, is') (r.0, r.1, λ a. (r.2 a, l))

      new_by : (s s' : State) → Like s s' → (le : st.candidates ≤ o) → (b : Bool) → Meets Related (load_if b o spot s) (load_if b o spot s')
      new_by s s' l le false = (refl, l)
      new_by s s' l le true =
          let b = outside s l.candidates o le in
          let b' = outside s' l.candidates' o le in
          rw (b, b') (new (object_in s.heap o) (object_in s'.heap o) (l.heap.made o le known), l)

      go : (s s' : State) → Like s s' → (o < st.candidates) ⊎ (st.candidates ≤ o) → Meets Related (load (Reference o) spot s) (load (Reference (st.name o)) spot s')
      go s s' l (inl lt) =
          let e : has_spot (object_in s.heap o) spot ≡ has_spot (object_in st.left o) spot = ap (λ (x : HeapObject). has_spot x spot) (l.heap.left o lt) in
          let e' : has_spot (object_in s'.heap (st.name o)) spot ≡ has_spot (object_in st.left o) spot = ap (λ (x : HeapObject). has_spot x spot) (l.heap.right (st.name o) (st.within o lt)) ∙ fit lt in
          subst (λ (b : Bool). Meets Related (load_if b o spot s) (load_if (has_spot (object_in s'.heap (st.name o)) spot) (st.name o) spot s')) (sym e)
          (subst (λ (b : Bool). Meets Related (load_if (has_spot (object_in st.left o) spot) o spot s) (load_if b (st.name o) spot s')) (sym e') (old_by s s' l lt (has_spot (object_in st.left o) spot) refl))
      go s s' l (inr le) =
          subst (λ (p : ℕ). Meets Related (load (Reference o) spot s) (load (Reference p) spot s')) (sym (st.fixes o le))
          (subst (λ (b : Bool). Meets Related (load_if (has_spot (object_in s.heap o) spot) o spot s) (load_if b o spot s')) (sym (fit' (object_in s.heap o) (object_in s'.heap o) (l.heap.made o le known))) (new_by s s' l le (has_spot (object_in s.heap o) spot)))

  field_fit : (f : ℕ) (a b : HeapObject) → ObjectLike a b → has_spot b (Field f) ≡ has_spot a (Field f)
  field_fit f a b r = ap (λ (c : Class). has_spot_of c (length b.values) (Field f)) r.0 ∙ ap (λ (n : ℕ). has_spot_of a.class n (Field f)) (each_length Related a.values b.values r.1)

  -- an array has a length, however long it is
  length_spot : (c : Class) (m n : ℕ) → has_spot_of c m Length ≡ has_spot_of c n Length
  length_spot (Object c) m n = refl
  length_spot (Array t) m n = refl
  length_spot Set m n = refl
  length_spot ListClass m n = refl

  length_fit : (a b : HeapObject) → b.class ≡ a.class → has_spot b Length ≡ has_spot a Length
  length_fit a b e = ap (λ (c : Class). has_spot_of c (length b.values) Length) e ∙ length_spot a.class (length b.values) (length a.values)

  loads : (o o' : Value) (f : ℕ) → Related o o' → Goes Related (load o (Field f)) (load o' (Field f))
  loads (Int n) o' f r = rw r.0 (record { by = λ s s' l. (refl, l) })
  loads (Truth b) o' f r = rw r.0 (record { by = λ s s' l. (refl, l) })
  loads Null o' f r = rw r.0 (record { by = λ s s' l. (refl, l) })
  loads (Reference o) o' f r =
      rw r.0 (loads_spot o (Field f) r.1 (λ lt. st.fields_same o f lt) (λ lt e. (refl, (lt, r.1), λ a. (st.fields_agree o f lt r.1 e a, st.fields_known o f lt r.1 e))) (field_fit f) (λ a b x. each_get Related a.values b.values f Null same_null x.1))

  loads_length : (o o' : Value) → Related o o' → Goes Related (load o Length) (load o' Length)
  loads_length (Int n) o' r = rw r.0 (record { by = λ s s' l. (refl, l) })
  loads_length (Truth b) o' r = rw r.0 (record { by = λ s s' l. (refl, l) })
  loads_length Null o' r = rw r.0 (record { by = λ s s' l. (refl, l) })
  loads_length (Reference o) o' r =
      rw r.0 (loads_spot o Length r.1 (λ lt. length_fit (object_in st.left o) (object_in st.right (st.name o)) (st.classes o lt)) (λ lt e. (refl, (lt, r.1), λ a. (ap (λ (n : ℕ). Int (pos n)) (st.lengths_agree o lt r.1 e a), tt))) (λ a b x. length_fit a b x.0)
      (λ a b x. (ap (λ (n : ℕ). Int (pos n)) (each_length Related a.values b.values x.1), tt)))

  index_below : (z : ℤ) (n k : ℕ) → index_within z n ≡ Some k → k < n
  index_below (negsuc i) n k e = absurd (cc (e))
  index_below (pos i) n k e = go (nat_lt i n) refl e
    where
      go : (b : Bool) → nat_lt i n ≡ b → (if b then Some i else None) ≡ Some k → k < n
      go true d f = let q : i ≡ k = cc (f) in subst (λ (x : ℕ). x < n) q (ltb-true i n d)
      go false d f = absurd (cc (f))

  elements_of : (o : ℕ) (z : ℤ) → st.Known o → Goes Related (element (Reference o) (Int z)) (element (Reference (st.name o)) (Int z))
  elements_of o z known = record { by = λ s s' l. go s s' l (cases_lt o st.candidates) }
    where
      -- on candidates
      old : (s s' : State) → Like s s' → (lt : o < st.candidates) → has_spot (object_in st.left o) Length ≡ true → (x y : Option ℕ) → index_within z (length (object_in st.left o).values) ≡ x → index_within z (length (object_in st.right (st.name o)).values) ≡ y
          → nat_lt o s.candidates ≡ true → nat_lt (st.name o) s'.candidates ≡ true → object_in s.heap o ≡ object_in st.left o → object_in s'.heap (st.name o) ≡ object_in st.right (st.name o) → Meets Related (element_read x o s) (element_read y (st.name o) s')
      old s s' l lt e None None p q b b' is is' = rw (b, b') (refl, (lt, known), λ a. (refl, l))
      old s s' l lt e None (Some k) p q b b' is is' = rw (b, b') (refl, (lt, known), λ a. let same = st.lengths_agree o lt known e a in absurd (cc (ap (index_within z) same, p, q)))
      old s s' l lt e (Some k) None p q b b' is is' = rw (b, b') (refl, (lt, known), λ a. let same = st.lengths_agree o lt known e a in absurd (cc (ap (index_within z) same, p, q)))
      old s s' l lt e (Some k) (Some j) p q b b' is is' =
          rw (b, b') (
            refl,
            (lt, known),
            λ a.
                let same = st.lengths_agree o lt known e a in
                let small : k < length (object_in st.left o).values = index_below z (length (object_in st.left o).values) k p in
                let one : j ≡ k = some_number j k (sym q ∙ (ap (index_within z) same ∙ p)) in
                rw (one, is, is') (refl, (lt, known, small), λ c. ((st.elements_agree o k lt known e same small c, st.elements_known o k lt known e small), l)),
          )
        where
          some_number : (x y : ℕ) → Some x ≡ Some y → x ≡ y
          some_number x y f = cc (f)

      old_if : (s s' : State) → Like s s' → (lt : o < st.candidates) → (b : Bool) → has_spot (object_in st.left o) Length ≡ b → Meets Related (element_if b o z s) (element_if b (st.name o) z s')
      old_if s s' l lt false e = (refl, l)
      old_if s s' l lt true e =
          let is : object_in s.heap o ≡ object_in st.left o = l.heap.left o lt in
          let is' : object_in s'.heap (st.name o) ≡ object_in st.right (st.name o) = l.heap.right (st.name o) (st.within o lt) in
          old s s' l lt e (index_within z (length (object_in s.heap o).values)) (index_within z (length (object_in s'.heap (st.name o)).values))
          (ap (λ (x : HeapObject). index_within z (length x.values)) (sym is)) (ap (λ (x : HeapObject). index_within z (length x.values)) (sym is'))
          (inside s l.candidates o lt) (inside s' l.candidates' (st.name o) (st.within o lt)) is is'

      new : (s s' : State) → Like s s' → (a b : HeapObject) → object_in s.heap o ≡ a → object_in s'.heap o ≡ b → ObjectLike a b → (x : Option ℕ) → nat_lt o s.candidates ≡ false → nat_lt o s'.candidates ≡ false → Meets Related (element_read x o s) (element_read x o s')
      new s s' l a b is is' r None c c' = rw (c, c') (refl, l)
      new s s' l a b is is' r (Some k) c c' = rw (c, c', is, is') (each_get Related a.values b.values k Null same_null r.1, l)

      new_if : (s s' : State) → Like s s' → (le : st.candidates ≤ o) → (b : Bool) → Meets Related (element_if b o z s) (element_if b o z s')
      new_if s s' l le false = (refl, l)
      new_if s s' l le true =
          let r = l.heap.made o le known in
          let same : length (object_in s'.heap o).values ≡ length (object_in s.heap o).values = each_length Related (object_in s.heap o).values (object_in s'.heap o).values r.1 in
          subst (λ (n : ℕ). Meets Related (element_read (index_within z (length (object_in s.heap o).values)) o s) (element_read (index_within z n) o s')) (sym same)
          (new s s' l (object_in s.heap o) (object_in s'.heap o) refl refl r (index_within z (length (object_in s.heap o).values)) (outside s l.candidates o le) (outside s' l.candidates' o le))

      go : (s s' : State) → Like s s' → (o < st.candidates) ⊎ (st.candidates ≤ o) → Meets Related (element (Reference o) (Int z) s) (element (Reference (st.name o)) (Int z) s')
      go s s' l (inl lt) =
          let e : has_spot (object_in s.heap o) Length ≡ has_spot (object_in st.left o) Length = ap (λ (x : HeapObject). has_spot x Length) (l.heap.left o lt) in
          let e' : has_spot (object_in s'.heap (st.name o)) Length ≡ has_spot (object_in st.left o) Length = ap (λ (x : HeapObject). has_spot x Length) (l.heap.right (st.name o) (st.within o lt)) ∙ length_fit (object_in st.left o) (object_in st.right (st.name o)) (st.classes o lt) in
          subst (λ (b : Bool). Meets Related (element_if b o z s) (element_if (has_spot (object_in s'.heap (st.name o)) Length) (st.name o) z s')) (sym e)
          (subst (λ (b : Bool). Meets Related (element_if (has_spot (object_in st.left o) Length) o z s) (element_if b (st.name o) z s')) (sym e') (old_if s s' l lt (has_spot (object_in st.left o) Length) refl))
      go s s' l (inr le) =
          subst (λ (p : ℕ). Meets Related (element (Reference o) (Int z) s) (element (Reference p) (Int z) s')) (sym (st.fixes o le))
          (subst (λ (b : Bool). Meets Related (element_if (has_spot (object_in s.heap o) Length) o z s) (element_if b o z s')) (sym (length_fit (object_in s.heap o) (object_in s'.heap o) (l.heap.made o le known).0)) (new_if s s' l le (has_spot (object_in s.heap o) Length)))

  elements : (o o' i j : Value) → Related o o' → Related i j → Goes Related (element o i) (element o' j)
  elements (Reference o) o' (Int z) j r q = rw (r.0, q.0) (elements_of o z r.1)
  elements Null o' (Int z) j r q = rw (r.0, q.0) (record { by = λ s s' l. (refl, l) })
  elements (Int n) o' i j r q = rw r.0 (record { by = λ s s' l. (refl, l) })
  elements (Truth b) o' i j r q = rw r.0 (record { by = λ s s' l. (refl, l) })
  elements (Reference o) o' (Truth b) j r q = rw (r.0, q.0) (record { by = λ s s' l. (refl, l) })
  elements (Reference o) o' Null j r q = rw (r.0, q.0) (record { by = λ s s' l. (refl, l) })
  elements (Reference o) o' (Reference p) j r q = rw (r.0, q.0) (record { by = λ s s' l. (refl, l) })
  elements Null o' (Truth b) j r q = rw (r.0, q.0) (record { by = λ s s' l. (refl, l) })
  elements Null o' Null j r q = rw (r.0, q.0) (record { by = λ s s' l. (refl, l) })
  elements Null o' (Reference p) j r q = rw (r.0, q.0) (record { by = λ s s' l. (refl, l) })

  classes : (o o' : Value) → Related o o' → Goes Same (class_or_null o) (class_or_null o')
  classes (Int n) o' r = rw r.0 (record { by = λ s s' l. (refl, l) })
  classes (Truth b) o' r = rw r.0 (record { by = λ s s' l. (refl, l) })
  classes Null o' r = rw r.0 (record { by = λ s s' l. (refl, l) })
  classes (Reference o) o' r = rw r.0 (record { by = λ s s' l. (ap (λ (c : Class). Some c) (class_same s.heap s'.heap l.heap o r.1), l) })

  -- ---- the frame

  found : (k : ℕ) (ls ms : List Local) → Each LocalLike ls ms → OnOption LocalLike (local_at ls k) (local_at ms k)
  found k [] [] e = tt
  found zero (l ∷ ls) (m ∷ ms) e = e.0
  found (suc k) (l ∷ ls) (m ∷ ms) e = found k ls ms e.1
  found k [] (m ∷ ms) e = absurd e
  found k (l ∷ ls) [] e = absurd e

  given_like : (x y : Option Local) (s s' : State) → OnOption LocalLike x y → Like s s' → Meets Related (local_given x s) (local_given y s')
  given_like None None s s' e l = (refl, l)
  given_like None (Some m) s s' e l = absurd e
  given_like (Some k) None s s' e l = absurd e
  given_like (Some k) (Some m) s s' e l = rw e.0 (go k.place e.1)
    where
      go : (place : Option SlotPlace) → SlotLike place k.value m.value → Forked (renamed_place st.name) (KnownPlace st.candidates st.parameters st.Known st.left) st.Agree (Related k.value m.value × Like s s') (place_reads place) (place_reads place)
      go None r = (r, l)
      go (Some p) r = (r.0, r.1, λ a. (r.2 a, l))

  reads_local : (k : ℕ) → Goes Related (read_local k) (read_local k)
  reads_local k = record { by = λ s s' l. given_like (local_at s.locals k) (local_at s'.locals k) s s' (found k s.locals s'.locals l.locals) l }

  with_locals_like : (ls ms : List Local) (s s' : State) → Each LocalLike ls ms → Like s s' → Like (record s { locals = ls }) (record s' { locals = ms })
  with_locals_like ls ms s s' e l = record { this_value = l.this_value; locals = e; result = l.result; olds = l.olds; thrown = l.thrown; heap = l.heap; candidates = l.candidates; candidates' = l.candidates'; fuel = l.fuel }

  pub declares : (v w : Value) → Related v w → Goes Any (declare v) (declare w)
  declares v w r = record { by = λ s s' l. (tt, with_locals_like _ _ s s' (each_append LocalLike s.locals s'.locals (plain_local v ∷ []) (plain_local w ∷ []) l.locals ((refl, r), tt)) l) }

  assigns : (k : ℕ) (v w : Value) → Related v w → Goes Any (assign k v) (assign k w)
  assigns k v w r = record {
    by = λ s s' l. subst (λ (n : ℕ). Meets Any (assign_if (nat_lt k (length s.locals)) k v s) (assign_if (nat_lt k n) k w s')) (sym (each_length LocalLike s.locals s'.locals l.locals)) (go s s' l (nat_lt k (length s.locals)));
  }
    where
      go : (s s' : State) → Like s s' → (b : Bool) → Meets Any (assign_if b k v s) (assign_if b k w s')
      go s s' l true = (tt, with_locals_like _ _ s s' (each_set LocalLike s.locals s'.locals k (plain_local v) (plain_local w) (refl, r) l.locals) l)
      go s s' l false = (refl, l)

  option_like : (x y : Option Value) → OnOption Related x y → Goes Related (given x) (given y)
  option_like None None e = record { by = λ s s' l. (refl, l) }
  option_like (Some v) (Some w) e = record { by = λ s s' l. (e, l) }
  option_like None (Some w) e = absurd e
  option_like (Some v) None e = absurd e

  gets_result : Goes Related get_result get_result
  gets_result = record { by = λ s s' l. (option_like s.result s'.result l.result).by s s' l }

  old_like : (p : Place) (os qs : List Old) → Each OldLike os qs → OnOption Related (old_at os p) (old_at qs p)
  old_like p [] [] e = tt
  old_like p [] (q ∷ qs) e = absurd e
  old_like p (o ∷ os) [] e = absurd e
  old_like p (o ∷ os) (q ∷ qs) e = subst (λ (x : Place). OnOption Related (old_at (o ∷ os) p) (if is_at_place x p then Some q.value else old_at qs p)) (sym e.0.0) (go (is_at_place o.place p) (old_like p os qs e.1))
    where
      go : (b : Bool) → OnOption Related (old_at os p) (old_at qs p) → OnOption Related (if b then Some o.value else old_at os p) (if b then Some q.value else old_at qs p)
      go true r = e.0.1
      go false r = r

  gets_old : (p : Place) → Goes Related (get_old p) (get_old p)
  gets_old p = record { by = λ s s' l. (option_like (old_at s.olds p) (old_at s'.olds p) (old_like p s.olds s'.olds l.olds)).by s s' l }

  pub plain_like : (vs ws : List Value) → Each Related vs ws → Each LocalLike (map plain_local vs) (map plain_local ws)
  plain_like [] [] e = tt
  plain_like (v ∷ vs) (w ∷ ws) e = ((refl, e.0), plain_like vs ws e.1)
  plain_like [] (w ∷ ws) e = absurd e
  plain_like (v ∷ vs) [] e = absurd e

  withins : {A : Type 0} (S : A → A → Type 0) (o o' : Value) (n : ℕ) (vs ws : List Value) (m m' : Run A) → Related o o' → Each Related vs ws → Goes S m m' → Goes S (within o n vs m) (within o' n ws m')
  withins {A} S o o' n vs ws m m' r e p = record {
    by = λ s s' l. subst (λ (k : ℕ). Meets S (entered (nat_eq (length vs) n) o vs m s) (entered (nat_eq k n) o' ws m' s')) (sym (each_length Related vs ws e)) (go s s' l (nat_eq (length vs) n));
  }
    where
      back : (s s' : State) → Like s s' → (a a' : Outcome A) → Reaches S a a' → Reaches S (back_to s a) (back_to s' a')
      back s s' l a a' x = (x.0, record { this_value = l.this_value; locals = l.locals; result = x.1.result; olds = x.1.olds; thrown = x.1.thrown; heap = x.1.heap; candidates = x.1.candidates; candidates' = x.1.candidates'; fuel = x.1.fuel })

      go : (s s' : State) → Like s s' → (b : Bool) → Meets S (entered b o vs m s) (entered b o' ws m' s')
      go s s' l false = (refl, l)
      go s s' l true =
          let t : State = record s { this_value = o; locals = map plain_local vs } in
          let t' : State = record s' { this_value = o'; locals = map plain_local ws } in
          let inner : Like t t' = record { this_value = r; locals = plain_like vs ws e; result = l.result; olds = l.olds; thrown = l.thrown; heap = l.heap; candidates = l.candidates; candidates' = l.candidates'; fuel = l.fuel } in
          forked_map (renamed_place st.name) (KnownPlace st.candidates st.parameters st.Known st.left) st.Agree (Reaches S (m t) (m' t')) (Reaches S (back_to s (m t)) (back_to s' (m' t'))) (m t).reads (m' t').reads (p.by t t' inner) (back s s' l (m t) (m' t'))

  pub scopes : {A : Type 0} (S : A → A → Type 0) (m m' : Run A) → Goes S m m' → Goes S (scoped m) (scoped m')
  scopes S m m' p = record {
    by = λ s s' l. forked_map (renamed_place st.name) (KnownPlace st.candidates st.parameters st.Known st.left) st.Agree (Reaches S (m s) (m' s')) (Reaches S (scoped m s) (scoped m' s')) (m s).reads (m' s').reads (p.by s s' l)
        (λ x. (x.0, with_locals_like _ _ (m s).after (m' s').after (subst (λ (n : ℕ). Each LocalLike (take (length s.locals) (m s).after.locals) (take n (m' s').after.locals)) (sym (each_length LocalLike s.locals s'.locals l.locals)) (each_take LocalLike (length s.locals) (m s).after.locals (m' s').after.locals x.1.locals)) x.1));
  }

  -- ---- the heap

  pub with_heap_like : (h h' : List HeapObject) (s s' : State) → HeapLike h h' → Like s s' → Like (record s { heap = h }) (record s' { heap = h' })
  with_heap_like h h' s s' e l = record { this_value = l.this_value; locals = l.locals; result = l.result; olds = l.olds; thrown = l.thrown; heap = e; candidates = l.candidates; candidates' = l.candidates'; fuel = l.fuel }

  -- an object that isn't a candidate's becomes another
  set_like : (h h' : List HeapObject) (o : ℕ) (new new' : HeapObject) → st.candidates ≤ o → (o < length h → ObjectLike new new') → HeapLike h h' → HeapLike (slice_set h o new) (slice_set h' o new')
  set_like h h' o new new' le r l = record {
    long = omega (arith, l.long, length-set h o new);
    same = length-set h' o new' ∙ (l.same ∙ sym (length-set h o new));
    left = λ p lt. get_or-set_other h o p new no_object (off p lt) ∙ l.left p lt;
    right = λ p lt. get_or-set_other h' o p new' no_object (off p lt) ∙ l.right p lt;
    made = λ p b k. made p b k (cases_eq p o) (cases_lt o (length h));
  }
    where
      off : (p : ℕ) → p < st.candidates → p ≢ o
      off p lt e = absurd (omega (arith, lt, le, e))

      made : (p : ℕ) → st.candidates ≤ p → st.Known p → (p ≡ o) ⊎ (p ≢ o) → (o < length h) ⊎ (length h ≤ o) → ObjectLike (object_in (slice_set h o new) p) (object_in (slice_set h' o new') p)
      made p b k (inl e) (inl lt) =
          let a : object_in (slice_set h o new) o ≡ new = get_or-set_same h o new no_object lt in
          let a' : object_in (slice_set h' o new') o ≡ new' = get_or-set_same h' o new' no_object (omega (arith, lt, l.same)) in
          rw (e, a, a') (r lt)
      made p b k (inl e) (inr ge) =
          let a : slice_set h o new ≡ h = set_past h o new ge in
          let a' : slice_set h' o new' ≡ h' = set_past h' o new' (omega (arith, ge, l.same)) in
          rw (a, a') (l.made p b k)
      made p b k (inr ne) c =
          let a : object_in (slice_set h o new) p ≡ object_in h p = get_or-set_other h o p new no_object ne in
          let a' : object_in (slice_set h' o new') p ≡ object_in h' p = get_or-set_other h' o p new' no_object ne in
          rw (a, a') (l.made p b k)

  put_like : (h h' : List HeapObject) (o k : ℕ) (v w : Value) → st.candidates ≤ o → st.Known o → Related v w → HeapLike h h' → HeapLike (put h o k v) (put h' o k w)
  put_like h h' o k v w le known r l =
      set_like h h' o _ _ le (λ lt. let old = l.made o le known in (old.0, each_set Related (object_in h o).values (object_in h' o).values k v w r old.1)) l

  -- the fields of which no counted class has one
  abbrev pub MayStore : FieldOf → Type 0
  MayStore f = (class : Class) (k : ℕ) → st.Counted class → spot_of_field program f class ≡ Some k → ⊥

  abbrev pub MayPut : JavaType → Type 0
  MayPut t = (class : Class) → st.Counted class → is_array_of program t class ≡ true → ⊥

  stores_made : (f : FieldOf) (o : ℕ) (v w : Value) → st.Known o → Related v w → (s s' : State) → Like s s' → st.candidates ≤ o → Meets Any (store program f (Reference o) v s) (store program f (Reference (st.name o)) w s')
  stores_made f o v w known q s s' l le = rw (class_same s.heap s'.heap l.heap o known) (go (spot_of_field program f (object_in s.heap o).class))
    where
      go : (k : Option ℕ) → Meets Any (store_at o k v s) (store_at (st.name o) k w s')
      go None = (refl, l)
      go (Some k) = rw (st.fixes o le) (tt, with_heap_like _ _ s s' (put_like s.heap s'.heap o k v w le known q l.heap) l)

  stores : (f : FieldOf) (o o' v w : Value) → MayStore f → Related o o' → Related v w → Goes Any (store program f o v) (store program f o' w)
  stores f (Int i) o' v w may r q = rw r.0 (record { by = λ s s' l. (refl, l) })
  stores f (Truth b) o' v w may r q = rw r.0 (record { by = λ s s' l. (refl, l) })
  stores f Null o' v w may r q = rw r.0 (record { by = λ s s' l. (refl, l) })
  stores f (Reference o) o' v w may r q = rw r.0 (record { by = λ s s' l. go s s' l (cases_lt o st.candidates) })
    where
      old : (s s' : State) → Like s s' → o < st.candidates → (k : Option ℕ) → spot_of_field program f (object_in s.heap o).class ≡ k → Meets Any (store_at o k v s) (store_at (st.name o) k w s')
      old s s' l lt None e = (refl, l)
      old s s' l lt (Some k) e = absurd (may (object_in s.heap o).class k (subst (λ (x : HeapObject). st.Counted x.class) (sym (l.heap.left o lt)) (st.counted o lt)) e)

      go : (s s' : State) → Like s s' → (o < st.candidates) ⊎ (st.candidates ≤ o) → Meets Any (store program f (Reference o) v s) (store program f (Reference (st.name o)) w s')
      go s s' l (inl lt) = rw (class_same s.heap s'.heap l.heap o r.1) (old s s' l lt (spot_of_field program f (object_in s.heap o).class) refl)
      go s s' l (inr le) = stores_made f o v w r.1 q s s' l le

  stores_new : (f : FieldOf) (o o' v w : Value) → Related o o' → Related v w → Goes Any (store_new program f o v) (store_new program f o' w)
  stores_new f (Int i) o' v w r q = rw r.0 (record { by = λ s s' l. (refl, l) })
  stores_new f (Truth b) o' v w r q = rw r.0 (record { by = λ s s' l. (refl, l) })
  stores_new f Null o' v w r q = rw r.0 (record { by = λ s s' l. (refl, l) })
  stores_new f (Reference o) o' v w r q = rw r.0 (record { by = λ s s' l. go s s' l (cases_lt o st.candidates) })
    where
      go : (s s' : State) → Like s s' → (o < st.candidates) ⊎ (st.candidates ≤ o) → Meets Any (store_new program f (Reference o) v s) (store_new program f (Reference (st.name o)) w s')
      go s s' l (inl lt) = rw (inside s l.candidates o lt, inside s' l.candidates' (st.name o) (st.within o lt)) (refl, l)
      go s s' l (inr le) =
          let b : nat_lt (st.name o) s'.candidates ≡ false = ap (λ (p : ℕ). nat_lt p s'.candidates) (st.fixes o le) ∙ outside s' l.candidates' o le in
          rw (outside s l.candidates o le, b) (stores_made f o v w r.1 q s s' l le)

  stores_element_of : (t : JavaType) (o : ℕ) (z : ℤ) (v w : Value) → MayPut t → st.Known o → Related v w → Goes Any (store_element program t (Reference o) (Int z) v) (store_element program t (Reference (st.name o)) (Int z) w)
  stores_element_of t o z v w may known q = record { by = λ s s' l. rw (class_same s.heap s'.heap l.heap o known) (go s s' l (is_array_of program t (object_in s.heap o).class) refl (cases_lt o st.candidates)) }
    where
      at : (s s' : State) → Like s s' → st.candidates ≤ o → (x : Option ℕ) → Meets Any (store_index o x v s) (store_index o x w s')
      at s s' l le None = (refl, l)
      at s s' l le (Some k) = (tt, with_heap_like _ _ s s' (put_like s.heap s'.heap o k v w le known q l.heap) l)

      go : (s s' : State) → Like s s' → (b : Bool) → is_array_of program t (object_in s.heap o).class ≡ b → (o < st.candidates) ⊎ (st.candidates ≤ o) → Meets Any (store_element_if b o z v s) (store_element_if b (st.name o) z w s')
      go s s' l false e c = (refl, l)
      go s s' l true e (inl lt) = absurd (may (object_in s.heap o).class (subst (λ (x : HeapObject). st.Counted x.class) (sym (l.heap.left o lt)) (st.counted o lt)) e)
      go s s' l true e (inr le) =
          let r = l.heap.made o le known in
          let same : length (object_in s'.heap o).values ≡ length (object_in s.heap o).values = each_length Related (object_in s.heap o).values (object_in s'.heap o).values r.1 in
          subst (λ (p : ℕ). Meets Any (store_element_if true o z v s) (store_element_if true p z w s')) (sym (st.fixes o le))
          (subst (λ (n : ℕ). Meets Any (store_index o (index_within z (length (object_in s.heap o).values)) v s) (store_index o (index_within z n) w s')) (sym same) (at s s' l le (index_within z (length (object_in s.heap o).values))))

  stores_element : (t : JavaType) (o o' i j v w : Value) → MayPut t → Related o o' → Related i j → Related v w → Goes Any (store_element program t o i v) (store_element program t o' j w)
  stores_element t (Reference o) o' (Int z) j v w may r q x = rw (r.0, q.0) (stores_element_of t o z v w may r.1 x)
  stores_element t Null o' (Int z) j v w may r q x = rw (r.0, q.0) (record { by = λ s s' l. (refl, l) })
  stores_element t (Int n) o' i j v w may r q x = rw r.0 (record { by = λ s s' l. (refl, l) })
  stores_element t (Truth b) o' i j v w may r q x = rw r.0 (record { by = λ s s' l. (refl, l) })
  stores_element t (Reference o) o' (Truth b) j v w may r q x = rw (r.0, q.0) (record { by = λ s s' l. (refl, l) })
  stores_element t (Reference o) o' Null j v w may r q x = rw (r.0, q.0) (record { by = λ s s' l. (refl, l) })
  stores_element t (Reference o) o' (Reference p) j v w may r q x = rw (r.0, q.0) (record { by = λ s s' l. (refl, l) })
  stores_element t Null o' (Truth b) j v w may r q x = rw (r.0, q.0) (record { by = λ s s' l. (refl, l) })
  stores_element t Null o' Null j v w may r q x = rw (r.0, q.0) (record { by = λ s s' l. (refl, l) })
  stores_element t Null o' (Reference p) j v w may r q x = rw (r.0, q.0) (record { by = λ s s' l. (refl, l) })

  grown_like : (h h' : List HeapObject) (a b : HeapObject) → ObjectLike a b → HeapLike h h' → HeapLike (h ++ a ∷ []) (h' ++ b ∷ [])
  grown_like h h' a b r l = record {
    long = omega (arith, l.long, length-append h (a ∷ []));
    same = omega (arith, l.same, length-append h (a ∷ []), length-append h' (b ∷ []));
    left = λ p lt. get_or_append_left h (a ∷ []) no_object p (omega (arith, lt, l.long, st.enough)) ∙ l.left p lt;
    right = λ p lt. get_or_append_left h' (b ∷ []) no_object p (omega (arith, lt, l.long, l.same, st.enough)) ∙ l.right p lt;
    made = λ p le k. made p le k (cases_lt p (length h));
  }
    where
      at : (k : ℕ) → ObjectLike (get_or (a ∷ []) k no_object) (get_or (b ∷ []) k no_object)
      at zero = r
      at (suc k) = (refl, tt)

      made : (p : ℕ) → st.candidates ≤ p → st.Known p → (p < length h) ⊎ (length h ≤ p) → ObjectLike (object_in (h ++ a ∷ []) p) (object_in (h' ++ b ∷ []) p)
      made p le k (inl lt) =
          let e : object_in (h ++ a ∷ []) p ≡ object_in h p = get_or_append_left h (a ∷ []) no_object p lt in
          let e' : object_in (h' ++ b ∷ []) p ≡ object_in h' p = get_or_append_left h' (b ∷ []) no_object p (omega (arith, lt, l.same)) in
          rw (e, e') (l.made p le k)
      made p le k (inr ge) =
          let e : object_in (h ++ a ∷ []) p ≡ get_or (a ∷ []) (p - length h) no_object = get_or-append_right h (a ∷ []) (length h) p no_object refl ge in
          let e' : object_in (h' ++ b ∷ []) p ≡ get_or (b ∷ []) (p - length h) no_object = get_or-append_right h' (b ∷ []) (length h) p no_object l.same ge in
          rw (e, e') (at (p - length h))

  makes : (class : Class) (vs ws : List Value) → Each Related vs ws → Goes Related (make class vs) (make class ws)
  makes class vs ws e = record {
    by = λ s s' l. (
      (ap (λ (n : ℕ). Reference n) (l.heap.same ∙ sym (st.fixes (length s.heap) (omega (arith, l.heap.long, st.enough)))), st.fresh (length s.heap) l.heap.long),
      with_heap_like _ _ s s' (grown_like s.heap s'.heap _ _ (refl, e) l.heap) l,
    );
  }

  each_replicate : (n : ℕ) (v : Value) → Related v v → Each Related (replicate n v) (replicate n v)
  each_replicate zero v r = tt
  each_replicate (suc n) v r = (r, each_replicate n v r)

  default_like : (t : JavaType) → Related (default_of t) (default_of t)
  default_like (NumberType w) = (refl, tt)
  default_like BooleanType = (refl, tt)
  default_like NullType = (refl, tt)
  default_like VoidType = (refl, tt)
  default_like (ClassType c) = (refl, tt)
  default_like (ArrayType t) = (refl, tt)
  default_like (SetType t) = (refl, tt)
  default_like (ListType t) = (refl, tt)
  default_like InferredType = (refl, tt)
  default_like (UnknownType o n) = (refl, tt)
  default_like (AppliedType h t) = (refl, tt)

  with_thrown_like : (x y : Option Value) (s s' : State) → OnOption Related x y → Like s s' → Like (record s { thrown = x }) (record s' { thrown = y })
  with_thrown_like x y s s' e l = record { this_value = l.this_value; locals = l.locals; result = l.result; olds = l.olds; thrown = e; heap = l.heap; candidates = l.candidates; candidates' = l.candidates'; fuel = l.fuel }

  stuck_like : {A : Type 0} (S : A → A → Type 0) (e : Stop) → Goes S (stop e) (stop e)
  stuck_like S e = record { by = λ s s' l. (refl, l) }

  makes_number : (t : JavaType) (n : ℕ) (k : Option ℕ) → Goes Related (make_array t n k) (make_array t n k)
  makes_number t n None = stuck_like Related Stuck
  makes_number t n (Some k) = makes (Array k) (replicate n (default_of t)) (replicate n (default_of t)) (each_replicate n (default_of t) (default_like t))

  makes_array : (t : JavaType) (v w : Value) → Related v w → Goes Related (create_array program t v) (create_array program t w)
  makes_array t (Int (negsuc n)) w r = rw r.0 (stuck_like Related (Trapped NegativeArraySizeException))
  makes_array t (Truth b) w r = rw r.0 (stuck_like Related Stuck)
  makes_array t Null w r = rw r.0 (stuck_like Related Stuck)
  makes_array t (Reference o) w r = rw r.0 (stuck_like Related Stuck)
  makes_array t (Int (pos n)) w r = rw r.0 (go (nat_lt 64 n))
    where
      go : (b : Bool) → Goes Related (if b then stop (Trapped ArrayTooLong) else make_array t n (array_number program.arrays (ArrayType t))) (if b then stop (Trapped ArrayTooLong) else make_array t n (array_number program.arrays (ArrayType t)))
      go true = stuck_like Related (Trapped ArrayTooLong)
      go false = makes_number t n (array_number program.arrays (ArrayType t))

  -- ---- what is thrown and caught

  throws_as : {A : Type 0} (S : A → A → Type 0) (k : Kind) (v w : Value) → Related v w → Goes S (throw_as k v) (throw_as k w)
  throws_as S k v w r = record { by = λ s s' l. (refl, with_thrown_like (Some v) (Some w) s s' r l) }

  each_default : (fs : List FieldOf) → Each Related (map (λ f. default_of f.type) fs) (map (λ f. default_of f.type) fs)
  each_default [] = tt
  each_default (f ∷ fs) = (default_like f.type, each_default fs)

  makes_object : (c : Option ℕ) → Goes Related (object_of_class program c) (object_of_class program c)
  makes_object None = stuck_like Related Stuck
  makes_object (Some c) = makes (Object c) _ _ (each_default (fields_of program.table c))

  pub objects : (k : Kind) → Goes Related (object_of program k) (object_of program k)
  objects k = record { by = λ s s' l. go s.thrown s'.thrown l.thrown s s' l }
    where
      go : (x y : Option Value) → OnOption Related x y → (s s' : State) → Like s s' → Meets Related (object_or_new program k x s) (object_or_new program k y s')
      go None None e s s' l = (makes_object (class_of_kind program k)).by s s' l
      go (Some v) (Some w) e s s' l = (e, with_thrown_like None None s s' tt l)
      go None (Some w) e s s' l = absurd e
      go (Some v) None e s s' l = absurd e

  -- reads after a trap that is caught
  abbrev then_caught : {A : Type 0} → Option (Run A) → State → List SlotPlace
  then_caught None s = []
  then_caught (Some m) s = (m s).reads

  reads_caught : {A : Type 0} (x : Option (Run A)) (o : Outcome A) → (caught_by x o).reads ≡ o.reads ++ then_caught x o.after
  reads_caught None o = sym (append-nil o.reads)
  reads_caught (Some m) o = refl

  abbrev there : {A : Type 0} → Result A Stop → State → List SlotPlace → Outcome A
  there r t ps = record { said = r; after = t; reads = ps }

  abbrev Behind : {A : Type 0} → (A → A → Type 0) → Option (Run A) → Option (Run A) → Result A Stop → Result A Stop → State → State → List SlotPlace → List SlotPlace → Type 0
  Behind S x y r r' t t' ps qs = Forked (renamed_place st.name) (KnownPlace st.candidates st.parameters st.Known st.left) st.Agree (Reaches S (caught_by x (there r t ps)) (caught_by y (there r' t' qs))) (then_caught x t) (then_caught y t')

  attempts : {A : Type 0} (S : A → A → Type 0) (m m' : Run A) (h h' : Kind → Option (Run A)) → Goes S m m' → ((k : Kind) → OnOption (λ (x y : Run A). Goes S x y) (h k) (h' k)) → Goes S (attempted m h) (attempted m' h')
  unfolding attempted
  attempts {A} S m m' h h' p q = record { by = λ s s' l. whole (m s) (m' s') (p.by s s' l) }
    where
      onward : (k : Kind) (t t' : State) (ps qs : List SlotPlace) → Like t t' → (x y : Option (Run A)) → OnOption (λ (x y : Run A). Goes S x y) x y → Behind S x y (Err (Trapped k)) (Err (Trapped k)) t t' ps qs
      onward k t t' ps qs l None None u = (refl, l)
      onward k t t' ps qs l (Some x) (Some y) u = u.by t t' l
      onward k t t' ps qs l None (Some y) u = absurd u
      onward k t t' ps qs l (Some x) None u = absurd u

      stopped : (x : Stop) (t t' : State) (ps qs : List SlotPlace) → Like t t' → Behind S (handled (Err x) h) (handled (Err x) h') (Err x) (Err x) t t' ps qs
      stopped (Trapped k) t t' ps qs l = onward k t t' ps qs l (h k) (h' k) (q k)
      stopped OutOfFuel t t' ps qs l = (refl, l)
      stopped Stuck t t' ps qs l = (refl, l)

      step : (r r' : Result A Stop) (t t' : State) (ps qs : List SlotPlace) → SaidLike S r r' → Like t t' → Behind S (handled r h) (handled r' h') r r' t t' ps qs
      step (Ok a) (Ok b) t t' ps qs e l = (e, l)
      step (Err x) (Err y) t t' ps qs e l = rw e (stopped x t t' ps qs l)
      step (Ok a) (Err y) t t' ps qs e l = absurd e
      step (Err x) (Ok b) t t' ps qs e l = absurd e

      whole : (o o' : Outcome A) → Meets S o o' → Meets S (caught_by (handled o.said h) o) (caught_by (handled o'.said h') o')
      whole o o' z =
          let x = handled o.said h in
          let y = handled o'.said h' in
          let both = forked_then (renamed_place st.name) (KnownPlace st.candidates st.parameters st.Known st.left) st.Agree (Reaches S o o') (Reaches S (caught_by x o) (caught_by y o')) o.reads o'.reads (then_caught x o.after) (then_caught y o'.after) z (λ w. step o.said o'.said o.after o'.after o.reads o'.reads w.0 w.1) in
          subst (λ (ps : List SlotPlace). Forked (renamed_place st.name) (KnownPlace st.candidates st.parameters st.Known st.left) st.Agree (Reaches S (caught_by x o) (caught_by y o')) ps (caught_by y o').reads) (sym (reads_caught x o))
          (subst (λ (qs : List SlotPlace). Forked (renamed_place st.name) (KnownPlace st.candidates st.parameters st.Known st.left) st.Agree (Reaches S (caught_by x o) (caught_by y o')) (o.reads ++ then_caught x o.after) qs) (sym (reads_caught y o')) both)

  -- ---- operators

  one_name : (o p : ℕ) → nat_eq (st.name o) (st.name p) ≡ nat_eq o p
  one_name o p = go (nat_eq o p) refl (nat_eq (st.name o) (st.name p)) refl
    where
      go : (a : Bool) → nat_eq o p ≡ a → (b : Bool) → nat_eq (st.name o) (st.name p) ≡ b → nat_eq (st.name o) (st.name p) ≡ nat_eq o p
      go true e true f = f ∙ sym e
      go false e false f = f ∙ sym e
      go true e false f = let h = eqb-true o p e in let g = eq-eqb (st.name o) (st.name p) (ap st.name h) in cc
      go false e true f = let h = st.apart o p (eqb-true (st.name o) (st.name p) f) in let g = eq-eqb o p h in cc

  chooses : {A : Type 0} (S : A → A → Type 0) (v v' : Value) (m m' n n' : Run A) → Related v v' → Goes S m m' → Goes S n n' → Goes S (choose v m n) (choose v' m' n')
  chooses S (Int i) v' m m' n n' r p q = rw r.0 (record { by = λ s s' l. (refl, l) })
  chooses S (Truth true) v' m m' n n' r p q = rw r.0 p
  chooses S (Truth false) v' m m' n n' r p q = rw r.0 q
  chooses S Null v' m m' n n' r p q = rw r.0 (record { by = λ s s' l. (refl, l) })
  chooses S (Reference o) v' m m' n n' r p q = rw r.0 (record { by = λ s s' l. (refl, l) })

  same_same : (v w : Value) → is_same_value (renamed_value st.name v) (renamed_value st.name w) ≡ is_same_value v w
  same_same (Reference o) (Reference p) = one_name o p
  same_same (Reference o) _ = refl
  same_same (Int m) (Int n) = refl
  same_same (Int m) _ = refl
  same_same (Truth true) (Truth b) = refl
  same_same (Truth true) _ = refl
  same_same (Truth false) (Truth b) = refl
  same_same (Truth false) _ = refl
  same_same Null Null = refl
  same_same Null _ = refl

  -- an operator that gives no reference
  applied_like : (r : Applied) → IsPlain r → SaidLike Related (said r) (said r)
  applied_like (Ok (Int z)) h = (refl, tt)
  applied_like (Ok (Truth b)) h = (refl, tt)
  applied_like (Ok Null) h = (refl, tt)
  applied_like (Ok (Reference o)) h = absurd h
  applied_like (Err ZeroDivisor) h = refl
  applied_like (Err NotDefined) h = refl

  into_like : (to : Option Width) (r : Applied) → IsPlain r → SaidLike Related (said (into to r)) (said (into to r))
  into_like to r h = applied_like (into to r) (into_plain to r h)

  references_like : (to : Option Width) (o : BinaryOperator) (b : Bool) → SaidLike Related (said (into to (of_references o b))) (said (into to (of_references o b)))
  references_like to o b = into_like to (of_references o b) (references_plain o b)

  -- operands that don't fit together
  undefined_like : (to : Option Width) → SaidLike Related (said (into to (Err NotDefined))) (said (into to (Err NotDefined)))
  undefined_like (Some w) = refl
  undefined_like None = refl

  operated_like : (o : BinaryOperation) (v w : Value) → SaidLike Related (operated o v w) (operated o (renamed_value st.name v) (renamed_value st.name w))
  operated_like o (Int m) (Int n) = into_like o.assigned (of_wholes o.width o.operator m n) (wholes_plain o.width o.operator m n)
  operated_like o (Truth a) (Truth b) = into_like o.assigned (of_booleans o.operator a b) (booleans_plain o.operator a b)
  operated_like o Null Null = references_like o.assigned o.operator true
  operated_like o Null (Reference p) = references_like o.assigned o.operator false
  operated_like o (Reference p) Null = references_like o.assigned o.operator false
  operated_like o (Reference p) (Reference q) = subst (λ (b : Bool). SaidLike Related (said (into o.assigned (of_references o.operator (nat_eq p q)))) (said (into o.assigned (of_references o.operator b)))) (sym (one_name p q)) (references_like o.assigned o.operator (nat_eq p q))
  operated_like o _ _ = undefined_like o.assigned

  operates : (o : BinaryOperation) (v v' w w' : Value) → Related v v' → Related w w' → Goes Related (say (operated o v w)) (say (operated o v' w'))
  operates o v v' w w' r q = rw (r.0, q.0) (say_like Related (operated o v w) (operated o (renamed_value st.name v) (renamed_value st.name w)) (operated_like o v w))

  alone_like : (width : Width) (o : UnaryOperator) (v : Value) → SaidLike Related (operated_alone (unary_operation width o) v) (operated_alone (unary_operation width o) (renamed_value st.name v))
  alone_like width o (Int m) = applied_like (apply_alone width o (Int m)) (alone_plain width o (Int m))
  alone_like width o (Truth b) = applied_like (apply_alone width o (Truth b)) (alone_plain width o (Truth b))
  alone_like width Not Null = refl
  alone_like width _ Null = refl
  alone_like width Not (Reference p) = refl
  alone_like width _ (Reference p) = refl

  operates_alone : (o : UnaryOperation) (v v' : Value) → Related v v' → Goes Related (say (operated_alone o v)) (say (operated_alone o v'))
  operates_alone o v v' r = rw r.0 (say_like Related (operated_alone o v) (operated_alone o (renamed_value st.name v)) (alone_like o.width o.operator v))

  -- ---- collections

  abbrev GivenLike : Result Value Kind → Result Value Kind → Type 0
  GivenLike (Ok v) (Ok w) = Related v w
  GivenLike (Err k) (Err j) = j ≡ k
  GivenLike _ _ = ⊥

  abbrev CollectedLike : Collected → Collected → Type 0
  CollectedLike c d = GivenLike c.given d.given × Each Related c.members d.members

  abbrev BothCollected : Option Collected → Option Collected → Type 0
  BothCollected c d = OnOption CollectedLike c d

  member_same : (v w : Value) → Related v w → (ms ns : List Value) → Each Related ms ns → has_member w ns ≡ has_member v ms
  member_same v w r [] [] e = refl
  member_same v w r (m ∷ ms) (n ∷ ns) e =
      let one : is_same_value n w ≡ is_same_value m v = ap (λ (x : Value). is_same_value x w) e.0.0 ∙ (ap (is_same_value (renamed_value st.name m)) r.0 ∙ same_same m v) in
      ap (λ (b : Bool). b || has_member w ns) one ∙ ap (λ (b : Bool). is_same_value m v || b) (member_same v w r ms ns e.1)
  member_same v w r [] (n ∷ ns) e = absurd e
  member_same v w r (m ∷ ms) [] e = absurd e

  without_like : (v w : Value) → Related v w → (ms ns : List Value) → Each Related ms ns → Each Related (without v ms) (without w ns)
  without_like v w r [] [] e = tt
  without_like v w r (m ∷ ms) (n ∷ ns) e =
      let one : is_same_value n w ≡ is_same_value m v = ap (λ (x : Value). is_same_value x w) e.0.0 ∙ (ap (is_same_value (renamed_value st.name m)) r.0 ∙ same_same m v) in
      subst (λ (b : Bool). Each Related (without v (m ∷ ms)) (if b then ns else n ∷ without w ns)) (sym one) (go (is_same_value m v) (without_like v w r ms ns e.1))
    where
      go : (b : Bool) → Each Related (without v ms) (without w ns) → Each Related (if b then ms else m ∷ without v ms) (if b then ns else n ∷ without w ns)
      go true rest = e.1
      go false rest = (e.0, rest)
  without_like v w r [] (n ∷ ns) e = absurd e
  without_like v w r (m ∷ ms) [] e = absurd e

  empty_same : (ms ns : List Value) → Each Related ms ns → is_empty ns ≡ is_empty ms
  empty_same [] [] e = refl
  empty_same (m ∷ ms) (n ∷ ns) e = refl
  empty_same [] (n ∷ ns) e = absurd e
  empty_same (m ∷ ms) [] e = absurd e

  added : (v w : Value) (ms ns : List Value) → Related v w → Each Related ms ns → Each Related (ms ++ v ∷ []) (ns ++ w ∷ [])
  added v w ms ns r e = each_append Related ms ns (v ∷ []) (w ∷ []) e (r, tt)

  adds : (class : Class) (v w : Value) (ms ns : List Value) → Related v w → Each Related ms ns → BothCollected (add class v ms) (add class w ns)
  adds (Object c) v w ms ns r e = tt
  adds (Array t) v w ms ns r e = tt
  adds ListClass v w ms ns r e = ((refl, tt), added v w ms ns r e)
  adds Set v w ms ns r e = subst (λ (b : Bool). BothCollected (add Set v ms) (added_once b w ns)) (sym (member_same v w r ms ns e)) (go (has_member v ms))
    where
      go : (b : Bool) → BothCollected (added_once b v ms) (added_once b w ns)
      go true = ((refl, tt), e)
      go false = ((refl, tt), added v w ms ns r e)

  removes_first : (class : Class) (ms ns : List Value) → Each Related ms ns → BothCollected (remove_first class ms) (remove_first class ns)
  removes_first (Object c) ms ns e = tt
  removes_first (Array t) ms ns e = tt
  removes_first Set ms ns e = tt
  removes_first ListClass [] [] e = (refl, tt)
  removes_first ListClass (m ∷ ms) (n ∷ ns) e = (e.0, e.1)
  removes_first ListClass [] (n ∷ ns) e = absurd e
  removes_first ListClass (m ∷ ms) [] e = absurd e

  either : (b : Bool) (c d x y : Option Collected) → BothCollected c x → BothCollected d y → BothCollected (if b then c else d) (if b then x else y)
  either true c d x y p q = p
  either false c d x y p q = q

  truths_like : (a b : Bool) (ms ns : List Value) → b ≡ a → Each Related ms ns → BothCollected (gives (Truth a) ms) (gives (Truth b) ns)
  truths_like a b ms ns e m = ((ap (λ (x : Bool). Truth x) e, tt), m)

  calls_with : (class : Class) (n : List ℕ) (v w : Value) (ms ns : List Value) → Related v w → Each Related ms ns → BothCollected (called_with class n v ms) (called_with class n w ns)
  calls_with class n v w ms ns r e =
      either (bytes_eq n (codes "add")) _ _ _ _ (adds class v w ms ns r e)
      (either (bytes_eq n (codes "contains")) _ _ _ _ (truths_like _ _ ms ns (member_same v w r ms ns e) e)
      (either (bytes_eq n (codes "remove")) _ _ _ _ (truths_like _ _ (without v ms) (without w ns) (member_same v w r ms ns e) (without_like v w r ms ns e)) tt))

  calls_alone : (class : Class) (n : List ℕ) (ms ns : List Value) → Each Related ms ns → BothCollected (called_alone class n ms) (called_alone class n ns)
  calls_alone class n ms ns e =
      either (bytes_eq n (codes "size")) _ _ _ _ ((ap (λ (k : ℕ). Int (pos (min k 2147483647))) (each_length Related ms ns e), tt), e)
      (either (bytes_eq n (codes "isEmpty")) _ _ _ _ (truths_like _ _ ms ns (empty_same ms ns e) e)
      (either (bytes_eq n (codes "removeFirst")) _ _ _ _ (removes_first class ms ns e) tt))

  calls_on : (class : Class) (n : List ℕ) (vs ws ms ns : List Value) → Each Related vs ws → Each Related ms ns → BothCollected (called_on class n vs ms) (called_on class n ws ns)
  calls_on class n [] [] ms ns r e = calls_alone class n ms ns e
  calls_on class n (v ∷ []) (w ∷ []) ms ns r e = calls_with class n v w ms ns r.0 e
  calls_on class n (v ∷ v' ∷ vs) (w ∷ w' ∷ ws) ms ns r e = tt
  calls_on class n [] (w ∷ ws) ms ns r e = absurd r
  calls_on class n (v ∷ vs) [] ms ns r e = absurd r
  calls_on class n (v ∷ []) (w ∷ w' ∷ ws) ms ns r e = absurd r.1
  calls_on class n (v ∷ v' ∷ vs) (w ∷ []) ms ns r e = absurd r.1

  collected_like : (class : Class) (n : List ℕ) (vs ws ms ns : List Value) → Each Related vs ws → Each Related ms ns → BothCollected (collected class n vs ms) (collected class n ws ns)
  collected_like class n vs ws ms ns r e = either (is_collection class) _ _ _ _ (calls_on class n vs ws ms ns r e) tt

  collects_of : (n : List ℕ) (o : ℕ) (vs ws : List Value) → st.Known o → Each Related vs ws → Goes Related (collect n (Reference o) vs) (collect n (Reference (st.name o)) ws)
  collects_of n o vs ws known r = record { by = λ s s' l. go s s' l (cases_lt o st.candidates) }
    where
      none : (class : Class) (xs ms : List Value) → is_collection class ≡ false → collected class n xs ms ≡ None
      none class xs ms e = ap (λ (b : Bool). if b then called_on class n xs ms else None) e

      said : (c d : Collected) → CollectedLike c d → SaidLike Related (collected_said c.given) (collected_said d.given)
      said c d e = by c.given d.given e.0
        where
          by : (x y : Result Value Kind) → GivenLike x y → SaidLike Related (collected_said x) (collected_said y)
          by (Ok v) (Ok w) e = e
          by (Err k) (Err j) e = ap (λ (x : Kind). Trapped x) e
          by (Ok v) (Err j) e = absurd e
          by (Err k) (Ok w) e = absurd e

      as_like : (s s' : State) → Like s s' → st.candidates ≤ o → (c d : Option Collected) → BothCollected c d → Meets Related (collect_as c o s) (collect_as d o s')
      as_like s s' l le None None e = (refl, l)
      as_like s s' l le (Some c) (Some d) e = (said c d e, with_heap_like _ _ s s' (set_like s.heap s'.heap o _ _ le (λ lt. ((l.heap.made o le known).0, e.1)) l.heap) l)
      as_like s s' l le None (Some d) e = absurd e
      as_like s s' l le (Some c) None e = absurd e

      go : (s s' : State) → Like s s' → (o < st.candidates) ⊎ (st.candidates ≤ o) → Meets Related (collect n (Reference o) vs s) (collect n (Reference (st.name o)) ws s')
      go s s' l (inl lt) =
          let e : is_collection (object_in s.heap o).class ≡ false = ap (λ (x : HeapObject). is_collection x.class) (l.heap.left o lt) ∙ st.plain o lt in
          let e' : is_collection (object_in s'.heap (st.name o)).class ≡ false = ap is_collection (class_same s.heap s'.heap l.heap o known) ∙ e in
          rw (none (object_in s.heap o).class vs (object_in s.heap o).values e, none (object_in s'.heap (st.name o)).class ws (object_in s'.heap (st.name o)).values e') (refl, l)
      go s s' l (inr le) =
          let m = l.heap.made o le known in
          subst (λ (p : ℕ). Meets Related (collect n (Reference o) vs s) (collect n (Reference p) ws s')) (sym (st.fixes o le))
          (subst (λ (c : Class). Meets Related (collect_as (collected (object_in s.heap o).class n vs (object_in s.heap o).values) o s) (collect_as (collected c n ws (object_in s'.heap o).values) o s')) (sym m.0)
          (as_like s s' l le _ _ (collected_like (object_in s.heap o).class n vs ws (object_in s.heap o).values (object_in s'.heap o).values r m.1)))

  pub collects : (n : List ℕ) (o o' : Value) (vs ws : List Value) → Related o o' → Each Related vs ws → Goes Related (collect n o vs) (collect n o' ws)
  collects n (Int i) o' vs ws r e = rw r.0 (record { by = λ s s' l. (refl, l) })
  collects n (Truth b) o' vs ws r e = rw r.0 (record { by = λ s s' l. (refl, l) })
  collects n Null o' vs ws r e = rw r.0 (record { by = λ s s' l. (refl, l) })
  collects n (Reference o) o' vs ws r e = rw r.0 (collects_of n o vs ws r.1 e)

  goes_logic : Logic program MayStore MayPut
  goes_logic = record {
    R = Related;
    Rel = λ S m m'. Goes S m m';
    gives_ = λ S a b e. record { by = λ s s' l. (e, l) };
    stops = stuck_like;
    binds = bind_goes;
    ticks = ticks;
    ints = λ z. (refl, tt);
    truths = λ b. (refl, tt);
    nulls = (refl, tt);
    gets_this = record { by = λ s s' l. (l.this_value, l) };
    gets_result = gets_result;
    gets_old = gets_old;
    loads = loads;
    loads_length = loads_length;
    elements = elements;
    classes = classes;
    reads_local = reads_local;
    declares = declares;
    assigns = assigns;
    stores = stores;
    stores_new = stores_new;
    stores_element = stores_element;
    makes = makes;
    makes_array = makes_array;
    collects = collects;
    operates = operates;
    operates_alone = operates_alone;
    chooses = chooses;
    withins = withins;
    scopes = scopes;
    throws_as = throws_as;
    objects = objects;
    attempts = attempts;
  }

  -- a whole expression: where the two candidates agree on the places read, the two runs agree
  pub value_goes : (Q : Node → Type 0) → IsCode program MayStore MayPut Q → (scope : Scope) (e : Tree) → AllOf Q (code scope e) → Goes Related (value program scope e) (value program scope e)
  unfolding value goes_logic
  value_goes Q closed scope e h = record { by = λ s s' l. subst (λ (n : ℕ). Meets Related (eval program s.fuel scope e s) (eval program n scope e s')) (sym l.fuel) ((evals program MayStore MayPut Q closed goes_logic s.fuel scope e h).by s s' l) }

  -- the body of a method
  pub method_goes : (Q : Node → Type 0) → IsCode program MayStore MayPut Q → (n : ℕ) (o o' : Value) (vs ws : List Value) (m : Option Method) → AllOf (λ k. AllOf Q (code_of_method program k)) (Rattle.std.specs.Prelude.option_to_list m) → Related o o' → Each Related vs ws
      → Goes Related (run_method program (parts_within program n) o vs m) (run_method program (parts_within program n) o' ws m)
  unfolding goes_logic
  method_goes Q closed n o o' vs ws m h r e = runs_method program MayStore MayPut Q closed goes_logic (parts_within program n) (parts_within program n) (parts_alike program MayStore MayPut Q closed goes_logic n) o o' vs ws m h r e
