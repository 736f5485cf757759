-- Each construct respects whatever relation between runs the steps respect.
use Rattle.std.proofs.Common.{◌≡◌, ℕ, zero, suc, inl, inr, Bool, true, false, List, [], ◌∷◌, ◌++◌, length, Option, Some, None, refl, subst}
use Rattle.std.specs.Prelude.{ℤ, pos, flat_map, map, codes, bytes_eq, option_and_then, option_to_list, if◌then◌else◌}
use Rattle.kr_base.specs.declared.place.Place.{Place}
use Rattle.kr_ast.specs.declared.node.UnaryOperator.TheVariants.{Plus}
use Rattle.kr_ast.specs.declared.node.BinaryOperator.{BinaryOperator}
use Rattle.kr_ast.specs.declared.node.BinaryOperator.TheVariants.{And, Or}
use Rattle.kr_ast.specs.Tree as trees
use Rattle.kr_ast.specs.Tree.{Tree}
use Rattle.kr_value.specs.declared.value.Value.{Value}
use Rattle.kr_value.specs.declared.value.Value.TheVariants.{Int, Bool as Truth, Null, Ref as Reference}
use Rattle.kr_value.specs.declared.object.Class.{Class}
use Rattle.kr_value.specs.declared.object.Class.TheVariants.{Object, Array, Set, List as ListClass}
use Rattle.kr_value.specs.declared.object.Spot.TheVariants.{Field as FieldSpot, Length}
use Rattle.kr_classes_table.specs.Types.{JavaType, NumberType, BooleanType, NullType, VoidType, ClassType, ArrayType, SetType, ListType, InferredType, UnknownType, AppliedType, is_void}
use Rattle.kr_classes_table.specs.Table.{Field, Method, Constructor, items, fields_of, line_of, method_named}
use Rattle.kr_classes_table.specs.Constants.{constant_in, constant_of, value_at}
use Rattle.kr_classes_table.specs.Numbers.{Width, Bits32, Bits64, wrap}
use Rattle.kr_types_meaning.specs.Scopes.{Scope, Meant, LocalName, FieldName, NoName, written, caught_type, after, meant, class_before, static_only, method_meant, bind_local as with_local}
use Rattle.kr_mean.specs.declared.kind.Kind.{Kind}
use Rattle.kr_mean.specs.declared.kind.Kind.TheVariants.{NullPointerException, ClassCastException, NoReturn}
use Rattle.kr_mean.specs.declared.kind.Stop.{Stop}
use Rattle.kr_mean.specs.declared.kind.Stop.TheVariants.{Trapped, OutOfFuel, Stuck}
use Rattle.kr_mean.specs.Program.{Program, default_of, is_of_type, field_position, overriding, class_scope, method_scope, constructor_scope, constructor_of, declared_fields}
use Rattle.kr_mean.specs.Steps.{Run, say, give, stop, given, not_null, ◌>>=◌, tick, get_this, read_local, declare, assign, get_result, get_old, within, scoped, load, load_at, load_in, load_field, element, class_or_null, class_of, store, store_new, store_element, make, collect}
use Rattle.kr_mean.specs.Thrown.{class_of_kind, kind_of, throw_as, throw_in, throw, is_caught, object_of, attempted}
use Rattle.kr_mean.specs.declared.operations.BinaryOperation.{BinaryOperation}
use Rattle.kr_mean.specs.declared.operations.UnaryOperation.{UnaryOperation}
use Rattle.kr_mean.specs.declared.operations.StepOperation.{StepOperation}
use Rattle.kr_mean.specs.Operators.{operated, operated_alone, binary_operation, compound_operation, unary_operation, step_operation, step_binary, gives_old}
use Rattle.kr_mean.specs.declared.flow.Flow.{Flow}
use Rattle.kr_mean.specs.declared.flow.Flow.TheVariants.{Next, Broke, Continued, Left, Gave}
use Rattle.kr_mean.specs.Meaning.{Parts, Target, LocalTarget, OwnField, FieldOf, ElementOf, NoTarget, Change, then_on, then_round, then_update, returned, completed, choose, values_of, all, updates, condition, rounds, constant, read_name, access, typed_method, run_body, run_method, run_chosen, own_call, called, method_call, super_method, super_arguments, initialised, all_initialised, constructed_by, constructed, create, create_array, target_of, assigned, changed, compound, change_from, stepped, binary, cast, is_primitive, instance, value_of, initial_value, declared, all_declared, declaring_locals, catch_run, caught, flow_of, statement, spent, parts_within, eval, exec, primitive_cast, width_at, width_of, operand_width}
use Rattle.kr_mean.specs.Code.{Node, code, code_of_all, code_of_method, code_of_constructor, code_of_class, overriders, runnable, runnable_behind, methods_run, classes_run, code_run}
use Rattle.kr_mean.specs.Purity.{IsOneOf, written_by}
use Rattle.kr_laws_runs.proofs.Overriders.{overrider_in}

abbrev pub Any : {A : Type 0} → A → A → Type 0
Any a b = Unit {0}

abbrev pub Same : {A : Type 0} → A → A → Type 0
Same a b = b ≡ a

abbrev pub Each : {A : Type 0} → (A → A → Type 0) → List A → List A → Type 0
Each S [] [] = Unit {0}
Each S (a ∷ xs) (b ∷ ys) = S a b × Each S xs ys
Each S _ _ = ⊥

abbrev pub OnOption : {A : Type 0} → (A → A → Type 0) → Option A → Option A → Type 0
OnOption S None None = Unit {0}
OnOption S (Some a) (Some b) = S a b
OnOption S _ _ = ⊥

abbrev pub OnFlow : (Value → Value → Type 0) → Flow → Flow → Type 0
OnFlow R Next Next = Unit {0}
OnFlow R Broke Broke = Unit {0}
OnFlow R Continued Continued = Unit {0}
OnFlow R Left Left = Unit {0}
OnFlow R (Gave v) (Gave w) = R v w
OnFlow R _ _ = ⊥

abbrev pub OnChange : (Value → Value → Type 0) → Change → Change → Type 0
OnChange R c d = R c.new d.new × R c.given d.given

abbrev pub AllOf : {A : Type 0} → (A → Type 0) → List A → Type 0
AllOf Q [] = Unit {0}
AllOf Q (x ∷ xs) = Q x × AllOf Q xs

pub all_front : {A : Type 0} (Q : A → Type 0) (xs ys : List A) → AllOf Q (xs ++ ys) → AllOf Q xs
all_front Q [] ys h = tt
all_front Q (x ∷ xs) ys h = (h.0, all_front Q xs ys h.1)

pub all_back : {A : Type 0} (Q : A → Type 0) (xs ys : List A) → AllOf Q (xs ++ ys) → AllOf Q ys
all_back Q [] ys h = h
all_back Q (x ∷ xs) ys h = all_back Q xs ys h.1

pub all_both : {A : Type 0} (Q : A → Type 0) (xs ys : List A) → AllOf Q xs → AllOf Q ys → AllOf Q (xs ++ ys)
all_both Q [] ys h k = k
all_both Q (x ∷ xs) ys h k = (h.0, all_both Q xs ys h.1 k)

pub all_parts : {A B : Type 0} (Q : B → Type 0) (f : A → List B) (xs : List A) → AllOf Q (flat_map f xs) → AllOf (λ x. AllOf Q (f x)) xs
all_parts Q f [] h = tt
all_parts Q f (x ∷ xs) h = (all_front Q (f x) (flat_map f xs) h, all_parts Q f xs (all_back Q (f x) (flat_map f xs) h))

pub all_at : {A : Type 0} (P : A → Type 0) (x : A) (xs : List A) → AllOf P xs → IsOneOf x xs → P x
all_at P x [] h i = absurd i
all_at P x (y ∷ ys) h (inl e) = subst P e h.0
all_at P x (y ∷ ys) h (inr i) = all_at P x ys h.1 i

-- the places that may be written
abbrev pub MayWrite : (Field → Type 0) → (JavaType → Type 0) → Target → Type 0
MayWrite MayStore MayPut (LocalTarget k) = Unit {0}
MayWrite MayStore MayPut (OwnField f) = MayStore f
MayWrite MayStore MayPut (FieldOf e f) = MayStore f
MayWrite MayStore MayPut (ElementOf a i t) = MayPut t
MayWrite MayStore MayPut NoTarget = Unit {0}

-- A relation between runs that each step respects. Fields and elements that may not be written are left out.
pub record Logic (program : Program) (MayStore : Field → Type 0) (MayPut : JavaType → Type 0) : Type 1 where
  pub R : Value → Value → Type 0
  pub Rel : {A : Type 0} → (A → A → Type 0) → Run A → Run A → Type 0
  pub gives_ : {A : Type 0} (S : A → A → Type 0) (a b : A) → S a b → Rel S (give a) (give b)
  pub stops : {A : Type 0} (S : A → A → Type 0) (e : Stop) → Rel S (stop e) (stop e)
  pub binds : {A B : Type 0} (S : A → A → Type 0) (T : B → B → Type 0) (m m' : Run A) (f f' : A → Run B) → Rel S m m' → ((a b : A) → S a b → Rel T (f a) (f' b)) → Rel T (m >>= f) (m' >>= f')
  pub ticks : Rel Any tick tick
  pub ints : (z : ℤ) → R (Int z) (Int z)
  pub truths : (b : Bool) → R (Truth b) (Truth b)
  pub nulls : R Null Null
  pub gets_this : Rel R get_this get_this
  pub gets_result : Rel R get_result get_result
  pub gets_old : (p : Place) → Rel R (get_old p) (get_old p)
  pub reads_local : (k : ℕ) → Rel R (read_local k) (read_local k)
  pub declares : (v w : Value) → R v w → Rel Any (declare v) (declare w)
  pub assigns : (k : ℕ) (v w : Value) → R v w → Rel Any (assign k v) (assign k w)
  pub loads : (o o' : Value) (k : ℕ) → R o o' → Rel R (load o (FieldSpot k)) (load o' (FieldSpot k))
  pub loads_length : (o o' : Value) → R o o' → Rel R (load o Length) (load o' Length)
  pub elements : (o o' i j : Value) → R o o' → R i j → Rel R (element o i) (element o' j)
  pub classes : (o o' : Value) → R o o' → Rel Same (class_or_null o) (class_or_null o')
  pub stores : (f : Field) (o o' v w : Value) → MayStore f → R o o' → R v w → Rel Any (store program f o v) (store program f o' w)
  pub stores_new : (f : Field) (o o' v w : Value) → R o o' → R v w → Rel Any (store_new program f o v) (store_new program f o' w)
  pub stores_element : (t : JavaType) (o o' i j v w : Value) → MayPut t → R o o' → R i j → R v w → Rel Any (store_element program t o i v) (store_element program t o' j w)
  pub makes : (class : Class) (vs ws : List Value) → Each R vs ws → Rel R (make class vs) (make class ws)
  pub makes_array : (t : JavaType) (v w : Value) → R v w → Rel R (create_array program t v) (create_array program t w)
  pub collects : (n : List ℕ) (o o' : Value) (vs ws : List Value) → R o o' → Each R vs ws → Rel R (collect n o vs) (collect n o' ws)
  pub operates : (o : BinaryOperation) (v v' w w' : Value) → R v v' → R w w' → Rel R (say (operated o v w)) (say (operated o v' w'))
  pub operates_alone : (o : UnaryOperation) (v v' : Value) → R v v' → Rel R (say (operated_alone o v)) (say (operated_alone o v'))
  pub chooses : {A : Type 0} (S : A → A → Type 0) (v v' : Value) (m m' n n' : Run A) → R v v' → Rel S m m' → Rel S n n' → Rel S (choose v m n) (choose v' m' n')
  pub withins : {A : Type 0} (S : A → A → Type 0) (o o' : Value) (n : ℕ) (vs ws : List Value) (m m' : Run A) → R o o' → Each R vs ws → Rel S m m' → Rel S (within o n vs m) (within o' n ws m')
  pub scopes : {A : Type 0} (S : A → A → Type 0) (m m' : Run A) → Rel S m m' → Rel S (scoped m) (scoped m')
  pub throws_as : {A : Type 0} (S : A → A → Type 0) (k : Kind) (v w : Value) → R v w → Rel S (throw_as k v) (throw_as k w)
  pub objects : (k : Kind) → Rel R (object_of program k) (object_of program k)
  pub attempts : {A : Type 0} (S : A → A → Type 0) (m m' : Run A) (h h' : Kind → Option (Run A)) → Rel S m m' → ((k : Kind) → OnOption (λ (x y : Run A). Rel S x y) (h k) (h' k)) → Rel S (attempted m h) (attempted m' h')

-- Nodes of code: closed under what they run, and none of them writes what may not be written.
pub record IsCode (program : Program) (MayStore : Field → Type 0) (MayPut : JavaType → Type 0) (Q : Node → Type 0) : Type 0 where
  pub runs : (node : Node) → Q node → AllOf Q (code_run program node)
  pub writes : (node : Node) → Q node → MayWrite MayStore MayPut (written_by node.scope node.tree)

module _ (program : Program) (MayStore : Field → Type 0) (MayPut : JavaType → Type 0) (Q : Node → Type 0) (closed : IsCode program MayStore MayPut Q) (l : Logic program MayStore MayPut) where
  -- trees of code
  abbrev pub Coded : Scope → Tree → Type 0
  Coded s e = AllOf Q (code s e)

  abbrev pub AllCoded : Scope → List Tree → Type 0
  AllCoded s ts = AllOf Q (code_of_all s ts)

  each_item : (s : Scope) (t : Tree) → Coded s t → AllCoded s (items t)
  each_item s (trees.Cons a b) h = all_both Q (code s a) (code_of_all (after s a) (items b)) (all_front Q (code s a) (code (after s a) b) h) (each_item (after s a) b (all_back Q (code s a) (code (after s a) b) h))
  each_item s _ h = tt

  abbrev pub RunsAlike : {A : Type 0} → (A → A → Type 0) → (Scope → Tree → Run A) → (Scope → Tree → Run A) → Type 0
  RunsAlike S f f' = (s : Scope) (t : Tree) → Coded s t → l.Rel S (f s t) (f' s t)

  -- the parts of a node are alike, and so are its loops
  pub record PartsAlike (p p' : Parts) : Type 0 where
    pub value : RunsAlike l.R p.value p'.value
    pub exec : RunsAlike (OnFlow l.R) p.exec p'.exec
    pub loops : (test test' : Run Value) (body body' : Run Flow) → l.Rel l.R test test' → l.Rel (OnFlow l.R) body body' → l.Rel (OnFlow l.R) (p.rounds test body) (p'.rounds test' body')

  -- ---- steps of steps

  not_nulls : (x y : Option Class) → y ≡ x → l.Rel Same (not_null x) (not_null y)
  not_nulls None y e = rw e (l.stops Same (Trapped NullPointerException))
  not_nulls (Some c) y e = rw e (l.gives_ Same c c refl)

  classes_of_ : (o o' : Value) → l.R o o' → l.Rel Same (class_of o) (class_of o')
  classes_of_ o o' r = l.binds _ _ _ _ _ _ (l.classes o o' r) (λ x y e. not_nulls x y e)

  loads_at : (o o' : Value) (k : Option ℕ) → l.R o o' → l.Rel l.R (load_at o k) (load_at o' k)
  loads_at o o' None r = l.stops l.R Stuck
  loads_at o o' (Some k) r = l.loads o o' k r

  loads_in : (o o' : Value) (n : List ℕ) (class : Class) → l.R o o' → l.Rel l.R (load_in program o n class) (load_in program o' n class)
  loads_in o o' n (Object c) r = loads_at o o' (field_position program c n) r
  loads_in o o' n Set r = l.stops l.R Stuck
  loads_in o o' n ListClass r = l.stops l.R Stuck
  loads_in o o' n (Array t) r = go (bytes_eq n (codes "length"))
    where
      go : (b : Bool) → l.Rel l.R (if b then load o Length else stop Stuck) (if b then load o' Length else stop Stuck)
      go true = l.loads_length o o' r
      go false = l.stops l.R Stuck

  loads_field : (n : List ℕ) (o o' : Value) → l.R o o' → l.Rel l.R (load_field program n o) (load_field program n o')
  loads_field n o o' r = l.binds _ _ _ _ _ _ (classes_of_ o o' r) (λ c d e. rw e (loads_in o o' n c r))

  constant_same : (c : Value) → l.Rel l.R (given (constant_in c)) (given (constant_in c))
  constant_same (Int z) = l.gives_ l.R _ _ (l.ints z)
  constant_same (Truth b) = l.gives_ l.R _ _ (l.truths b)
  constant_same Null = l.gives_ l.R _ _ l.nulls
  constant_same (Reference o) = l.stops l.R Stuck

  constants : (s : Scope) (f : Option Field) → l.Rel l.R (constant s f) (constant s f)
  constants s None = l.stops l.R Stuck
  constants s (Some f) = go (value_at s.values f.place)
    where
      go : (x : Option Value) → l.Rel l.R (given (option_and_then constant_in x)) (given (option_and_then constant_in x))
      go None = l.stops l.R Stuck
      go (Some c) = constant_same c

  reads_name : (s : Scope) (m : Meant) → l.Rel l.R (read_name program s m) (read_name program s m)
  reads_name s (LocalName k t) = l.reads_local k
  reads_name s NoName = l.stops l.R Stuck
  reads_name s (FieldName f) = go f.is_static
    where
      go : (b : Bool) → l.Rel l.R (if b then constant s (Some f) else get_this >>= load_field program f.name) (if b then constant s (Some f) else get_this >>= load_field program f.name)
      go true = constants s (Some f)
      go false = l.binds _ _ _ _ _ _ l.gets_this (λ o o' r. loads_field f.name o o' r)

  -- ---- where statements lead

  thens : (v w : Flow) (m m' : Run Flow) → OnFlow l.R v w → l.Rel (OnFlow l.R) m m' → l.Rel (OnFlow l.R) (then_on v m) (then_on w m')
  thens Next Next m m' r p = p
  thens Broke Broke m m' r p = l.gives_ (OnFlow l.R) Broke Broke tt
  thens Continued Continued m m' r p = l.gives_ (OnFlow l.R) Continued Continued tt
  thens Left Left m m' r p = l.gives_ (OnFlow l.R) Left Left tt
  thens (Gave v) (Gave w) m m' r p = l.gives_ (OnFlow l.R) (Gave v) (Gave w) r
  thens _ _ m m' r p = absurd r

  pub then_rounds : (v w : Flow) (m m' : Run Flow) → OnFlow l.R v w → l.Rel (OnFlow l.R) m m' → l.Rel (OnFlow l.R) (then_round v m) (then_round w m')
  then_rounds Next Next m m' r p = p
  then_rounds Broke Broke m m' r p = l.gives_ (OnFlow l.R) Next Next tt
  then_rounds Continued Continued m m' r p = p
  then_rounds Left Left m m' r p = l.gives_ (OnFlow l.R) Left Left tt
  then_rounds (Gave v) (Gave w) m m' r p = l.gives_ (OnFlow l.R) (Gave v) (Gave w) r
  then_rounds _ _ m m' r p = absurd r

  pub then_updates : (v w : Flow) (m m' : Run Flow) → OnFlow l.R v w → l.Rel (OnFlow l.R) m m' → l.Rel (OnFlow l.R) (then_update v m) (then_update w m')
  then_updates Next Next m m' r p = p
  then_updates Broke Broke m m' r p = l.gives_ (OnFlow l.R) Broke Broke tt
  then_updates Continued Continued m m' r p = p
  then_updates Left Left m m' r p = l.gives_ (OnFlow l.R) Left Left tt
  then_updates (Gave v) (Gave w) m m' r p = l.gives_ (OnFlow l.R) (Gave v) (Gave w) r
  then_updates _ _ m m' r p = absurd r

  returns : (b : Bool) (v w : Flow) → OnFlow l.R v w → l.Rel l.R (returned b v) (returned b w)
  returns true Next Next r = l.gives_ l.R Null Null l.nulls
  returns false Next Next r = l.stops l.R (Trapped NoReturn)
  returns true Left Left r = l.gives_ l.R Null Null l.nulls
  returns false Left Left r = l.stops l.R Stuck
  returns b Broke Broke r = l.stops l.R Stuck
  returns b Continued Continued r = l.stops l.R Stuck
  returns true (Gave v) (Gave w) r = l.stops l.R Stuck
  returns false (Gave v) (Gave w) r = l.gives_ l.R v w r
  returns b _ _ r = absurd r

  completes : (v w : Flow) → OnFlow l.R v w → l.Rel Any (completed v) (completed w)
  completes Next Next r = l.gives_ Any tt tt tt
  completes Left Left r = l.gives_ Any tt tt tt
  completes Broke Broke r = l.stops Any Stuck
  completes Continued Continued r = l.stops Any Stuck
  completes (Gave v) (Gave w) r = l.stops Any Stuck
  completes _ _ r = absurd r

  pub roundss : (n : ℕ) (test test' : Run Value) (body body' : Run Flow) → l.Rel l.R test test' → l.Rel (OnFlow l.R) body body' → l.Rel (OnFlow l.R) (rounds n test body) (rounds n test' body')
  roundss zero test test' body body' p q = l.stops (OnFlow l.R) OutOfFuel
  roundss (suc n) test test' body body' p q =
      l.binds _ _ _ _ _ _ l.ticks (λ x y u. l.binds _ _ _ _ _ _ p (λ v w r. l.chooses (OnFlow l.R) v w _ _ _ _ r (l.binds _ _ _ _ _ _ q (λ a b s. then_rounds a b _ _ s (roundss n test test' body body' p q))) (l.gives_ (OnFlow l.R) Next Next tt)))

  binaries : (width : Width) (o : BinaryOperator) (m m' n n' : Run Value) → l.Rel l.R m m' → l.Rel l.R n n' → l.Rel l.R (binary width o m n) (binary width o m' n')
  binaries width And m m' n n' p q = l.binds _ _ _ _ _ _ p (λ v w r. l.chooses l.R v w _ _ _ _ r q (l.gives_ l.R (Truth false) (Truth false) (l.truths false)))
  binaries width Or m m' n n' p q = l.binds _ _ _ _ _ _ p (λ v w r. l.chooses l.R v w _ _ _ _ r (l.gives_ l.R (Truth true) (Truth true) (l.truths true)) q)
  binaries width o m m' n n' p q = l.binds _ _ _ _ _ _ p (λ v v' r. l.binds _ _ _ _ _ _ q (λ w w' s. l.operates (binary_operation width o) v v' w w' r s))

  casts : (t : JavaType) (v w : Value) (c d : Option Class) → l.R v w → d ≡ c → l.Rel l.R (cast program t v c) (cast program t w d)
  casts t v w None d r e = rw e (l.gives_ l.R v w r)
  casts t v w (Some c) d r e = rw e (go (is_of_type program t c))
    where
      go : (b : Bool) → l.Rel l.R (if b then give v else stop (Trapped ClassCastException)) (if b then give w else stop (Trapped ClassCastException))
      go true = l.gives_ l.R v w r
      go false = l.stops l.R (Trapped ClassCastException)

  converts : (t : JavaType) (m m' : Run Value) → l.Rel l.R m m' → l.Rel l.R (primitive_cast t m) (primitive_cast t m')
  converts (NumberType w) m m' p = l.binds _ _ _ _ _ _ p (λ v v' r. l.operates_alone (unary_operation w Plus) v v' r)
  converts _ m m' p = p

  instances : (t : JavaType) (c d : Option Class) → d ≡ c → l.Rel l.R (give (instance program t c)) (give (instance program t d))
  instances t None d e = rw e (l.gives_ l.R _ _ (l.truths false))
  instances t (Some c) d e = rw e (l.gives_ l.R _ _ (l.truths (is_of_type program t c)))

  defaults : (t : JavaType) → l.R (default_of t) (default_of t)
  defaults (NumberType w) = l.ints (pos 0)
  defaults BooleanType = l.truths false
  defaults NullType = l.nulls
  defaults VoidType = l.nulls
  defaults (ClassType c) = l.nulls
  defaults (ArrayType t) = l.nulls
  defaults (SetType t) = l.nulls
  defaults (ListType t) = l.nulls
  defaults InferredType = l.nulls
  defaults (UnknownType o n) = l.nulls
  defaults (AppliedType h t) = l.nulls

  all_defaults : (fs : List Field) → Each l.R (map (λ f. default_of f.type) fs) (map (λ f. default_of f.type) fs)
  all_defaults [] = tt
  all_defaults (f ∷ fs) = (defaults f.type, all_defaults fs)

  compounds : (o : BinaryOperation) (m m' : Run Value) → l.Rel l.R m m' → (v w : Value) → l.R v w → l.Rel (OnChange l.R) (compound o m v) (compound o m' w)
  compounds o m m' p v w r = l.binds _ _ _ _ _ _ p (λ x y s. l.binds _ _ _ _ _ _ (l.operates o v w x y r s) (λ a b t. l.gives_ (OnChange l.R) _ _ (t, t)))

  steps_alike : (o : StepOperation) (v w : Value) → l.R v w → l.Rel (OnChange l.R) (stepped o v) (stepped o w)
  steps_alike o v w r = l.binds _ _ _ _ _ _ (l.operates (step_binary o) v w (Int (pos 1)) (Int (pos 1)) r (l.ints (pos 1))) (λ a b t. go (gives_old o.operator) a b t)
    where
      go : (old : Bool) (a b : Value) → l.R a b → l.Rel (OnChange l.R) (give (change_from old v a)) (give (change_from old w b))
      go true a b t = l.gives_ (OnChange l.R) _ _ (t, r)
      go false a b t = l.gives_ (OnChange l.R) _ _ (t, t)

  module _ (p p' : Parts) (q : PartsAlike p p') where
    valuess : (s : Scope) (ts : List Tree) → AllCoded s ts → l.Rel (Each l.R) (values_of p s ts) (values_of p' s ts)
    valuess s [] h = l.gives_ (Each l.R) [] [] tt
    valuess s (t ∷ ts) h =
        l.binds _ _ _ _ _ _ (q.value s t (all_front Q (code s t) (code_of_all (after s t) ts) h)) (λ v w r. l.binds _ _ _ _ _ _ (valuess (after s t) ts (all_back Q (code s t) (code_of_all (after s t) ts) h)) (λ vs ws u. l.gives_ (Each l.R) (v ∷ vs) (w ∷ ws) (r, u)))

    pub alls : (s : Scope) (ts : List Tree) → AllCoded s ts → l.Rel (OnFlow l.R) (all p s ts) (all p' s ts)
    alls s [] h = l.gives_ (OnFlow l.R) Next Next tt
    alls s (t ∷ ts) h =
        l.binds _ _ _ _ _ _ (q.exec s t (all_front Q (code s t) (code_of_all (after s t) ts) h)) (λ v w r. thens v w _ _ r (alls (after s t) ts (all_back Q (code s t) (code_of_all (after s t) ts) h)))

    pub updatess : (s : Scope) (ts : List Tree) → AllCoded s ts → l.Rel (OnFlow l.R) (updates p s ts) (updates p' s ts)
    updatess s [] h = l.gives_ (OnFlow l.R) Next Next tt
    updatess s (t ∷ ts) h = l.binds _ _ _ _ _ _ (q.value s t (all_front Q (code s t) (code_of_all (after s t) ts) h)) (λ v w r. updatess (after s t) ts (all_back Q (code s t) (code_of_all (after s t) ts) h))

    -- ---- calls

    runs_body : (m : Method) → AllOf Q (code_of_method program m) → l.Rel l.R (run_body program p m) (run_body program p' m)
    runs_body m h = l.binds _ _ _ _ _ _ (alls (method_scope program m) m.body h) (λ v w s. returns (is_void m.result) v w s)

    abbrev CodedMethod : Method → Type 0
    CodedMethod m = AllOf Q (code_of_method program m)

    pub runs_method : (o o' : Value) (vs ws : List Value) (m : Option Method) → AllOf CodedMethod (option_to_list m) → l.R o o' → Each l.R vs ws → l.Rel l.R (run_method program p o vs m) (run_method program p' o' ws m)
    runs_method o o' vs ws None h r s = l.stops l.R Stuck
    runs_method o o' vs ws (Some m) h r s = l.withins l.R o o' (length m.parameters) vs ws _ _ r s (runs_body m h.0)

    overriding_coded : (m : Method) (class : Class) → AllOf CodedMethod (overriders program m) → AllOf CodedMethod (option_to_list (overriding program m class))
    overriding_coded m class h = go (overriding program m class) refl
      where
        go : (x : Option Method) → overriding program m class ≡ x → AllOf CodedMethod (option_to_list x)
        go None e = tt
        go (Some n) e = (all_at CodedMethod n (overriders program m) h (overrider_in program m class n e), tt)

    -- a method that may be run
    chosen_coded : (m : Method) → AllOf CodedMethod (runnable program (Some m)) → (o o' : Value) (vs ws : List Value) (class : Class) → l.R o o' → Each l.R vs ws → l.Rel l.R (run_chosen program p m o vs class) (run_chosen program p' m o' ws class)
    chosen_coded m h o o' vs ws class r s = go m.is_static h
      where
        go : (b : Bool) → AllOf CodedMethod (if b then m ∷ [] else overriders program m)
            → l.Rel l.R (if b then run_method program p Null vs (Some m) else run_method program p o vs (overriding program m class)) (if b then run_method program p' Null ws (Some m) else run_method program p' o' ws (overriding program m class))
        go true k = runs_method Null Null vs ws (Some m) k l.nulls s
        go false k = runs_method o o' vs ws (overriding program m class) (overriding_coded m class k) r s

    own_calls : (m : Option Method) → AllOf CodedMethod (runnable program m) → (vs ws : List Value) → Each l.R vs ws → l.Rel l.R (own_call program p vs m) (own_call program p' ws m)
    own_calls None h vs ws s = l.stops l.R Stuck
    own_calls (Some m) h vs ws s = go m.is_static h
      where
        go : (b : Bool) → AllOf CodedMethod (if b then m ∷ [] else overriders program m)
            → l.Rel l.R (if b then run_method program p Null vs (Some m) else (get_this >>= (λ o. class_of o >>= (λ class. run_method program p o vs (overriding program m class))))) (if b then run_method program p' Null ws (Some m) else (get_this >>= (λ o. class_of o >>= (λ class. run_method program p' o ws (overriding program m class)))))
        go true k = runs_method Null Null vs ws (Some m) k l.nulls s
        go false k = l.binds _ _ _ _ _ _ l.gets_this (λ o o' r. l.binds _ _ _ _ _ _ (classes_of_ o o' r) (λ c d e. rw e (runs_method o o' vs ws (overriding program m c) (overriding_coded m c k) r s)))

    calleds : (n : List ℕ) (o o' : Value) (vs ws : List Value) (m : Option Method) → AllOf CodedMethod (runnable program m) → l.R o o' → Each l.R vs ws → l.Rel l.R (called program p n o vs m) (called program p' n o' ws m)
    calleds n o o' vs ws None h r s = l.collects n o o' vs ws r s
    calleds n o o' vs ws (Some m) h r s = l.binds _ _ _ _ _ _ (classes_of_ o o' r) (λ c d e. rw e (chosen_coded m h o o' vs ws c r s))

    method_calls : (s : Scope) (e : Tree) (n : List ℕ) (es : List Tree) (c : Option ℕ) → Coded s e → AllCoded s es → AllOf CodedMethod (runnable_behind program s e n c) → l.Rel l.R (method_call program p s e n es c) (method_call program p' s e n es c)
    method_calls s e n es (Some c) h k m = l.binds _ _ _ _ _ _ (valuess s es k) (λ vs ws u. runs_method Null Null vs ws (option_and_then static_only (method_named s.table c n)) m l.nulls u)
    method_calls s e n es None h k m = l.binds _ _ _ _ _ _ (q.value s e h) (λ o o' r. l.binds _ _ _ _ _ _ (valuess s es k) (λ vs ws u. calleds n o o' vs ws (typed_method s e n) m r u))

    -- ---- creation

    super_argumentss : (s : Scope) (t : Tree) → Coded s t → l.Rel (Each l.R) (super_arguments p s t) (super_arguments p' s t)
    super_argumentss s (trees.ConstructorCall r es) h = l.binds _ _ _ _ _ _ l.ticks (λ x y u. valuess s (items es) (each_item s es h.1))
    super_argumentss s _ h = l.gives_ (Each l.R) [] [] tt

    initial_by : (o o' : Value) (f : Field) (e : Tree) → Coded (class_scope program f.class) e → l.R o o' → l.Rel Any (p.value (class_scope program f.class) e >>= (λ v. store_new program f o v)) (p'.value (class_scope program f.class) e >>= (λ v. store_new program f o' v))
    initial_by o o' f e h r = l.binds _ _ _ _ _ _ (q.value (class_scope program f.class) e h) (λ v w s. l.stores_new f o o' v w r s)

    initialiseds : (o o' : Value) (f : Field) (e : Tree) → Coded (class_scope program f.class) e → l.R o o' → l.Rel Any (initialised program p o f e) (initialised program p' o' f e)
    initialiseds o o' f trees.Nil h r = l.gives_ Any tt tt tt
    initialiseds o o' f e h r = initial_by o o' f e h r

    all_initialiseds : (o o' : Value) (fs : List Field) → AllOf (λ f. Coded (class_scope program f.class) f.initial) fs → l.R o o' → l.Rel Any (all_initialised program p o fs) (all_initialised program p' o' fs)
    all_initialiseds o o' [] h r = l.gives_ Any tt tt tt
    all_initialiseds o o' (f ∷ fs) h r = l.binds _ _ _ _ _ _ (initialiseds o o' f f.initial h.0 r) (λ x y u. all_initialiseds o o' fs h.1 r)

    abbrev CodedClass : ℕ → Type 0
    CodedClass c = AllOf Q (code_of_class program c)

    constructed_bys : (c : ℕ) (k : Option Constructor) → AllOf (λ f. Coded (class_scope program f.class) f.initial) (declared_fields program c) → AllOf (λ x. AllOf Q (code_of_constructor program c x)) (option_to_list k)
        → (o o' : Value) (vs ws : List Value) (up up' : List Value → Run (Unit {0})) → ((es gs : List Value) → Each l.R es gs → l.Rel Any (up es) (up' gs)) → l.R o o' → Each l.R vs ws
        → l.Rel Any (constructed_by program p c k o vs up) (constructed_by program p' c k o' ws up')
    constructed_bys c None f h o o' vs ws up up' u r s =
        l.withins Any o o' 0 vs ws _ _ r s (l.binds Any Any (up []) (up' []) (λ x. all_initialised program p o (declared_fields program c)) (λ x. all_initialised program p' o' (declared_fields program c)) (u [] [] tt) (λ x y t. all_initialiseds o o' (declared_fields program c) f r))
    constructed_bys c (Some k) f h o o' vs ws up up' u r s =
        l.withins Any o o' (length k.parameters) vs ws _ _ r s
        (l.binds (Each l.R) Any _ _ _ _ (super_argumentss (constructor_scope program c k) k.call (all_front Q (code (constructor_scope program c k) k.call) (code_of_all (constructor_scope program c k) k.body) h.0)) (λ es gs t.
        l.binds Any Any (up es) (up' gs) _ _ (u es gs t) (λ x y t.
        l.binds Any Any _ _ _ _ (l.withins Any o o' 0 [] [] _ _ r tt (all_initialiseds o o' (declared_fields program c) f r)) (λ x y t.
        l.binds (OnFlow l.R) Any _ _ _ _ (alls (constructor_scope program c k) k.body (all_back Q (code (constructor_scope program c k) k.call) (code_of_all (constructor_scope program c k) k.body) h.0)) (λ v w t. completes v w t)))))

    constructeds : (cs : List ℕ) → AllOf CodedClass cs → (o o' : Value) (vs ws : List Value) → l.R o o' → Each l.R vs ws → l.Rel Any (constructed program p cs o vs) (constructed program p' cs o' ws)
    constructeds [] h o o' [] [] r s = l.gives_ Any tt tt tt
    constructeds [] h o o' (v ∷ vs) (w ∷ ws) r s = l.stops Any Stuck
    constructeds [] h o o' [] (w ∷ ws) r s = absurd s
    constructeds [] h o o' (v ∷ vs) [] r s = absurd s
    constructeds (c ∷ cs) h o o' vs ws r s =
        let initials = flat_map (λ f. code (class_scope program f.class) f.initial) (declared_fields program c) in
        let constructors = flat_map (code_of_constructor program c) (option_to_list (constructor_of program c)) in
        constructed_bys c (constructor_of program c) (all_parts Q (λ f. code (class_scope program f.class) f.initial) (declared_fields program c) (all_front Q initials constructors h.0))
        (all_parts Q (code_of_constructor program c) (option_to_list (constructor_of program c)) (all_back Q initials constructors h.0)) o o' vs ws (constructed program p cs o) (constructed program p' cs o') (λ es gs t. constructeds cs h.1 o o' es gs r t) r s

    creates : (t : JavaType) → AllOf CodedClass (Rattle.kr_mean.specs.Code.classes_of program t) → (vs ws : List Value) → Each l.R vs ws → l.Rel l.R (create program p t vs) (create program p' t ws)
    creates (ClassType c) h vs ws s =
        l.binds l.R l.R _ _ _ _ (l.makes (Object c) _ _ (all_defaults (fields_of program.table c))) (λ o o' r. l.binds Any l.R _ _ _ _ (constructeds (line_of program.table c) h o o' vs ws r s) (λ x y u. l.gives_ l.R o o' r))
    creates (SetType t) h [] [] s = l.makes Set [] [] tt
    creates (ListType t) h [] [] s = l.makes ListClass [] [] tt
    creates (SetType t) h (v ∷ vs) (w ∷ ws) s = l.stops l.R Stuck
    creates (ListType t) h (v ∷ vs) (w ∷ ws) s = l.stops l.R Stuck
    creates (SetType t) h [] (w ∷ ws) s = absurd s
    creates (ListType t) h [] (w ∷ ws) s = absurd s
    creates (SetType t) h (v ∷ vs) [] s = absurd s
    creates (ListType t) h (v ∷ vs) [] s = absurd s
    creates _ h vs ws s = l.stops l.R Stuck

    -- ---- writes

    abbrev CodedTarget : Scope → Target → Type 0
    CodedTarget s (FieldOf e f) = Coded s e
    CodedTarget s (ElementOf a i t) = Coded s a × Coded s i
    CodedTarget s _ = Unit {0}

    assigneds : (s : Scope) (t : Target) → CodedTarget s t → MayWrite MayStore MayPut t → (m m' : Run Value) → l.Rel l.R m m' → l.Rel l.R (assigned program p s t m) (assigned program p' s t m')
    assigneds s (LocalTarget k) h w m m' r = l.binds _ _ _ _ _ _ r (λ v v' i. l.binds _ _ _ _ _ _ (l.assigns k v v' i) (λ x y j. l.gives_ l.R v v' i))
    assigneds s (OwnField f) h w m m' r = l.binds _ _ _ _ _ _ r (λ v v' i. l.binds _ _ _ _ _ _ l.gets_this (λ o o' k. l.binds _ _ _ _ _ _ (l.stores f o o' v v' w k i) (λ x y j. l.gives_ l.R v v' i)))
    assigneds s (FieldOf e f) h w m m' r = l.binds _ _ _ _ _ _ (q.value s e h) (λ o o' k. l.binds _ _ _ _ _ _ r (λ v v' i. l.binds _ _ _ _ _ _ (l.stores f o o' v v' w k i) (λ x y j. l.gives_ l.R v v' i)))
    assigneds s (ElementOf a i t) h w m m' r =
        l.binds _ _ _ _ _ _ (q.value s a h.0) (λ o o' k. l.binds _ _ _ _ _ _ (q.value s i h.1) (λ j j' u. l.binds _ _ _ _ _ _ r (λ v v' z. l.binds _ _ _ _ _ _ (l.stores_element t o o' j j' v v' w k u z) (λ x y d. l.gives_ l.R v v' z))))
    assigneds s NoTarget h w m m' r = l.stops l.R Stuck

    changeds : (s : Scope) (t : Target) → CodedTarget s t → MayWrite MayStore MayPut t → (f f' : Value → Run Change) → ((v v' : Value) → l.R v v' → l.Rel (OnChange l.R) (f v) (f' v')) → l.Rel l.R (changed program p s t f) (changed program p' s t f')
    changeds s (LocalTarget k) h w f f' r = l.binds _ _ _ _ _ _ (l.reads_local k) (λ v v' i. l.binds _ _ _ _ _ _ (r v v' i) (λ c d u. l.binds _ _ _ _ _ _ (l.assigns k c.new d.new u.0) (λ x y j. l.gives_ l.R c.given d.given u.1)))
    changeds s (OwnField g) h w f f' r =
        l.binds _ _ _ _ _ _ l.gets_this (λ o o' k. l.binds _ _ _ _ _ _ (loads_field g.name o o' k) (λ v v' i. l.binds _ _ _ _ _ _ (r v v' i) (λ c d u. l.binds _ _ _ _ _ _ (l.stores g o o' c.new d.new w k u.0) (λ x y j. l.gives_ l.R c.given d.given u.1))))
    changeds s (FieldOf e g) h w f f' r =
        l.binds _ _ _ _ _ _ (q.value s e h) (λ o o' k. l.binds _ _ _ _ _ _ (loads_field g.name o o' k) (λ v v' i. l.binds _ _ _ _ _ _ (r v v' i) (λ c d u. l.binds _ _ _ _ _ _ (l.stores g o o' c.new d.new w k u.0) (λ x y j. l.gives_ l.R c.given d.given u.1))))
    changeds s (ElementOf a i t) h w f f' r =
        l.binds _ _ _ _ _ _ (q.value s a h.0) (λ o o' k. l.binds _ _ _ _ _ _ (q.value s i h.1) (λ j j' z. l.binds _ _ _ _ _ _ (l.elements o o' j j' k z) (λ v v' g. l.binds _ _ _ _ _ _ (r v v' g) (λ c d u. l.binds _ _ _ _ _ _ (l.stores_element t o o' j j' c.new d.new w k z u.0) (λ x y b. l.gives_ l.R c.given d.given u.1)))))
    changeds s NoTarget h w f f' r = l.stops l.R Stuck

    target_coded : (s : Scope) (t : Tree) → Coded s t → CodedTarget s (target_of s t)
    target_coded s (trees.Variable r n) h = go (meant s n)
      where
        named : (b : Bool) (f : Field) → CodedTarget s (if b then NoTarget else OwnField f)
        named true f = tt
        named false f = tt

        go : (m : Meant) → CodedTarget s (Rattle.kr_mean.specs.Meaning.name_target m)
        go (LocalName k t) = tt
        go (FieldName f) = named f.is_static f
        go NoName = tt
    target_coded s (trees.FieldAccess r e n) h = go (Rattle.kr_mean.specs.Meaning.typed_field s e n)
      where
        go : (f : Option Field) → CodedTarget s (Rattle.kr_mean.specs.Meaning.field_target e f)
        go (Some f) = h.1
        go None = tt
    target_coded s (trees.ArrayAccess r a i) h = go (Rattle.kr_types_meaning.specs.Typing.type_of s a)
      where
        here_ : Coded s a × Coded s i
        here_ = (all_front Q (code s a) (code s i) h.1, all_back Q (code s a) (code s i) h.1)

        go : (t : Option JavaType) → CodedTarget s (Rattle.kr_mean.specs.Meaning.element_target a i t)
        go (Some (ArrayType t)) = here_
        go (Some (NumberType w)) = tt
        go (Some BooleanType) = tt
        go (Some NullType) = tt
        go (Some VoidType) = tt
        go (Some (ClassType c)) = tt
        go (Some (SetType t)) = tt
        go (Some (ListType t)) = tt
        go (Some InferredType) = tt
        go (Some (UnknownType o n)) = tt
        go (Some (AppliedType x t)) = tt
        go None = tt
    target_coded s _ h = tt

    -- ---- nodes

    accesses : (s : Scope) (e : Tree) (n : List ℕ) (c : Option ℕ) → Coded s e → l.Rel l.R (access program p s e n c) (access program p' s e n c)
    accesses s e n (Some c) h = constants s (constant_of s.table (Some c) n)
    accesses s e n None h = l.binds _ _ _ _ _ _ (q.value s e h) (λ o o' r. loads_field n o o' r)

    methods_coded : (node : Node) → Q node → AllOf CodedMethod (methods_run program node.scope node.tree)
    methods_coded node h =
        all_parts Q (code_of_method program) (methods_run program node.scope node.tree) (all_front Q (flat_map (code_of_method program) (methods_run program node.scope node.tree)) (flat_map (code_of_class program) (classes_run program node.scope node.tree)) (closed.runs node h))

    classes_coded : (node : Node) → Q node → AllOf CodedClass (classes_run program node.scope node.tree)
    classes_coded node h =
        all_parts Q (code_of_class program) (classes_run program node.scope node.tree) (all_back Q (flat_map (code_of_method program) (methods_run program node.scope node.tree)) (flat_map (code_of_class program) (classes_run program node.scope node.tree)) (closed.runs node h))

    casts_by : (s : Scope) (t e : Tree) → Coded s e → (b : Bool) → l.Rel l.R (if b then primitive_cast (written s t) (p.value s e) else (p.value s e >>= (λ v. class_or_null v >>= cast program (written s t) v))) (if b then primitive_cast (written s t) (p'.value s e) else (p'.value s e >>= (λ v. class_or_null v >>= cast program (written s t) v)))
    casts_by s t e h true = converts (written s t) _ _ (q.value s e h)
    casts_by s t e h false = l.binds _ _ _ _ _ _ (q.value s e h) (λ v w r. l.binds _ _ _ _ _ _ (l.classes v w r) (λ c d i. casts (written s t) v w c d r i))

    pub values : RunsAlike l.R (value_of program p) (value_of program p')
    values s (trees.Number _ n) h = l.gives_ l.R _ _ (l.ints (wrap Bits32 (pos n)))
    values s (trees.LongNumber _ n) h = l.gives_ l.R _ _ (l.ints (wrap Bits64 (pos n)))
    values s (trees.Truth _ b) h = l.gives_ l.R _ _ (l.truths b)
    values s (trees.Null _) h = l.gives_ l.R _ _ l.nulls
    values s (trees.This _) h = l.gets_this
    values s (trees.Variable _ n) h = reads_name s (meant s n)
    values s (trees.FieldAccess _ e n) h = accesses s e n (class_before s e) h.1
    values s (trees.ArrayAccess _ a i) h = l.binds _ _ _ _ _ _ (q.value s a (all_front Q (code s a) (code s i) h.1)) (λ o o' r. l.binds _ _ _ _ _ _ (q.value s i (all_back Q (code s a) (code s i) h.1)) (λ j j' u. l.elements o o' j j' r u))
    values s (trees.Call r n es) h = l.binds _ _ _ _ _ _ (valuess s (items es) (each_item s es h.1)) (λ vs ws u. own_calls (method_meant s n) (methods_coded (record { scope = s; tree = trees.Call r n es }) h.0) vs ws u)
    values s (trees.MethodCall r e n es) h = method_calls s e n (items es) (class_before s e) (all_front Q (code s e) (code s es) h.1) (each_item s es (all_back Q (code s e) (code s es) h.1)) (methods_coded (record { scope = s; tree = trees.MethodCall r e n es }) h.0)
    values s (trees.SuperCall r n es) h =
        l.binds _ _ _ _ _ _ l.gets_this (λ o o' k. l.binds _ _ _ _ _ _ (valuess s (items es) (each_item s es h.1)) (λ vs ws u. runs_method o o' vs ws (super_method s n) (methods_coded (record { scope = s; tree = trees.SuperCall r n es }) h.0) k u))
    values s (trees.ObjectCreation r t es) h = l.binds _ _ _ _ _ _ (valuess s (items es) (each_item s es h.1)) (λ vs ws u. creates (written s t) (classes_coded (record { scope = s; tree = trees.ObjectCreation r t es }) h.0) vs ws u)
    values s (trees.ArrayCreation _ t e) h = l.binds _ _ _ _ _ _ (q.value s e h.1) (λ v w r. l.makes_array (written s t) v w r)
    values s (trees.Unary _ o e) h = l.binds _ _ _ _ _ _ (q.value s e h.1) (λ v w r. l.operates_alone (unary_operation (operand_width s o e) o) v w r)
    values s (trees.Step r o e) h = let c = step_operation (width_at s e) o in changeds s (target_of s e) (target_coded s e h.1) (closed.writes (record { scope = s; tree = trees.Step r o e }) h.0) (stepped c) (stepped c) (steps_alike c)
    values s (trees.Binary _ o a b) h = binaries (width_of s o a b) o _ _ _ _ (q.value s a (all_front Q (code s a) (code s b) h.1)) (q.value s b (all_back Q (code s a) (code s b) h.1))
    values s (trees.InstanceOf _ e t) h = l.binds _ _ _ _ _ _ (q.value s e h.1) (λ v w r. l.binds _ _ _ _ _ _ (l.classes v w r) (λ c d i. instances (written s t) c d i))
    values s (trees.Conditional _ c a b) h =
        let k = all_front Q (code s c ++ code s a) (code s b) h.1 in
        l.binds _ _ _ _ _ _ (q.value s c (all_front Q (code s c) (code s a) k)) (λ v w r. l.chooses l.R v w _ _ _ _ r (q.value s a (all_back Q (code s c) (code s a) k)) (q.value s b (all_back Q (code s c ++ code s a) (code s b) h.1)))
    values s (trees.Cast _ t e) h = casts_by s t e h.1 (is_primitive t)
    values s (trees.Assignment r a e) h =
        assigneds s (target_of s a) (target_coded s a (all_front Q (code s a) (code s e) h.1)) (closed.writes (record { scope = s; tree = trees.Assignment r a e }) h.0) _ _ (q.value s e (all_back Q (code s a) (code s e) h.1))
    values s (trees.CompoundAssignment r o a e) h =
        changeds s (target_of s a) (target_coded s a (all_front Q (code s a) (code s e) h.1)) (closed.writes (record { scope = s; tree = trees.CompoundAssignment r o a e }) h.0) _ _ (compounds (compound_operation (width_at s a) (width_of s o a e) o) _ _ (q.value s e (all_back Q (code s a) (code s e) h.1)))
    values s (trees.Result _) h = l.gets_result
    values s (trees.Old r e) h = l.gets_old r
    values s _ h = l.stops l.R Stuck

    -- ---- statements

    initial_value_by : (s : Scope) (k : ℕ) (e : Tree) → Coded s e → l.Rel Any (p.value s e >>= assign k) (p'.value s e >>= assign k)
    initial_value_by s k e h = l.binds _ _ _ _ _ _ (q.value s e h) (λ v w r. l.assigns k v w r)

    pub initial_values : (s : Scope) (k : ℕ) (e : Tree) → Coded s e → l.Rel Any (initial_value p s k e) (initial_value p' s k e)
    initial_values s k trees.Nil h = l.gives_ Any tt tt tt
    initial_values s k e h = initial_value_by s k e h

    pub declareds : (s : Scope) (t : Tree) → Coded s t → l.Rel Any (declared p s t) (declared p' s t)
    declareds s (trees.Declarator r n e) h =
        l.binds _ _ _ _ _ _ l.ticks (λ x y u. l.binds _ _ _ _ _ _ (l.declares (default_of s.declared) (default_of s.declared) (defaults s.declared)) (λ x y u. initial_values (with_local n s.declared s) (length s.locals) e h.1))
    declareds s _ h = l.stops Any Stuck

    pub all_declareds : (s : Scope) (ts : List Tree) → AllCoded s ts → l.Rel (OnFlow l.R) (all_declared p s ts) (all_declared p' s ts)
    all_declareds s [] h = l.gives_ (OnFlow l.R) Next Next tt
    all_declareds s (t ∷ ts) h = l.binds _ _ _ _ _ _ (declareds s t (all_front Q (code s t) (code_of_all (after s t) ts) h)) (λ x y u. all_declareds (after s t) ts (all_back Q (code s t) (code_of_all (after s t) ts) h))

    pub conditions : (s : Scope) (e : Tree) → Coded s e → l.Rel l.R (condition p s e) (condition p' s e)
    conditions s trees.Nil h = l.gives_ l.R _ _ (l.truths true)
    conditions s e h = q.value s e h

    returned_by : (s : Scope) (e : Tree) → Coded s e → l.Rel (OnFlow l.R) (p.value s e >>= (λ v. give (Gave v))) (p'.value s e >>= (λ v. give (Gave v)))
    returned_by s e h = l.binds _ _ _ _ _ _ (q.value s e h) (λ v w r. l.gives_ (OnFlow l.R) (Gave v) (Gave w) r)

    return_goes : (r : Place) (s : Scope) (e : Tree) → Coded s e → l.Rel (OnFlow l.R) (flow_of program p s (trees.Return r e)) (flow_of program p' s (trees.Return r e))
    return_goes r s trees.Nil h = l.gives_ (OnFlow l.R) Left Left tt
    return_goes r s e h = returned_by s e h

    throws_in : (v w : Value) (class : Class) → l.R v w → l.Rel (OnFlow l.R) (throw_in program v class) (throw_in program w class)
    throws_in v w (Object c) r = l.throws_as (OnFlow l.R) (kind_of program c) v w r
    throws_in v w (Array t) r = l.stops (OnFlow l.R) Stuck
    throws_in v w Set r = l.stops (OnFlow l.R) Stuck
    throws_in v w ListClass r = l.stops (OnFlow l.R) Stuck

    throws : (v w : Value) → l.R v w → l.Rel (OnFlow l.R) (throw program v) (throw program w)
    throws v w r = l.binds _ _ _ _ _ _ (classes_of_ v w r) (λ c d e. rw e (throws_in v w c r))

    catch_runs : (s : Scope) (d b : Tree) (k : Kind) → Coded (after s d) b → l.Rel (OnFlow l.R) (catch_run program p s d b k) (catch_run program p' s d b k)
    catch_runs s d b k h =
        l.scopes (OnFlow l.R) _ _ (l.binds _ _ _ _ _ _ l.ticks (λ x y u. l.binds _ _ _ _ _ _ (l.objects k) (λ o o' r. l.binds _ _ _ _ _ _ (l.declares o o' r) (λ x y u. q.exec (after s d) b h))))

    -- the same clause fits
    caughts : (s : Scope) (cs : List Tree) → AllCoded s cs → (k : Kind) → OnOption (λ (x y : Run Flow). l.Rel (OnFlow l.R) x y) (caught program p s cs k) (caught program p' s cs k)
    caughts s [] h k = tt
    caughts s (trees.Catch r d b ∷ cs) h k = go (is_caught program (caught_type s d) (class_of_kind program k)) (caughts s cs (all_back Q (code s (trees.Catch r d b)) (code_of_all s cs) h) k)
      where
        go : (x : Bool) → OnOption (λ (x y : Run Flow). l.Rel (OnFlow l.R) x y) (caught program p s cs k) (caught program p' s cs k) → OnOption (λ (x y : Run Flow). l.Rel (OnFlow l.R) x y) (if x then Some (catch_run program p s d b k) else caught program p s cs k) (if x then Some (catch_run program p' s d b k) else caught program p' s cs k)
        go true rest = catch_runs s d b k (all_front Q (code s (trees.Catch r d b)) (code_of_all s cs) h).1
        go false rest = rest
    caughts s (t ∷ cs) h k = tt

    pub flows : RunsAlike (OnFlow l.R) (flow_of program p) (flow_of program p')
    flows s (trees.Empty _) h = l.gives_ (OnFlow l.R) Next Next tt
    flows s (trees.Block _ ts) h = l.scopes (OnFlow l.R) _ _ (alls s (items ts) (each_item s ts h.1))
    flows s (trees.ExpressionStatement _ e) h = l.binds _ _ _ _ _ _ (q.value s e h.1) (λ v w r. l.gives_ (OnFlow l.R) Next Next tt)
    flows s (trees.IfThen _ e a) h = l.binds _ _ _ _ _ _ (q.value s e (all_front Q (code s e) (code s a) h.1)) (λ v w r. l.chooses (OnFlow l.R) v w _ _ _ _ r (q.exec s a (all_back Q (code s e) (code s a) h.1)) (l.gives_ (OnFlow l.R) Next Next tt))
    flows s (trees.IfElse _ e a b) h =
        let k = all_front Q (code s e ++ code s a) (code s b) h.1 in
        l.binds _ _ _ _ _ _ (q.value s e (all_front Q (code s e) (code s a) k)) (λ v w r. l.chooses (OnFlow l.R) v w _ _ _ _ r (q.exec s a (all_back Q (code s e) (code s a) k)) (q.exec s b (all_back Q (code s e ++ code s a) (code s b) h.1)))
    flows s (trees.While _ e a) h = q.loops _ _ _ _ (q.value s e (all_front Q (code s e) (code s a) h.1)) (q.exec s a (all_back Q (code s e) (code s a) h.1))
    flows s (trees.Do _ a e) h =
        let x = q.exec s a (all_front Q (code s a) (code s e) h.1) in
        l.binds _ _ _ _ _ _ x (λ v w r. then_rounds v w _ _ r (q.loops _ _ _ _ (q.value s e (all_back Q (code s a) (code s e) h.1)) x))
    flows s (trees.For _ i e u a) h =
        let inside = after s i in
        let k = all_front Q (code s i ++ code inside e ++ code inside u) (code inside a) h.1 in
        let k' = all_front Q (code s i ++ code inside e) (code inside u) k in
        l.scopes (OnFlow l.R) _ _ (l.binds _ _ _ _ _ _ (alls s (items i) (each_item s i (all_front Q (code s i) (code inside e) k'))) (λ v w r.
        thens v w _ _ r (q.loops _ _ _ _ (conditions inside e (all_back Q (code s i) (code inside e) k'))
        (l.binds _ _ _ _ _ _ (q.exec inside a (all_back Q (code s i ++ code inside e ++ code inside u) (code inside a) h.1)) (λ v w r. then_updates v w _ _ r (updatess inside (items u) (each_item inside u (all_back Q (code s i ++ code inside e) (code inside u) k))))))))
    flows s (trees.Break _) h = l.gives_ (OnFlow l.R) Broke Broke tt
    flows s (trees.Continue _) h = l.gives_ (OnFlow l.R) Continued Continued tt
    flows s (trees.Return r e) h = return_goes r s e h.1
    flows s (trees.Throw _ e) h = l.binds _ _ _ _ _ _ (q.value s e h.1) (λ v w r. throws v w r)
    flows s (trees.Try _ b cs) h = l.attempts (OnFlow l.R) _ _ _ _ (q.exec s b (all_front Q (code s b) (code s cs) h.1)) (caughts s (items cs) (each_item s cs (all_back Q (code s b) (code s cs) h.1)))
    flows s _ h = l.stops (OnFlow l.R) Stuck

    pub statements : RunsAlike (OnFlow l.R) (statement program p) (statement program p')
    statements s (trees.Local _ t ds) h = all_declareds (declaring_locals s t) (items ds) (each_item (declaring_locals s t) ds h.1)
    statements s t h = l.binds _ _ _ _ _ _ l.ticks (λ x y u. flows s t h)

  mutual
    unfolding eval exec

    -- a whole run respects what its steps do
    pub evals : (n : ℕ) → RunsAlike l.R (eval program n) (eval program n)
    evals zero s e h = l.stops l.R OutOfFuel
    evals (suc n) s e h = l.binds _ _ _ _ _ _ l.ticks (λ x y u. values (parts_within program n) (parts_within program n) (record { value = evals n; exec = execs n; loops = roundss n }) s e h)

    pub execs : (n : ℕ) → RunsAlike (OnFlow l.R) (exec program n) (exec program n)
    execs zero s t h = statements spent spent (record { value = λ s t h. l.stops l.R OutOfFuel; exec = λ s t h. l.stops (OnFlow l.R) OutOfFuel; loops = λ t t' b b' p q. l.stops (OnFlow l.R) OutOfFuel }) s t h
    execs (suc n) s t h = statements (parts_within program n) (parts_within program n) (record { value = evals n; exec = execs n; loops = roundss n }) s t h

  pub parts_alike : (n : ℕ) → PartsAlike (parts_within program n) (parts_within program n)
  parts_alike n = record { value = evals n; exec = execs n; loops = roundss n }
