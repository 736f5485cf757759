-- Lists of parts, methods and constructors of code do what those of the program do.
use Rattle.std.proofs.Common.{◌≡◌, ℕ, List, [], ◌∷◌, ◌++◌, length, Option, Some, None, refl, sym, ap, ◌∙◌}
use Rattle.std.specs.Prelude.{map, All, IsSome}
use Rattle.std.proofs.lemmas.List.Elements.{All-head, All-tail}
use Rattle.kr_ast.specs.Tree as trees
use Rattle.kr_ast.specs.Tree.{Tree}
use Rattle.kr_value.specs.declared.value.Value.{Value}
use Rattle.kr_value.specs.declared.object.Class.{Class}
use Rattle.kr_value.specs.declared.object.Class.TheVariants.{Object}
use Rattle.kr_classes_table.specs.Types.{ClassType, is_void}
use Rattle.kr_classes_table.specs.Table as declared
use Rattle.kr_classes_table.specs.Table.{Field, Method, items, fields_of, line_of}
use Rattle.kr_types_meaning.specs.Scopes.{Scope, after}
use Rattle.kr_mean.specs.Program.{Program, default_of, overriding, class_scope, method_scope, constructor_scope, constructor_of, declared_fields}
use Rattle.kr_mean.specs.Steps.{Run, ◌>>=◌, ◌>>◌, tick, within, make, store_new}
use Rattle.kr_mean.specs.Code as meaning
use Rattle.kr_mean.specs.Meaning as means
use Rattle.kr_mean.specs.Meaning.{Parts, returned, values_of, all, updates, run_body, super_arguments, value, execute, unbounded}
use Rattle.kr_code.specs.declared.code.Code.{Code}
use Rattle.kr_code.specs.declared.code.MethodCode.{MethodCode}
use Rattle.kr_code.specs.declared.code.ClassCode.{ClassCode}
use Rattle.kr_code.specs.declared.code.Constructor.{Constructor}
use Rattle.kr_code.specs.declared.code.Initialiser.{Initialiser}
use Rattle.kr_code.specs.declared.expression.Nodes.{Nodes}
use Rattle.kr_code.specs.Tables.{node_at, initialiser_of, listed, values_in, method_at, class_at, method_in}
use Rattle.kr_code.specs.Doing as doings
use Rattle.kr_code.specs.Doing.{Doing, values_at, all_at, updates_at, run_numbered, super_values}
use Rattle.kr_code.specs.Resolved.{Numbering, IsPart, AreParts, IsMethod, IsMethodCode, IsInitialiser, AreInitialisers, initial_or_none, initialised_fields, AreArguments, IsMaybeConstructor, IsClassCode, IsMaybeMethod, AreTables}
use Rattle.kr_code_laws.specs.Laws.{doing_of}
use Rattle.kr_code_laws.proofs.Agreeing.{Agree, then_same, given_first, within_same, on_same}
use Rattle.kr_code_laws.proofs.Lookups.{stores_initial}

module _ (program : Program) (code : Code) (n : Numbering) (tables : AreTables program code n) where
  abbrev d : Doing
  d = doing_of program n

  abbrev p : Parts
  p = unbounded program

  pub value_part : (s : Scope) (t : Tree) (i : ℕ) → IsPart n s t i → Agree (d.value i) (p.value s t)
  value_part s t i e state = ap (λ (x : meaning.Node). value program x.scope x.tree state) e

  pub exec_part : (s : Scope) (t : Tree) (i : ℕ) → IsPart n s t i → Agree (d.exec i) (p.exec s t)
  exec_part s t i e state = ap (λ (x : meaning.Node). execute program x.scope x.tree state) e

  -- ---- lists

  pub values_parts : (s : Scope) (ts : List Tree) (is : List ℕ) → AreParts n s ts is → Agree (values_at d is) (values_of p s ts)
  values_parts s [] [] h = λ state. refl
  values_parts s (t ∷ ts) (i ∷ is) h = then_same (d.value i) (p.value s t) _ _ (value_part s t i h.0) (λ v. then_same (values_at d is) (values_of p (after s t) ts) _ _ (values_parts (after s t) ts is h.1) (λ vs state. refl))
  values_parts s [] (i ∷ is) h = absurd h
  values_parts s (t ∷ ts) [] h = absurd h

  pub all_parts : (s : Scope) (ts : List Tree) (is : List ℕ) → AreParts n s ts is → Agree (all_at d is) (all p s ts)
  all_parts s [] [] h = λ state. refl
  all_parts s (t ∷ ts) (i ∷ is) h = then_same (d.exec i) (p.exec s t) _ _ (exec_part s t i h.0) (λ f. on_same f _ _ (all_parts (after s t) ts is h.1))
  all_parts s [] (i ∷ is) h = absurd h
  all_parts s (t ∷ ts) [] h = absurd h

  pub updates_parts : (s : Scope) (ts : List Tree) (is : List ℕ) → AreParts n s ts is → Agree (updates_at d is) (updates p s ts)
  updates_parts s [] [] h = λ state. refl
  updates_parts s (t ∷ ts) (i ∷ is) h = then_same (d.value i) (p.value s t) _ _ (value_part s t i h.0) (λ v. updates_parts (after s t) ts is h.1)
  updates_parts s [] (i ∷ is) h = absurd h
  updates_parts s (t ∷ ts) [] h = absurd h

  -- ---- methods

  method_code : (m : Method) (k : MethodCode) → IsMethodCode program code n m k → (o : Value) (vs : List Value) → Agree (doings.run_method code d o vs (Some k)) (means.run_method program p o vs (Some m))
  method_code m k h o vs =
      rw (h.parameters, h.void) (within_same o (length m.parameters) vs (all_at d (listed code k.body) >>= (λ f. returned (is_void m.result) f)) (run_body program p m)
      (then_same (all_at d (listed code k.body)) (all p (method_scope program m) m.body) _ _ (all_parts (method_scope program m) m.body (listed code k.body) h.body) (λ f state. refl)))

  pub method_runs : (m : Method) (k : ℕ) → IsMethod code n m k → (o : Value) (vs : List Value) → Agree (doings.run_method code d o vs (method_at code k)) (means.run_method program p o vs (Some m))
  method_runs m k h o vs state =
      ap (λ (x : Option MethodCode). doings.run_method code d o vs x state) h.there ∙ method_code (n.method k) h.body (tables.methods k h.body h.there) o vs state ∙ ap (λ (x : Method). means.run_method program p o vs (Some x) state) h.is

  numbered_runs : (m : Option Method) (k : Option ℕ) → IsMaybeMethod code n m k → (o : Value) (vs : List Value) → Agree (run_numbered code d o vs k) (means.run_method program p o vs m)
  numbered_runs None None h o vs = λ state. refl
  numbered_runs (Some m) (Some k) h o vs = method_runs m k h o vs
  numbered_runs None (Some k) h o vs = absurd h
  numbered_runs (Some m) None h o vs = absurd h

  pub dispatched : (m : Method) (k : ℕ) → IsMethod code n m k → (o : Value) (vs : List Value) (class : Class) → Agree (run_numbered code d o vs (method_in code k class)) (means.run_method program p o vs (overriding program m class))
  dispatched m k h o vs class state = numbered_runs (overriding program (n.method k) class) (method_in code k class) (tables.dispatch k class) o vs state ∙ ap (λ (x : Method). means.run_method program p o vs (overriding program x class) state) h.is

  -- ---- creation

  arguments_run : (s : Scope) (t : Tree) (ns : Option Nodes) → AreArguments code n s t ns → Agree (super_values code d ns) (super_arguments p s t)
  arguments_run s (trees.ConstructorCall r es) (Some ns) h = then_same tick tick _ _ (λ state. refl) (λ u. values_parts s (items es) (listed code ns) h)
  arguments_run s (trees.ConstructorCall r es) None h = absurd h
  arguments_run s _ None h = λ state. refl
  arguments_run s _ (Some ns) h = absurd h

  -- the fields with an initial value, each stored in turn
  pub initialised_run : (o : Value) (fs : List Field) (is : List ℕ) → AreInitialisers program code n (initialised_fields fs) is → Agree (doings.initialised code d o is) (means.all_initialised program p o fs)
  initialised_run o [] [] h = λ state. refl
  initialised_run o [] (i ∷ is) h = absurd h
  initialised_run o (f ∷ fs) is h = go (λ js k. initialised_run o fs js k) f.initial refl is h
    where
      stored : (t : Tree) → f.initial ≡ t → (x : Option Initialiser) → IsInitialiser program n f x → Agree (doings.initialised_by code d o x) (p.value (class_scope program f.class) t >>= (λ v. store_new program f o v))
      stored t e None h = absurd h
      stored t e (Some x) h =
          then_same (d.value x.value) (p.value (class_scope program f.class) t) _ _ (λ y. value_part (class_scope program f.class) f.initial x.value h.0 y ∙ ap (λ (z : Tree). value program (class_scope program f.class) z y) e)
          (λ v y. stores_initial program code n tables x.field o v y ∙ ap (λ (z : Field). store_new program z o v y) h.1)

      one : ((js : List ℕ) → AreInitialisers program code n (initialised_fields fs) js → Agree (doings.initialised code d o js) (means.all_initialised program p o fs)) → (t : Tree) → f.initial ≡ t → (i : ℕ) (is : List ℕ) → IsInitialiser program n f (initialiser_of (node_at code i)) → AreInitialisers program code n (initialised_fields fs) is
          → Agree (doings.initialised code d o (i ∷ is)) (p.value (class_scope program f.class) t >>= (λ v. store_new program f o v) >> means.all_initialised program p o fs)
      one later t e i is h rest = then_same (doings.initialised_by code d o (initialiser_of (node_at code i))) (p.value (class_scope program f.class) t >>= (λ v. store_new program f o v)) _ _ (stored t e (initialiser_of (node_at code i)) h) (λ u. later is rest)

      go : ((js : List ℕ) → AreInitialisers program code n (initialised_fields fs) js → Agree (doings.initialised code d o js) (means.all_initialised program p o fs)) → (t : Tree) → f.initial ≡ t → (is : List ℕ) → AreInitialisers program code n (initial_or_none f t ++ initialised_fields fs) is → Agree (doings.initialised code d o is) (means.initialised program p o f t >> means.all_initialised program p o fs)
      go later trees.Nil e is h state = later is h state ∙ sym (given_first tt (λ u. means.all_initialised program p o fs) state)
      go later t e [] h state = absurd h
      go later t e (i ∷ is) h state = one later t e i is h.0 h.1 state

  constructed_one : (c : ℕ) (made : ClassCode) → AreInitialisers program code n (initialised_fields (declared_fields program c)) (listed code made.initialisers)
      → (k : Option declared.Constructor) (x : Option Constructor) → IsMaybeConstructor program code n c k x → (o : Value) (vs : List Value) (up up' : List Value → Run (Unit {0})) → ((es : List Value) → Agree (up es) (up' es))
      → Agree (doings.constructed_by code d made x o vs up) (means.constructed_by program p c k o vs up')
  constructed_one c made fields None None h o vs up up' u = within_same o 0 vs _ _ (then_same (up []) (up' []) _ _ (u []) (λ x. initialised_run o (declared_fields program c) (listed code made.initialisers) fields))
  constructed_one c made fields (Some k) (Some x) h o vs up up' u =
      rw h.parameters (within_same o (length k.parameters) vs _ _
      (then_same (super_values code d x.call) (super_arguments p (constructor_scope program c k) k.call) _ _ (arguments_run (constructor_scope program c k) k.call x.call h.call) (λ es.
      then_same (up es) (up' es) _ _ (u es) (λ y.
      then_same (within o 0 [] (doings.initialised code d o (listed code made.initialisers))) (within o 0 [] (means.all_initialised program p o (declared_fields program c))) _ _
      (within_same o 0 [] _ _ (initialised_run o (declared_fields program c) (listed code made.initialisers) fields)) (λ y.
      then_same (all_at d (listed code x.body)) (all p (constructor_scope program c k) k.body) _ _ (all_parts (constructor_scope program c k) k.body (listed code x.body) h.body) (λ f state. refl))))))
  constructed_one c made fields None (Some x) h o vs up up' u = absurd h
  constructed_one c made fields (Some k) None h o vs up up' u = absurd h

  constructed_run : (cs : List ℕ) → All (λ c. IsSome (class_at code c)) cs → (o : Value) (vs : List Value) → Agree (doings.constructed code d cs o vs) (means.constructed program p cs o vs)
  constructed_run [] h o [] = λ state. refl
  constructed_run [] h o (v ∷ vs) = λ state. refl
  constructed_run (c ∷ cs) h o vs = go (class_at code c) refl (All-head (λ c. IsSome (class_at code c)) c cs h) (λ es. constructed_run cs (All-tail (λ c. IsSome (class_at code c)) c cs h) o es)
    where
      go : (x : Option ClassCode) → class_at code c ≡ x → IsSome x → ((es : List Value) → Agree (doings.constructed code d cs o es) (means.constructed program p cs o es)) → Agree (doings.constructed_in code d x o vs (doings.constructed code d cs o)) (means.constructed program p (c ∷ cs) o vs)
      go None e i up = absurd (cc (i))
      go (Some made) e i up =
          let k = tables.classes c made e in
          constructed_one c made k.initialisers (constructor_of program c) made.constructor k.constructor o vs (doings.constructed code d cs o) (means.constructed program p cs o) up

  pub creates : (c : ℕ) (k : ClassCode) → class_at code c ≡ Some k → (vs : List Value) → Agree (doings.create code d c vs (class_at code c)) (means.create program p (ClassType c) vs)
  creates c k e vs state = ap (λ (x : Option ClassCode). doings.create code d c vs x state) e ∙ made (tables.classes c k e) state
    where
      made : IsClassCode program code n c k → Agree (doings.create code d c vs (Some k)) (means.create program p (ClassType c) vs)
      made h =
          then_same (make (Object c) (values_in code k.defaults)) (make (Object c) (map (λ f. default_of f.type) (fields_of program.table c))) _ _ (λ x. ap (λ (y : List Value). make (Object c) y x) h.defaults) (λ o.
          then_same (doings.constructed code d (listed code k.line) o vs) (means.constructed program p (line_of program.table c) o vs) _ _
          (λ x. constructed_run (listed code k.line) (tables.lines c k e) o vs x ∙ ap (λ (y : List ℕ). means.constructed program p y o vs x) h.line) (λ u x. refl))
