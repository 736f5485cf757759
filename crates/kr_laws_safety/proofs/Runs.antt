-- No run of the predicate is stuck, nor one of the preconditions.
use Rattle.std.proofs.Common.{◌≡◌, ℕ, zero, suc, ◌+◌, Bool, true, false, List, [], ◌∷◌, length, Result, Ok, Err, Option, Some, None, refl, sym, ap, ◌∙◌, arith, subst}
use Rattle.std.specs.Prelude.{map, flat_map, option_to_list, codes, if◌then◌else◌}
use Rattle.std.proofs.lemmas.List.{length-map, append-nil}
use Rattle.kr_ast.specs.Tree as trees
use Rattle.kr_ast.specs.Tree.{Tree}
use Rattle.kr_value.specs.declared.value.Value.{Value}
use Rattle.kr_value.specs.declared.value.Value.TheVariants.{Int, Bool as Truth, Null, Ref as Reference}
use Rattle.kr_classes_table.specs.Types.{JavaType, BooleanType, ClassType, is_void}
use Rattle.kr_classes_table.specs.Table.{Method, method_named}
use Rattle.kr_types_meaning.specs.Scopes.{Scope, in_contract, Requiring}
use Rattle.kr_types_meaning.specs.Typing.{judged}
use Rattle.kr_mean.specs.declared.kind.Stop.{Stop}
use Rattle.kr_mean.specs.declared.kind.Stop.TheVariants.{Trapped, OutOfFuel, Stuck}
use Rattle.kr_mean.specs.Program.{Program, class_scope, method_scope}
use Rattle.kr_mean.specs.Places.{SlotPlace}
use Rattle.kr_mean.specs.Problem.{Problem, all_objects, upto}
use Rattle.kr_mean.specs.Heaps.{heap_of, value_at}
use Rattle.kr_mean.specs.Steps.{State, Run, give, go_on, bind, ◌>>=◌, tick, get_this}
use Rattle.kr_mean.specs.Meaning.{parts_within, eval, value, execute}
use Rattle.kr_mean.specs.Code.{Node}
use Rattle.kr_mean.specs.Runs.{rep_ok, rep_ok_node, root_class, requires_of, where_true, hold_all, parameter_values, parameters_from, tested_method, start, IsStuck}
use Rattle.kr_base.specs.Places.{nowhere}
use Rattle.kr_mean.specs.Space.{space_of, IsVector}
use Rattle.kr_mean.specs.WellFormed.{IsWellFormed}
use Rattle.kr_laws_safety.specs.Fits.{IsOf, AreOf}
use Rattle.kr_laws_safety.specs.Triples.{Fixed, IsThis, values_in, IsStateOf, Fine, Safe, Extends, Gives, type_of_old}
use Rattle.kr_laws_safety.specs.Domains.{object_types, HaveDomainsTypes}
use Rattle.kr_laws_safety.specs.Vectors.{IsTyped}
use Rattle.kr_laws_safety.proofs.Heaps.{value_more}
use Rattle.kr_laws_safety.proofs.Vectors.{is_typed}
use Rattle.kr_laws_safety.proofs.Steps.{safe_give, safe_spent, safe_map, safe_tick, safe_this}
use Rattle.kr_laws_safety.proofs.Operators.{no_boolean}
use Rattle.kr_laws_types.specs.Shapes.{Expression, IsCode}
use Rattle.kr_laws_types.specs.Expressions.{plain}
use Rattle.kr_laws_safety.specs.Typed.{types_in, IsMethod, IsTypedProgram}
use Rattle.kr_laws_safety.specs.Claims.{this_of, types_of, GivesAs, IsScope, ValuesSafe, StatementsSafe}
use Rattle.kr_laws_safety.specs.Tested.{IsPredicate, IsCondition, AreConditions, HasContracts}
use Rattle.kr_laws_safety.specs.Stuck.{IsSafe}
use Rattle.kr_laws_safety.proofs.Targets.{widened}
use Rattle.kr_laws_safety.proofs.Glue.{safe_next, safe_keep}
use Rattle.kr_laws_safety.proofs.Calls.{chosen_run, parameter_types, parameter_variables}
use Rattle.kr_laws_safety.proofs.Statements.{parts_safe}

-- ---- runs that aren't stuck

-- from a state of types
pub record Unstuck (program : Program) (fixed : Fixed) (types : List JavaType) (this : Option ℕ) (ls : List JavaType) {A : Type 0} (m : Run A) : Type 0 where
  pub by : (s : State) → IsStateOf program fixed types this ls s → (m s).said ≡ Err Stuck → ⊥

module _ (program : Program) (fixed : Fixed) where
  pub fine_said : (types : List JavaType) (this : Option ℕ) (ls : List JavaType) {A : Type 0} (Q : List JavaType → List JavaType → A → Type 0) (r : Result A Stop) (t : State) → Fine program fixed types this ls Q r t → r ≡ Err Stuck → ⊥
  fine_said types this ls Q (Ok a) t h e = cc (e)
  fine_said types this ls Q (Err (Trapped k)) t h e = cc (e)
  fine_said types this ls Q (Err OutOfFuel) t h e = cc (e)
  fine_said types this ls Q (Err Stuck) t h e = h

  -- one after another
  pub unstuck_then : (types : List JavaType) (this : Option ℕ) (ls : List JavaType) {A B : Type 0} (m : Run A) (f : A → Run B) (R : List JavaType → A → Type 0) → Safe program fixed types this ls m (λ more after a. (after ≡ ls) × R more a) → ((more : List JavaType) (a : A) → Extends types more → R more a → Unstuck program fixed more this ls (f a))
      → Unstuck program fixed types this ls (m >>= f)
  unfolding bind
  unstuck_then types this ls {A} {B} m f R p q = record { by = λ s h. go (m s).said (m s).after (m s).reads (p.by s h) }
    where
      go : (r : Result A Stop) (t : State) (ps : List SlotPlace) → Fine program fixed types this ls (λ more after a. (after ≡ ls) × R more a) r t → (go_on r t ps f).said ≡ Err Stuck → ⊥
      go (Ok a) t ps h e = (q h.0 a h.2 h.4.1).by t (subst (λ (z : List JavaType). IsStateOf program fixed h.0 this z t) h.4.0 h.3) e
      go (Err (Trapped k)) t ps h e = cc (e)
      go (Err OutOfFuel) t ps h e = cc (e)
      go (Err Stuck) t ps h e = h

  -- `this` may be known more closely
  pub unstuck_here : (types : List JavaType) (this that : Option ℕ) (ls : List JavaType) {A : Type 0} (m : Run A) → ((v : Value) → IsThis program.table types this v → IsThis program.table types that v) → Unstuck program fixed types that ls m → Unstuck program fixed types this ls m
  unstuck_here types this that ls m up p = record { by = λ s h. p.by s (record { heap = h.heap; this_is = up s.this_value h.this_is; locals_are = h.locals_are; result = h.result; olds = h.olds; thrown = h.thrown; candidates = h.candidates; enough = h.enough }) }

  module _ (facts : IsTypedProgram program) where
    -- ---- the predicate

    abbrev pub Boolean : List JavaType → List JavaType → List JavaType → Value → Type 0
    Boolean ls more after v = (after ≡ ls) × IsOf program.table more BooleanType v

    this_run : (n : ℕ) (types : List JavaType) (c : ℕ) (ls : List JavaType) → Safe program fixed types (Some c) ls (eval program n (class_scope program c) (trees.This nowhere)) (Gives program ls (ClassType c))
    unfolding eval
    this_run zero types c ls = safe_spent program fixed types (Some c) ls _
    this_run (suc n) types c ls =
        safe_keep program fixed types (Some c) ls tick _ _ (safe_tick program fixed types (Some c) ls)
        (λ more u x. safe_map program fixed more (Some c) ls get_this _ _ (safe_this program fixed more c ls) (λ others ms v h. (h.0, subst (λ (w : Value). IsOf program.table others (ClassType c) w) (sym h.1.1) h.1.2)))

    predicate_run : (n : ℕ) (types : List JavaType) (c : ℕ) (ls : List JavaType) → IsPredicate program c → Safe program fixed types (Some c) ls (eval program n (class_scope program c) rep_ok) (Boolean ls)
    unfolding eval judged
    predicate_run zero types c ls h = safe_spent program fixed types (Some c) ls _
    predicate_run (suc n) types c ls h =
        safe_keep program fixed types (Some c) ls tick _ _ (safe_tick program fixed types (Some c) ls)
        (λ more u x. safe_next program fixed more (Some c) ls (eval program n (class_scope program c) (trees.This nowhere)) _ _ _ (this_run n more c ls)
        (λ others o y i. called others o i))
      where
        called : (types : List JavaType) (o : Value) → IsOf program.table types (ClassType c) o → Safe program fixed types (Some c) ls (give [] >>= (λ vs. Rattle.kr_mean.specs.Meaning.called program (parts_within program n) (codes "repOk") o vs (method_named program.table c (codes "repOk")))) (Boolean ls)
        called types o i =
            let m = h.method in
            safe_next program fixed types (Some c) ls (give []) _ (λ more vs. vs ≡ []) _ (safe_give program fixed types (Some c) ls [] _ (refl, refl))
            (λ more vs x e. subst (λ (z : List Value). Safe program fixed more (Some c) ls (Rattle.kr_mean.specs.Meaning.called program (parts_within program n) (codes "repOk") o z (method_named program.table c (codes "repOk"))) (Boolean ls)) (sym e)
            (subst (λ (z : Option Method). Safe program fixed more (Some c) ls (Rattle.kr_mean.specs.Meaning.called program (parts_within program n) (codes "repOk") o [] z) (Boolean ls)) (sym h.found)
            (safe_map program fixed more (Some c) ls _ _ _ (chosen_run program fixed facts (parts_within program n) (parts_safe program fixed facts n) more (Some c) ls c (codes "repOk") m o [] h.found (value_more program.table types more (ClassType c) o x i) (subst (λ (z : List JavaType). AreOf program.table more z []) (sym (ap types_in h.parameters)) tt))
            (λ others ms v w. (w.0, subst (λ (z : JavaType). IsOf program.table others z v) h.result (w.1 (ap is_void h.result)))))))

    -- the predicate, in a state with whatever locals
    pub predicate_safe : (types : List JavaType) (c : ℕ) (ls : List JavaType) → IsPredicate program c → Safe program fixed types (Some c) ls (value program (class_scope program c) rep_ok) (Boolean ls)
    unfolding value
    predicate_safe types c ls h = record { by = λ s k. (predicate_run s.fuel types c ls h).by s k }

    -- ---- conditions

    -- an expression in a scope of the program
    pub value_safe : ValuesSafe program fixed (value program)
    unfolding value
    value_safe s e k h f types t u r g a = record { by = λ st z. ((parts_safe program fixed facts st.fuel).value s e k h f types t u r g a).by st z }

    statement_safe : StatementsSafe program fixed (execute program)
    unfolding execute
    statement_safe m s t k r h f types = record { by = λ st z. ((parts_safe program fixed facts st.fuel).exec m s t k r h f types).by st z }

    pub condition_safe : (n : Node) → IsScope program fixed n.scope → plain n.scope ≡ n.scope → IsCondition program (type_of_old fixed.olds) n → (types : List JavaType) → Safe program fixed types (this_of n.scope) (types_of n.scope.locals) (value program n.scope n.tree) (Boolean (types_of n.scope.locals))
    condition_safe n k e h types =
        safe_map program fixed types (this_of n.scope) (types_of n.scope.locals) (value program n.scope n.tree) _ _
        (subst (λ (z : Scope). Safe program fixed types (this_of n.scope) (types_of n.scope.locals) (value program z n.tree) (GivesAs program (types_of n.scope.locals) BooleanType)) e
        (value_safe n.scope n.tree k (subst (λ (z : Scope). IsCode program.arrays (type_of_old fixed.olds) (Expression false) z n.tree) (sym e) h.code) h.unbroken types BooleanType BooleanType h.boolean refl refl))
        (λ more ms v x. (x.0, x.1 refl))

    -- each condition in order
    abbrev pub AllBoolean : Option ℕ → List JavaType → List Node → Type 0
    AllBoolean this ls [] = Unit {0}
    AllBoolean this ls (n ∷ ns) = ((types : List JavaType) → Safe program fixed types this ls (value program n.scope n.tree) (Boolean ls)) × AllBoolean this ls ns

    where_unstuck : (types : List JavaType) (this : Option ℕ) (ls : List JavaType) (v : Value) (m : Run Bool) → IsOf program.table types BooleanType v → Unstuck program fixed types this ls m → Unstuck program fixed types this ls (where_true v m)
    where_unstuck types this ls (Truth true) m i p = p
    where_unstuck types this ls (Truth false) m i p = record { by = λ s h e. cc (e) }
    where_unstuck types this ls (Int z) m i p = absurd (cc (i.1))
    where_unstuck types this ls Null m i p = absurd (cc (i))
    where_unstuck types this ls (Reference o) m i p = record { by = λ s h e. no_boolean program fixed types s o h.heap i }

    holding : (this : Option ℕ) (ls : List JavaType) (ns : List Node) → AllBoolean this ls ns → (types : List JavaType) → Unstuck program fixed types this ls (hold_all program ns)
    holding this ls [] h types = record { by = λ s k e. cc (e) }
    holding this ls (n ∷ ns) h types = unstuck_then types this ls (value program n.scope n.tree) _ _ (h.0 types) (λ more v x i. where_unstuck more this ls v (hold_all program ns) i (holding this ls ns h.1 more))

    -- the predicate, and then conditions of a scope in which `this` is known less closely
    pub predicate_first : (c : ℕ) (that : Option ℕ) (ls : List JavaType) (ns : List Node) → IsPredicate program c → ((types : List JavaType) (v : Value) → IsThis program.table types (Some c) v → IsThis program.table types that v) → AllBoolean that ls ns → (types : List JavaType)
        → Unstuck program fixed types (Some c) ls (hold_all program (record { scope = class_scope program c; tree = rep_ok } ∷ ns))
    predicate_first c that ls ns h up all types = unstuck_then types (Some c) ls (value program (class_scope program c) rep_ok) _ _ (predicate_safe types c ls h) (λ more v x i. where_unstuck more (Some c) ls v (hold_all program ns) i (unstuck_here more (Some c) that ls (hold_all program ns) (up more) (holding that ls ns all more)))

    -- the conditions of a method's contract
    pub contract_boolean : (m : Method) (part : Rattle.kr_types_meaning.specs.Scopes.Part) → IsMethod program m → (Rattle.kr_types_meaning.specs.Rules.is_ensuring part ≡ true → is_void m.result ≡ false → fixed.result ≡ Some m.result) → (es : List Tree)
        → AreConditions program (type_of_old fixed.olds) (map (λ e. record { scope = in_contract part (method_scope program m); tree = e }) es) → AllBoolean (if m.is_static then None else Some m.class) (types_in m.parameters) (map (λ e. record { scope = in_contract part (method_scope program m); tree = e }) es)
    contract_boolean m part is result [] h = tt
    contract_boolean m part is result (e ∷ es) h =
        let n : Node = record { scope = in_contract part (method_scope program m); tree = e } in
        (λ types. subst (λ (z : List JavaType). Safe program fixed types (if m.is_static then None else Some m.class) z (value program n.scope e) (Boolean z)) (parameter_types m.parameters) (condition_safe n (refl, refl, parameter_variables m.parameters is.parameters, is.result, λ q o. result q) refl h.0 types), contract_boolean m part is result es h.1)

pub code_safe : (program : Program) (fixed : Fixed) → IsTypedProgram program → IsSafe program fixed
code_safe program fixed facts = record { values = value_safe program fixed facts; statements = statement_safe program fixed facts }

-- ---- candidates

parameters_plain : (i : ℕ) (vs : List Value) → values_in (parameters_from i vs) ≡ vs
parameters_plain i [] = refl
parameters_plain i (v ∷ vs) = ap (λ (ws : List Value). v ∷ ws) (parameters_plain (i + 1) vs)

-- parts of the state that no run of a candidate changes
abbrev pub fixed_of : Problem → Fixed
fixed_of problem = record { candidates = length (all_objects problem); result = None; olds = [] }

abbrev pub parameter_types_of : Option Method → List JavaType
parameter_types_of None = []
parameter_types_of (Some m) = types_in m.parameters

module _ (problem : Problem) (facts : IsTypedProgram problem.program) (contracts : HasContracts problem) (formed : IsWellFormed problem) (domains : HaveDomainsTypes problem) (vector : List ℕ) (is : IsVector (space_of problem) vector) where
  pub candidate : IsTyped problem vector
  candidate = is_typed problem formed domains vector is

  -- a candidate's parameters are of the method's types; a listing has none
  pub parameters_typed : (x : Option Method) → tested_method problem problem.mode ≡ x → AreOf problem.program.table (object_types problem) (parameter_types_of x) (parameter_values problem vector)
  parameters_typed (Some m) e = candidate.parameters m e
  parameters_typed None e = subst (λ (n : ℕ). AreOf problem.program.table (object_types problem) [] (map (λ i. value_at problem vector (i + 1)) (upto n))) (sym (ap (λ (ds : List Rattle.kr_mean.specs.Problem.Domain). length ds) (domains.none e))) tt

  pub long : length (heap_of problem vector) ≡ length (all_objects problem)
  unfolding heap_of
  long = length-map (all_objects problem) _

  pub this_is : IsThis problem.program.table (object_types problem) (Some (root_class problem)) (value_at problem vector 0)
  this_is = (candidate.this.0, candidate.this.1, candidate.this.2)

  start_typed : (x : Option Method) → tested_method problem problem.mode ≡ x → IsStateOf problem.program (fixed_of problem) (object_types problem) (Some (root_class problem)) (parameter_types_of x) (start problem vector)
  start_typed x e = record {
    heap = candidate.heap;
    this_is = this_is;
    locals_are = subst (λ (vs : List Value). AreOf problem.program.table (object_types problem) (parameter_types_of x) vs) (sym (parameters_plain 0 (parameter_values problem vector))) (parameters_typed x e);
    result = tt;
    olds = tt;
    thrown = refl;
    candidates = refl;
    enough = omega (arith, long);
  }

  -- an object of the root's class is one of the class that declares the method
  pub this_seen : (m : Method) (n : List ℕ) → method_named problem.program.table (root_class problem) n ≡ Some m → (types : List JavaType) (v : Value) → IsThis problem.program.table types (Some (root_class problem)) v → IsThis problem.program.table types (if m.is_static then None else Some m.class) v
  this_seen m n e types v h = go m.is_static
    where
      go : (b : Bool) → IsThis problem.program.table types (if b then None else Some m.class) v
      go true = tt
      go false = (h.0, h.1, widened problem.program.table facts.below types (ClassType (root_class problem)) (ClassType m.class) (Reference h.0) (facts.methods (root_class problem) n m e).1 h.2)

  -- the method under test has a name
  pub tested_named : (mode : Rattle.kr_mean.specs.declared.mode.Mode.Mode) (m : Method) → tested_method problem mode ≡ Some m → (n : List ℕ) × (method_named problem.program.table (root_class problem) n ≡ Some m)
  tested_named Rattle.kr_mean.specs.declared.mode.Mode.TheVariants.List m e = absurd (cc (e))
  tested_named (Rattle.kr_mean.specs.declared.mode.Mode.TheVariants.Method n) m e = (n, e)

  held : (x : Option Method) → tested_method problem problem.mode ≡ x → Unstuck problem.program (fixed_of problem) (object_types problem) (Some (root_class problem)) (parameter_types_of x) (hold_all problem.program (rep_ok_node problem ∷ flat_map (requires_of problem.program) (option_to_list x)))
  held None e = predicate_first problem.program (fixed_of problem) facts (root_class problem) None [] [] contracts.predicate (λ types v h. tt) tt (object_types problem)
  held (Some m) e =
      let named = tested_named problem.mode m e in
      let is = facts.methods (root_class problem) named.0 m named.1 in
      let es = flat_map Rattle.kr_mean.specs.Runs.required_in m.contracts in
      subst (λ (ns : List Node). Unstuck problem.program (fixed_of problem) (object_types problem) (Some (root_class problem)) (types_in m.parameters) (hold_all problem.program (rep_ok_node problem ∷ ns))) (sym (append-nil (requires_of problem.program m)))
      (predicate_first problem.program (fixed_of problem) facts (root_class problem) (if m.is_static then None else Some m.class) (types_in m.parameters) (requires_of problem.program m) contracts.predicate (this_seen m named.0 named.1)
      (contract_boolean problem.program (fixed_of problem) facts m Requiring is.0 (λ q. absurd (cc (q))) es (contracts.requires (type_of_old []) m e)) (object_types problem))

  pub predicate_unstuck : IsStuck problem vector → ⊥
  predicate_unstuck e = go (tested_method problem problem.mode) refl e
    where
      go : (x : Option Method) → tested_method problem problem.mode ≡ x → (hold_all problem.program (rep_ok_node problem ∷ flat_map (requires_of problem.program) (option_to_list (tested_method problem problem.mode))) (start problem vector)).said ≡ Err Stuck → ⊥
      go x q e = (held x q).by (start problem vector) (start_typed x q) (ap (λ (y : Option Method). (hold_all problem.program (rep_ok_node problem ∷ flat_map (requires_of problem.program) (option_to_list y)) (start problem vector)).said) (sym q) ∙ e)
