-- No evaluation that typing accepts is stuck.
use Rattle.std.proofs.Common.{◌≡◌, ℕ, Bool, true, false, List, [], ◌∷◌, ◌++◌, Option, Some, None, Result, Ok, Err, refl, sym, ap, ◌∙◌, subst, arith}
use Rattle.std.specs.Prelude.{IfOk, if◌then◌else◌, map, option_to_list}
use Rattle.std.proofs.lemmas.List.{append-nil, map-append}
use Rattle.kr_base.specs.declared.memory.NoMemory.{NoMemory}
use Rattle.kr_base.specs.declared.place.Place.{Place}
use Rattle.kr_ast.specs.Tree as trees
use Rattle.kr_ast.specs.Tree.{Tree}
use Rattle.kr_value.specs.declared.value.Value.{Value}
use Rattle.kr_value.specs.Heaps.{Heap}
use Rattle.kr_classes_table.specs.Types.{JavaType, BooleanType, ClassType, is_void}
use Rattle.kr_classes_table.specs.Table as tables
use Rattle.kr_types_meaning.specs.Scopes.{Part, Requiring, Ensuring, Signalling, Scope, bind_local, written, in_contract, in_signals, in_old}
use Rattle.kr_types_meaning.specs.Rules.{is_ensuring}
use Rattle.kr_types_meaning.specs.Typing.{Judged, type_in}
use Rattle.kr_mean.specs.declared.kind.Stop.{Stop}
use Rattle.kr_mean.specs.declared.kind.Stop.TheVariants.{Trapped, OutOfFuel, Stuck}
use Rattle.kr_mean.specs.Program.{Program, method_scope}
use Rattle.kr_mean.specs.Steps.{Local, State, Outcome, plain_local}
use Rattle.kr_mean.specs.Meaning.{value}
use Rattle.kr_mean.specs.Code.{Node}
use Rattle.kr_mean.specs.Verdicts.{OldNode, olds_of}
use Rattle.kr_code.specs.declared.code.Code.{Code}
use Rattle.kr_code.specs.Resolved.{Numbering, IsCodeOf}
use Rattle.kr_laws_types.specs.Types.{is_variable_type}
use Rattle.kr_laws_types.specs.Shapes.{Expression}
use Rattle.kr_run_method.specs.Results.{has_result, without_result}
use Rattle.kr_run_method.proofs.ResultRuns.{runs_same}
use Rattle.kr_run_method.proofs.Typing.{code_same, same}
use Rattle.kr_laws_safety.specs.Claims.{IsScope, is_target, types_of}
use Rattle.kr_laws_safety.specs.Fits.{AreOf}
use Rattle.kr_laws_safety.specs.Triples.{AreOlds, Fixed, IsResult, IsStateOf, type_of_old, values_in}
use Rattle.kr_laws_safety.specs.Typed.{IsTypedProgram, types_in, IsMethod}
use Rattle.kr_laws_safety.specs.Tested.{IsCondition, IsOld, IsSignal, old_type, old_types, type_or_none}
use Rattle.kr_laws_safety.proofs.Calls.{parameter_types, parameter_variables}
use Rattle.kr_laws_safety.proofs.Glue.{typed_at}
use Rattle.kr_laws_safety.proofs.Runs.{contract_boolean, fine_said, value_safe}
use Rattle.kr_laws_safety.proofs.Targets.{assignable_itself}
use Rattle.kr_run_method.specs.declared.executed.Env.{Env}
use Rattle.kr_run_method.specs.declared.executed.Executed.{Executed}
use Rattle.kr_run_method.specs.Executed.{ending_of}
use Rattle.kr_run_method.specs.Evaluated.{evaluated, places_of, seen, with_places}
use Rattle.kr_run_method.specs.Fits.{IsEvaluatedUnstuck, IsEvaluation, IsExpression, IsSeen, IsThrown, ensured, held, held_signalled, required, signalled, thrown_type}
use Rattle.kr_laws_safety.proofs.Verdicts.{values_plain}

-- values of `\old`s by position are values by their places
olds_fit : (table : tables.Table) (types : List JavaType) (os : List OldNode) (vs : List Value) → AreOf table types (map old_type os) vs → AreOlds table types (old_types os) (with_places (places_of os) vs)
olds_fit table types [] vs h = tt
olds_fit table types (o ∷ os) (v ∷ vs) h = (refl, h.0, olds_fit table types os vs h.1)
olds_fit table types (o ∷ os) [] h = absurd h

-- locals of both lists
of_both : (table : tables.Table) (types ts us : List JavaType) (vs ws : List Value) → AreOf table types ts vs → AreOf table types us ws → AreOf table types (ts ++ us) (vs ++ ws)
of_both table types [] us [] ws h k = k
of_both table types (t ∷ ts) us (v ∷ vs) ws h k = (h.0, of_both table types ts us vs ws h.1 k)
of_both table types [] us (v ∷ vs) ws h k = absurd h
of_both table types (t ∷ ts) us [] ws h k = absurd h

thrown_fits : (table : tables.Table) (types : List JavaType) (named : Option JavaType) (r : Option Value) → IsThrown table types named r → AreOf table types (option_to_list named) (option_to_list r)
thrown_fits table types None r e = subst (λ (x : Option Value). AreOf table types [] (option_to_list x)) (sym e) tt
thrown_fits table types (Some t) r i = subst (λ (x : Option Value). AreOf table types (t ∷ []) (option_to_list x)) (sym i.1) (i.2, tt)

no_stuck : (r : Result Value Stop) → (r ≡ Err Stuck → ⊥) → ending_of false r ≡ Err Stuck → ⊥
no_stuck (Ok v) h e = cc (e)
no_stuck (Err (Trapped k)) h e = cc (e)
no_stuck (Err OutOfFuel) h e = cc (e)
no_stuck (Err Stuck) h e = h refl

module _ (program : Program) (facts : IsTypedProgram program) (m : tables.Method) (env : Env) (heap : Heap) (fuel : ℕ) where
  abbrev olds : List OldNode
  olds = olds_of program m

  -- the type of the result, where there is one
  abbrev given : Option JavaType
  given = if is_void m.result then None else Some m.result

  -- types that no evaluation changes: those of its environment, of the result and of the values of `\old`s
  abbrev fixed : Option JavaType → List (Place × JavaType) → Fixed
  fixed result ts = record { candidates = 0; result = result; olds = ts }

  abbrev state : State
  state = seen (places_of olds) env heap fuel

  abbrev Unstuck : Node → Type 0
  Unstuck e = (value program e.scope e.tree state).said ≡ Err Stuck → ⊥

  -- `this` as the method's code knows it
  abbrev own : Option ℕ
  own = if m.is_static then None else Some m.class

  abbrev ensuring : Scope
  ensuring = in_contract Ensuring (method_scope program m)

  module _ (e : Node) (call : IsEvaluation program m e env heap) where
    method : IsMethod program m
    method = (facts.methods call.class call.name m call.named).0

    seen_values : values_in state.locals ≡ env.arguments.items ++ option_to_list env.thrown
    seen_values =
        map-append (λ (l : Local). l.value) (map plain_local env.arguments.items) (map plain_local (option_to_list env.thrown))
        ∙ ap (λ (vs : List Value). vs ++ values_in (map plain_local (option_to_list env.thrown))) (values_plain env.arguments.items)
        ∙ ap (λ (vs : List Value). env.arguments.items ++ vs) (values_plain (option_to_list env.thrown))

    locals_fit : (named : Option JavaType) → IsThrown program.table call.types named env.thrown → AreOf program.table call.types (types_in m.parameters ++ option_to_list named) (values_in state.locals)
    locals_fit named i = subst (λ (vs : List Value). AreOf program.table call.types (types_in m.parameters ++ option_to_list named) vs) (sym seen_values)
        (of_both program.table call.types (types_in m.parameters) (option_to_list named) env.arguments.items (option_to_list env.thrown) call.arguments (thrown_fits program.table call.types named env.thrown i))

    -- the state has a local for what is thrown, where that has a name
    started : (result : Option JavaType) (ts : List (Place × JavaType)) (named : Option JavaType) → IsThrown program.table call.types named env.thrown → IsResult program.table call.types result env.result → AreOlds program.table call.types ts state.olds
        → IsStateOf program (fixed result ts) call.types own (types_in m.parameters ++ option_to_list named) state
    started result ts named i r o = record {
      heap = call.objects;
      this_is = call.this;
      locals_are = locals_fit named i;
      result = r;
      olds = o;
      thrown = refl;
      candidates = refl;
      enough = omega arith;
    }

    -- without a name
    bare : (result : Option JavaType) (ts : List (Place × JavaType)) → env.thrown ≡ None → IsResult program.table call.types result env.result → AreOlds program.table call.types ts state.olds → IsStateOf program (fixed result ts) call.types own (types_in m.parameters) state
    bare result ts i r o = subst (λ (ls : List JavaType). IsStateOf program (fixed result ts) call.types own ls state) (append-nil (types_in m.parameters)) (started result ts None i r o)

    -- likewise by the types of the scope's locals
    placed : (result : Option JavaType) (ts : List (Place × JavaType)) → env.thrown ≡ None → IsResult program.table call.types result env.result → AreOlds program.table call.types ts state.olds → IsStateOf program (fixed result ts) call.types own (types_of (method_scope program m).locals) state
    placed result ts i r o = subst (λ (ls : List JavaType). IsStateOf program (fixed result ts) call.types own ls state) (sym (parameter_types m.parameters)) (bare result ts i r o)

    placed_named : (t : JavaType) (ts : List (Place × JavaType)) → IsThrown program.table call.types (Some t) env.thrown → AreOlds program.table call.types ts state.olds → IsStateOf program (fixed None ts) call.types own (types_of (method_scope program m).locals ++ t ∷ []) state
    placed_named t ts i o = subst (λ (ls : List JavaType). IsStateOf program (fixed None ts) call.types own (ls ++ t ∷ []) state) (sym (parameter_types m.parameters)) (started None ts (Some t) i tt o)

    result_known : is_ensuring Ensuring ≡ true → is_void m.result ≡ false → given ≡ Some m.result
    result_known x n = ap (λ (b : Bool). if b then None else Some m.result) n

    condition : (result : Option JavaType) (ts : List (Place × JavaType)) (part : Part) (t : Tree) → env.thrown ≡ None → (is_ensuring part ≡ true → is_void m.result ≡ false → result ≡ Some m.result) → IsResult program.table call.types result env.result → AreOlds program.table call.types ts state.olds
        → IsCondition program (type_of_old ts) (record { scope = in_contract part (method_scope program m); tree = t }) → Unstuck (record { scope = in_contract part (method_scope program m); tree = t })
    condition result ts part t i known r o h =
        let safe = (contract_boolean program (fixed result ts) facts m part method known (t ∷ []) (h, tt)).0 call.types in
        fine_said program (fixed result ts) call.types own (types_in m.parameters) _ (value program (in_contract part (method_scope program m)) t state).said (value program (in_contract part (method_scope program m)) t state).after (safe.by state (bare result ts i r o))

    -- A postcondition without `\result` is evaluated as in a method that gives none.
    alone : (t : Tree) → env.thrown ≡ None → has_result t ≡ false → AreOlds program.table call.types (old_types olds) state.olds → IsCondition program (type_of_old (old_types olds)) (record { scope = ensuring; tree = t }) → Unstuck (record { scope = ensuring; tree = t })
    alone t i none o h =
        let there : Scope = without_result ensuring in
        let f : Fixed = fixed None (old_types olds) in
        let code = code_same program.arrays (type_of_old (old_types olds)) (Expression false) ensuring t h.code refl none in
        let typed = same program.arrays (type_of_old (old_types olds)) (Expression false) ensuring ensuring t h.code refl none in
        let k : IsScope program f there = (refl, refl, parameter_variables m.parameters method.parameters, refl, λ x y z. absurd (cc (z))) in
        let safe = value_safe program f facts there t k code (ap (λ (x : Judged). x.faults) typed ∙ h.unbroken) call.types BooleanType BooleanType (ap (λ (x : Judged). type_in x.typed) typed ∙ h.boolean) refl refl in
        let fine = fine_said program f call.types own (types_of (method_scope program m).locals) _ (value program there t state).said (value program there t state).after (safe.by state (placed None (old_types olds) i tt o)) in
        subst (λ (x : Outcome Value). x.said ≡ Err Stuck → ⊥) (runs_same program.arrays (type_of_old (old_types olds)) program ensuring t state h.code none) fine

    postcondition : (t : Tree) → env.thrown ≡ None → IsSeen program m call.types env t true → IsCondition program (type_of_old (old_types olds)) (record { scope = ensuring; tree = t }) → Unstuck (record { scope = ensuring; tree = t })
    postcondition t i s h = go (has_result t) refl
      where
        values : AreOlds program.table call.types (old_types olds) state.olds
        values = olds_fit program.table call.types olds env.olds.items s.1

        go : (b : Bool) → has_result t ≡ b → Unstuck (record { scope = ensuring; tree = t })
        go true x = condition given (old_types olds) Ensuring t i result_known (s.0 x) values h
        go false x = alone t i x values h

    holds : (o : OldNode) → env.thrown ≡ None → o.scope ≡ in_old (in_contract Ensuring (method_scope program m)) → IsOld program o → Unstuck (record { scope = o.scope; tree = o.tree })
    holds o i at h = subst (λ (z : Scope). IsOld program (record { place = o.place; is_named = o.is_named; scope = z; tree = o.tree }) → Unstuck (record { scope = z; tree = o.tree })) (sym at) inside h
      where
        s : Scope
        s = in_old (in_contract Ensuring (method_scope program m))

        inside : IsOld program (record { place = o.place; is_named = o.is_named; scope = s; tree = o.tree }) → Unstuck (record { scope = s; tree = o.tree })
        inside h =
            let f : Fixed = fixed None [] in
            let k : IsScope program f s = (refl, refl, parameter_variables m.parameters method.parameters, method.result, λ x y. absurd (cc (y))) in
            let x = typed_at program f facts s o.tree k (h.code (type_of_old [])) h.unbroken in
            let target = ap is_target (sym (ap type_or_none x.known)) ∙ h.target in
            let safe = value_safe program f facts s o.tree k (h.code (type_of_old [])) h.unbroken call.types x.type x.type x.known target (assignable_itself program.table x.type target) in
            fine_said program f call.types own (types_of (method_scope program m).locals) _ (value program s o.tree state).said (value program s o.tree state).after (safe.by state (placed None [] i tt tt))

    -- a clause that names what is thrown
    clause_named : (n : List ℕ) (t : JavaType) (e : Tree) → (c : ℕ) × (t ≡ ClassType c) → IsThrown program.table call.types (Some t) env.thrown → AreOlds program.table call.types (old_types olds) state.olds
        → IsCondition program (type_of_old (old_types olds)) (record { scope = in_contract Signalling (bind_local n t (method_scope program m)); tree = e }) → Unstuck (record { scope = in_contract Signalling (bind_local n t (method_scope program m)); tree = e })
    clause_named n t e c i o h =
        let f : Fixed = fixed None (old_types olds) in
        let z : Scope = in_contract Signalling (bind_local n t (method_scope program m)) in
        let k : IsScope program f z = (refl, refl, (ap is_variable_type c.1, parameter_variables m.parameters method.parameters), method.result, λ x y. absurd (cc (x))) in
        let safe = value_safe program f facts z e k h.code h.unbroken call.types BooleanType BooleanType h.boolean refl refl in
        fine_said program f call.types own (types_of z.locals) _ (value program z e state).said (value program z e state).after (safe.by state (placed_named t (old_types olds) i o))

    clause : (d e : Tree) → IsSignal program (type_of_old (old_types olds)) (method_scope program m) d e → IsThrown program.table call.types (thrown_type (method_scope program m) d) env.thrown → AreOlds program.table call.types (old_types olds) state.olds
        → Unstuck (record { scope = in_signals d (method_scope program m); tree = e })
    clause (trees.Parameter p t n) e h i o = clause_named n (written (method_scope program m) t) e (h.class, h.type) i o h.condition
    clause (trees.NamedType p n) e h i o = condition None (old_types olds) Signalling e i (λ x. absurd (cc (x))) tt o h.condition
    clause (trees.QualifiedType p q n) e h i o = condition None (old_types olds) Signalling e i (λ x. absurd (cc (x))) tt o h.condition
    clause _ e h i o = absurd h.shape

    -- what an `\old` of such a clause holds
    old_named : (n : List ℕ) (t : JavaType) (o : OldNode) → (c : ℕ) × (t ≡ ClassType c) → IsThrown program.table call.types (Some t) env.thrown → o.scope ≡ in_old (in_contract Signalling (bind_local n t (method_scope program m))) → IsOld program o
        → Unstuck (record { scope = o.scope; tree = o.tree })
    old_named n t o c i at h = subst (λ (z : Scope). IsOld program (record { place = o.place; is_named = o.is_named; scope = z; tree = o.tree }) → Unstuck (record { scope = z; tree = o.tree })) (sym at) inside h
      where
        s : Scope
        s = in_old (in_contract Signalling (bind_local n t (method_scope program m)))

        inside : IsOld program (record { place = o.place; is_named = o.is_named; scope = s; tree = o.tree }) → Unstuck (record { scope = s; tree = o.tree })
        inside h =
            let f : Fixed = fixed None [] in
            let k : IsScope program f s = (refl, refl, (ap is_variable_type c.1, parameter_variables m.parameters method.parameters), method.result, λ x y. absurd (cc (y))) in
            let x = typed_at program f facts s o.tree k (h.code (type_of_old [])) h.unbroken in
            let target = ap is_target (sym (ap type_or_none x.known)) ∙ h.target in
            let safe = value_safe program f facts s o.tree k (h.code (type_of_old [])) h.unbroken call.types x.type x.type x.known target (assignable_itself program.table x.type target) in
            fine_said program f call.types own (types_of s.locals) _ (value program s o.tree state).said (value program s o.tree state).after (safe.by state (placed_named t [] i tt))

    old_bare : (o : OldNode) → env.thrown ≡ None → o.scope ≡ in_old (in_contract Signalling (method_scope program m)) → IsOld program o → Unstuck (record { scope = o.scope; tree = o.tree })
    old_bare o i at h = subst (λ (z : Scope). IsOld program (record { place = o.place; is_named = o.is_named; scope = z; tree = o.tree }) → Unstuck (record { scope = z; tree = o.tree })) (sym at) inside h
      where
        s : Scope
        s = in_old (in_contract Signalling (method_scope program m))

        inside : IsOld program (record { place = o.place; is_named = o.is_named; scope = s; tree = o.tree }) → Unstuck (record { scope = s; tree = o.tree })
        inside h =
            let f : Fixed = fixed None [] in
            let k : IsScope program f s = (refl, refl, parameter_variables m.parameters method.parameters, method.result, λ x y. absurd (cc (y))) in
            let x = typed_at program f facts s o.tree k (h.code (type_of_old [])) h.unbroken in
            let target = ap is_target (sym (ap type_or_none x.known)) ∙ h.target in
            let safe = value_safe program f facts s o.tree k (h.code (type_of_old [])) h.unbroken call.types x.type x.type x.known target (assignable_itself program.table x.type target) in
            fine_said program f call.types own (types_of s.locals) _ (value program s o.tree state).said (value program s o.tree state).after (safe.by state (placed None [] i tt tt))

    clause_old : (d e : Tree) (o : OldNode) → IsSignal program (type_of_old (old_types olds)) (method_scope program m) d e → IsThrown program.table call.types (thrown_type (method_scope program m) d) env.thrown → o.scope ≡ in_old (in_signals d (method_scope program m)) → IsOld program o
        → Unstuck (record { scope = o.scope; tree = o.tree })
    clause_old (trees.Parameter p t n) e o h i at is = old_named n (written (method_scope program m) t) o (h.class, h.type) i at is
    clause_old (trees.NamedType p n) e o h i at is = old_bare o i at is
    clause_old (trees.QualifiedType p q n) e o h i at is = old_bare o i at is
    clause_old _ e o h i at is = absurd h.shape

    by_kind : (n : Node) (b : Bool) (t : Option JavaType) → IsExpression program m n b t → IsThrown program.table call.types t env.thrown → IsSeen program m call.types env n.tree b → Unstuck n
    by_kind n b t (required e h) i s = condition None [] Requiring e i (λ x. absurd (cc (x))) tt tt (h (type_of_old []))
    by_kind n b t (ensured e h) i s = postcondition e i s h
    by_kind n b t (signalled d e h) i s = clause d e h i (olds_fit program.table call.types olds env.olds.items s.1)
    by_kind n b t (held o at h) i s = holds o i at h
    by_kind n b t (held_signalled d e o h at is) i s = clause_old d e o h i at is

    pub evaluation_never_stuck : (evaluated program m e env heap fuel).end ≡ Err Stuck → ⊥
    evaluation_never_stuck x = no_stuck (value program e.scope e.tree state).said (by_kind e call.is_after call.thrown_as call.expression call.thrown call.seen) x

pub evaluated_in_typed_programs : (code : Code) (node : ℕ) (places : List Place) (env : Env) (heap : Heap) (fuel : ℕ) (r : Result Executed NoMemory)
    → IfOk r (λ run. (program : Program) (n : Numbering) (m : tables.Method) → IsCodeOf program code n → places ≡ places_of (olds_of program m) → run ≡ evaluated program m (n.origin node) env heap fuel) → IfOk r (IsEvaluatedUnstuck code node places env heap)
evaluated_in_typed_programs code node places env heap fuel (Ok run) h = λ program n m is at facts call e. evaluation_never_stuck program facts m env heap fuel (n.origin node) call (sym (ap (λ (x : Executed). x.end) (h program n m is at)) ∙ e)
evaluated_in_typed_programs code node places env heap fuel (Err e) h = tt
