-- Two candidates that agree on what is reachable have the same verdict: a test sees the same objects in both.
use Rattle.std.proofs.Common.{◌≡◌, ℕ, zero, suc, ◌+◌, ◌<◌, ◌≤◌, ◌⊎◌, inl, inr, Bool, true, false, List, [], ◌∷◌, length, get_or, Result, Ok, Err, Option, Some, None, refl, sym, ap, ◌∙◌, arith, subst}
use Rattle.std.specs.Prelude.{map}
use Rattle.std.specs.List.{range_with_len}
use Rattle.std.proofs.lemmas.List.{get_or_past}
use Rattle.std.proofs.lemmas.Bool.{cases_lt}
use Rattle.kr_ast.specs.Tree.{Tree}
use Rattle.kr_value.specs.declared.value.Value.{Value}
use Rattle.kr_value.specs.declared.value.Value.TheVariants.{Int, Bool as Truth, Null, Ref as Reference}
use Rattle.kr_value.specs.declared.object.Class.{Class}
use Rattle.kr_value.specs.declared.object.Class.TheVariants.{Object, Array, Set, List as ListClass}
use Rattle.kr_value.specs.Heaps.{no_object, object_in}
use Rattle.kr_classes_table.specs.Table.{Method}
use Rattle.kr_types_meaning.specs.Scopes.{Scope}
use Rattle.kr_mean.specs.declared.kind.Kind.{Kind}
use Rattle.kr_mean.specs.declared.kind.Verdict.{Verdict}
use Rattle.kr_mean.specs.declared.kind.Verdict.TheVariants.{Ensures, Signals, RepOk, CheckTrap}
use Rattle.kr_mean.specs.declared.kind.Stop.{Stop}
use Rattle.kr_mean.specs.declared.kind.Stop.TheVariants.{Trapped, OutOfFuel, Stuck}
use Rattle.kr_mean.specs.Places.{SlotPlace}
use Rattle.kr_mean.specs.Problem.{Problem, all_objects, heap_number, choices_at}
use Rattle.kr_mean.specs.Space.{no_choice}
use Rattle.kr_mean.specs.Heaps.{heap_of, value_at, walk, values_there}
use Rattle.kr_mean.specs.Steps.{Local, Old, State, Outcome, Run}
use Rattle.kr_mean.specs.Meaning.{Target, LocalTarget, OwnField, FieldOf, ElementOf, NoTarget, parts_within, run_method, value, body_of}
use Rattle.kr_mean.specs.Code.{Node, code, code_of_method, code_run}
use Rattle.kr_mean.specs.Purity.{written_by}
use Rattle.kr_mean.specs.Runs.{rep_ok_node, ensures_of, parameter_values, tested_method}
use Rattle.kr_mean.specs.Verdicts.{OldNode, olds_of, olds_valued, judged_as, then_judged, where_holds, ensured, checked, verdict_from, test_start, verdict_by, verdict_of, naming, Signal, signals_of, fitting, signalled, thrown, after_body}
use Rattle.kr_mean.specs.Thrown.{object_of}
use Rattle.kr_mean.specs.WellFormed.{IsWellFormed}
use Rattle.kr_laws_pruning.proofs.Membership.{Has}
use Rattle.kr_laws_pruning.proofs.Numbering.{object, count_at, width_at, parameters, first_slot, number_of_object}
use Rattle.kr_laws_pruning.proofs.Places.{class_at, extent_of, extent, heap_long, heap_class, values_of_class, heap_values}
use Rattle.kr_laws_runs.proofs.Respects.{Each, AllOf, MayWrite, IsCode, Any}
use Rattle.kr_laws_pruning.proofs.SlotForks.{all_has}
use Rattle.kr_laws_pruning.proofs.Goes.{Forked, renamed_value, renamed_place, KnownValue, Knows, KnownPlace, Setting, Related, SlotLike, LocalLike, OldLike, ObjectLike, HeapLike, Like, SaidLike, Reaches, Meets, Goes, bind_goes, plain_like, value_goes, method_goes, MayStore, MayPut, declares, scopes, objects}
use Rattle.kr_laws_pruning.proofs.Reached.{IsMet, this_known, parameter_known, field_known, field_walked, root_walked}
use Rattle.kr_laws_pruning.proofs.Walked.{walked}
use Rattle.kr_laws_runs.proofs.Bounds.{all_any}

-- where all places agree, both runs reach their end
forked_end : (on : SlotPlace → SlotPlace) (K A : SlotPlace → Type 0) (X : Type 0) (ps qs : List SlotPlace) → ((p : SlotPlace) → A p) → Forked on K A X ps qs → X
forked_end on K A X [] [] a f = f
forked_end on K A X [] (q ∷ qs) a f = absurd f
forked_end on K A X (p ∷ ps) [] a f = absurd f
forked_end on K A X (p ∷ ps) (q ∷ qs) a f = forked_end on K A X ps qs a (f.2 (a p))

renamed_same : (x : Value) → renamed_value (λ o. o) x ≡ x
renamed_same (Int i) = refl
renamed_same (Truth b) = refl
renamed_same Null = refl
renamed_same (Reference o) = refl

module _ (problem : Problem) (w : IsWellFormed problem) (u v : List ℕ) (on_walk : AllOf (λ s. get_or u s 0 ≡ get_or v s 0) (walk problem u)) where
  abbrev N : ℕ
  N = length (all_objects problem)

  -- the places that are reachable in the first, and those that a run makes
  abbrev KnownHere : ℕ → Type 0
  KnownHere o = o < N → IsMet problem w u o

  abbrev setting : Setting
  setting = record {
    candidates = 0;
    total = N;
    parameters = 0;
    left = [];
    right = [];
    name = λ o. o;
    Known = KnownHere;
    Agree = λ p. Unit {0};
    Counted = λ c. ⊥;
    enough = omega arith;
    fresh = λ o le lt. absurd (omega (arith, le, lt));
    apart = λ o p e. e;
    within = λ o h. h;
    fixes = λ o h. refl;
    classes = λ o h. absurd (omega (arith, h));
    plain = λ o h. absurd (omega (arith, h));
    counted = λ o h. absurd (omega (arith, h));
    fields_same = λ o f h. absurd (omega (arith, h));
    fields_agree = λ o f h k e a. absurd (omega (arith, h));
    fields_known = λ o f h k e. absurd (omega (arith, h));
    lengths_agree = λ o h k e a. absurd (omega (arith, h));
    elements_agree = λ o i h k e same l a. absurd (omega (arith, h));
    elements_known = λ o i h k e l. absurd (omega (arith, h));
  }

  abbrev Rel : Value → Value → Type 0
  Rel x y = Related problem.program setting x y

  knows : (x : Value) → KnownValue N (λ o. (o < N) × IsMet problem w u o) x → Knows KnownHere x
  knows (Int i) h = tt
  knows (Truth b) h = tt
  knows Null h = tt
  knows (Reference o) h = λ lt. (h lt).1

  has_walked : (s : ℕ) → Has s (walked problem u N) → Has s (walk problem u)
  unfolding walk
  has_walked s h = h

  -- a slot that is walked has the same value in both
  same_value : (s : ℕ) → Has s (walked problem u N) → value_at problem u s ≡ value_at problem v s
  same_value s h = ap (λ (i : ℕ). (get_or (choices_at problem s) i no_choice).value) (all_has (λ s. get_or u s 0 ≡ get_or v s 0) (walk problem u) on_walk s (has_walked s h))

  related : (s : ℕ) → Has s (walked problem u N) → KnownValue N (λ o. (o < N) × IsMet problem w u o) (value_at problem u s) → Rel (value_at problem u s) (value_at problem v s)
  related s h k = (sym (same_value s h) ∙ sym (renamed_same (value_at problem u s)), knows (value_at problem u s) k)

  -- ---- the heaps

  each_range : (f g : ℕ → Value) (a n : ℕ) → ((j : ℕ) → j < n → Rel (f (a + j)) (g (a + j))) → Each Rel (map f (range_with_len a n)) (map g (range_with_len a n))
  each_range f g a zero h = tt
  each_range f g a (suc n) h =
      let at : a + 0 ≡ a = omega arith in (
        subst (λ (x : ℕ). Rel (f x) (g x)) at (h 0 (omega arith)),
        each_range f g (a + 1) n (λ j l. let b : a + suc j ≡ a + 1 + j = omega arith in subst (λ (x : ℕ). Rel (f x) (g x)) b (h (suc j) (omega (arith, l)))),
      )

  each_there : (c : Class) (xs ys : List Value) → Each Rel xs ys → Each Rel (values_there c xs) (values_there c ys)
  each_there (Object c) xs ys e = e
  each_there Set xs ys e = e
  each_there ListClass xs ys e = e
  each_there (Array t) [] [] e = tt
  each_there (Array t) (x ∷ xs) (y ∷ ys) e = e.1
  each_there (Array t) [] (y ∷ ys) e = absurd e
  each_there (Array t) (x ∷ xs) [] e = absurd e

  -- both objects have as many slots there
  same_extent : (d k : ℕ) → d < length problem.domains → k < count_at problem d → IsMet problem w u (heap_number problem (object d k)) → extent problem w u d k ≡ extent problem w v d k
  same_extent d k a b m = go (class_at problem w d) (λ l. ap (λ (x : Value). extent_of (class_at problem w d) (width_at problem d) x) (first_same l)) refl
    where
      at : first_slot problem d k + 0 ≡ first_slot problem d k
      at = omega arith

      first_same : 0 < extent problem w u d k → value_at problem u (first_slot problem d k) ≡ value_at problem v (first_slot problem d k)
      first_same l = same_value (first_slot problem d k) (subst (λ (x : ℕ). Has x (walked problem u N)) at (field_walked problem w u d k 0 a b l m))

      go : (c : Class) → (0 < extent problem w u d k → extent problem w u d k ≡ extent problem w v d k) → class_at problem w d ≡ c → extent problem w u d k ≡ extent problem w v d k
      go (Object c) f q = ap (λ (x : Class). extent_of x (width_at problem d) (value_at problem u (first_slot problem d k))) q ∙ sym (ap (λ (x : Class). extent_of x (width_at problem d) (value_at problem v (first_slot problem d k))) q)
      go Set f q = ap (λ (x : Class). extent_of x (width_at problem d) (value_at problem u (first_slot problem d k))) q ∙ sym (ap (λ (x : Class). extent_of x (width_at problem d) (value_at problem v (first_slot problem d k))) q)
      go ListClass f q = ap (λ (x : Class). extent_of x (width_at problem d) (value_at problem u (first_slot problem d k))) q ∙ sym (ap (λ (x : Class). extent_of x (width_at problem d) (value_at problem v (first_slot problem d k))) q)
      go (Array t) f q = f (subst (λ (x : Class). 0 < extent_of x (width_at problem d) (value_at problem u (first_slot problem d k))) (sym q) (omega arith))

  objects_like : (d k : ℕ) → d < length problem.domains → k < count_at problem d → IsMet problem w u (heap_number problem (object d k)) → ObjectLike problem.program setting (object_in (heap_of problem u) (heap_number problem (object d k))) (object_in (heap_of problem v) (heap_number problem (object d k)))
  objects_like d k a b m =
      let c = class_at problem w d in
      let slots_like : Each Rel (map (value_at problem u) (range_with_len (first_slot problem d k) (extent problem w u d k))) (map (value_at problem v) (range_with_len (first_slot problem d k) (extent problem w u d k))) =
      each_range (value_at problem u) (value_at problem v) (first_slot problem d k) (extent problem w u d k) (λ j l. related (first_slot problem d k + j) (field_walked problem w u d k j a b l m) (field_known problem w u d k j a b l m)) in
      let both : Each Rel (values_of_class problem w u d k c) (values_of_class problem w v d k c) =
      each_there c _ _ (subst (λ (n : ℕ). Each Rel (map (value_at problem u) (range_with_len (first_slot problem d k) (extent problem w u d k))) (map (value_at problem v) (range_with_len (first_slot problem d k) n))) (same_extent d k a b m) slots_like) in
      (heap_class problem w v d k a b ∙ sym (heap_class problem w u d k a b), subst (λ (xs : List Value). Each Rel xs (object_in (heap_of problem v) (heap_number problem (object d k))).values) (sym (heap_values problem w u d k c a b refl)) (subst (λ (ys : List Value). Each Rel (values_of_class problem w u d k c) ys) (sym (heap_values problem w v d k c a b refl)) both))

  heaps_like : HeapLike problem.program setting (heap_of problem u) (heap_of problem v)
  heaps_like = record {
    long = omega (arith, heap_long problem w u);
    same = heap_long problem w v ∙ sym (heap_long problem w u);
    left = λ o h. absurd (omega (arith, h));
    right = λ o h. absurd (omega (arith, h));
    made = λ o h known. go o known (cases_lt o N);
  }
    where
      go : (o : ℕ) → KnownHere o → (o < N) ⊎ (N ≤ o) → ObjectLike problem.program setting (object_in (heap_of problem u) o) (object_in (heap_of problem v) o)
      go o known (inl lt) =
          let r = number_of_object problem o lt in
          subst (λ (x : ℕ). ObjectLike problem.program setting (object_in (heap_of problem u) x) (object_in (heap_of problem v) x)) (sym r.is) (objects_like r.domain r.number r.domain_in r.number_in (subst (λ (x : ℕ). IsMet problem w u x) r.is (known lt)))
      go o known (inr le) =
          let e : object_in (heap_of problem u) o ≡ no_object = get_or_past (heap_of problem u) o no_object (omega (arith, heap_long problem w u, le)) in
          let e' : object_in (heap_of problem v) o ≡ no_object = get_or_past (heap_of problem v) o no_object (omega (arith, heap_long problem w v, le)) in
          rw (e, e') (refl, tt)

  -- ---- the start

  parameters_like : (i m : ℕ) → i + m ≤ parameters problem → Each Rel (map (λ j. value_at problem u (j + 1)) (range_with_len i m)) (map (λ j. value_at problem v (j + 1)) (range_with_len i m))
  parameters_like i zero h = tt
  parameters_like i (suc m) h = (related (i + 1) (root_walked problem w u (i + 1) (omega (arith, h))) (parameter_known problem w u i (omega (arith, h))), parameters_like (i + 1) m (omega (arith, h)))

  starts_like : (fuel : ℕ) → Like problem.program setting (test_start problem u fuel) (test_start problem v fuel)
  starts_like fuel = record {
    this_value = related 0 (root_walked problem w u 0 (omega arith)) (this_known problem w u);
    locals = plain_like problem.program setting (parameter_values problem u) (parameter_values problem v) (parameters_like 0 (parameters problem) (omega arith));
    result = tt;
    olds = tt;
    thrown = tt;
    heap = heaps_like;
    candidates = refl;
    candidates' = refl;
    fuel = refl;
  }

  -- ---- the runs of a test

  any_code : IsCode problem.program (MayStore problem.program setting) (MayPut problem.program setting) (λ node. Unit {0})
  any_code = record { runs = λ node h. all_any (code_run problem.program node); writes = λ node h. go (written_by node.scope node.tree) }
    where
      go : (t : Target) → MayWrite (MayStore problem.program setting) (MayPut problem.program setting) t
      go (LocalTarget k) = tt
      go NoTarget = tt
      go (OwnField f) = λ class k counted e. absurd counted
      go (FieldOf e f) = λ class k counted e. absurd counted
      go (ElementOf a i t) = λ class counted e. absurd counted

  abbrev Alike : {A : Type 0} → (A → A → Type 0) → Run A → Run A → Type 0
  Alike S m m' = Goes problem.program setting S m m'

  values_alike : (scope : Scope) (e : Tree) → Alike Rel (value problem.program scope e) (value problem.program scope e)
  values_alike scope e = value_goes problem.program setting (λ node. Unit {0}) any_code scope e (all_any (code scope e))

  -- with the thrown object as a local, where it is named
  named_alike : (b : Bool) (o p : Value) (m : Run Value) → Rel o p → Alike Rel m m → Alike Rel (naming b o m) (naming b p m)
  named_alike true o p m r q = scopes problem.program setting Rel _ _ (bind_goes problem.program setting Any Rel _ _ _ _ (declares problem.program setting o p r) (λ a b u. q))
  named_alike false o p m r q = q

  olds_alike : (os : List OldNode) → Alike (Each (OldLike problem.program setting)) (olds_valued problem.program os) (olds_valued problem.program os)
  olds_alike [] = record { by = λ s s' l. (tt, l) }
  olds_alike (o ∷ os) =
      bind_goes problem.program setting Rel (Each (OldLike problem.program setting)) _ _ _ _ (named_alike o.is_named Null Null _ (refl, tt) (values_alike o.scope o.tree)) (λ x y r.
      bind_goes problem.program setting (Each (OldLike problem.program setting)) (Each (OldLike problem.program setting)) _ _ _ _ (olds_alike os) (λ xs ys e. record { by = λ s s' l. (((refl, r), e), l) }))

  locals_like : (ls ms : List Local) → Each (LocalLike problem.program setting) ls ms → Each Rel (map (λ l. l.value) ls) (map (λ l. l.value) ms)
  locals_like [] [] e = tt
  locals_like (l ∷ ls) (m ∷ ms) e = (go l.place e.0.1, locals_like ls ms e.1)
    where
      go : (p : Option SlotPlace) → SlotLike problem.program setting p l.value m.value → Rel l.value m.value
      go None r = r
      go (Some p) r = r.2 tt
  locals_like [] (m ∷ ms) e = absurd e
  locals_like (l ∷ ls) [] e = absurd e

  bodies_alike : (m : Method) (x y : Value) (xs ys : List Value) → Rel x y → Each Rel xs ys → Alike Rel (body_of problem.program x xs m) (body_of problem.program y ys m)
  unfolding body_of
  bodies_alike m x y xs ys r e = record {
    by = λ s s' l.
        subst (λ (n : ℕ). Meets problem.program setting Rel (run_method problem.program (parts_within problem.program s.fuel) x xs (Some m) s) (run_method problem.program (parts_within problem.program n) y ys (Some m) s')) (sym l.fuel)
        ((method_goes problem.program setting (λ node. Unit {0}) any_code s.fuel x y xs ys (Some m) (all_any (code_of_method problem.program m), tt) r e).by s s' l);
  }

  -- ---- claims about them

  judged_same : {A : Type 0} (S : A → A → Type 0) (trap : Kind → Verdict) (o o' : Outcome A) (next next' : A → State → Verdict) → Meets problem.program setting S o o' → ((a b : A) (s s' : State) → S a b → Like problem.program setting s s' → next a s ≡ next' b s') → then_judged trap o next ≡ then_judged trap o' next'
  judged_same {A} S trap o o' next next' m f =
      let r = forked_end (renamed_place (λ o. o)) (KnownPlace 0 0 KnownHere []) (λ p. Unit {0}) (Reaches problem.program setting S o o') o.reads o'.reads (λ p. tt) m in
      go o.said o'.said o.after o'.after r.0 r.1
    where
      stopped : (e : Stop) (s s' : State) → judged_as {A = A} trap (Err e) s next ≡ judged_as trap (Err e) s' next'
      stopped (Trapped kind) s s' = refl
      stopped OutOfFuel s s' = refl
      stopped Stuck s s' = refl

      go : (r r' : Result A Stop) (s s' : State) → SaidLike problem.program setting S r r' → Like problem.program setting s s' → judged_as trap r s next ≡ judged_as trap r' s' next'
      go (Ok a) (Ok b) s s' e l = f a b s s' e l
      go (Err x) (Err y) s s' e l = rw e (stopped x s s')
      go (Ok a) (Err y) s s' e l = absurd e
      go (Err x) (Ok b) s s' e l = absurd e

  holds_same : (x y : Value) → Rel x y → (fails : Verdict) (n n' : Verdict) → n ≡ n' → where_holds x fails n ≡ where_holds y fails n'
  holds_same (Int i) y r fails n n' e = rw r.0 refl
  holds_same (Truth true) y r fails n n' e = rw r.0 e
  holds_same (Truth false) y r fails n n' e = rw r.0 refl
  holds_same Null y r fails n n' e = rw r.0 refl
  holds_same (Reference o) y r fails n n' e = rw r.0 refl

  ensured_same : (n : ℕ) (es : List Node) (s s' : State) → Like problem.program setting s s' → ensured problem.program n es s ≡ ensured problem.program n es s'
  ensured_same n [] s s' l = refl
  ensured_same n (e ∷ es) s s' l =
      judged_same Rel CheckTrap (value problem.program e.scope e.tree s) (value problem.program e.scope e.tree s') _ _ ((values_alike e.scope e.tree).by s s' l)
      (λ x y t t' r k. holds_same x y r (Ensures n) (ensured problem.program (n + 1) es t) (ensured problem.program (n + 1) es t') (ensured_same (n + 1) es t t' k))

  checked_same : (m : Method) (os ps : List Old) (x y : Value) (s s' : State) → Each (OldLike problem.program setting) os ps → Rel x y → Like problem.program setting s s' → checked problem m os x s ≡ checked problem m ps y s'
  checked_same m os ps x y s s' h r l =
      judged_same Rel CheckTrap (value problem.program (rep_ok_node problem).scope (rep_ok_node problem).tree s) (value problem.program (rep_ok_node problem).scope (rep_ok_node problem).tree s') _ _ ((values_alike (rep_ok_node problem).scope (rep_ok_node problem).tree).by s s' l)
      (λ a b t t' q k. holds_same a b q RepOk _ _ (ensured_same 1 (ensures_of problem.program m) (record t { result = Some x; olds = os }) (record t' { result = Some y; olds = ps })
      (record { this_value = k.this_value; locals = k.locals; result = r; olds = h; thrown = k.thrown; heap = k.heap; candidates = k.candidates; candidates' = k.candidates'; fuel = k.fuel })))

  signalled_same : (o p : Value) (cs : List Signal) (s s' : State) → Rel o p → Like problem.program setting s s' → signalled problem.program o cs s ≡ signalled problem.program p cs s'
  signalled_same o p [] s s' r l = refl
  signalled_same o p (c ∷ cs) s s' r l =
      judged_same Rel CheckTrap (naming c.is_named o (value problem.program c.condition.scope c.condition.tree) s) (naming c.is_named p (value problem.program c.condition.scope c.condition.tree) s') _ _
      ((named_alike c.is_named o p _ r (values_alike c.condition.scope c.condition.tree)).by s s' l)
      (λ x y t t' z k. holds_same x y z (Signals c.number) (signalled problem.program o cs t) (signalled problem.program p cs t') (signalled_same o p cs t t' r k))

  thrown_same : (m : Method) (os ps : List Old) (k : Kind) (cs : List Signal) (s s' : State) → Each (OldLike problem.program setting) os ps → Like problem.program setting s s' → thrown problem m os k cs s ≡ thrown problem m ps k cs s'
  thrown_same m os ps k [] s s' h l = refl
  thrown_same m os ps k (c ∷ cs) s s' h l =
      judged_same Rel CheckTrap (object_of problem.program k s) (object_of problem.program k s') _ _ ((objects problem.program setting k).by s s' l) (λ o p t t' r q.
      judged_same Rel CheckTrap (value problem.program (rep_ok_node problem).scope (rep_ok_node problem).tree t) (value problem.program (rep_ok_node problem).scope (rep_ok_node problem).tree t') _ _ ((values_alike (rep_ok_node problem).scope (rep_ok_node problem).tree).by t t' q) (λ a b u u' z w.
      holds_same a b z RepOk _ _ (signalled_same o p (c ∷ cs) (record u { olds = os }) (record u' { olds = ps }) r
      (record { this_value = w.this_value; locals = w.locals; result = w.result; olds = h; thrown = w.thrown; heap = w.heap; candidates = w.candidates; candidates' = w.candidates'; fuel = w.fuel }))))

  abbrev judged_there : Method → List Old → Result Value Stop → State → Verdict
  judged_there m xs r t = judged_as (λ k. thrown problem m xs k (fitting problem.program k (signals_of problem.program m)) t) r t (λ result s. checked problem m xs result s)

  -- after the body, however it ends
  after_body_same : (m : Method) (os ps : List Old) (o o' : Outcome Value) → Each (OldLike problem.program setting) os ps → Meets problem.program setting Rel o o' → after_body problem m os o ≡ after_body problem m ps o'
  after_body_same m os ps o o' h z =
      let r = forked_end (renamed_place (λ o. o)) (KnownPlace 0 0 KnownHere []) (λ p. Unit {0}) (Reaches problem.program setting Rel o o') o.reads o'.reads (λ p. tt) z in
      go o.said o'.said o.after o'.after r.0 r.1
    where
      stopped : (e : Stop) (s s' : State) → Like problem.program setting s s' → judged_there m os (Err e) s ≡ judged_there m ps (Err e) s'
      stopped (Trapped k) s s' l = thrown_same m os ps k (fitting problem.program k (signals_of problem.program m)) s s' h l
      stopped OutOfFuel s s' l = refl
      stopped Stuck s s' l = refl

      go : (r r' : Result Value Stop) (s s' : State) → SaidLike problem.program setting Rel r r' → Like problem.program setting s s' → judged_there m os r s ≡ judged_there m ps r' s'
      go (Ok a) (Ok b) s s' e l = checked_same m os ps a b s s' h e l
      go (Err x) (Err y) s s' e l = rw e (stopped x s s' l)
      go (Ok a) (Err y) s s' e l = absurd e
      go (Err x) (Ok b) s s' e l = absurd e

  from_same : (m : Method) (s s' : State) → Like problem.program setting s s' → verdict_from problem m s ≡ verdict_from problem m s'
  from_same m s s' l =
      judged_same (Each (OldLike problem.program setting)) CheckTrap (olds_valued problem.program (olds_of problem.program m) s) (olds_valued problem.program (olds_of problem.program m) s') _ _ ((olds_alike (olds_of problem.program m)).by s s' l) (λ os ps t t' h k.
      after_body_same m os ps (body_of problem.program t.this_value (map (λ l. l.value) t.locals) m t) (body_of problem.program t'.this_value (map (λ l. l.value) t'.locals) m t') h ((bodies_alike m t.this_value t'.this_value _ _ k.this_value (locals_like t.locals t'.locals k.locals)).by t t' k))

  by_same : (fuel : ℕ) (m : Option Method) → verdict_by problem u fuel m ≡ verdict_by problem v fuel m
  by_same fuel None = refl
  by_same fuel (Some m) = ap (λ (x : Verdict). Some x) (from_same m (test_start problem u fuel) (test_start problem v fuel) (starts_like fuel))

  pub verdicts_same : verdict_of problem u ≡ verdict_of problem v
  unfolding verdict_of
  verdicts_same = by_same problem.fuel (tested_method problem problem.mode)
