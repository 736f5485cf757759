-- Statements, and every run: by induction over its bound.
use Rattle.std.proofs.Common.{◌≡◌, ℕ, zero, suc, Bool, true, false, List, [], ◌∷◌, ◌++◌, length, Option, Some, None, refl, sym, ap, ◌∙◌, subst}
use Rattle.std.specs.Prelude.{◌||◌, not, codes, if◌then◌else◌}
use Rattle.kr_base.specs.Places.{nowhere}
use Rattle.kr_laws_pruning.proofs.Spaces.{some_is}
use Rattle.kr_base.specs.declared.place.Place.{Place}
use Rattle.kr_ast.specs.Tree as trees
use Rattle.kr_ast.specs.Tree.{Tree}
use Rattle.kr_value.specs.declared.value.Value.{Value}
use Rattle.kr_value.specs.declared.value.Value.TheVariants.{Bool as Truth}
use Rattle.kr_value.specs.declared.object.Class.TheVariants.{Object}
use Rattle.kr_classes_table.specs.Types.{JavaType, BooleanType, VoidType, ClassType, ArrayType, SetType, ListType, InferredType, UnknownType, is_void, is_known}
use Rattle.kr_classes_table.specs.Table.{Table, items, class_or, class_named, is_below, is_assignable}
use Rattle.kr_classes_table.specs.Rules.{Fault}
use Rattle.kr_types_meaning.specs.Scopes.{Scope, Locals, after, written, value, statement, in_loop, declaring, bind_local}
use Rattle.kr_types_meaning.specs.Rules as rules
use Rattle.kr_types_meaning.specs.Rules.{Typed, Values, Untyped, Judgement, Fits, ask, fine, takes, initial_fits, is_statement, condition_rule, return_rule, jump_rule, declaration_rule, throwable, throw_rule, caught_rule}
use Rattle.kr_types_meaning.specs.Typing.{Judged, judge, on_one, on_maybe, judged, type_in}
use Rattle.kr_mean.specs.Program.{Program, default_of, is_of_type}
use Rattle.kr_mean.specs.Steps.{Run, give, ◌>>=◌, ◌>>◌, tick, declare, assign, scoped}
use Rattle.kr_mean.specs.Thrown.{class_of_kind, is_caught, object_of, attempted, throw}
use Rattle.kr_mean.specs.declared.kind.Kind.{Kind}
use Rattle.kr_mean.specs.declared.flow.Flow.{Flow}
use Rattle.kr_mean.specs.declared.flow.Flow.TheVariants.{Next, Broke, Continued, Left, Gave}
use Rattle.kr_mean.specs.Meaning.{Parts, then_on, then_round, then_update, choose, all, updates, condition, rounds, initial_value, all_declared, catch_run, caught, flow_of, statement as run_statement, spent, parts_within, eval, exec}
use Rattle.kr_laws_safety.specs.Fits.{IsOf, type_at}
use Rattle.kr_laws_safety.specs.Triples.{Fixed, Safe, Extends, Keeps, type_of_old}
use Rattle.kr_laws_safety.proofs.Steps.{safe_give, safe_spent, safe_map, safe_then, safe_tick, safe_choose, safe_declare, safe_assign, safe_scoped, closes_scoped, closes_tick}
use Rattle.kr_laws_safety.proofs.Heaps.{one_more}
use Rattle.kr_laws_safety.proofs.Thrown.{IsObject, SafeThrown, safe_attempted, thrown_then, thrown_map, thrown_tick, thrown_scoped, thrown_object, safe_throw}
use Rattle.kr_laws_types.specs.Types.{is_variable_type, is_value_type, is_expression_type}
use Rattle.kr_laws_types.specs.Shapes.{Expression, Expressions, Statement, Statements, Declarators, Catches, IsCode}
use Rattle.kr_laws_types.specs.Derivation.{IsBlock}
use Rattle.kr_laws_types.specs.Expressions.{plain}
use Rattle.kr_laws_types.proofs.Given.{variable_known, result_known}
use Rattle.kr_laws_types.proofs.Expressions.{after_expression, written_variable}
use Rattle.kr_laws_safety.specs.Typed.{IsTypedProgram}
use Rattle.kr_laws_safety.specs.Claims.{this_of, types_of, GivesAs, IsScope, Coded, Leads, LeadsOn, ValuesSafe, StatementsSafe, LoopsSafe, BlocksClose, PartsSafe}
use Rattle.kr_laws_safety.proofs.Targets.{variable_target, variable_not_void, value_not_void, result_target, void_is, void_from, used}
use Rattle.kr_laws_safety.proofs.Glue.{kept, on_type, boolean_is, safe_next, safe_keep, typed_at}
use Rattle.kr_laws_safety.proofs.Scoping.{after_plain, after_statement, types_long, last_local}
use Rattle.kr_laws_safety.proofs.Operands.{written_is}
use Rattle.kr_laws_safety.proofs.Sequences.{declares, shifted, after_all, after_items, items_unbroken, all_more, all_shifted, all_variables, shifted_scope, sequence}
use Rattle.kr_laws_safety.proofs.Creations.{is_nil, nil_is, present}
use Rattle.kr_laws_safety.proofs.Values.{values_safe}
use Rattle.kr_laws_types.proofs.Typed.{front_none, back_none, below_none}

-- ---- parts that may be absent

pub initial_present : (p : Parts) (s : Scope) (k : ℕ) (e : Tree) → is_nil e ≡ false → initial_value p s k e ≡ (p.value s e >>= (λ v. assign k v))
initial_present p s k trees.Nil q = absurd (cc (q))
initial_present p s k _ q = refl

condition_present : (p : Parts) (s : Scope) (e : Tree) → is_nil e ≡ false → condition p s e ≡ p.value s e
condition_present p s trees.Nil q = absurd (cc (q))
condition_present p s _ q = refl

return_present : (program : Program) (p : Parts) (s : Scope) (pl : Place) (e : Tree) → is_nil e ≡ false → flow_of program p s (trees.Return pl e) ≡ (p.value s e >>= (λ v. give (Gave v)))
return_present program p s pl trees.Nil q = absurd (cc (q))
return_present program p s pl _ q = refl

on_present : (f : Option JavaType → Judgement) (x : Typed) (t : JavaType) → type_in x ≡ Some t → on_maybe f x ≡ f (Some t)
on_present f (rules.Value u) t e = ap f e
on_present f (rules.Variable u) t e = ap f e
on_present f (Values ts) t e = absurd (cc (e))
on_present f Untyped t e = absurd (cc (e))

-- a rule that is kept
asked : (b : Bool) (r : ℕ) (v : Judgement) (x : Typed) → ask b r v ≡ Fits x → (b ≡ true) × (v ≡ Fits x)
asked true r v x e = (refl, e)
asked false r v x e = absurd (cc (e))

taken : (s : Scope) (to from : JavaType) → is_known to ≡ true → takes s to from ≡ true → is_assignable s.table from to ≡ true
taken s to from k e = go (is_known to) k e
  where
    go : (b : Bool) → b ≡ true → (not b || is_assignable s.table from to) ≡ true → is_assignable s.table from to ≡ true
    go true k e = e
    go false k e = absurd (cc (k))

-- ---- where statements lead, whatever the locals

abbrev pub Flows : Table → JavaType → Bool → List JavaType → Flow → Type 0
Flows table r l more Next = Unit {0}
Flows table r l more Broke = l ≡ true
Flows table r l more Continued = l ≡ true
Flows table r l more Left = is_void r ≡ true
Flows table r l more (Gave v) = (is_void r ≡ false) × IsOf table more r v

flows_lead : (table : Table) (r : JavaType) (l : Bool) (ls more ms : List JavaType) (flow : Flow) → ms ≡ ls → Flows table r l more flow → Leads table r l ls ls more ms flow
flows_lead table r l ls more ms Next e h = e
flows_lead table r l ls more ms Broke e h = (e, h)
flows_lead table r l ls more ms Continued e h = (e, h)
flows_lead table r l ls more ms Left e h = (e, h)
flows_lead table r l ls more ms (Gave v) e h = (e, h.0, h.1)

on_flows : (table : Table) (r : JavaType) (l : Bool) (ls us more ms : List JavaType) (flow : Flow) → Extends ls us → LeadsOn table r l ls us more ms flow → Extends ls ms × Flows table r l more flow
on_flows table r l ls us more ms Next x h = (subst (λ (z : List JavaType). Extends ls z) (sym h) x, tt)
on_flows table r l ls us more ms Broke x h = (h.0, h.1)
on_flows table r l ls us more ms Continued x h = (h.0, h.1)
on_flows table r l ls us more ms Left x h = (h.0, h.1)
on_flows table r l ls us more ms (Gave v) x h = (h.0, (h.1, h.2))

lead_flows : (table : Table) (r : JavaType) (l : Bool) (ls us more ms : List JavaType) (flow : Flow) → Extends ls us → Leads table r l us us more ms flow → Extends ls ms × Flows table r l more flow
lead_flows table r l ls us more ms Next x h = (subst (λ (z : List JavaType). Extends ls z) (sym h) x, tt)
lead_flows table r l ls us more ms Broke x h = (subst (λ (z : List JavaType). Extends ls z) (sym h.0) x, h.1)
lead_flows table r l ls us more ms Continued x h = (subst (λ (z : List JavaType). Extends ls z) (sym h.0) x, h.1)
lead_flows table r l ls us more ms Left x h = (subst (λ (z : List JavaType). Extends ls z) (sym h.0) x, h.1)
lead_flows table r l ls us more ms (Gave v) x h = (subst (λ (z : List JavaType). Extends ls z) (sym h.0) x, (h.1, h.2))

module _ (program : Program) (fixed : Fixed) where
  -- ---- loops

  -- after a round
  then_rounds : (this : Option ℕ) (ls : List JavaType) (r : JavaType) (l : Bool) (m : Run Flow) → ((types : List JavaType) → Safe program fixed types this ls m (Leads program.table r l ls ls)) → (types ms : List JavaType) (flow : Flow) → Leads program.table r true ls ls types ms flow
      → Safe program fixed types this ms (then_round flow m) (Leads program.table r l ls ls)
  then_rounds this ls r l m s types ms Next h = subst (λ (z : List JavaType). Safe program fixed types this z m (Leads program.table r l ls ls)) (sym h) (s types)
  then_rounds this ls r l m s types ms Continued h = subst (λ (z : List JavaType). Safe program fixed types this z m (Leads program.table r l ls ls)) (sym h.0) (s types)
  then_rounds this ls r l m s types ms Broke h = safe_give program fixed types this ms Next _ h.0
  then_rounds this ls r l m s types ms Left h = safe_give program fixed types this ms Left _ h
  then_rounds this ls r l m s types ms (Gave v) h = safe_give program fixed types this ms (Gave v) _ h

  rounds_safe : (n : ℕ) → LoopsSafe program fixed (rounds n)
  rounds_safe zero this ls r l test body t b types = safe_spent program fixed types this ls _
  rounds_safe (suc n) this ls r l test body t b types =
      safe_keep program fixed types this ls tick _ _ (safe_tick program fixed types this ls)
      (λ more u x. safe_next program fixed more this ls test _ (λ others v. is_void BooleanType ≡ false → IsOf program.table others BooleanType v) _ (t more)
      (λ others v y i. safe_choose program fixed others this ls v _ (give Next) _ (i refl)
      (safe_then program fixed others this ls body _ _ _ (b others) (λ last ms flow z h. then_rounds this ls r l (rounds n test body) (λ types. rounds_safe n this ls r l test body t b types) last ms flow h))
      (safe_give program fixed others this ls Next _ refl)))

-- ---- what is thrown and caught

-- a type of values that fits the class of a name is a class or null's, so that the name is a class's
class_thrown : (table : Table) (t : JavaType) (o n : List ℕ) → is_value_type t ≡ true → is_assignable table t (UnknownType o n) ≡ true → ⊥
class_thrown table (SetType InferredType) o n k e = cc (e)
class_thrown table (SetType t) o n k e = cc (e)
class_thrown table (ListType InferredType) o n k e = cc (e)
class_thrown table (ListType t) o n k e = cc (e)
class_thrown table _ o n k e = cc (k, e)

named_class : (table : Table) (t : JavaType) (x : Option ℕ) (o n : List ℕ) → is_value_type t ≡ true → is_assignable table t (class_or x (UnknownType o n)) ≡ true → (c : ℕ) × (class_or x (UnknownType o n) ≡ ClassType c)
named_class table t (Some c) o n k e = (c, refl)
named_class table t None o n k e = absurd (class_thrown table t o n k e)

-- an object of a class is caught by a class above it
pub class_caught : (program : Program) (t : JavaType) (c : ℕ) → is_of_type program t (Object c) ≡ true → (d : ℕ) × (t ≡ ClassType d) × (is_below program.table c d ≡ true)
class_caught program (ClassType d) c e = (d, refl, e)
class_caught program (ArrayType t) c e = absurd (cc (e))
class_caught program _ c e = absurd (cc (e))

module _ (program : Program) (fixed : Fixed) (facts : IsTypedProgram program) (p : Parts) (q : PartsSafe program fixed p) where
  -- ---- parts of statements

  -- an expression as a statement
  as_statement : (s : Scope) (e : Tree) → IsScope program fixed s → Coded program fixed (Expression false) s e → (judged (statement s) e).faults ≡ [] → (types : List JavaType) → Safe program fixed types (this_of s) (types_of s.locals) (p.value (plain s) e) (Keeps (types_of s.locals))
  as_statement s e k h f types = let x = typed_at program fixed facts (statement s) e k h f in go x.type x.known (is_void x.type) refl x.kind
    where
      go : (t : JavaType) → type_in (judged (statement s) e).typed ≡ Some t → (b : Bool) → is_void t ≡ b → (b || is_value_type t) ≡ true → Safe program fixed types (this_of s) (types_of s.locals) (p.value (plain s) e) (Keeps (types_of s.locals))
      go t r true b v = safe_map program fixed types (this_of s) (types_of s.locals) (p.value (plain s) e) _ _ (q.value (statement s) e k h f types t VoidType r refl (ap (λ (z : JavaType). is_assignable program.table z VoidType) (void_is t b))) (λ more ms w x. x.0)
      go t r false b v = let u = used program.table t v in safe_map program fixed types (this_of s) (types_of s.locals) (p.value (plain s) e) _ _ (q.value (statement s) e k h f types t u.type r u.target u.fits) (λ more ms w x. x.0)

  -- a condition
  boolean_part : (s : Scope) (c : Tree) (pl : Place) (more : List Fault) → IsScope program fixed s → Coded program fixed (Expression false) s c → (judge pl (on_one condition_rule (judged s c).typed) ((judged s c).faults ++ more)).faults ≡ [] → (types : List JavaType)
      → Safe program fixed types (this_of s) (types_of s.locals) (p.value (plain s) c) (GivesAs program (types_of s.locals) BooleanType)
  boolean_part s c pl more k h f types =
      let v = on_one condition_rule (judged s c).typed in
      let fc = front_none (judged s c).faults more (below_none pl v ((judged s c).faults ++ more) f) in
      let x = typed_at program fixed facts s c k h fc in
      let rule = kept pl v ((judged s c).faults ++ more) f in
      let b = asked (rules.is_boolean x.type) 28 fine rule.0 (sym (on_type condition_rule (judged s c).typed x.type x.known) ∙ rule.1) in
      q.value s c k h fc types x.type BooleanType x.known refl (ap (λ (z : JavaType). is_assignable program.table z BooleanType) (boolean_is x.type b.0))

  choose_boolean : (types : List JavaType) (this : Option ℕ) (ls : List JavaType) (c : Run Value) (m n : Run Flow) (Q : List JavaType → List JavaType → Flow → Type 0) → Safe program fixed types this ls c (GivesAs program ls BooleanType) → ((more : List JavaType) → Safe program fixed more this ls m Q) → ((more : List JavaType) → Safe program fixed more this ls n Q)
      → Safe program fixed types this ls (c >>= (λ v. choose v m n)) Q
  choose_boolean types this ls c m n Q s a b = safe_next program fixed types this ls c _ (λ others v. is_void BooleanType ≡ false → IsOf program.table others BooleanType v) _ s (λ more v x i. safe_choose program fixed more this ls v m n Q (i refl) (a more) (b more))

  -- a statement inside another one declares nothing that stays
  inner : (s : Scope) (a : Tree) → IsScope program fixed s → is_statement s.role ≡ false → Coded program fixed (Statement false) s a → (judged s a).faults ≡ [] → (types : List JavaType)
      → Safe program fixed types (this_of s) (types_of s.locals) (p.exec (plain s) a) (Leads program.table s.result s.is_in_loop (types_of s.locals) (types_of s.locals))
  inner s a k r h f types =
      subst (λ (z : Scope). Safe program fixed types (this_of s) (types_of s.locals) (p.exec (plain s) a) (Leads program.table s.result s.is_in_loop (types_of s.locals) (types_of z.locals))) (after_statement program.arrays (type_of_old fixed.olds) s (plain s) a h) (q.exec false s a k r h f types)

  -- ---- declarations

  initial : (s : Scope) (n : List ℕ) (w : JavaType) (pl : Place) (e : Tree) → IsScope program fixed s → is_variable_type w ≡ true → IsCode program.arrays (type_of_old fixed.olds) (Expression true) (plain (declares w (bind_local n w s))) e
      → (judge pl (on_maybe (declaration_rule (declares w s) Locals pl n) (judged (declares w (bind_local n w s)) e).typed) (judged (declares w (bind_local n w s)) e).faults).faults ≡ [] → is_statement s.role ≡ false → (types : List JavaType)
      → Safe program fixed types (this_of s) (types_of s.locals ++ w ∷ []) (initial_value p (plain (declares w (bind_local n w s))) (length s.locals) e) (Keeps (types_of s.locals ++ w ∷ []))
  initial s n w pl e k v h f role types = go (is_nil e) refl
    where
      go : (b : Bool) → is_nil e ≡ b → Safe program fixed types (this_of s) (types_of s.locals ++ w ∷ []) (initial_value p (plain (declares w (bind_local n w s))) (length s.locals) e) (Keeps (types_of s.locals ++ w ∷ []))
      go true b = subst (λ (z : Tree). Safe program fixed types (this_of s) (types_of s.locals ++ w ∷ []) (initial_value p (plain (declares w (bind_local n w s))) (length s.locals) z) (Keeps (types_of s.locals ++ w ∷ []))) (sym (nil_is e b)) (safe_give program fixed types (this_of s) (types_of s.locals ++ w ∷ []) tt _ refl)
      go false b =
          let inside = declares w (bind_local n w s) in
          let scope : IsScope program fixed (declares w (bind_local n w s)) = (k.0, k.1, (v, k.2), k.3, k.4) in
          let coded = present program.arrays (type_of_old fixed.olds) (plain inside) e h b in
          let verdict = on_maybe (declaration_rule (declares w s) Locals pl n) (judged inside e).typed in
          let fe = below_none pl verdict (judged inside e).faults f in
          let x = typed_at program fixed facts inside e scope coded fe in
          let rule = kept pl verdict (judged inside e).faults f in
          let new = asked (rules.is_new (declares w s) n (Rattle.kr_types_meaning.specs.Scopes.meant (declares w s) n)) 4 (ask (initial_fits (declares w s) (Some x.type)) 29 fine) rule.0 (sym (on_present (declaration_rule (declares w s) Locals pl n) (judged inside e).typed x.type x.known) ∙ rule.1) in
          let fits = asked (takes (declares w s) w x.type) 29 fine rule.0 new.1 in
          let fit = subst (λ (z : Table). is_assignable z x.type w ≡ true) k.0 (taken (declares w s) w x.type (variable_known w v) fits.0) in
          subst (λ (z : Run (Unit {0})). Safe program fixed types (this_of s) (types_of s.locals ++ w ∷ []) z (Keeps (types_of s.locals ++ w ∷ []))) (sym (initial_present p (plain inside) (length s.locals) e b))
          (safe_next program fixed types (this_of s) (types_of s.locals ++ w ∷ []) (p.value (plain inside) e) _ _ _ (q.value inside e scope coded fe types x.type w x.known (variable_target w v) fit)
          (λ more y z i. safe_assign program fixed more (this_of s) (types_of s.locals ++ w ∷ []) (length s.locals) w y (last_local (types_of s.locals) w (length s.locals) (sym (types_long s.locals))) (i (variable_not_void w v))))

  -- a group of declarators
  declare_all : (s : Scope) (w : JavaType) (ds : Tree) → IsScope program fixed s → is_statement s.role ≡ false → is_variable_type w ≡ true → IsCode program.arrays (type_of_old fixed.olds) Declarators (declares w (plain s)) ds → (judged (declares w s) ds).faults ≡ [] → (types : List JavaType)
      → Safe program fixed types (this_of s) (types_of s.locals) (all_declared p (declares w (plain s)) (items ds)) (λ more ms flow. (ms ≡ types_of (after (declares w s) ds).locals) × (flow ≡ Next))
  unfolding judged
  declare_all s w trees.Nil k r v h f types = safe_give program fixed types (this_of s) (types_of s.locals) Next _ (refl, refl)
  declare_all s w (trees.Cons (trees.Declarator pl n e) b) k r v h f types =
      let D = declares w s in
      let head = judge pl (on_maybe (declaration_rule D Locals pl n) (judged (declares w (bind_local n w s)) e).typed) (judged (declares w (bind_local n w s)) e).faults in
      let tail = judged (declares w (bind_local n w s)) b in
      safe_then program fixed types (this_of s) (types_of s.locals) _ _ (λ more ms u. ms ≡ types_of s.locals ++ w ∷ []) _
      (safe_keep program fixed types (this_of s) (types_of s.locals) tick _ _ (safe_tick program fixed types (this_of s) (types_of s.locals))
      (λ more u x. safe_then program fixed more (this_of s) (types_of s.locals) (declare (default_of w)) _ _ _ (safe_declare program fixed more (this_of s) (types_of s.locals) w (default_of w) (Rattle.kr_laws_safety.proofs.Targets.default_is program.table more w v))
      (λ others ms u y l. subst (λ (z : List JavaType). Safe program fixed others (this_of s) z (initial_value p (plain (declares w (bind_local n w s))) (length s.locals) e) (Keeps (types_of s.locals ++ w ∷ []))) (sym l) (initial s n w pl e k v h.0 (front_none head.faults tail.faults f) r others))))
      (λ more ms u x l. subst (λ (z : List JavaType). Safe program fixed more (this_of s) z (all_declared p (declares w (plain (bind_local n w s))) (items b)) (λ others ns flow. (ns ≡ types_of (after (declares w (bind_local n w s)) b).locals) × (flow ≡ Next))) (sym l)
      (declare_all (bind_local n w s) w b (k.0, k.1, (v, k.2), k.3, k.4) r v h.1 (back_none head.faults tail.faults f) more))
  declare_all s w (trees.Cons _ b) k r v h f types = absurd h.0
  declare_all s w _ k r v h f types = absurd h

  -- ---- statements

  abbrev Leading : Scope → Tree → Run Flow → List JavaType → Type 0
  Leading s t m types = Safe program fixed types (this_of s) (types_of s.locals) m (Leads program.table s.result s.is_in_loop (types_of s.locals) (types_of (after s t).locals))

  local : (s : Scope) (pl : Place) (w ds : Tree) (m : Bool) → IsScope program fixed s → is_statement s.role ≡ false → Coded program fixed (Statement m) s (trees.Local pl w ds) → (judged s (trees.Local pl w ds)).faults ≡ [] → (types : List JavaType) → Leading s (trees.Local pl w ds) (run_statement program p (plain s) (trees.Local pl w ds)) types
  unfolding judged
  local s pl w ds m k r h f types =
      let v = written_variable s w h.1 (front_none (judged s w).faults (judged (declaring Locals w s) ds).faults f) in
      let variable = subst (λ (z : JavaType). is_variable_type z ≡ true) (written_is s w v.0 h.1 v.1) v.2 in
      safe_map program fixed types (this_of s) (types_of s.locals) (all_declared p (declares (written s w) (plain s)) (items ds)) _ _
      (declare_all s (written s w) ds k r variable h.2 (back_none (judged s w).faults (judged (declaring Locals w s) ds).faults f) types)
      (λ more ms flow x. subst (λ (z : Flow). Leads program.table s.result s.is_in_loop (types_of s.locals) (types_of (after s (trees.Local pl w ds)).locals) more ms z) (sym x.1) x.0)

  block : (s : Scope) (ts : Tree) → IsScope program fixed s → is_statement s.role ≡ false → Coded program fixed Statements s ts → (judged s ts).faults ≡ [] → (types : List JavaType)
      → Safe program fixed types (this_of s) (types_of s.locals) (scoped (all p (plain s) (items ts))) (Leads program.table s.result s.is_in_loop (types_of s.locals) (types_of s.locals))
  block s ts k r h f types =
      let unbroken = items_unbroken program.arrays (type_of_old fixed.olds) s ts h f in
      safe_map program fixed types (this_of s) (types_of s.locals) (scoped (all p (plain s) (items ts))) _ _
      (safe_scoped program fixed types (this_of s) (types_of s.locals) (all p (plain s) (items ts)) (λ more flow. Flows program.table s.result s.is_in_loop more flow)
      (safe_map program fixed types (this_of s) (types_of s.locals) (all p (plain s) (items ts)) _ _ (sequence program fixed facts p q s (items ts) k r unbroken types)
      (λ more ms flow x. on_flows program.table s.result s.is_in_loop (types_of s.locals) (types_of (after_all program.arrays (type_of_old fixed.olds) s (items ts)).locals) more ms flow (all_more program.arrays (type_of_old fixed.olds) s (items ts)) x)))
      (λ more ms flow x. flows_lead program.table s.result s.is_in_loop (types_of s.locals) more ms flow x.0 x.1)

  returned : (s : Scope) (pl : Place) (e : Tree) → IsScope program fixed s → is_statement s.role ≡ false → Coded program fixed (Expression true) s e → (judged s (trees.Return pl e)).faults ≡ [] → (types : List JavaType)
      → Safe program fixed types (this_of s) (types_of s.locals) (flow_of program p (plain s) (trees.Return pl e)) (Leads program.table s.result s.is_in_loop (types_of s.locals) (types_of s.locals))
  unfolding judged
  returned s pl e k r h f types = go (is_nil e) refl
    where
      none : (b c : Bool) → c ≡ true → (b || not c) ≡ true → b ≡ true
      none true c x y = refl
      none false true x y = y
      none false false x y = x

      Returns : Tree → Type 0
      Returns z = Safe program fixed types (this_of s) (types_of s.locals) (flow_of program p (plain s) (trees.Return pl z)) (Leads program.table s.result s.is_in_loop (types_of s.locals) (types_of s.locals))

      absent : (judge pl (ask (is_void s.result || not (is_known s.result)) 30 fine) []).faults ≡ [] → Returns trees.Nil
      absent f =
          let rule = kept pl (ask (is_void s.result || not (is_known s.result)) 30 fine) [] f in
          safe_give program fixed types (this_of s) (types_of s.locals) Left _ (refl, none (is_void s.result) (is_known s.result) (result_known s.result k.3) (asked (is_void s.result || not (is_known s.result)) 30 fine rule.0 rule.1).0)

      go : (b : Bool) → is_nil e ≡ b → Returns e
      go true b = subst Returns (sym (nil_is e b)) (absent (subst (λ (z : Tree). (judge pl (on_maybe (return_rule s) (judged s z).typed) (judged s z).faults).faults ≡ []) (nil_is e b) f))
      go false b =
          let coded = present program.arrays (type_of_old fixed.olds) (plain s) e h b in
          let verdict = on_maybe (return_rule s) (judged s e).typed in
          let fe = below_none pl verdict (judged s e).faults f in
          let x = typed_at program fixed facts s e k coded fe in
          let rule = kept pl verdict (judged s e).faults f in
          let fits = asked (takes s s.result x.type) 30 fine rule.0 (sym (on_present (return_rule s) (judged s e).typed x.type x.known) ∙ rule.1) in
          let fit = subst (λ (z : Table). is_assignable z x.type s.result ≡ true) k.0 (taken s s.result x.type (result_known s.result k.3) fits.0) in
          let kind = subst (λ (z : Bool). is_expression_type z x.type ≡ true) r x.kind in
          let gives = not_void (is_void s.result) refl x.type (value_not_void x.type kind) fit in
          subst (λ (z : Run Flow). Safe program fixed types (this_of s) (types_of s.locals) z (Leads program.table s.result s.is_in_loop (types_of s.locals) (types_of s.locals))) (sym (return_present program p (plain s) pl e b))
          (safe_next program fixed types (this_of s) (types_of s.locals) (p.value (plain s) e) _ (λ more v. is_void s.result ≡ false → IsOf program.table more s.result v) _ (q.value s e k coded fe types x.type s.result x.known (result_target s.result k.3) fit)
          (λ more v y i. safe_give program fixed more (this_of s) (types_of s.locals) (Gave v) _ (refl, gives, i gives)))
        where
          not_void : (b : Bool) → is_void s.result ≡ b → (t : JavaType) → is_void t ≡ false → is_assignable program.table t s.result ≡ true → is_void s.result ≡ false
          not_void false b t n a = b
          not_void true b t n a = absurd (cc (n, void_from program.table t (subst (λ (z : JavaType). is_assignable program.table t z ≡ true) (void_is s.result b) a)))

  -- a test and what follows
  tested : (s : Scope) (pl : Place) (c : Tree) (more : List Fault) → (judge pl (on_one condition_rule (judged s c).typed) ((judged s c).faults ++ more)).faults ≡ [] → more ≡ []
  tested s pl c more f = back_none (judged s c).faults more (below_none pl (on_one condition_rule (judged s c).typed) ((judged s c).faults ++ more) f)

  -- the body of a loop
  body : (s : Scope) (a : Tree) → IsScope program fixed s → is_statement s.role ≡ false → Coded program fixed (Statement false) s a → (judged (in_loop s) a).faults ≡ [] → (types : List JavaType)
      → Safe program fixed types (this_of s) (types_of s.locals) (p.exec (plain s) a) (Leads program.table s.result true (types_of s.locals) (types_of s.locals))
  body s a k r h f types = inner (in_loop s) a k r h f types

  -- ---- `for`

  -- a condition that may be absent
  condition_safe : (s : Scope) (c : Tree) (pl : Place) (more : List Fault) → IsScope program fixed s → Coded program fixed (Expression true) s c → (judge pl (on_one condition_rule (judged s c).typed) ((judged s c).faults ++ more)).faults ≡ [] → (types : List JavaType)
      → Safe program fixed types (this_of s) (types_of s.locals) (condition p (plain s) c) (GivesAs program (types_of s.locals) BooleanType)
  condition_safe s c pl more k h f types = go (is_nil c) refl
    where
      go : (b : Bool) → is_nil c ≡ b → Safe program fixed types (this_of s) (types_of s.locals) (condition p (plain s) c) (GivesAs program (types_of s.locals) BooleanType)
      go true b = subst (λ (z : Tree). Safe program fixed types (this_of s) (types_of s.locals) (condition p (plain s) z) (GivesAs program (types_of s.locals) BooleanType)) (sym (nil_is c b)) (safe_give program fixed types (this_of s) (types_of s.locals) (Truth true) _ (refl, λ d. refl))
      go false b =
          subst (λ (z : Run Value). Safe program fixed types (this_of s) (types_of s.locals) z (GivesAs program (types_of s.locals) BooleanType)) (sym (condition_present p (plain s) c b))
          (boolean_part s c pl more k (present program.arrays (type_of_old fixed.olds) (plain s) c h b) f types)

  -- updates, each as a statement
  updated : (s : Scope) (us : Tree) → IsScope program fixed s → Coded program fixed Expressions s us → (judged (statement s) us).faults ≡ [] → (types : List JavaType) (l : Bool) → Safe program fixed types (this_of s) (types_of s.locals) (updates p (plain s) (items us)) (Leads program.table s.result l (types_of s.locals) (types_of s.locals))
  unfolding judged
  updated s trees.Nil k h f types l = safe_give program fixed types (this_of s) (types_of s.locals) Next _ refl
  updated s (trees.Cons a b) k h f types l =
      let S = statement s in
      let here = after_expression program.arrays (type_of_old fixed.olds) S (plain s) false a h.0 in
      let there = after_expression program.arrays (type_of_old fixed.olds) (plain s) (plain s) false a h.0 in
      let fa = front_none (judged S a).faults (judged (after S a) b).faults f in
      let fb = subst (λ (z : Scope). (judged z b).faults ≡ []) here (back_none (judged S a).faults (judged (after S a) b).faults f) in
      safe_keep program fixed types (this_of s) (types_of s.locals) (p.value (plain s) a) _ _ (as_statement s a k h.0 fa types)
      (λ more v x. subst (λ (z : Scope). Safe program fixed more (this_of s) (types_of s.locals) (updates p z (items b)) (Leads program.table s.result l (types_of s.locals) (types_of s.locals))) (sym there) (updated s b k h.1 fb more l))
  updated s _ k h f types l = absurd h

  -- after the body
  then_updates : (this : Option ℕ) (ls : List JavaType) (r : JavaType) (m : Run Flow) → ((types : List JavaType) → Safe program fixed types this ls m (Leads program.table r true ls ls)) → (types ms : List JavaType) (flow : Flow) → Leads program.table r true ls ls types ms flow
      → Safe program fixed types this ms (then_update flow m) (Leads program.table r true ls ls)
  then_updates this ls r m s types ms Next h = subst (λ (z : List JavaType). Safe program fixed types this z m (Leads program.table r true ls ls)) (sym h) (s types)
  then_updates this ls r m s types ms Continued h = subst (λ (z : List JavaType). Safe program fixed types this z m (Leads program.table r true ls ls)) (sym h.0) (s types)
  then_updates this ls r m s types ms Broke h = safe_give program fixed types this ms Broke _ h
  then_updates this ls r m s types ms Left h = safe_give program fixed types this ms Left _ h
  then_updates this ls r m s types ms (Gave v) h = safe_give program fixed types this ms (Gave v) _ h

  -- the loop, in the scope after its initial statements
  looped : (w : Scope) (pl : Place) (c u a : Tree) (before : List Fault) → IsScope program fixed w → is_statement w.role ≡ false → Coded program fixed (Expression true) w c → Coded program fixed Expressions w u → Coded program fixed (Statement false) w a
      → (judge pl (on_one condition_rule (judged w c).typed) ((judged w c).faults ++ (before ++ (judged (statement w) u).faults ++ (judged (in_loop w) a).faults))).faults ≡ [] → (types : List JavaType)
      → Safe program fixed types (this_of w) (types_of w.locals) (p.rounds (condition p (plain w) c) (p.exec (plain w) a >>= (λ leads. then_update leads (updates p (plain w) (items u))))) (Leads program.table w.result w.is_in_loop (types_of w.locals) (types_of w.locals))
  looped w pl c u a before k r hc hu ha f types =
      let rest = before ++ (judged (statement w) u).faults ++ (judged (in_loop w) a).faults in
      let below = tested w pl c rest f in
      let front = front_none (before ++ (judged (statement w) u).faults) (judged (in_loop w) a).faults below in
      let fa = back_none (before ++ (judged (statement w) u).faults) (judged (in_loop w) a).faults below in
      let fu = back_none before (judged (statement w) u).faults front in
      q.loops (this_of w) (types_of w.locals) w.result w.is_in_loop _ _ (λ more. condition_safe w c pl rest k hc f more)
      (λ more. safe_then program fixed more (this_of w) (types_of w.locals) (p.exec (plain w) a) _ _ _ (body w a k r ha fa more)
      (λ others ms flow x l. then_updates (this_of w) (types_of w.locals) w.result (updates p (plain w) (items u)) (λ types. updated w u k hu fu types true) others ms flow l))
      types

  -- after the initial statements
  started : (this : Option ℕ) (ls us : List JavaType) (r : JavaType) (l : Bool) (m : Run Flow) → Extends ls us → ((types : List JavaType) → Safe program fixed types this us m (Leads program.table r l us us)) → (types ms : List JavaType) (flow : Flow) → LeadsOn program.table r l ls us types ms flow
      → Safe program fixed types this ms (then_on flow m) (λ more after flow. Extends ls after × Flows program.table r l more flow)
  started this ls us r l m x s types ms Next h =
      subst (λ (z : List JavaType). Safe program fixed types this z m (λ more after flow. Extends ls after × Flows program.table r l more flow)) (sym h) (safe_map program fixed types this us m _ _ (s types) (λ more ns flow y. lead_flows program.table r l ls us more ns flow x y))
  started this ls us r l m x s types ms Broke h = safe_give program fixed types this ms Broke _ (h.0, h.1)
  started this ls us r l m x s types ms Continued h = safe_give program fixed types this ms Continued _ (h.0, h.1)
  started this ls us r l m x s types ms Left h = safe_give program fixed types this ms Left _ (h.0, h.1)
  started this ls us r l m x s types ms (Gave v) h = safe_give program fixed types this ms (Gave v) _ (h.0, (h.1, h.2))

  for_loop : (s : Scope) (pl : Place) (i c u a : Tree) → IsScope program fixed s → is_statement s.role ≡ false → Coded program fixed (Statement true) s (trees.For pl i c u a) → (judged s (trees.For pl i c u a)).faults ≡ [] → (types : List JavaType)
      → Safe program fixed types (this_of s) (types_of s.locals) (flow_of program p (plain s) (trees.For pl i c u a)) (Leads program.table s.result s.is_in_loop (types_of s.locals) (types_of s.locals))
  unfolding judged
  for_loop s pl i c u a k r h f types =
      let w = after s i in
      let olds = type_of_old fixed.olds in
      let fi = front_none (judged s i).faults (judged (statement w) u).faults (front_none ((judged s i).faults ++ (judged (statement w) u).faults) (judged (in_loop w) a).faults (tested w pl c ((judged s i).faults ++ (judged (statement w) u).faults ++ (judged (in_loop w) a).faults) f)) in
      let unbroken = items_unbroken program.arrays olds s i h.0 fi in
      let same = after_items program.arrays olds s (plain s) i h.0 in
      let shift : w ≡ shifted s w = sym same ∙ (all_shifted program.arrays olds s (items i) unbroken ∙ ap (λ (z : Scope). shifted s z) same) in
      let variables = subst (λ (z : Scope). Rattle.kr_laws_types.specs.Types.AreVariables z.locals) same (all_variables program.arrays olds s (items i) unbroken k.2) in
      let scope = subst (IsScope program fixed) (sym shift) (shifted_scope program fixed facts p q s w k variables) in
      let role = ap (λ (z : Scope). is_statement z.role) shift ∙ r in
      let flat = after_plain s i in
      let hc = subst (λ (z : Scope). IsCode program.arrays olds (Expression true) z c) flat h.1 in
      let hu = subst (λ (z : Scope). IsCode program.arrays olds Expressions z u) flat h.2 in
      let ha = subst (λ (z : Scope). IsCode program.arrays olds (Statement false) z a) flat h.3 in
      let more = all_more program.arrays olds s (items i) in
      let loop = λ (types : List JavaType). subst (λ (z : Scope). Safe program fixed types (this_of z) (types_of w.locals) (p.rounds (condition p (plain w) c) (p.exec (plain w) a >>= (λ leads. then_update leads (updates p (plain w) (items u))))) (Leads program.table z.result z.is_in_loop (types_of w.locals) (types_of w.locals))) shift (looped w pl c u a (judged s i).faults scope role hc hu ha f types) in
      let there = λ (types : List JavaType). subst (λ (z : Scope). Safe program fixed types (this_of s) (types_of w.locals) (p.rounds (condition p z c) (p.exec z a >>= (λ leads. then_update leads (updates p z (items u))))) (Leads program.table s.result s.is_in_loop (types_of w.locals) (types_of w.locals))) (sym flat) (loop types) in
      safe_map program fixed types (this_of s) (types_of s.locals) (flow_of program p (plain s) (trees.For pl i c u a)) _ _
      (safe_scoped program fixed types (this_of s) (types_of s.locals) _ (λ more flow. Flows program.table s.result s.is_in_loop more flow)
      (safe_then program fixed types (this_of s) (types_of s.locals) (all p (plain s) (items i)) _ _ _ (sequence program fixed facts p q s (items i) k r unbroken types)
      (λ others ms flow x l. started (this_of s) (types_of s.locals) (types_of w.locals) s.result s.is_in_loop _ (subst (λ (z : Scope). Extends (types_of s.locals) (types_of z.locals)) same more) there others ms flow
      (subst (λ (z : Scope). LeadsOn program.table s.result s.is_in_loop (types_of s.locals) (types_of z.locals) others ms flow) same l))))
      (λ others ms flow x. flows_lead program.table s.result s.is_in_loop (types_of s.locals) others ms flow x.0 x.1)

  -- ---- `throw`

  thrown : (s : Scope) (pl : Place) (e : Tree) → IsScope program fixed s → is_statement s.role ≡ false → Coded program fixed (Expression false) s e → (judge pl (on_one (throw_rule s) (judged s e).typed) (judged s e).faults).faults ≡ [] → (types : List JavaType)
      → Safe program fixed types (this_of s) (types_of s.locals) (p.value (plain s) e >>= throw program) (Leads program.table s.result s.is_in_loop (types_of s.locals) (types_of s.locals))
  thrown s pl e k r h f types =
      let verdict = on_one (throw_rule s) (judged s e).typed in
      let x = typed_at program fixed facts s e k h (below_none pl verdict (judged s e).faults f) in
      let rule = kept pl verdict (judged s e).faults f in
      let fits = asked (is_assignable s.table x.type (throwable s)) 41 fine rule.0 (sym (on_type (throw_rule s) (judged s e).typed x.type x.known) ∙ rule.1) in
      let c = named_class s.table x.type (class_named s.table.headings (trees.NamedType nowhere (codes "Throwable"))) [] (codes "Throwable") (subst (λ (z : Bool). is_expression_type z x.type ≡ true) r x.kind) fits.0 in
      let fit : is_assignable program.table x.type (ClassType c.0) ≡ true = subst (λ (z : Table). is_assignable z x.type (ClassType c.0) ≡ true) k.0 (subst (λ (z : JavaType). is_assignable s.table x.type z ≡ true) c.1 fits.0) in
      safe_next program fixed types (this_of s) (types_of s.locals) (p.value (plain s) e) (throw program) (λ more v. is_void (ClassType c.0) ≡ false → IsOf program.table more (ClassType c.0) v) _ (q.value s e k h (below_none pl verdict (judged s e).faults f) types x.type (ClassType c.0) x.known refl fit)
      (λ more v y i. safe_throw program fixed more (this_of s) (types_of s.locals) c.0 v _ (i refl))

  -- ---- `try`

  -- what a clause does with an object that it catches: its local comes right after those from before the `try`
  catches : (s : Scope) (pl at : Place) (t : Tree) (n : List ℕ) (b : Tree) → IsScope program fixed s → is_statement s.role ≡ false → Coded program fixed (Statement false) (bind_local n (written s t) s) b → (judged (bind_local n (written s t) s) b).faults ≡ [] → (kind : Kind)
      → is_caught program (written s t) (class_of_kind program kind) ≡ true → (types : List JavaType) → SafeThrown program fixed kind types (this_of s) (types_of s.locals) (catch_run program p (plain s) (trees.Parameter at t n) b kind) (Leads program.table s.result s.is_in_loop (types_of s.locals) (types_of s.locals))
  catches s pl at t n b k r h f kind w types = go (class_of_kind program kind) refl w
    where
      inside : Scope
      inside = bind_local n (written s t) s

      before : List JavaType
      before = types_of s.locals

      with_it : Value → Run Flow
      with_it o = declare o >> p.exec (plain inside) b

      ran : (c : ℕ) → is_of_type program (written s t) (Object c) ≡ true → (types : List JavaType) (o : Value) → IsObject types c o → Safe program fixed types (this_of s) before (with_it o) (λ more after flow. Extends before after × Flows program.table s.result s.is_in_loop more flow)
      ran c w types o i =
          let d = class_caught program (written s t) c w in
          let variable : is_variable_type (written s t) ≡ true = ap is_variable_type d.1 in
          let scope : IsScope program fixed inside = (k.0, k.1, (variable, k.2), k.3, k.4) in
          let fit : is_assignable program.table (type_at types i.0) (written s t) ≡ true = ap (λ (z : JavaType). is_assignable program.table z (written s t)) i.3 ∙ (ap (λ (z : JavaType). is_assignable program.table (ClassType c) z) d.1 ∙ d.2) in
          let of : IsOf program.table types (written s t) o = subst (λ (z : Value). IsOf program.table types (written s t) z) (sym i.1) (i.2, fit) in
          safe_then program fixed types (this_of s) before (declare o) _ (λ more after u. after ≡ before ++ written s t ∷ []) _ (safe_declare program fixed types (this_of s) before (written s t) o of)
          (λ more ms u x e. subst (λ (z : List JavaType). Safe program fixed more (this_of s) z (p.exec (plain inside) b) (λ more after flow. Extends before after × Flows program.table s.result s.is_in_loop more flow)) (sym e)
          (safe_map program fixed more (this_of s) (types_of inside.locals) (p.exec (plain inside) b) _ _ (inner inside b scope r h f more)
          (λ others ns flow y. lead_flows program.table s.result s.is_in_loop before (types_of inside.locals) others ns flow (one_more before (written s t)) y)))

      go : (x : Option ℕ) → class_of_kind program kind ≡ x → is_caught program (written s t) x ≡ true → SafeThrown program fixed kind types (this_of s) before (catch_run program p (plain s) (trees.Parameter at t n) b kind) (Leads program.table s.result s.is_in_loop before before)
      go None e w = absurd (cc (w))
      go (Some c) e w =
          thrown_map program fixed kind types (this_of s) before (catch_run program p (plain s) (trees.Parameter at t n) b kind) _ _
          (thrown_scoped program fixed kind types (this_of s) before (tick >> (object_of program kind >>= with_it)) (λ more flow. Flows program.table s.result s.is_in_loop more flow)
          (thrown_tick program fixed kind types (this_of s) before (object_of program kind >>= with_it) _
          (thrown_then program fixed kind types (this_of s) before (object_of program kind) with_it (λ more after v. (after ≡ before) × IsObject more c v) _ (thrown_object program fixed facts kind c types (this_of s) before e)
          (λ more ms o x i. subst (λ (z : List JavaType). Safe program fixed more (this_of s) z (with_it o) (λ more after flow. Extends before after × Flows program.table s.result s.is_in_loop more flow)) (sym i.0) (ran c w more o i.1)))))
          (λ more ms flow x. flows_lead program.table s.result s.is_in_loop before more ms flow x.0 x.1)

  -- the first clause that fits
  caught_by : (s : Scope) (cs : Tree) → IsScope program fixed s → is_statement s.role ≡ false → Coded program fixed Catches s cs → (judged s cs).faults ≡ [] → (kind : Kind) (m : Run Flow) (types : List JavaType) → caught program p (plain s) (items cs) kind ≡ Some m
      → SafeThrown program fixed kind types (this_of s) (types_of s.locals) m (Leads program.table s.result s.is_in_loop (types_of s.locals) (types_of s.locals))
  unfolding judged
  caught_by s trees.Nil k r h f kind m types e = absurd (cc (e))
  caught_by s (trees.Cons (trees.Catch pl (trees.Parameter at t n) b) cs) k r h f kind m types e = go (is_caught program (written s t) (class_of_kind program kind)) refl e (caught_by s cs k r h.1 rest kind m types)
    where
      here : Judged
      here = judged s (trees.Catch pl (trees.Parameter at t n) b)

      rest : (judged s cs).faults ≡ []
      rest = back_none here.faults (judged s cs).faults f

      body_fine : (judged (bind_local n (written s t) s) b).faults ≡ []
      body_fine = back_none (judged s (trees.Parameter at t n)).faults (judged (bind_local n (written s t) s) b).faults (below_none pl (caught_rule s 42 (written s t)) _ (front_none here.faults (judged s cs).faults f))

      Good : Run Flow → Type 0
      Good m = SafeThrown program fixed kind types (this_of s) (types_of s.locals) m (Leads program.table s.result s.is_in_loop (types_of s.locals) (types_of s.locals))

      go : (x : Bool) → is_caught program (written s t) (class_of_kind program kind) ≡ x → (if x then Some (catch_run program p (plain s) (trees.Parameter at t n) b kind) else caught program p (plain s) (items cs) kind) ≡ Some m → (caught program p (plain s) (items cs) kind ≡ Some m → Good m) → Good m
      go true w e others = subst Good (some_is (catch_run program p (plain s) (trees.Parameter at t n) b kind) m e) (catches s pl at t n b k r h.0.1 body_fine kind w types)
      go false w e others = others e
  caught_by s (trees.Cons (trees.Catch pl _ b) cs) k r h f kind m types e = absurd h.0.0
  caught_by s (trees.Cons _ cs) k r h f kind m types e = absurd h.0
  caught_by s _ k r h f kind m types e = absurd h

  tried : (s : Scope) (b cs : Tree) → IsScope program fixed s → is_statement s.role ≡ false → IsBlock b → Coded program fixed (Statement false) s b → Coded program fixed Catches s cs → (judged s b).faults ≡ [] → (judged s cs).faults ≡ [] → (types : List JavaType)
      → Safe program fixed types (this_of s) (types_of s.locals) (attempted (p.exec (plain s) b) (caught program p (plain s) (items cs))) (Leads program.table s.result s.is_in_loop (types_of s.locals) (types_of s.locals))
  tried s (trees.Block pl ts) cs k r i h c f g types =
      safe_attempted program fixed types (this_of s) (types_of s.locals) (p.exec (plain s) (trees.Block pl ts)) (caught program p (plain s) (items cs)) _ (inner s (trees.Block pl ts) k r h f types) (q.blocks s pl ts k r h f types)
      (λ kind m more e x. caught_by s cs k r c g kind m more e)
  tried s _ cs k r i h c f g types = absurd i

  -- ---- every statement

  -- a unit, and then what the statement does
  ticked : (s : Scope) (us : List JavaType) (m : Run Flow) → ((more : List JavaType) → Safe program fixed more (this_of s) (types_of s.locals) m (Leads program.table s.result s.is_in_loop (types_of s.locals) us)) → (types : List JavaType)
      → Safe program fixed types (this_of s) (types_of s.locals) (tick >> m) (Leads program.table s.result s.is_in_loop (types_of s.locals) us)
  ticked s us m f types = safe_keep program fixed types (this_of s) (types_of s.locals) tick _ _ (safe_tick program fixed types (this_of s) (types_of s.locals)) (λ more u x. f more)

  jump : (s : Scope) (pl : Place) → (judge pl (jump_rule s) []).faults ≡ [] → s.is_in_loop ≡ true
  jump s pl f = let rule = kept pl (jump_rule s) [] f in (asked s.is_in_loop 31 fine rule.0 rule.1).0

  pub statements_safe : StatementsSafe program fixed (run_statement program p)
  unfolding judged
  statements_safe m s (trees.Local pl w ds) k r h f types = local s pl w ds m k r h f types
  statements_safe m s (trees.Empty pl) k r h f types = ticked s (types_of s.locals) _ (λ more. safe_give program fixed more (this_of s) (types_of s.locals) Next _ refl) types
  statements_safe m s (trees.Block pl ts) k r h f types = ticked s (types_of s.locals) _ (λ more. block s ts k r h f more) types
  statements_safe m s (trees.ExpressionStatement pl e) k r h f types =
      ticked s (types_of s.locals) _ (λ more. safe_keep program fixed more (this_of s) (types_of s.locals) (p.value (plain s) e) _ _ (as_statement s e k h f more) (λ others v x. safe_give program fixed others (this_of s) (types_of s.locals) Next _ refl)) types
  statements_safe m s (trees.Return pl e) k r h f types = ticked s (types_of s.locals) _ (λ more. returned s pl e k r h f more) types
  statements_safe m s (trees.Break pl) k r h f types = ticked s (types_of s.locals) _ (λ more. safe_give program fixed more (this_of s) (types_of s.locals) Broke _ (refl, jump s pl f)) types
  statements_safe m s (trees.Continue pl) k r h f types = ticked s (types_of s.locals) _ (λ more. safe_give program fixed more (this_of s) (types_of s.locals) Continued _ (refl, jump s pl f)) types
  statements_safe m s (trees.IfThen pl c a) k r h f types =
      let fa = tested s pl c (judged s a).faults f in
      ticked s (types_of s.locals) _
      (λ more. choose_boolean more (this_of s) (types_of s.locals) _ _ _ _ (boolean_part s c pl (judged s a).faults k h.0 f more) (λ others. inner s a k r h.1 fa others) (λ others. safe_give program fixed others (this_of s) (types_of s.locals) Next _ refl)) types
  statements_safe m s (trees.IfElse pl c a b) k r h f types =
      let fs = tested s pl c ((judged s a).faults ++ (judged s b).faults) f in
      ticked s (types_of s.locals) _
      (λ more. choose_boolean more (this_of s) (types_of s.locals) _ _ _ _ (boolean_part s c pl ((judged s a).faults ++ (judged s b).faults) k h.0 f more) (λ others. inner s a k r h.1 (front_none (judged s a).faults (judged s b).faults fs) others) (λ others. inner s b k r h.2 (back_none (judged s a).faults (judged s b).faults fs) others))
      types
  statements_safe m s (trees.While pl c a) k r h f types =
      let fa = tested s pl c (judged (in_loop s) a).faults f in
      ticked s (types_of s.locals) _ (λ more. q.loops (this_of s) (types_of s.locals) s.result s.is_in_loop _ _ (λ others. boolean_part s c pl (judged (in_loop s) a).faults k h.0 f others) (λ others. body s a k r h.1 fa others) more) types
  statements_safe m s (trees.Do pl a c) k r h f types =
      let fa = tested s pl c (judged (in_loop s) a).faults f in
      ticked s (types_of s.locals) _
      (λ more. safe_then program fixed more (this_of s) (types_of s.locals) (p.exec (plain s) a) _ _ _ (body s a k r h.0 fa more)
      (λ others ms flow x l. then_rounds program fixed (this_of s) (types_of s.locals) s.result s.is_in_loop (p.rounds (p.value (plain s) c) (p.exec (plain s) a))
      (λ last. q.loops (this_of s) (types_of s.locals) s.result s.is_in_loop _ _ (λ end. boolean_part s c pl (judged (in_loop s) a).faults k h.1 f end) (λ end. body s a k r h.0 fa end) last) others ms flow l))
      types
  statements_safe m s (trees.For pl i c u a) k r h f types = ticked s (types_of s.locals) _ (λ more. for_loop s pl i c u a k r h f more) types
  statements_safe m s (trees.Throw pl e) k r h f types = ticked s (types_of s.locals) _ (λ more. thrown s pl e k r h f more) types
  statements_safe m s (trees.Try pl b cs) k r h f types =
      ticked s (types_of s.locals) _ (λ more. tried s b cs k r h.0 h.1 h.2 (front_none (judged s b).faults (judged s cs).faults f) (back_none (judged s b).faults (judged s cs).faults f) more) types
  statements_safe m s _ k r h f types = absurd h

  pub blocks_close : BlocksClose program fixed (run_statement program p)
  unfolding judged
  blocks_close s pl ts k r h f types =
      closes_tick program fixed types (this_of s) (types_of s.locals) (scoped (all p (plain s) (items ts)))
      (closes_scoped program fixed types (this_of s) (types_of s.locals) (all p (plain s) (items ts)) _ (sequence program fixed facts p q s (items ts) k r (items_unbroken program.arrays (type_of_old fixed.olds) s ts h f) types))

module _ (program : Program) (fixed : Fixed) (facts : IsTypedProgram program) where
  spent_safe : PartsSafe program fixed spent
  spent_safe = record {
    value = λ s e k h f types t u r g a. safe_spent program fixed types (this_of s) (types_of s.locals) _;
    exec = λ m s t k r h f types. safe_spent program fixed types (this_of s) (types_of s.locals) _;
    loops = λ this ls r l test body t b types. safe_spent program fixed types this ls _;
    blocks = λ s pl ts k r h f types. record { by = λ t i kind e. absurd (cc (e)) };
  }

  mutual
    unfolding eval exec

    evals : (n : ℕ) → ValuesSafe program fixed (eval program n)
    evals zero s e k h f types t u r g a = safe_spent program fixed types (this_of s) (types_of s.locals) _
    evals (suc n) s e k h f types t u r g a =
        safe_keep program fixed types (this_of s) (types_of s.locals) tick _ _ (safe_tick program fixed types (this_of s) (types_of s.locals))
        (λ more v x. values_safe program fixed facts (parts_within program n) (record { value = evals n; exec = execs n; loops = rounds_safe program fixed n; blocks = blocks n }) s e k h f more t u r g a)

    execs : (n : ℕ) → StatementsSafe program fixed (exec program n)
    execs zero m s t k r h f types = statements_safe program fixed facts spent spent_safe m s t k r h f types
    execs (suc n) m s t k r h f types = statements_safe program fixed facts (parts_within program n) (record { value = evals n; exec = execs n; loops = rounds_safe program fixed n; blocks = blocks n }) m s t k r h f types

    blocks : (n : ℕ) → BlocksClose program fixed (exec program n)
    blocks zero s pl ts k r h f types = blocks_close program fixed facts spent spent_safe s pl ts k r h f types
    blocks (suc n) s pl ts k r h f types = blocks_close program fixed facts (parts_within program n) (record { value = evals n; exec = execs n; loops = rounds_safe program fixed n; blocks = blocks n }) s pl ts k r h f types

  -- every run, whatever its bound
  pub parts_safe : (n : ℕ) → PartsSafe program fixed (parts_within program n)
  parts_safe n = record { value = evals n; exec = execs n; loops = rounds_safe program fixed n; blocks = blocks n }
