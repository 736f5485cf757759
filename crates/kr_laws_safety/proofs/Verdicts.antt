-- No part of a test is stuck: the values of `\old`s, the body, the predicate after it, the postconditions.
use Rattle.std.proofs.Common.{◌≡◌, ℕ, ◌+◌, Bool, true, false, List, [], ◌∷◌, ◌++◌, length, Result, Ok, Err, Option, Some, None, refl, sym, ap, ◌∙◌, arith, subst}
use Rattle.std.specs.Prelude.{map, flat_map, if◌then◌else◌}
use Rattle.kr_base.specs.declared.place.Place.{Place}
use Rattle.kr_ast.specs.Tree as trees
use Rattle.kr_ast.specs.Tree.{Tree}
use Rattle.kr_value.specs.declared.value.Value.{Value}
use Rattle.kr_value.specs.declared.value.Value.TheVariants.{Null, Ref as Reference}
use Rattle.kr_value.specs.declared.object.Class.TheVariants.{Object}
use Rattle.kr_classes_table.specs.Types.{JavaType, BooleanType, ClassType, is_reference, is_void}
use Rattle.kr_classes_table.specs.Table.{Method, method_named, is_assignable}
use Rattle.kr_types_meaning.specs.Scopes.{Scope, Part, Ensuring, Signalling, in_contract, in_signals, in_old, bind_local, written, caught_type, after}
use Rattle.kr_types_meaning.specs.Rules.{is_ensuring}
use Rattle.kr_types_meaning.specs.Typing.{judged, type_in}
use Rattle.kr_mean.specs.declared.kind.Kind.{Kind}
use Rattle.kr_mean.specs.declared.kind.Stop.{Stop}
use Rattle.kr_mean.specs.declared.kind.Stop.TheVariants.{Trapped}
use Rattle.kr_mean.specs.Program.{Program, is_of_type, class_scope, method_scope}
use Rattle.kr_mean.specs.Problem.{Problem}
use Rattle.kr_mean.specs.Heaps.{value_at}
use Rattle.kr_mean.specs.Steps.{Old, State, Outcome, Run, declare, plain_local, ◌>>◌}
use Rattle.kr_mean.specs.Thrown.{class_of_kind, is_caught, object_of}
use Rattle.kr_mean.specs.Meaning.{value, parts_within, body_of}
use Rattle.kr_mean.specs.Code.{Node, code}
use Rattle.kr_laws_runs.proofs.Respects.{AllOf, all_both}
use Rattle.kr_mean.specs.Runs.{rep_ok, root_class, ensures_of, ensured_in, parameter_values, tested_method}
use Rattle.kr_mean.specs.Verdicts.{OldNode, old_in, names_thrown, olds_among, olds_in, olds_of, naming, olds_valued, Signal, signals_from, signals_of, fitting, test_start}
use Rattle.kr_mean.specs.Space.{space_of, IsVector}
use Rattle.kr_mean.specs.WellFormed.{IsWellFormed}
use Rattle.kr_laws_safety.specs.Fits.{IsOf, AreOf}
use Rattle.kr_laws_safety.specs.Triples.{Fixed, IsThis, values_in, AreOlds, IsStateOf, IsThrownAs, Fine, Safe, Extends, Gives, type_of_old}
use Rattle.kr_laws_safety.specs.Domains.{object_types, HaveDomainsTypes}
use Rattle.kr_laws_safety.proofs.Heaps.{value_more, extends_twice, one_more}
use Rattle.kr_laws_safety.proofs.Steps.{below_itself, safe_give, safe_map, safe_then, safe_declare, safe_scoped}
use Rattle.kr_laws_safety.proofs.Thrown.{IsObject, thrown_object}
use Rattle.kr_laws_types.specs.Types.{is_variable_type, AreVariables}
use Rattle.kr_laws_types.specs.Shapes.{Sort, Expression, Expressions, IsCode}
use Rattle.kr_laws_types.proofs.Expressions.{after_expression}
use Rattle.kr_laws_types.specs.Expressions.{plain}
use Rattle.kr_laws_safety.specs.Typed.{types_in, IsMethod, IsTypedProgram}
use Rattle.kr_laws_safety.specs.Claims.{this_of, types_of, is_target, GivesAs, IsScope}
use Rattle.kr_laws_safety.specs.Tested.{type_or_none, old_type, old_types, AreOldNodes, IsCondition, AreConditions, IsSignal, AreSignals, HasContracts, GivesTruth, GiveTruths, signal_on, GiveSignals, fitting_in, IsThrownTestable, IsTestable}
use Rattle.kr_laws_safety.proofs.Targets.{value_not_void, assignable_itself, widened}
use Rattle.kr_laws_safety.proofs.Operators.{boolean_known}
use Rattle.kr_laws_safety.proofs.Glue.{safe_next, typed_at}
use Rattle.kr_laws_safety.proofs.Calls.{method_run, method_closes, parameter_types, parameter_variables}
use Rattle.kr_laws_safety.proofs.Statements.{class_caught, parts_safe}
use Rattle.kr_laws_safety.proofs.Framed.{KeepsThis, value_keeps, keeps_then, within_keeps}
use Rattle.kr_laws_safety.proofs.Runs.{Boolean, AllBoolean, fine_said, predicate_safe, value_safe, condition_safe, contract_boolean, parameters_typed, this_seen, tested_named, this_is, candidate}

-- ---- `\old`s

naming_keeps : {A : Type 0} (b : Bool) (o : Value) (m : Run A) → KeepsThis m → KeepsThis (naming b o m)
naming_keeps true o m k s = keeps_then (declare o) (λ u. m) (λ s. refl) (λ u. k) s
naming_keeps false o m k s = k s

olds_keep : (program : Program) (os : List OldNode) → KeepsThis (olds_valued program os)
olds_keep program [] s = refl
olds_keep program (o ∷ os) s = keeps_then (naming o.is_named Null (value program o.scope o.tree)) _ (naming_keeps o.is_named Null (value program o.scope o.tree) (value_keeps program o.scope o.tree)) (λ v. keeps_then (olds_valued program os) _ (olds_keep program os) (λ vs s. refl)) s

-- the end of a run that gave a value
fine_ok : (program : Program) (fixed : Fixed) (types : List JavaType) (this : Option ℕ) (ls : List JavaType) {A : Type 0} (Q : List JavaType → List JavaType → A → Type 0) (r : Result A Stop) (t : State) (a : A) → Fine program fixed types this ls Q r t → r ≡ Ok a → Fine program fixed types this ls Q (Ok a) t
fine_ok program fixed types this ls Q r t a h e = subst (λ (x : Result _ Stop). Fine program fixed types this ls Q x t) e h

-- the end of a run whose value, if it gives one, is boolean
truth_given : (program : Program) (fixed : Fixed) (facts : IsTypedProgram program) (types : List JavaType) (this : Option ℕ) (ls : List JavaType) (o : Outcome Value) → Fine program fixed types this ls (Boolean program fixed facts ls) o.said o.after → GivesTruth o
truth_given program fixed facts types this ls o f = (
  fine_said program fixed types this ls _ o.said o.after f,
  λ v e. let g = fine_ok program fixed types this ls (Boolean program fixed facts ls) o.said o.after v f e in boolean_known program fixed g.0 o.after v g.3.heap g.4.1,
)

olds_more : (program : Program) (types more : List JavaType) (ps : List (Place × JavaType)) (os : List Old) → Extends types more → AreOlds program.table types ps os → AreOlds program.table more ps os
olds_more program types more [] os x h = tt
olds_more program types more (p ∷ ps) (o ∷ os) x h = (h.0, value_more program.table types more p.1 o.value x h.1, olds_more program types more ps os x h.2)
olds_more program types more (p ∷ ps) [] x h = absurd h

-- ---- conditions that may name the object that is thrown

-- what a condition names, with its type
abbrev Named : Type 0
Named = Option (List ℕ × JavaType)

abbrev has_name : Named → Bool
has_name None = false
has_name (Some n) = true

abbrev named_scope : Named → Scope → Scope
named_scope None s = s
named_scope (Some n) s = bind_local n.0 n.1 s

abbrev named_types : Named → List JavaType → List JavaType
named_types None ls = ls
named_types (Some n) ls = ls ++ n.1 ∷ []

-- it is of a class
abbrev NamesClass : Named → Type 0
NamesClass None = Unit {0}
NamesClass (Some n) = (c : ℕ) × (n.1 ≡ ClassType c)

abbrev NamesValue : Program → List JavaType → Named → Value → Type 0
NamesValue program types None v = Unit {0}
NamesValue program types (Some n) v = IsOf program.table types n.1 v

-- an `\old` in the scope of a condition of a contract
pub record IsPlaced (s : Scope) (o : OldNode) : Type 0 where
  pub named : Named
  pub part : Part
  pub scope : o.scope ≡ in_old (in_contract part (named_scope named s))
  pub is_named : o.is_named ≡ has_name named
  pub class : NamesClass named

abbrev pub ArePlaced : Scope → List OldNode → Type 0
ArePlaced s [] = Unit {0}
ArePlaced s (o ∷ os) = IsPlaced s o × ArePlaced s os

named_variables : (named : Named) (s : Scope) → NamesClass named → AreVariables s.locals → AreVariables (named_scope named s).locals
named_variables None s c v = v
named_variables (Some n) s c v = (ap is_variable_type c.1, v)

module _ (program : Program) (fixed : Fixed) (facts : IsTypedProgram program) where
  -- the value of one, in the scope of a contract
  one_old : (s z : Scope) (e : Tree) → IsScope program fixed (in_old s) → plain s ≡ s → z ≡ in_old s → IsCode program.arrays (type_of_old fixed.olds) (Expression false) (plain z) e → (judged z e).faults ≡ [] → is_target (type_or_none (type_in (judged z e).typed)) ≡ true → (types : List JavaType)
      → Safe program fixed types (this_of s) (types_of s.locals) (value program z e) (Gives program (types_of s.locals) (type_or_none (type_in (judged z e).typed)))
  one_old s z e k plainly same h f g types = subst (λ (y : Scope). IsCode program.arrays (type_of_old fixed.olds) (Expression false) (plain y) e → (judged y e).faults ≡ [] → is_target (type_or_none (type_in (judged y e).typed)) ≡ true → Safe program fixed types (this_of s) (types_of s.locals) (value program y e) (Gives program (types_of s.locals) (type_or_none (type_in (judged y e).typed)))) (sym same) there h f g
    where
      there : IsCode program.arrays (type_of_old fixed.olds) (Expression false) (plain (in_old s)) e → (judged (in_old s) e).faults ≡ [] → is_target (type_or_none (type_in (judged (in_old s) e).typed)) ≡ true → Safe program fixed types (this_of s) (types_of s.locals) (value program (in_old s) e) (Gives program (types_of s.locals) (type_or_none (type_in (judged (in_old s) e).typed)))
      there h f g =
          let x = typed_at program fixed facts (in_old s) e k h f in
          let is = ap type_or_none x.known in
          let target = ap is_target (sym is) ∙ g in
          subst (λ (t : JavaType). Safe program fixed types (this_of s) (types_of s.locals) (value program (in_old s) e) (Gives program (types_of s.locals) t)) (sym is)
          (safe_map program fixed types (this_of s) (types_of s.locals) (value program (in_old s) e) _ _
          (subst (λ (y : Scope). Safe program fixed types (this_of s) (types_of s.locals) (value program y e) (GivesAs program (types_of s.locals) x.type)) (ap in_old plainly) (value_safe program fixed facts (in_old s) e k h f types x.type x.type x.known target (assignable_itself program.table x.type target)))
          (λ more ms v r. (r.0, r.1 (value_not_void x.type x.kind))))

  -- the run of a condition, with its local where it has one
  safe_naming : (named : Named) (types : List JavaType) (this : Option ℕ) (ls : List JavaType) (o : Value) (m : Run Value) (Q : List JavaType → Value → Type 0) → NamesValue program types named o
      → ((more : List JavaType) → Safe program fixed more this (named_types named ls) m (λ more after v. (after ≡ named_types named ls) × Q more v)) → Safe program fixed types this ls (naming (has_name named) o m) (λ more after v. (after ≡ ls) × Q more v)
  safe_naming None types this ls o m Q i p = p types
  safe_naming (Some n) types this ls o m Q i p =
      safe_scoped program fixed types this ls (declare o >> m) Q
      (safe_then program fixed types this ls (declare o) _ (λ more after u. after ≡ ls ++ n.1 ∷ []) _ (safe_declare program fixed types this ls n.1 o i)
      (λ more ms u x e. subst (λ (z : List JavaType). Safe program fixed more this z m (λ more after v. Extends ls after × Q more v)) (sym e)
      (safe_map program fixed more this (ls ++ n.1 ∷ []) m _ _ (p more) (λ others ns v y. (subst (λ (z : List JavaType). Extends ls z) (sym y.0) (one_more ls n.1), y.1)))))

  -- before the body the name is null
  first_old : (s : Scope) (named : Named) (part : Part) (z : Scope) (e : Tree) → IsScope program fixed (in_old s) → plain s ≡ s → NamesClass named → z ≡ in_old (in_contract part (named_scope named s)) → ((olds : Place → Option JavaType) → IsCode program.arrays olds (Expression false) (plain z) e) → (judged z e).faults ≡ []
      → is_target (type_or_none (type_in (judged z e).typed)) ≡ true → (types : List JavaType) → Safe program fixed types (this_of s) (types_of s.locals) (naming (has_name named) Null (value program z e)) (Gives program (types_of s.locals) (type_or_none (type_in (judged z e).typed)))
  first_old s None part z e k plainly c same h f g types = one_old (in_contract part s) z e (k.0, k.1, k.2, k.3, λ e o. absurd (cc (o))) (ap (λ (y : Scope). record y { part = part; role = Rattle.kr_types_meaning.specs.Scopes.AsValue }) plainly) same (h (type_of_old fixed.olds)) f g types
  first_old s (Some n) part z e k plainly c same h f g types =
      safe_naming (Some n) types (this_of s) (types_of s.locals) Null (value program z e) (λ more v. IsOf program.table more (type_or_none (type_in (judged z e).typed)) v) (ap is_reference c.1)
      (λ more. one_old (in_contract part (bind_local n.0 n.1 s)) z e (k.0, k.1, (ap is_variable_type c.1, k.2), k.3, λ e o. absurd (cc (o)))
      (ap (λ (y : Scope). record y { part = part; role = Rattle.kr_types_meaning.specs.Scopes.AsValue; locals = record { name = n.0; type = n.1 } ∷ y.locals }) plainly) same (h (type_of_old fixed.olds)) f g more)

  all_olds : (s : Scope) (os : List OldNode) → IsScope program fixed (in_old s) → plain s ≡ s → ArePlaced s os → AreOldNodes program os → (types : List JavaType) → Safe program fixed types (this_of s) (types_of s.locals) (olds_valued program os) (λ more after vs. (after ≡ types_of s.locals) × AreOlds program.table more (old_types os) vs)
  all_olds s [] k e i h types = safe_give program fixed types (this_of s) (types_of s.locals) [] _ (refl, tt)
  all_olds s (o ∷ os) k e i h types =
      safe_next program fixed types (this_of s) (types_of s.locals) (naming o.is_named Null (value program o.scope o.tree)) _ _ _
      (subst (λ (b : Bool). Safe program fixed types (this_of s) (types_of s.locals) (naming b Null (value program o.scope o.tree)) (Gives program (types_of s.locals) (old_type o))) (sym i.0.is_named) (first_old s i.0.named i.0.part o.scope o.tree k e i.0.class i.0.scope h.0.code h.0.unbroken h.0.target types))
      (λ more v x g. safe_next program fixed more (this_of s) (types_of s.locals) (olds_valued program os) _ _ _ (all_olds s os k e i.1 h.1 more)
      (λ others vs y js. safe_give program fixed others (this_of s) (types_of s.locals) (record { place = o.place; value = v } ∷ vs) _ (refl, (refl, value_more program.table more others (old_type o) v y g, js))))

  -- ---- postconditions

  abbrev All : Option ℕ → List JavaType → List Node → Type 0
  All this ls ns = AllBoolean program fixed facts this ls ns

  checked : (this : Option ℕ) (ls : List JavaType) (ns : List Node) → All this ls ns → (types : List JavaType) (s : State) → IsStateOf program fixed types this ls s → GiveTruths program ns s
  checked this ls [] h types s k = tt
  checked this ls (n ∷ ns) h types s k =
      let f = (h.0 types).by s k in
      (truth_given program fixed facts types this ls (value program n.scope n.tree s) f, λ v e. next v (fine_ok program fixed types this ls _ (value program n.scope n.tree s).said (value program n.scope n.tree s).after v f e) (λ more t j. checked this ls ns h.1 more t j))
    where
      next : (v : Value) → Fine program fixed types this ls (Boolean program fixed facts ls) (Ok v) (value program n.scope n.tree s).after → ((more : List JavaType) (t : State) → IsStateOf program fixed more this ls t → GiveTruths program ns t) → GiveTruths program ns (value program n.scope n.tree s).after
      next v f rest = rest f.0 (value program n.scope n.tree s).after (subst (λ (z : List JavaType). IsStateOf program fixed f.0 this z (value program n.scope n.tree s).after) f.4.0 f.3)

-- ---- the nodes of a contract are in its scope

abbrev Within : Scope → Node → Type 0
Within s n = in_old n.scope ≡ in_old s

abbrev AllWithin : Scope → List Node → Type 0
AllWithin s ns = AllOf (Within s) ns

both_within : (s : Scope) (xs ys : List Node) → AllWithin s xs → AllWithin s ys → AllWithin s (xs ++ ys)
both_within s xs ys h k = all_both (Within s) xs ys h k

-- expressions, one or several
abbrev IsExpressions : Sort → Bool
IsExpressions (Expression m) = true
IsExpressions Expressions = true
IsExpressions sort = false

-- those of an `\old` too, as one inside another is no further inside
nodes_within : (arrays : List JavaType) (olds : Place → Option JavaType) (sort : Sort) (s u : Scope) (e : Tree) → IsCode arrays olds sort u e → IsExpressions sort ≡ true → AllWithin s (code s e)
nodes_within arrays olds (Expression m) s u trees.Nil h i = tt
nodes_within arrays olds (Expression m) s u (trees.Number p n) h i = (refl, tt)
nodes_within arrays olds (Expression m) s u (trees.LongNumber p n) h i = (refl, tt)
nodes_within arrays olds (Expression m) s u (trees.Truth p b) h i = (refl, tt)
nodes_within arrays olds (Expression m) s u (trees.Null p) h i = (refl, tt)
nodes_within arrays olds (Expression m) s u (trees.This p) h i = (refl, tt)
nodes_within arrays olds (Expression m) s u (trees.Variable p n) h i = (refl, tt)
nodes_within arrays olds (Expression m) s u (trees.FieldAccess p e n) h i = (refl, nodes_within arrays olds (Expression false) s u e h refl)
nodes_within arrays olds (Expression m) s u (trees.ArrayAccess p a b) h i = (refl, both_within s (code s a) (code s b) (nodes_within arrays olds (Expression false) s u a h.0 refl) (nodes_within arrays olds (Expression false) s u b h.1 refl))
nodes_within arrays olds (Expression m) s u (trees.Call p n es) h i = (refl, nodes_within arrays olds Expressions s u es h refl)
nodes_within arrays olds (Expression m) s u (trees.MethodCall p e n es) h i = (refl, both_within s (code s e) (code s es) (nodes_within arrays olds (Expression false) s u e h.0 refl) (nodes_within arrays olds Expressions s u es h.1 refl))
nodes_within arrays olds (Expression m) s u (trees.SuperCall p n es) h i = (refl, nodes_within arrays olds Expressions s u es h refl)
nodes_within arrays olds (Expression m) s u (trees.ObjectCreation p t es) h i = (refl, nodes_within arrays olds Expressions s u es h.1 refl)
nodes_within arrays olds (Expression m) s u (trees.ArrayCreation p t e) h i = (refl, nodes_within arrays olds (Expression false) s u e h.2 refl)
nodes_within arrays olds (Expression m) s u (trees.Unary p o e) h i = (refl, nodes_within arrays olds (Expression false) s u e h refl)
nodes_within arrays olds (Expression m) s u (trees.Step p o e) h i = (refl, nodes_within arrays olds (Expression false) s u e h refl)
nodes_within arrays olds (Expression m) s u (trees.Binary p o a b) h i = (refl, both_within s (code s a) (code s b) (nodes_within arrays olds (Expression false) s u a h.0 refl) (nodes_within arrays olds (Expression false) s u b h.1 refl))
nodes_within arrays olds (Expression m) s u (trees.InstanceOf p e t) h i = (refl, nodes_within arrays olds (Expression false) s u e h.0 refl)
nodes_within arrays olds (Expression m) s u (trees.Conditional p c a b) h i =
    (refl, both_within s (code s c ++ code s a) (code s b) (both_within s (code s c) (code s a) (nodes_within arrays olds (Expression false) s u c h.0 refl) (nodes_within arrays olds (Expression false) s u a h.1 refl)) (nodes_within arrays olds (Expression false) s u b h.2 refl))
nodes_within arrays olds (Expression m) s u (trees.Cast p t e) h i = (refl, nodes_within arrays olds (Expression false) s u e h.1 refl)
nodes_within arrays olds (Expression m) s u (trees.Assignment p a b) h i = (refl, both_within s (code s a) (code s b) (nodes_within arrays olds (Expression false) s u a h.0 refl) (nodes_within arrays olds (Expression false) s u b h.1 refl))
nodes_within arrays olds (Expression m) s u (trees.CompoundAssignment p o a b) h i = (refl, both_within s (code s a) (code s b) (nodes_within arrays olds (Expression false) s u a h.1 refl) (nodes_within arrays olds (Expression false) s u b h.2 refl))
nodes_within arrays olds (Expression m) s u (trees.Result p) h i = (refl, tt)
nodes_within arrays olds (Expression m) s u (trees.Old p e) h i = (refl, nodes_within arrays olds (Expression false) (in_old s) (in_old u) e h.1 refl)
nodes_within arrays olds (Expression m) s u _ h i = absurd h
nodes_within arrays olds Expressions s u trees.Nil h i = tt
nodes_within arrays olds Expressions s u (trees.Cons a b) h i =
    both_within s (code s a) (code (after s a) b) (nodes_within arrays olds (Expression false) s u a h.0 refl)
    (subst (λ (z : Scope). AllWithin s (code z b)) (sym (after_expression arrays olds s u false a h.0)) (nodes_within arrays olds Expressions s u b h.1 refl))
nodes_within arrays olds Expressions s u _ h i = absurd h
nodes_within arrays olds _ s u e h i = absurd (cc (i))

placed_both : (s : Scope) (xs ys : List OldNode) → ArePlaced s xs → ArePlaced s ys → ArePlaced s (xs ++ ys)
placed_both s [] ys h k = k
placed_both s (x ∷ xs) ys h k = (h.0, placed_both s xs ys h.1 k)

old_placed : (s : Scope) (named : Named) (part : Part) → NamesClass named → (z : Scope) (t : Tree) → in_old z ≡ in_old (in_contract part (named_scope named s)) → ArePlaced s (old_in (has_name named) z t)
old_placed s named part c z (trees.Old p e) h = (record { named = named; part = part; scope = h; is_named = refl; class = c }, tt)
old_placed s named part c z _ h = tt

olds_placed : (s : Scope) (named : Named) (part : Part) → NamesClass named → (ns : List Node) → AllWithin (in_contract part (named_scope named s)) ns → ArePlaced s (olds_among (has_name named) ns)
olds_placed s named part c [] h = tt
olds_placed s named part c (n ∷ ns) h = placed_both s (old_in (has_name named) n.scope n.tree) (olds_among (has_name named) ns) (old_placed s named part c n.scope n.tree h.0) (olds_placed s named part c ns h.1)

module _ (program : Program) (olds : Place → Option JavaType) (s : Scope) where
  condition_placed : (named : Named) (part : Part) (e : Tree) → NamesClass named → IsCondition program olds (record { scope = in_contract part (named_scope named s); tree = e }) → ArePlaced s (olds_among (has_name named) (code (in_contract part (named_scope named s)) e))
  condition_placed named part e c h = olds_placed s named part c (code (in_contract part (named_scope named s)) e) (nodes_within program.arrays olds (Expression false) (in_contract part (named_scope named s)) (in_contract part (named_scope named s)) e h.code refl)

  signal_placed : (d e : Tree) → IsSignal program olds s d e → ArePlaced s (olds_among (names_thrown d) (code (in_signals d s) e))
  signal_placed (trees.Parameter p t n) e h = condition_placed (Some (n, written s t)) Signalling e (h.class, h.type) h.condition
  signal_placed (trees.NamedType p n) e h = condition_placed None Signalling e tt h.condition
  signal_placed (trees.QualifiedType p o n) e h = condition_placed None Signalling e tt h.condition
  signal_placed _ e h = absurd h.shape

  -- the `\old`s of a contract's conditions
  contract_placed : (ts : List Tree) → AreConditions program olds (map (λ e. record { scope = in_contract Ensuring s; tree = e }) (flat_map ensured_in ts)) → AreSignals program olds s ts → ArePlaced s (flat_map (olds_in s) ts)
  contract_placed [] h k = tt
  contract_placed (trees.Ensures p e ∷ ts) h k = placed_both s (olds_among false (code (in_contract Ensuring s) e)) (flat_map (olds_in s) ts) (condition_placed None Ensuring e tt h.0) (contract_placed ts h.1 k)
  contract_placed (trees.Signals p d e ∷ ts) h k = placed_both s (olds_among (names_thrown d) (code (in_signals d s) e)) (flat_map (olds_in s) ts) (signal_placed d e k.0) (contract_placed ts h k.1)
  contract_placed (t ∷ ts) h k = contract_placed ts h k

-- ---- `signals`

-- a clause, as it is looked at
pub record IsClause (program : Program) (olds : Place → Option JavaType) (s : Scope) (c : Signal) : Type 0 where
  pub named : Named
  pub scope : c.condition.scope ≡ in_contract Signalling (named_scope named s)
  pub is_named : c.is_named ≡ has_name named
  pub of_type : (n : List ℕ × JavaType) → named ≡ Some n → n.1 ≡ c.type
  pub class : NamesClass named
  pub condition : IsCondition program olds c.condition

abbrev AreClauses : Program → (Place → Option JavaType) → Scope → List Signal → Type 0
AreClauses program olds s [] = Unit {0}
AreClauses program olds s (c ∷ cs) = IsClause program olds s c × AreClauses program olds s cs

-- one that fits
abbrev AreFitting : Program → (Place → Option JavaType) → Scope → Kind → List Signal → Type 0
AreFitting program olds s k [] = Unit {0}
AreFitting program olds s k (c ∷ cs) = (IsClause program olds s c × (is_caught program c.type (class_of_kind program k) ≡ true)) × AreFitting program olds s k cs

module _ (program : Program) (olds : Place → Option JavaType) (s : Scope) where
  clause : (n : ℕ) (d e : Tree) → IsSignal program olds s d e → IsClause program olds s (record { number = n; type = caught_type s d; is_named = names_thrown d; condition = record { scope = in_signals d s; tree = e } })
  clause n (trees.Parameter p t m) e h = record { named = Some (m, written s t); scope = refl; is_named = refl; of_type = λ x q. ap (λ (y : Named). elim y as (λ z. JavaType) [ Some w ↦ w.1 | None ↦ written s t ]) (sym q); class = (h.class, h.type); condition = h.condition }
  clause n (trees.NamedType p m) e h = record { named = None; scope = refl; is_named = refl; of_type = λ x q. absurd (cc (q)); class = tt; condition = h.condition }
  clause n (trees.QualifiedType p o m) e h = record { named = None; scope = refl; is_named = refl; of_type = λ x q. absurd (cc (q)); class = tt; condition = h.condition }
  clause n _ e h = absurd h.shape

  clauses : (n : ℕ) (ts : List Tree) → AreSignals program olds s ts → AreClauses program olds s (signals_from s n ts)
  clauses n [] h = tt
  clauses n (trees.Signals p d e ∷ ts) h = (clause n d e h.0, clauses (n + 1) ts h.1)
  clauses n (t ∷ ts) h = clauses n ts h

  fit : (k : Kind) (cs : List Signal) → AreClauses program olds s cs → AreFitting program olds s k (fitting program k cs)
  fit k [] h = tt
  fit k (c ∷ cs) h = go (is_caught program c.type (class_of_kind program k)) refl (fit k cs h.1)
    where
      go : (b : Bool) → is_caught program c.type (class_of_kind program k) ≡ b → AreFitting program olds s k (fitting program k cs) → AreFitting program olds s k (if b then c ∷ fitting program k cs else fitting program k cs)
      go true e r = ((h.0, e), r)
      go false e r = r

-- what has no class is caught by no clause
none_fits : (program : Program) (k : Kind) (cs : List Signal) → class_of_kind program k ≡ None → fitting program k cs ≡ []
none_fits program k [] e = refl
none_fits program k (c ∷ cs) e = ap (λ (x : Option ℕ). if is_caught program c.type x then c ∷ fitting program k cs else fitting program k cs) e ∙ none_fits program k cs e

module _ (program : Program) (fixed : Fixed) (facts : IsTypedProgram program) (s : Scope) (scope : (part : Part) → is_ensuring part ≡ false → IsScope program fixed (in_contract part s)) (plainly : plain s ≡ s) where
  signal_run : (c : Signal) (named : Named) → c.condition.scope ≡ in_contract Signalling (named_scope named s) → c.is_named ≡ has_name named → NamesClass named → IsCondition program (type_of_old fixed.olds) c.condition → (types : List JavaType) (o : Value) → NamesValue program types named o
      → Safe program fixed types (this_of s) (types_of s.locals) (naming c.is_named o (value program c.condition.scope c.condition.tree)) (Boolean program fixed facts (types_of s.locals))
  signal_run c named e b k h types o i =
      subst (λ (z : Bool). Safe program fixed types (this_of s) (types_of s.locals) (naming z o (value program c.condition.scope c.condition.tree)) (Boolean program fixed facts (types_of s.locals))) (sym b)
      (safe_naming program fixed facts named types (this_of s) (types_of s.locals) o (value program c.condition.scope c.condition.tree) (λ more v. IsOf program.table more BooleanType v) i
      (λ more. subst (λ (z : Scope). IsCondition program (type_of_old fixed.olds) (record { scope = z; tree = c.condition.tree }) → Safe program fixed more (this_of s) (named_types named (types_of s.locals)) (value program z c.condition.tree) (Boolean program fixed facts (named_types named (types_of s.locals)))) (sym e) (run named k more) h))
    where
      k0 : IsScope program fixed (in_contract Signalling s)
      k0 = scope Signalling refl

      run : (named : Named) → NamesClass named → (more : List JavaType) → IsCondition program (type_of_old fixed.olds) (record { scope = in_contract Signalling (named_scope named s); tree = c.condition.tree })
          → Safe program fixed more (this_of s) (named_types named (types_of s.locals)) (value program (in_contract Signalling (named_scope named s)) c.condition.tree) (Boolean program fixed facts (named_types named (types_of s.locals)))
      run None k more h = condition_safe program fixed facts (record { scope = in_contract Signalling s; tree = c.condition.tree }) k0 (ap (in_contract Signalling) plainly) h more
      run (Some n) k more h = condition_safe program fixed facts (record { scope = in_contract Signalling (bind_local n.0 n.1 s); tree = c.condition.tree }) (k0.0, k0.1, (ap is_variable_type k.1, k0.2), k0.3, λ q o. absurd (cc (q))) (ap (λ (y : Scope). in_contract Signalling (bind_local n.0 n.1 y)) plainly) h more

  -- a name for an object of a class that the clause catches
  names_value : (c : Signal) (named : Named) → ((n : List ℕ × JavaType) → named ≡ Some n → n.1 ≡ c.type) → (d : ℕ) → is_of_type program c.type (Object d) ≡ true → (types : List JavaType) (o : Value) → IsOf program.table types (ClassType d) o → NamesValue program types named o
  names_value c None of d e types o i = tt
  names_value c (Some n) of d e types o i =
      let a = class_caught program c.type d e in
      let t : n.1 ≡ ClassType a.0 = of n refl ∙ a.1 in
      widened program.table facts.below types (ClassType d) n.1 o (ap (λ (z : JavaType). is_assignable program.table (ClassType d) z) t ∙ a.2) i

  signals_given : (k : Kind) (d : ℕ) → class_of_kind program k ≡ Some d → (o : Value) (cs : List Signal) → AreFitting program (type_of_old fixed.olds) s k cs → (types : List JavaType) (t : State) → IsOf program.table types (ClassType d) o → IsStateOf program fixed types (this_of s) (types_of s.locals) t → GiveSignals program o cs t
  signals_given k d e o [] h types t i j = tt
  signals_given k d e o (c ∷ cs) h types t i j =
      let one = h.0.0 in
      let caught : is_of_type program c.type (Object d) ≡ true = sym (ap (is_caught program c.type) e) ∙ h.0.1 in
      let f = (signal_run c one.named one.scope one.is_named one.class one.condition types o (names_value c one.named one.of_type d caught types o i)).by t j in (
        truth_given program fixed facts types (this_of s) (types_of s.locals) (signal_on program o c t) f,
        λ v q. next v (fine_ok program fixed types (this_of s) (types_of s.locals) _ (signal_on program o c t).said (signal_on program o c t).after v f q) (λ more u x y. signals_given k d e o cs h.1 more u x y),
      )
    where
      next : (v : Value) → Fine program fixed types (this_of s) (types_of s.locals) (Boolean program fixed facts (types_of s.locals)) (Ok v) (signal_on program o c t).after
          → ((more : List JavaType) (u : State) → IsOf program.table more (ClassType d) o → IsStateOf program fixed more (this_of s) (types_of s.locals) u → GiveSignals program o cs u) → GiveSignals program o cs (signal_on program o c t).after
      next v f rest = rest f.0 (signal_on program o c t).after (value_more program.table types f.0 (ClassType d) o f.2 i) (subst (λ (z : List JavaType). IsStateOf program fixed f.0 (this_of s) z (signal_on program o c t).after) f.4.0 f.3)

-- ---- tests of candidates

-- parts of the state that no run of a test changes: before the body, and after it
abbrev before_body : Fixed
before_body = record { candidates = 0; result = None; olds = [] }

abbrev result_of : Method → Option JavaType
result_of m = if is_void m.result then None else Some m.result

abbrev after_body : Program → Method → Fixed
after_body program m = record { candidates = 0; result = result_of m; olds = old_types (olds_of program m) }

-- after a body that throws there is no result
abbrev after_throw : Program → Method → Fixed
after_throw program m = record { candidates = 0; result = None; olds = old_types (olds_of program m) }

pub values_plain : (vs : List Value) → values_in (map plain_local vs) ≡ vs
values_plain [] = refl
values_plain (v ∷ vs) = ap (λ (ws : List Value). v ∷ ws) (values_plain vs)

module _ (problem : Problem) (facts : IsTypedProgram problem.program) (contracts : HasContracts problem) (formed : IsWellFormed problem) (domains : HaveDomainsTypes problem) (vector : List ℕ) (is : IsVector (space_of problem) vector) (m : Method) (tested : tested_method problem problem.mode ≡ Some m) (fuel : ℕ) where
  abbrev root : ℕ
  root = root_class problem

  -- `this` as the code of the method knows it
  abbrev own : Option ℕ
  own = if m.is_static then None else Some m.class

  abbrev types : List JavaType
  types = object_types problem

  abbrev ls : List JavaType
  ls = types_in m.parameters

  abbrev contract : Scope
  contract = method_scope problem.program m

  named : (n : List ℕ) × (method_named problem.program.table root n ≡ Some m)
  named = tested_named problem facts contracts formed domains vector is problem.mode m tested

  method : IsMethod problem.program m
  method = (facts.methods root named.0 m named.1).0

  this_own : (more : List JavaType) (v : Value) → IsThis problem.program.table more (Some root) v → IsThis problem.program.table more own v
  this_own more v h = this_seen problem facts contracts formed domains vector is m named.0 named.1 more v h

  started : IsStateOf problem.program before_body types own ls (test_start problem vector fuel)
  started = record {
    heap = (candidate problem facts contracts formed domains vector is).heap;
    this_is = this_own types (value_at problem vector 0) (this_is problem facts contracts formed domains vector is);
    locals_are = subst (λ (vs : List Value). AreOf problem.program.table types ls vs) (sym (values_plain (parameter_values problem vector))) (parameters_typed problem facts contracts formed domains vector is (Some m) tested);
    result = tt;
    olds = tt;
    thrown = refl;
    candidates = refl;
    enough = omega arith;
  }

  -- the values of `\old`s
  olds_run : Safe problem.program before_body types own ls (olds_valued problem.program (olds_of problem.program m)) (λ more after vs. (after ≡ ls) × AreOlds problem.program.table more (old_types (olds_of problem.program m)) vs)
  olds_run =
      let inside = contract_placed problem.program (type_of_old (old_types (olds_of problem.program m))) contract m.contracts (contracts.ensures m tested) (contracts.signals m tested) in
      subst (λ (z : List JavaType). Safe problem.program before_body types own z (olds_valued problem.program (olds_of problem.program m)) (λ more after vs. (after ≡ z) × AreOlds problem.program.table more (old_types (olds_of problem.program m)) vs)) (parameter_types m.parameters)
      (all_olds problem.program before_body facts contract (olds_of problem.program m) (refl, refl, parameter_variables m.parameters method.parameters, method.result, λ e o. absurd (cc (o))) refl inside (contracts.olds m tested) types)

  -- the state after them, and after the body
  abbrev first : State
  first = test_start problem vector fuel

  abbrev valued_on : Outcome (List Old)
  valued_on = olds_valued problem.program (olds_of problem.program m) first

  abbrev body_then : Outcome Value
  body_then = body_of problem.program valued_on.after.this_value (map (λ l. l.value) valued_on.after.locals) m valued_on.after

  abbrev checked_then : Outcome Value
  checked_then = value problem.program (class_scope problem.program root) rep_ok body_then.after

  body_keeps : (t : State) → (body_of problem.program t.this_value (map (λ l. l.value) t.locals) m t).after.this_value ≡ t.this_value
  unfolding body_of
  body_keeps t = within_keeps t.this_value (length m.parameters) (map (λ l. l.value) t.locals) (Rattle.kr_mean.specs.Meaning.run_body problem.program (parts_within problem.program t.fuel) m) t

  -- `this` is the root all along
  still_first : body_then.after.this_value ≡ value_at problem vector 0
  still_first = body_keeps valued_on.after ∙ olds_keep problem.program (olds_of problem.program m) first

  root_this : (more : List JavaType) (v : Value) → Extends types more → v ≡ value_at problem vector 0 → IsThis problem.program.table more (Some root) v
  root_this more v x e =
      let i = this_is problem facts contracts formed domains vector is in
      (i.0, e ∙ i.1, value_more problem.program.table types more (ClassType root) (Reference i.0) x i.2)

  abbrev ValuedAs : List Old → Type 0
  ValuedAs os = Fine problem.program before_body types own ls (λ more after vs. (after ≡ ls) × AreOlds problem.program.table more (old_types (olds_of problem.program m)) vs) (Ok os) valued_on.after

  valued_as : (os : List Old) → valued_on.said ≡ Ok os → ValuedAs os
  valued_as os e = fine_ok problem.program before_body types own ls _ valued_on.said valued_on.after os (olds_run.by first started) e

  -- the state after the `\old`s
  second : (os : List Old) (f : ValuedAs os) → IsStateOf problem.program before_body f.0 own ls valued_on.after
  second os f = subst (λ (z : List JavaType). IsStateOf problem.program before_body f.0 own z valued_on.after) f.4.0 f.3

  abbrev BodyFine : List JavaType → Result Value Stop → State → Type 0
  BodyFine more r t = Fine problem.program before_body more own ls (GivesAs problem.program ls m.result) r t

  body_fine : (os : List Old) (f : ValuedAs os) → BodyFine f.0 body_then.said body_then.after
  unfolding body_of
  body_fine os f =
      let k = second os f in
      (method_run problem.program before_body facts (parts_within problem.program valued_on.after.fuel) (parts_safe problem.program before_body facts valued_on.after.fuel) f.0 own ls m valued_on.after.this_value (map (λ l. l.value) valued_on.after.locals) method k.this_is k.locals_are).by valued_on.after k

  -- the state after the body, where `this` is known to be the root
  third : (os : List Old) (f : ValuedAs os) (r : Value) (b : BodyFine f.0 (Ok r) body_then.after) → IsStateOf problem.program before_body b.0 (Some root) ls body_then.after
  third os f r b =
      let k = subst (λ (z : List JavaType). IsStateOf problem.program before_body b.0 own z body_then.after) b.4.0 b.3 in
      record { heap = k.heap; this_is = root_this b.0 body_then.after.this_value (extends_twice types f.0 b.0 f.2 b.2) still_first; locals_are = k.locals_are; result = tt; olds = tt; thrown = k.thrown; candidates = k.candidates; enough = k.enough }

  abbrev PredicateFine : List JavaType → Result Value Stop → State → Type 0
  PredicateFine more r t = Fine problem.program before_body more (Some root) ls (Boolean problem.program before_body facts ls) r t

  predicate_fine : (os : List Old) (f : ValuedAs os) (r : Value) (b : BodyFine f.0 (Ok r) body_then.after) → PredicateFine b.0 checked_then.said checked_then.after
  predicate_fine os f r b = (predicate_safe problem.program before_body facts b.0 root ls contracts.predicate).by body_then.after (third os f r b)

  -- the state that postconditions see
  last : (os : List Old) (f : ValuedAs os) (r : Value) (b : BodyFine f.0 (Ok r) body_then.after) (v : Value) (c : PredicateFine b.0 (Ok v) checked_then.after) → IsStateOf problem.program (after_body problem.program m) c.0 own ls (record checked_then.after { result = Some r; olds = os })
  last os f r b v c =
      let k = subst (λ (z : List JavaType). IsStateOf problem.program before_body c.0 (Some root) z checked_then.after) c.4.0 c.3 in
      record {
        heap = k.heap;
        this_is = this_own c.0 checked_then.after.this_value k.this_is;
        locals_are = k.locals_are;
        result = given (is_void m.result) refl;
        olds = olds_more problem.program f.0 c.0 (old_types (olds_of problem.program m)) os (extends_twice f.0 b.0 c.0 b.2 c.2) f.4.1;
        thrown = k.thrown;
        candidates = k.candidates;
        enough = k.enough;
      }
    where
      given : (n : Bool) → is_void m.result ≡ n → Rattle.kr_laws_safety.specs.Triples.IsResult problem.program.table c.0 (if n then None else Some m.result) (Some r)
      given true e = tt
      given false e = value_more problem.program.table b.0 c.0 m.result r c.2 (b.4.1 e)

  result_known : is_ensuring Ensuring ≡ true → is_void m.result ≡ false → (after_body problem.program m).result ≡ Some m.result
  result_known e n = ap (λ (b : Bool). if b then None else Some m.result) n

  -- ---- a body that throws

  -- in the state after it the locals are those from before
  abbrev ThrownFine : List JavaType → Kind → State → Type 0
  ThrownFine before k t = (more : List JavaType) × Extends before more × IsStateOf problem.program before_body more own ls (record t { thrown = None }) × IsThrownAs problem.program more k t.thrown

  thrown_fine : (os : List Old) (f : ValuedAs os) (k : Kind) → body_then.said ≡ Err (Trapped k) → ThrownFine f.0 k body_then.after
  unfolding body_of
  thrown_fine os f k e =
      let j = second os f in
      (method_closes problem.program before_body facts (parts_within problem.program valued_on.after.fuel) (parts_safe problem.program before_body facts valued_on.after.fuel) f.0 own ls m valued_on.after.this_value (map (λ l. l.value) valued_on.after.locals) method j.this_is j.locals_are).by valued_on.after j k e

  abbrev object_then : Kind → Outcome Value
  object_then k = object_of problem.program k body_then.after

  abbrev predicate_then : Kind → Outcome Value
  predicate_then k = value problem.program (class_scope problem.program root) rep_ok (object_then k).after

  abbrev ObjectFine : List JavaType → ℕ → Result Value Stop → State → Type 0
  ObjectFine before d r t = Fine problem.program before_body before (Some root) ls (λ more after v. (after ≡ ls) × IsObject more d v) r t

  object_fine : (os : List Old) (f : ValuedAs os) (k : Kind) (e : body_then.said ≡ Err (Trapped k)) (d : ℕ) → class_of_kind problem.program k ≡ Some d → ObjectFine (thrown_fine os f k e).0 d (object_then k).said (object_then k).after
  object_fine os f k e d q =
      let b = thrown_fine os f k e in
      let state : IsStateOf problem.program before_body b.0 (Some root) ls (record body_then.after { thrown = None }) = record { heap = b.2.heap; this_is = root_this b.0 body_then.after.this_value (extends_twice types f.0 b.0 f.2 b.1) still_first; locals_are = b.2.locals_are; result = tt; olds = tt; thrown = refl; candidates = b.2.candidates; enough = b.2.enough } in
      (thrown_object problem.program before_body facts k d b.0 (Some root) ls q).by body_then.after state b.3

  object_state : (before : List JavaType) (d : ℕ) (o : Value) (t : State) (c : ObjectFine before d (Ok o) t) → IsStateOf problem.program before_body c.0 (Some root) ls t
  object_state before d o t c = subst (λ (z : List JavaType). IsStateOf problem.program before_body c.0 (Some root) z t) c.4.0 c.3

  -- the state that `signals` clauses see
  signalling : (before after : List JavaType) (os : List Old) (u : State) → Extends before after → AreOlds problem.program.table before (old_types (olds_of problem.program m)) os → IsStateOf problem.program before_body after (Some root) ls u
      → IsStateOf problem.program (after_throw problem.program m) after own ls (record u { olds = os })
  signalling before after os u x h k = record {
    heap = k.heap;
    this_is = this_own after u.this_value k.this_is;
    locals_are = k.locals_are;
    result = tt;
    olds = olds_more problem.program before after (old_types (olds_of problem.program m)) os x h;
    thrown = k.thrown;
    candidates = k.candidates;
    enough = k.enough;
  }

  clauses_fit : (k : Kind) → AreFitting problem.program (type_of_old (old_types (olds_of problem.program m))) (method_scope problem.program m) k (fitting problem.program k (signals_of problem.program m))
  clauses_fit k = fit problem.program (type_of_old (old_types (olds_of problem.program m))) (method_scope problem.program m) k (signals_of problem.program m) (clauses problem.program (type_of_old (old_types (olds_of problem.program m))) (method_scope problem.program m) 1 m.contracts (contracts.signals m tested))

  given : (os : List Old) (f : ValuedAs os) (k : Kind) (d : ℕ) → class_of_kind problem.program k ≡ Some d → (before : List JavaType) → Extends f.0 before → (o v : Value) (c : ObjectFine before d (Ok o) (object_then k).after) → PredicateFine c.0 (Ok v) (predicate_then k).after
      → GiveSignals problem.program o (fitting_in problem m k) (record (predicate_then k).after { olds = os })
  given os f k d q before x o v c p =
      let fixed = after_throw problem.program m in
      let state = signalling f.0 p.0 os (predicate_then k).after (extends_twice f.0 c.0 p.0 (extends_twice f.0 before c.0 x c.2) p.2) f.4.1 (subst (λ (z : List JavaType). IsStateOf problem.program before_body p.0 (Some root) z (predicate_then k).after) p.4.0 p.3) in
      let object : IsOf problem.program.table c.0 (ClassType d) o = subst (λ (z : Value). IsOf problem.program.table c.0 (ClassType d) z) (sym c.4.1.1) (c.4.1.2, ap (λ (z : JavaType). is_assignable problem.program.table z (ClassType d)) c.4.1.3 ∙ below_itself problem.program.table d) in
      signals_given problem.program fixed facts (method_scope problem.program m) (λ part e. (refl, refl, parameter_variables m.parameters method.parameters, method.result, λ q o. absurd (cc (e, q)))) refl k d q o (fitting_in problem m k) (clauses_fit k) p.0
      (record (predicate_then k).after { olds = os }) (value_more problem.program.table c.0 p.0 (ClassType d) o p.2 object)
      (subst (λ (z : List JavaType). IsStateOf problem.program fixed p.0 own z (record (predicate_then k).after { olds = os })) (sym (parameter_types m.parameters)) state)

  throwing : (os : List Old) (f : ValuedAs os) (k : Kind) → body_then.said ≡ Err (Trapped k) → (x : Option ℕ) → class_of_kind problem.program k ≡ x → (fitting_in problem m k ≡ [] → ⊥) → IsThrownTestable problem m os k body_then.after
  throwing os f k e None q some = absurd (some (none_fits problem.program k (signals_of problem.program m) q))
  throwing os f k e (Some d) q some = record {
    object = fine_said problem.program before_body b.0 (Some root) ls _ (object_then k).said (object_then k).after object;
    predicate = λ o g. let c = ok o g in truth_given problem.program before_body facts c.0 (Some root) ls (predicate_then k) (holds o c);
    signals = λ o v g h. let c = ok o g in given os f k d q b.0 b.1 o v c (fine_ok problem.program before_body c.0 (Some root) ls _ (predicate_then k).said (predicate_then k).after v (holds o c) h);
  }
    where
      b : ThrownFine f.0 k body_then.after
      b = thrown_fine os f k e

      object : ObjectFine b.0 d (object_then k).said (object_then k).after
      object = object_fine os f k e d q

      ok : (o : Value) → (object_then k).said ≡ Ok o → ObjectFine b.0 d (Ok o) (object_then k).after
      ok o g = fine_ok problem.program before_body b.0 (Some root) ls _ (object_then k).said (object_then k).after o object g

      holds : (o : Value) (c : ObjectFine b.0 d (Ok o) (object_then k).after) → PredicateFine c.0 (predicate_then k).said (predicate_then k).after
      holds o c = (predicate_safe problem.program before_body facts c.0 root ls contracts.predicate).by (object_then k).after (object_state b.0 d o (object_then k).after c)

  pub testable : IsTestable problem m (test_start problem vector fuel)
  testable = record {
    olds = fine_said problem.program before_body types own ls _ valued_on.said valued_on.after (olds_run.by first started);
    body = λ os e. let f = valued_as os e in fine_said problem.program before_body f.0 own ls _ body_then.said body_then.after (body_fine os f);
    predicate = λ os r e g. let f = valued_as os e in let b = fine_ok problem.program before_body f.0 own ls _ body_then.said body_then.after r (body_fine os f) g in truth_given problem.program before_body facts b.0 (Some root) ls checked_then (predicate_fine os f r b);
    ensures = λ os r v e g h.
        let f = valued_as os e in
        let b = fine_ok problem.program before_body f.0 own ls _ body_then.said body_then.after r (body_fine os f) g in
        let c = fine_ok problem.program before_body b.0 (Some root) ls _ checked_then.said checked_then.after v (predicate_fine os f r b) h in
        checked problem.program (after_body problem.program m) facts own ls (ensures_of problem.program m) (contract_boolean problem.program (after_body problem.program m) facts m Ensuring method result_known (flat_map ensured_in m.contracts) (contracts.ensures m tested)) c.0 (record checked_then.after { result = Some r; olds = os }) (last os f r b v c);
    thrown = λ os k e g some. throwing os (valued_as os e) k g (class_of_kind problem.program k) refl some;
  }
