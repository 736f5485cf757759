-- To be believed: the verdict of a test of the method under test on a structure, by its contract: the values of its `\old`s, its
-- body, `this.repOk()` and its postconditions, or where it throws the `signals` clauses that fit, with one fresh fuel for all.
use Rattle.std.specs.Prelude.{ℕ, ◌+◌, Bool, true, false, List, [], ◌∷◌, length, map, flat_map, if◌then◌else◌, Option, Some, None, Result, Ok, Err}
use Rattle.kr_base.specs.declared.place.Place.{Place}
use Rattle.kr_ast.specs.Tree as trees
use Rattle.kr_ast.specs.Tree.{Tree}
use Rattle.kr_value.specs.declared.value.Value.{Value}
use Rattle.kr_value.specs.declared.value.Value.TheVariants.{Bool as Truth, Null}
use Rattle.kr_classes_table.specs.Types.{JavaType}
use Rattle.kr_classes_table.specs.Table.{Method}
use Rattle.kr_types_meaning.specs.Scopes.{Scope, Ensuring, in_contract, in_signals, in_old, caught_type}
use Rattle.kr_mean.specs.declared.kind.Kind.{Kind}
use Rattle.kr_mean.specs.declared.kind.Verdict.{Verdict}
use Rattle.kr_mean.specs.declared.kind.Verdict.TheVariants.{Pass, Ensures, Signals, RepOk, Trap, CheckTrap, Spent}
use Rattle.kr_mean.specs.declared.kind.Stop.{Stop}
use Rattle.kr_mean.specs.declared.kind.Stop.TheVariants.{Trapped, OutOfFuel, Stuck}
use Rattle.kr_mean.specs.Program.{Program, method_scope}
use Rattle.kr_mean.specs.Problem.{Problem}
use Rattle.kr_mean.specs.Heaps.{heap_of, value_at}
use Rattle.kr_mean.specs.Steps.{Old, State, Outcome, Run, give, plain_local, declare, scoped, ◌>>=◌, ◌>>◌}
use Rattle.kr_mean.specs.Thrown.{class_of_kind, is_caught, object_of}
use Rattle.kr_mean.specs.Meaning.{value, body_of}
use Rattle.kr_mean.specs.Code.{Node, code}
use Rattle.kr_mean.specs.Runs.{rep_ok_node, ensures_of, parameter_values, tested_method}

-- an `\old` of a condition, with the place of its node and the scope of what it holds; whether the thrown object has a name there
pub record OldNode : Type 0 where
  pub place : Place
  pub is_named : Bool
  pub scope : Scope
  pub tree : Tree

abbrev pub old_in : Bool → Scope → Tree → List OldNode
old_in is_named s (trees.Old p e) = record { place = p; is_named = is_named; scope = in_old s; tree = e } ∷ []
old_in is_named s t = []

abbrev pub names_thrown : Tree → Bool
names_thrown (trees.Parameter p t n) = true
names_thrown t = false

abbrev pub olds_among : Bool → List Node → List OldNode
olds_among is_named ns = flat_map (λ (n : Node). old_in is_named n.scope n.tree) ns

abbrev pub olds_in : Scope → Tree → List OldNode
olds_in s (trees.Ensures p e) = olds_among false (code (in_contract Ensuring s) e)
olds_in s (trees.Signals p d e) = olds_among (names_thrown d) (code (in_signals d s) e)
olds_in s t = []

-- those of all conditions after the body, in source order
abbrev pub olds_of : Program → Method → List OldNode
olds_of program m = flat_map (olds_in (method_scope program m)) m.contracts

-- with the thrown object as a local, where it is named
abbrev pub naming : {A : Type 0} → Bool → Value → Run A → Run A
naming true o m = scoped (declare o >> m)
naming false o m = m

-- their values; before the body nothing is thrown, and the name is null
abbrev pub olds_valued : Program → List OldNode → Run (List Old)
olds_valued program [] = give []
olds_valued program (o ∷ os) = do
  v ← naming o.is_named Null (value program o.scope o.tree)
  vs ← olds_valued program os
  give (record { place = o.place; value = v } ∷ vs)

-- Goes on with a run's value and the state after it; otherwise the verdict is known. No run of a program that typing accepts is
-- stuck; a stuck run would count as out of fuel, which is failing.
abbrev pub judged_as : {A : Type 0} → (Kind → Verdict) → Result A Stop → State → (A → State → Verdict) → Verdict
judged_as trap (Ok a) s next = next a s
judged_as trap (Err (Trapped kind)) s next = trap kind
judged_as trap (Err OutOfFuel) s next = Spent
judged_as trap (Err Stuck) s next = Spent

abbrev pub then_judged : {A : Type 0} → (Kind → Verdict) → Outcome A → (A → State → Verdict) → Verdict
then_judged trap o next = judged_as trap o.said o.after next

abbrev pub where_holds : Value → Verdict → Verdict → Verdict
where_holds (Truth true) fails next = next
where_holds (Truth false) fails next = fails
where_holds v fails next = Spent

-- the number of the first postcondition that is false
abbrev pub ensured : Program → ℕ → List Node → State → Verdict
ensured program n [] s = Pass
ensured program n (e ∷ es) s = then_judged CheckTrap (value program e.scope e.tree s) (λ v t. where_holds v (Ensures n) (ensured program (n + 1) es t))

-- `this.repOk()`, and then the postconditions, which see the result and the `\old`s
abbrev pub checked : Problem → Method → List Old → Value → State → Verdict
checked problem m olds result s =
    then_judged CheckTrap (value problem.program (rep_ok_node problem).scope (rep_ok_node problem).tree s)
    (λ v t. where_holds v RepOk (ensured problem.program 1 (ensures_of problem.program m) (record t { result = Some result; olds = olds })))

-- ---- a body that throws

-- a `signals` clause: its number, the class that it names, whether it names the object, and its condition
pub record Signal : Type 0 where
  pub number : ℕ
  pub type : JavaType
  pub is_named : Bool
  pub condition : Node

-- those of a contract, by their numbers from n on
abbrev pub signals_from : Scope → ℕ → List Tree → List Signal
signals_from s n [] = []
signals_from s n (trees.Signals p d e ∷ ts) = record { number = n; type = caught_type s d; is_named = names_thrown d; condition = record { scope = in_signals d s; tree = e } } ∷ signals_from s (n + 1) ts
signals_from s n (t ∷ ts) = signals_from s n ts

abbrev pub signals_of : Program → Method → List Signal
signals_of program m = signals_from (method_scope program m) 1 m.contracts

-- those whose class fits
abbrev pub fitting : Program → Kind → List Signal → List Signal
fitting program k [] = []
fitting program k (c ∷ cs) = if is_caught program c.type (class_of_kind program k) then c ∷ fitting program k cs else fitting program k cs

abbrev pub signalled : Program → Value → List Signal → State → Verdict
signalled program o [] s = Pass
signalled program o (c ∷ cs) s =
    then_judged CheckTrap (naming c.is_named o (value program c.condition.scope c.condition.tree) s) (λ v t. where_holds v (Signals c.number) (signalled program o cs t))

-- `this.repOk()`, and then the clauses that fit, which see the `\old`s; without such a clause the method traps
abbrev pub thrown : Problem → Method → List Old → Kind → List Signal → State → Verdict
thrown problem m olds k [] s = Trap k
thrown problem m olds k (c ∷ cs) s =
    then_judged CheckTrap (object_of problem.program k s)
    (λ o t. then_judged CheckTrap (value problem.program (rep_ok_node problem).scope (rep_ok_node problem).tree t)
    (λ v u. where_holds v RepOk (signalled problem.program o (c ∷ cs) (record u { olds = olds }))))

abbrev pub after_body : Problem → Method → List Old → Outcome Value → Verdict
after_body problem m olds o =
    then_judged (λ k. thrown problem m olds k (fitting problem.program k (signals_of problem.program m)) o.after) o (λ result s. checked problem m olds result s)

abbrev pub verdict_from : Problem → Method → State → Verdict
verdict_from problem m s =
    then_judged CheckTrap (olds_valued problem.program (olds_of problem.program m) s)
    (λ olds t. after_body problem m olds (body_of problem.program t.this_value (map (λ l. l.value) t.locals) m t))

-- a test writes what it likes, so its heap has no candidates whose reads are noted
abbrev pub test_start : Problem → List ℕ → ℕ → State
test_start problem vector fuel = record {
  this_value = value_at problem vector 0;
  locals = map plain_local (parameter_values problem vector);
  result = None;
  olds = [];
  thrown = None;
  heap = heap_of problem vector;
  candidates = 0;
  fuel = fuel;
}

abbrev pub verdict_by : Problem → List ℕ → ℕ → Option Method → Option Verdict
verdict_by problem vector fuel None = None
verdict_by problem vector fuel (Some m) = Some (verdict_from problem m (test_start problem vector fuel))

-- of a test's vector, with so much fuel; a listing has no verdicts
abbrev pub verdict_with : Problem → List ℕ → ℕ → Option Verdict
verdict_with problem vector fuel = verdict_by problem vector fuel (tested_method problem problem.mode)

-- with the problem's fuel
unfoldable pub verdict_of : Problem → List ℕ → Option Verdict
verdict_of problem vector = verdict_with problem vector problem.fuel
