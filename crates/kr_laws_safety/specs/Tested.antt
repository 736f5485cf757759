-- Between crates: what typing gives of the predicate of a problem, and of the contract of the method under test.
use Rattle.std.specs.Prelude.{◌≡◌, ℕ, Bool, true, false, List, [], ◌∷◌, map, Option, Some, None, Ok, Err, codes}
use Rattle.kr_base.specs.declared.place.Place.{Place}
use Rattle.kr_ast.specs.Tree as trees
use Rattle.kr_ast.specs.Tree.{Tree}
use Rattle.kr_value.specs.declared.value.Value.{Value}
use Rattle.kr_value.specs.declared.value.Value.TheVariants.{Bool as Truth}
use Rattle.kr_classes_table.specs.Types.{JavaType, BooleanType, VoidType, ClassType}
use Rattle.kr_classes_table.specs.Table.{Method, method_named}
use Rattle.kr_types_meaning.specs.Scopes.{Scope, caught_type, in_signals}
use Rattle.kr_types_meaning.specs.Typing.{judged, type_in}
use Rattle.kr_mean.specs.declared.kind.Kind.{Kind}
use Rattle.kr_mean.specs.declared.kind.Stop.TheVariants.{Trapped, Stuck}
use Rattle.kr_mean.specs.Program.{Program, method_scope}
use Rattle.kr_mean.specs.Problem.{Problem}
use Rattle.kr_mean.specs.Steps.{Old, State, Outcome}
use Rattle.kr_mean.specs.Thrown.{object_of}
use Rattle.kr_mean.specs.Meaning.{value, body_of}
use Rattle.kr_mean.specs.Code.{Node}
use Rattle.kr_mean.specs.Runs.{root_class, tested_method, rep_ok_node, requires_of, ensures_of}
use Rattle.kr_mean.specs.Verdicts.{OldNode, olds_of, naming, olds_valued, Signal, signals_of, fitting}
use Rattle.kr_laws_types.specs.Derivation.{IsSignalled}
use Rattle.kr_laws_types.specs.Shapes.{Expression, IsCode}
use Rattle.kr_laws_types.specs.Expressions.{plain}
use Rattle.kr_laws_safety.specs.Triples.{type_of_old}
use Rattle.kr_laws_safety.specs.Typed.{Olds}
use Rattle.kr_laws_safety.specs.Claims.{is_target}

-- `boolean repOk()`, which the class or an ancestor declares
pub record IsPredicate (program : Program) (c : ℕ) : Type 0 where
  pub method : Method
  pub found : method_named program.table c (codes "repOk") ≡ Some method
  pub parameters : method.parameters ≡ []
  pub result : method.result ≡ BooleanType

-- a boolean expression without broken nodes
pub record IsCondition (program : Program) (olds : Olds) (n : Node) : Type 0 where
  pub code : IsCode program.arrays olds (Expression false) n.scope n.tree
  pub unbroken : (judged n.scope n.tree).faults ≡ []
  pub boolean : type_in (judged n.scope n.tree).typed ≡ Some BooleanType

abbrev pub AreConditions : Program → Olds → List Node → Type 0
AreConditions program olds [] = Unit {0}
AreConditions program olds (n ∷ ns) = IsCondition program olds n × AreConditions program olds ns

-- a `signals` clause: it names a class, and its condition may name the object
pub record IsSignal (program : Program) (olds : Olds) (s : Scope) (d e : Tree) : Type 0 where
  pub shape : IsSignalled d
  pub class : ℕ
  pub type : caught_type s d ≡ ClassType class
  pub condition : IsCondition program olds (record { scope = in_signals d s; tree = e })

-- those of a contract
abbrev pub AreSignals : Program → Olds → Scope → List Tree → Type 0
AreSignals program olds s [] = Unit {0}
AreSignals program olds s (trees.Signals p d e ∷ ts) = IsSignal program olds s d e × AreSignals program olds s ts
AreSignals program olds s (t ∷ ts) = AreSignals program olds s ts

-- the types of the values of `\old`s, by the places of their nodes
abbrev pub type_or_none : Option JavaType → JavaType
type_or_none (Some t) = t
type_or_none None = VoidType

abbrev pub old_type : OldNode → JavaType
old_type o = type_or_none (type_in (judged o.scope o.tree).typed)

abbrev pub old_types : List OldNode → List (Place × JavaType)
old_types os = map (λ o. (o.place, old_type o)) os

-- the operand of an `\old`: an expression without broken nodes, of a type of values
pub record IsOld (program : Program) (o : OldNode) : Type 0 where
  pub code : (olds : Olds) → IsCode program.arrays olds (Expression false) (plain o.scope) o.tree
  pub unbroken : (judged o.scope o.tree).faults ≡ []
  pub target : is_target (old_type o) ≡ true

abbrev pub AreOldNodes : Program → List OldNode → Type 0
AreOldNodes program [] = Unit {0}
AreOldNodes program (o ∷ os) = IsOld program o × AreOldNodes program os

-- The predicate, and the contract of the method under test. In a condition after the body each `\old` has the type that is known by its place.
pub record HasContracts (problem : Problem) : Type 0 where
  pub predicate : IsPredicate problem.program (root_class problem)
  pub requires : (olds : Olds) (m : Method) → tested_method problem problem.mode ≡ Some m → AreConditions problem.program olds (requires_of problem.program m)
  pub olds : (m : Method) → tested_method problem problem.mode ≡ Some m → AreOldNodes problem.program (olds_of problem.program m)
  pub ensures : (m : Method) → tested_method problem problem.mode ≡ Some m → AreConditions problem.program (type_of_old (old_types (olds_of problem.program m))) (ensures_of problem.program m)
  pub signals : (m : Method) → tested_method problem problem.mode ≡ Some m → AreSignals problem.program (type_of_old (old_types (olds_of problem.program m))) (method_scope problem.program m) m.contracts

-- ---- tests

-- a run that doesn't end at a node without a meaning
abbrev pub IsNotStuck : {A : Type 0} → Outcome A → Type 0
IsNotStuck o = o.said ≡ Err Stuck → ⊥

abbrev pub IsTruth : Value → Type 0
IsTruth v = (b : Bool) × (v ≡ Truth b)

-- such a run, which gives a truth value where it gives a value
abbrev pub GivesTruth : Outcome Value → Type 0
GivesTruth o = IsNotStuck o × ((v : Value) → o.said ≡ Ok v → IsTruth v)

-- conditions one after another, whatever those before them give
abbrev pub GiveTruths : Program → List Node → State → Type 0
GiveTruths program [] s = Unit {0}
GiveTruths program (e ∷ es) s = GivesTruth (value program e.scope e.tree s) × ((v : Value) → (value program e.scope e.tree s).said ≡ Ok v → GiveTruths program es (value program e.scope e.tree s).after)

-- `signals` clauses one after another, with the object that is thrown
abbrev pub signal_on : Program → Value → Signal → State → Outcome Value
signal_on program o c s = naming c.is_named o (value program c.condition.scope c.condition.tree) s

abbrev pub GiveSignals : Program → Value → List Signal → State → Type 0
GiveSignals program o [] s = Unit {0}
GiveSignals program o (c ∷ cs) s = GivesTruth (signal_on program o c s) × ((v : Value) → (signal_on program o c s).said ≡ Ok v → GiveSignals program o cs (signal_on program o c s).after)

-- the parts of a test one after another: the values of `\old`s, the body, the predicate, the postconditions
abbrev pub valued : Problem → Method → State → Outcome (List Old)
valued problem m s = olds_valued problem.program (olds_of problem.program m) s

abbrev pub body_on : Problem → Method → State → Outcome Value
body_on problem m t = body_of problem.program t.this_value (map (λ l. l.value) t.locals) m t

abbrev pub predicate_on : Problem → State → Outcome Value
predicate_on problem u = value problem.program (rep_ok_node problem).scope (rep_ok_node problem).tree u

-- the `signals` clauses that fit a kind
abbrev pub fitting_in : Problem → Method → Kind → List Signal
fitting_in problem m k = fitting problem.program k (signals_of problem.program m)

-- a body has thrown, and a clause fits: the object is found, then the predicate runs, and then each clause that fits
pub record IsThrownTestable (problem : Problem) (m : Method) (os : List Old) (k : Kind) (t : State) : Type 0 where
  pub object : IsNotStuck (object_of problem.program k t)
  pub predicate : (o : Value) → (object_of problem.program k t).said ≡ Ok o → GivesTruth (predicate_on problem (object_of problem.program k t).after)
  pub signals : (o v : Value) → (object_of problem.program k t).said ≡ Ok o → (predicate_on problem (object_of problem.program k t).after).said ≡ Ok v
      → GiveSignals problem.program o (fitting_in problem m k) (record (predicate_on problem (object_of problem.program k t).after).after { olds = os })

pub record IsTestable (problem : Problem) (m : Method) (s : State) : Type 0 where
  pub olds : IsNotStuck (valued problem m s)
  pub body : (os : List Old) → (valued problem m s).said ≡ Ok os → IsNotStuck (body_on problem m (valued problem m s).after)
  pub predicate : (os : List Old) (r : Value) → (valued problem m s).said ≡ Ok os → (body_on problem m (valued problem m s).after).said ≡ Ok r → GivesTruth (predicate_on problem (body_on problem m (valued problem m s).after).after)
  pub ensures : (os : List Old) (r v : Value) → (valued problem m s).said ≡ Ok os → (body_on problem m (valued problem m s).after).said ≡ Ok r → (predicate_on problem (body_on problem m (valued problem m s).after).after).said ≡ Ok v
      → GiveTruths problem.program (ensures_of problem.program m) (record (predicate_on problem (body_on problem m (valued problem m s).after).after).after { result = Some r; olds = os })
  pub thrown : (os : List Old) (k : Kind) → (valued problem m s).said ≡ Ok os → (body_on problem m (valued problem m s).after).said ≡ Err (Trapped k) → (fitting_in problem m k ≡ [] → ⊥) → IsThrownTestable problem m os k (body_on problem m (valued problem m s).after).after
