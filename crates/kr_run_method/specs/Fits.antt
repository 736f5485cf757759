-- Between crates: when a call, or the evaluation of a contract's expression, is one that typing accepts: then its run isn't stuck.
use Rattle.std.specs.Prelude.{◌≡◌, ℕ, Bool, true, false, if◌then◌else◌, List, [], ◌∷◌, map, Option, Some, None, Err}
use Rattle.kr_value.specs.declared.value.Value.{Value}
use Rattle.kr_value.specs.Heaps.{Heap}
use Rattle.kr_base.specs.declared.place.Place.{Place}
use Rattle.kr_ast.specs.Tree as trees
use Rattle.kr_ast.specs.Tree.{Tree}
use Rattle.kr_classes_table.specs.Types.{JavaType, is_void}
use Rattle.kr_classes_table.specs.Table as tables
use Rattle.kr_classes_table.specs.Table.{Table, method_named}
use Rattle.kr_types_meaning.specs.Scopes.{Scope, Requiring, Ensuring, written, in_contract, in_signals, in_old}
use Rattle.kr_mean.specs.declared.kind.Stop.TheVariants.{Stuck}
use Rattle.kr_mean.specs.Program.{Program, method_scope}
use Rattle.kr_mean.specs.Code.{Node}
use Rattle.kr_mean.specs.Verdicts.{OldNode, olds_of}
use Rattle.kr_code.specs.declared.code.Code.{Code}
use Rattle.kr_code.specs.Resolved.{Numbering, IsCodeOf}
use Rattle.kr_run_method.specs.Results.{has_result}
use Rattle.kr_laws_safety.specs.Fits.{IsOf, AreOf, IsHeapOf}
use Rattle.kr_laws_safety.specs.Triples.{IsResult, IsThis, type_of_old}
use Rattle.kr_laws_safety.specs.Typed.{IsTypedProgram, Olds, types_in}
use Rattle.kr_laws_safety.specs.Tested.{IsCondition, IsOld, IsSignal, old_type, old_types}
use Rattle.kr_run_method.specs.declared.executed.Env.{Env}
use Rattle.kr_run_method.specs.declared.executed.Executed.{Executed}
use Rattle.kr_run_method.specs.declared.executed.Method.{Method}
use Rattle.kr_run_method.specs.Executed.{IsMethodOf}
use Rattle.kr_run_method.specs.Evaluated.{places_of}

-- The receiver is an object of the class that declares the method, and not null; the arguments are of the parameters' types.
abbrev pub AreGiven : Table → List JavaType → tables.Method → Bool → List Value → Type 0
AreGiven table types m true arguments = AreOf table types (types_in m.parameters) arguments
AreGiven table types m false (receiver ∷ arguments) = IsThis table types (Some m.class) receiver × AreOf table types (types_in m.parameters) arguments
AreGiven table types m false [] = ⊥

-- a method of the program, on a heap and values of their types; of an array whose type the program doesn't number nothing is
-- asked
pub record IsCall (program : Program) (m : tables.Method) (values : List Value) (heap : Heap) : Type 0 where
  pub class : ℕ
  pub name : List ℕ
  pub named : method_named program.table class name ≡ Some m
  pub types : List JavaType
  pub objects : IsHeapOf program types heap
  pub given : AreGiven program.table types m m.is_static values

-- a run of a typed program's code doesn't end at a node without a meaning
abbrev pub IsUnstuck : Code → Method → List Value → Heap → Executed → Type 0
IsUnstuck code method values heap run =
    (program : Program) (n : Numbering) (m : tables.Method) → IsCodeOf program code n → IsMethodOf code n m method → IsTypedProgram program → IsCall program m values heap → run.end ≡ Err Stuck → ⊥

-- ---- expressions of contracts

-- the type of the name that a `signals` clause gives to what is thrown, where it gives one
abbrev pub thrown_type : Scope → Tree → Option JavaType
thrown_type s (trees.Parameter p t n) = Some (written s t)
thrown_type s d = None

-- An expression of a contract without broken nodes: a condition, or what an `\old` of one holds; whether it is looked at after the
-- body, where it sees the values of `\old`s and, as a postcondition, the result; and the type of the name of what is thrown.
pub data IsExpression (program : Program) (m : tables.Method) : Node → Bool → Option JavaType → Type 0 where
  required : (e : Tree) → ((olds : Olds) → IsCondition program olds (record { scope = in_contract Requiring (method_scope program m); tree = e }))
      → IsExpression program m (record { scope = in_contract Requiring (method_scope program m); tree = e }) false None
  ensured : (e : Tree) → IsCondition program (type_of_old (old_types (olds_of program m))) (record { scope = in_contract Ensuring (method_scope program m); tree = e })
      → IsExpression program m (record { scope = in_contract Ensuring (method_scope program m); tree = e }) true None
  signalled : (d e : Tree) → IsSignal program (type_of_old (old_types (olds_of program m))) (method_scope program m) d e
      → IsExpression program m (record { scope = in_signals d (method_scope program m); tree = e }) true (thrown_type (method_scope program m) d)
  held : (o : OldNode) → o.scope ≡ in_old (in_contract Ensuring (method_scope program m)) → IsOld program o
      → IsExpression program m (record { scope = o.scope; tree = o.tree }) false None
  held_signalled : (d e : Tree) (o : OldNode) → IsSignal program (type_of_old (old_types (olds_of program m))) (method_scope program m) d e
      → o.scope ≡ in_old (in_signals d (method_scope program m)) → IsOld program o
      → IsExpression program m (record { scope = o.scope; tree = o.tree }) false (thrown_type (method_scope program m) d)

-- the result, where the method gives one and the expression has `\result`, and a value for each `\old` of the method, in source
-- order
abbrev pub IsSeen : Program → tables.Method → List JavaType → Env → Tree → Bool → Type 0
IsSeen program m types env e false = Unit {0}
IsSeen program m types env e true =
    (has_result e ≡ true → IsResult program.table types (if is_void m.result then None else Some m.result) env.result) × AreOf program.table types (map old_type (olds_of program m)) env.olds.items

-- what is thrown, exactly where it has a name; before the body the name is null
abbrev pub IsThrown : Table → List JavaType → Option JavaType → Option Value → Type 0
IsThrown table types None r = r ≡ None
IsThrown table types (Some t) r = (v : Value) × (r ≡ Some v) × IsOf table types t v

-- an expression of a method's contract, on a heap and values of their types
pub record IsEvaluation (program : Program) (m : tables.Method) (e : Node) (env : Env) (heap : Heap) : Type 0 where
  pub class : ℕ
  pub name : List ℕ
  pub named : method_named program.table class name ≡ Some m
  pub is_after : Bool
  pub thrown_as : Option JavaType
  pub expression : IsExpression program m e is_after thrown_as
  pub types : List JavaType
  pub objects : IsHeapOf program types heap
  pub this : IsThis program.table types (if m.is_static then None else Some m.class) env.this
  pub arguments : AreOf program.table types (types_in m.parameters) env.arguments.items
  pub thrown : IsThrown program.table types thrown_as env.thrown
  pub seen : IsSeen program m types env e.tree is_after

-- an evaluation of a typed program's code doesn't end at a node without a meaning
abbrev pub IsEvaluatedUnstuck : Code → ℕ → List Place → Env → Heap → Executed → Type 0
IsEvaluatedUnstuck code node places env heap run =
    (program : Program) (n : Numbering) (m : tables.Method) → IsCodeOf program code n → places ≡ places_of (olds_of program m) → IsTypedProgram program → IsEvaluation program m (n.origin node) env heap → run.end ≡ Err Stuck → ⊥
