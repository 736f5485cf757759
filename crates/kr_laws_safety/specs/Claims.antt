-- Between crates: what is claimed of code without broken nodes: no run of it is stuck, expressions give values of the types that
-- they are used as, and statements lead on only as they may.
use Rattle.std.specs.Prelude.{◌≡◌, ℕ, Bool, true, false, if◌then◌else◌, List, [], ◌∷◌, ◌++◌, Option, Some, None}
use Rattle.kr_base.specs.declared.place.Place.{Place}
use Rattle.kr_ast.specs.Tree as trees
use Rattle.kr_ast.specs.Tree.{Tree}
use Rattle.kr_value.specs.declared.value.Value.{Value}
use Rattle.kr_classes_table.specs.Types.{JavaType, BooleanType, NullType, is_void}
use Rattle.kr_classes_table.specs.Table.{Table, is_assignable}
use Rattle.kr_types_meaning.specs.Scopes.{Scope, Local, after}
use Rattle.kr_types_meaning.specs.Rules.{is_ensuring, is_statement}
use Rattle.kr_types_meaning.specs.Typing.{judged, type_in}
use Rattle.kr_laws_types.specs.Types.{is_result_type, AreVariables}
use Rattle.kr_laws_types.specs.Shapes.{Sort, Expression, Statement, IsCode}
use Rattle.kr_laws_types.specs.Expressions.{plain}
use Rattle.kr_mean.specs.Program.{Program}
use Rattle.kr_mean.specs.Steps.{Run}
use Rattle.kr_mean.specs.declared.flow.Flow.{Flow}
use Rattle.kr_mean.specs.declared.flow.Flow.TheVariants.{Next, Broke, Continued, Left, Gave}
use Rattle.kr_mean.specs.Meaning.{Parts}
use Rattle.kr_laws_safety.specs.Fits.{IsOf}
use Rattle.kr_laws_safety.specs.Triples.{Fixed, Safe, Closes, Extends, type_of_old}

-- `this`, which static code doesn't have
abbrev pub this_of : Scope → Option ℕ
this_of s = if s.is_static then None else Some s.class

-- the types of locals, the oldest first
abbrev pub types_of : List Local → List JavaType
types_of [] = []
types_of (l ∷ ls) = types_of ls ++ l.type ∷ []

-- as what a value is used: a type of variables, null's, or none
abbrev pub is_target : JavaType → Bool
is_target NullType = true
is_target t = is_result_type t

-- the locals are as they were, and what is given is of the type if it is one of values
abbrev pub GivesAs : Program → List JavaType → JavaType → List JavaType → List JavaType → Value → Type 0
GivesAs program locals u more after v = (after ≡ locals) × (is_void u ≡ false → IsOf program.table more u v)

-- A scope of the program: its locals are of types of variables; where it is a postcondition's, but not inside an `\old`, the result is of the method's type.
abbrev pub IsScope : Program → Fixed → Scope → Type 0
IsScope program fixed s =
    (s.table ≡ program.table) × (s.values ≡ program.values) × AreVariables s.locals × (is_result_type s.result ≡ true) × (is_ensuring s.part ≡ true → s.is_in_old ≡ false → is_void s.result ≡ false → fixed.result ≡ Some s.result)

-- code of a program, where the types of `\old`s are those that are fixed
abbrev pub Coded : Program → Fixed → Sort → Scope → Tree → Type 0
Coded program fixed sort s t = IsCode program.arrays (type_of_old fixed.olds) sort (plain s) t

-- The end of a statement, in a loop or not, in a method with a result: the next one runs with such locals; otherwise the locals
-- are as before.
abbrev pub Leads : Table → JavaType → Bool → List JavaType → List JavaType → List JavaType → List JavaType → Flow → Type 0
Leads table result loops before locals more after Next = after ≡ locals
Leads table result loops before locals more after Broke = (after ≡ before) × (loops ≡ true)
Leads table result loops before locals more after Continued = (after ≡ before) × (loops ≡ true)
Leads table result loops before locals more after Left = (after ≡ before) × (is_void result ≡ true)
Leads table result loops before locals more after (Gave v) = (after ≡ before) × (is_void result ≡ false) × IsOf table more result v

-- the end of statements in order: after some of them there may be more locals
abbrev pub LeadsOn : Table → JavaType → Bool → List JavaType → List JavaType → List JavaType → List JavaType → Flow → Type 0
LeadsOn table result loops before locals more after Next = after ≡ locals
LeadsOn table result loops before locals more after Broke = Extends before after × (loops ≡ true)
LeadsOn table result loops before locals more after Continued = Extends before after × (loops ≡ true)
LeadsOn table result loops before locals more after Left = Extends before after × (is_void result ≡ true)
LeadsOn table result loops before locals more after (Gave v) = Extends before after × (is_void result ≡ false) × IsOf table more result v

-- an expression without broken nodes, used as a type to which its own may be assigned
abbrev pub ValuesSafe : Program → Fixed → (Scope → Tree → Run Value) → Type 0
ValuesSafe program fixed f = (s : Scope) (e : Tree) → IsScope program fixed s → Coded program fixed (Expression false) s e → (judged s e).faults ≡ []
    → (types : List JavaType) (t u : JavaType) → type_in (judged s e).typed ≡ Some t → is_target u ≡ true → is_assignable program.table t u ≡ true
    → Safe program fixed types (this_of s) (types_of s.locals) (f (plain s) e) (GivesAs program (types_of s.locals) u)

-- a statement without broken nodes
abbrev pub StatementsSafe : Program → Fixed → (Scope → Tree → Run Flow) → Type 0
StatementsSafe program fixed f = (declares : Bool) (s : Scope) (t : Tree) → IsScope program fixed s → is_statement s.role ≡ false → Coded program fixed (Statement declares) s t → (judged s t).faults ≡ [] → (types : List JavaType)
    → Safe program fixed types (this_of s) (types_of s.locals) (f (plain s) t) (Leads program.table s.result s.is_in_loop (types_of s.locals) (types_of (after s t).locals))

-- a loop of a test and a body
abbrev pub LoopsSafe : Program → Fixed → (Run Value → Run Flow → Run Flow) → Type 0
LoopsSafe program fixed f = (this : Option ℕ) (ls : List JavaType) (result : JavaType) (loops : Bool) (test : Run Value) (body : Run Flow) → ((types : List JavaType) → Safe program fixed types this ls test (GivesAs program ls BooleanType))
    → ((types : List JavaType) → Safe program fixed types this ls body (Leads program.table result true ls ls)) → (types : List JavaType) → Safe program fixed types this ls (f test body) (Leads program.table result loops ls ls)

-- a block without broken nodes that traps leaves the locals as they were
abbrev pub BlocksClose : Program → Fixed → (Scope → Tree → Run Flow) → Type 0
BlocksClose program fixed f = (s : Scope) (p : Place) (ts : Tree) → IsScope program fixed s → is_statement s.role ≡ false → Coded program fixed (Statement false) s (trees.Block p ts) → (judged s (trees.Block p ts)).faults ≡ [] → (types : List JavaType)
    → Closes program fixed types (this_of s) (types_of s.locals) (f (plain s) (trees.Block p ts))

pub record PartsSafe (program : Program) (fixed : Fixed) (parts : Parts) : Type 0 where
  pub value : ValuesSafe program fixed parts.value
  pub exec : StatementsSafe program fixed parts.exec
  pub loops : LoopsSafe program fixed parts.rounds
  pub blocks : BlocksClose program fixed parts.exec
