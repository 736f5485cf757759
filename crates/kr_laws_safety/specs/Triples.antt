-- Between crates: runs on values, locals and heaps of known types: they don't get stuck, objects keep their types, new ones get
-- types after those that were there, and the result is of a type.
use Rattle.std.specs.Prelude.{◌≡◌, ℕ, zero, suc, ◌<◌, ◌≤◌, if◌then◌else◌, List, [], ◌∷◌, ◌++◌, length, map, Option, Some, None, Result, Ok, Err}
use Rattle.kr_base.specs.declared.place.Place.{Place}
use Rattle.kr_value.specs.declared.value.Value.{Value}
use Rattle.kr_value.specs.declared.value.Value.TheVariants.{Ref as Reference}
use Rattle.kr_classes_table.specs.Types.{JavaType, ClassType}
use Rattle.kr_classes_table.specs.Table.{Table}
use Rattle.kr_classes_table.specs.Constants.{is_at_place}
use Rattle.kr_mean.specs.declared.kind.Kind.{Kind}
use Rattle.kr_mean.specs.declared.kind.Stop.{Stop}
use Rattle.kr_mean.specs.declared.kind.Stop.TheVariants.{Trapped, OutOfFuel, Stuck}
use Rattle.kr_mean.specs.Program.{Program}
use Rattle.kr_mean.specs.Steps.{Local, Old, State, Run}
use Rattle.kr_mean.specs.Thrown.{class_of_kind}
use Rattle.kr_laws_safety.specs.Fits.{IsOf, AreOf, IsHeapOf, type_at}

-- parts of the state that no run changes: how many objects are candidates, and the types of the result of the method under test
-- and of the values of `\old`s by their places, where it has run
pub record Fixed : Type 0 where
  pub candidates : ℕ
  pub result : Option JavaType
  pub olds : List (Place × JavaType)

-- `this`, which static code doesn't have
abbrev pub IsThis : Table → List JavaType → Option ℕ → Value → Type 0
IsThis table types None v = Unit {0}
IsThis table types (Some c) v = (o : ℕ) × (v ≡ Reference o) × IsOf table types (ClassType c) (Reference o)

abbrev pub values_in : List Local → List Value
values_in ls = map (λ l. l.value) ls

abbrev pub IsResult : Table → List JavaType → Option JavaType → Option Value → Type 0
IsResult table types None r = Unit {0}
IsResult table types (Some t) (Some v) = IsOf table types t v
IsResult table types (Some t) None = ⊥

abbrev pub AreOlds : Table → List JavaType → List (Place × JavaType) → List Old → Type 0
AreOlds table types [] os = Unit {0}
AreOlds table types (p ∷ ps) (o ∷ os) = (o.place ≡ p.0) × IsOf table types p.1 o.value × AreOlds table types ps os
AreOlds table types (p ∷ ps) [] = ⊥

-- a state whose objects and locals are of these types, whose `this` is an object of this class, and in which nothing is thrown
pub record IsStateOf (program : Program) (fixed : Fixed) (types : List JavaType) (this : Option ℕ) (locals : List JavaType) (s : State) : Type 0 where
  pub heap : IsHeapOf program types s.heap
  pub this_is : IsThis program.table types this s.this_value
  pub locals_are : AreOf program.table types locals (values_in s.locals)
  pub result : IsResult program.table types fixed.result s.result
  pub olds : AreOlds program.table types fixed.olds s.olds
  pub thrown : s.thrown ≡ None
  pub candidates : s.candidates ≡ fixed.candidates
  pub enough : fixed.candidates ≤ length s.heap

-- more objects
abbrev pub Extends : List JavaType → List JavaType → Type 0
Extends types more = (new : List JavaType) × (more ≡ types ++ new)

-- what is thrown, where it is an object that exists: an object of the class of the kind
abbrev pub IsThrownAs : Program → List JavaType → Kind → Option Value → Type 0
IsThrownAs program types k None = Unit {0}
IsThrownAs program types k (Some v) = (o : ℕ) × (c : ℕ) × (v ≡ Reference o) × (o < length types) × (type_at types o ≡ ClassType c) × (class_of_kind program k ≡ Some c)

-- the end of a run that traps
abbrev pub FineTrap : Program → Fixed → List JavaType → Option ℕ → List JavaType → Kind → State → Type 0
FineTrap program fixed types this before kind s = (more : List JavaType) × (locals : List JavaType) × Extends types more × IsStateOf program fixed more this locals (record s { thrown = None }) × Extends before locals × IsThrownAs program more kind s.thrown

-- The end of a run: its result is as stated, of the types of the objects and of the locals after it. Where it traps, too,
-- objects keep their types, `this` is unchanged, and the locals that were there keep theirs: code may go on after a trap.
-- Running out of fuel is fine.
abbrev pub Fine : Program → Fixed → List JavaType → Option ℕ → List JavaType → {A : Type 0} → (List JavaType → List JavaType → A → Type 0) → Result A Stop → State → Type 0
Fine program fixed types this before Q (Ok a) s = (more : List JavaType) × (locals : List JavaType) × Extends types more × IsStateOf program fixed more this locals s × Q more locals a × Extends before locals
Fine program fixed types this before Q (Err (Trapped kind)) s = FineTrap program fixed types this before kind s
Fine program fixed types this before Q (Err OutOfFuel) s = Unit {0}
Fine program fixed types this before Q (Err Stuck) s = ⊥

pub record Safe (program : Program) (fixed : Fixed) (types : List JavaType) (this : Option ℕ) (locals : List JavaType) {A : Type 0} (m : Run A) (Q : List JavaType → List JavaType → A → Type 0) : Type 0 where
  pub by : (s : State) → IsStateOf program fixed types this locals s → Fine program fixed types this locals Q (m s).said (m s).after

-- where a run traps, the locals are as they were
pub record Closes (program : Program) (fixed : Fixed) (types : List JavaType) (this : Option ℕ) (locals : List JavaType) {A : Type 0} (m : Run A) : Type 0 where
  pub by : (s : State) → IsStateOf program fixed types this locals s → (k : Kind) → (m s).said ≡ Err (Trapped k)
      → (more : List JavaType) × Extends types more × IsStateOf program fixed more this locals (record (m s).after { thrown = None }) × IsThrownAs program more k (m s).after.thrown

-- the locals are as they were, and what is given is of a type
abbrev pub Gives : Program → List JavaType → JavaType → List JavaType → List JavaType → Value → Type 0
Gives program locals t more after v = (after ≡ locals) × IsOf program.table more t v

-- the locals are as they were
abbrev pub Keeps : List JavaType → {A : Type 0} → List JavaType → List JavaType → A → Type 0
Keeps locals more after a = after ≡ locals

-- the type of a local by its number
abbrev pub type_of_local : List JavaType → ℕ → Option JavaType
type_of_local [] k = None
type_of_local (t ∷ ts) zero = Some t
type_of_local (t ∷ ts) (suc k) = type_of_local ts k

-- the type of the `\old` at a place
abbrev pub type_of_old : List (Place × JavaType) → Place → Option JavaType
type_of_old [] p = None
type_of_old (x ∷ xs) p = if is_at_place x.0 p then Some x.1 else type_of_old xs p
