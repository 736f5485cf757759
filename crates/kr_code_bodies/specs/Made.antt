-- Between crates: the code of methods and classes, in whatever code it becomes.
use Rattle.std.specs.Prelude.{◌≡◌, ℕ, List, [], ◌++◌, take, drop, map, All, IsSome, Option, Some}
use Rattle.kr_value.specs.declared.value.Value.{Value}
use Rattle.kr_classes_table.specs.Table as tables
use Rattle.kr_classes_names.specs.ListedTypes.{IsGrown}
use Rattle.kr_types.specs.declared.program.Program.{Program}
use Rattle.kr_code_members.specs.Nodes.{run_program, table}
use Rattle.kr_mean.specs.Program as meaning
use Rattle.kr_mean.specs.Program.{class_scope}
use Rattle.kr_code.specs.declared.code.Code.{Code}
use Rattle.kr_code.specs.declared.code.Node.{Node}
use Rattle.kr_code.specs.declared.code.Node.TheVariants as nodes
use Rattle.kr_code.specs.declared.code.MethodCode.{MethodCode}
use Rattle.kr_code.specs.declared.code.ClassCode.{ClassCode}
use Rattle.kr_code.specs.declared.code.Constructor.{Constructor}
use Rattle.kr_code.specs.declared.code.Initialiser.{Initialiser}
use Rattle.kr_code.specs.declared.expression.Nodes.{Nodes}
use Rattle.kr_code.specs.Tables.{class_at, listed, method_at}
use Rattle.kr_code.specs.Resolved.{Numbering, IsClassCode, IsMaybeConstructor, IsMethodCode, IsPart}
use Rattle.kr_classes_members.specs.Rosters.{field_numbered, method_numbered}
use Rattle.kr_code_lowering.specs.Origins.{Final, numbering_of}
use Rattle.kr_code_lowering.specs.Sites.{Becomes}

-- ---- while it is made

-- these are there, also when there are more
abbrev pub AreThere : {A : Type 0} → List A → Nodes → List A → Type 0
AreThere xs ns items = (more : List _) → IsGrown xs more → take ns.count (drop ns.first more) ≡ items

-- the initial value of a field by the numbers of both
pub record IsInitial (p : Program) (f : tables.Field) (x : Initialiser) : Type 0 where
  pub value : (final : Final) → IsPart (numbering_of p final) (class_scope (run_program p []) f.class) f.initial x.value
  pub field : field_numbered (table p) x.field ≡ f

-- the code begins with these nodes and values
pub record Begins (made : List Node) (kept : List Value) (code : Code) : Type 0 where
  pub nodes : IsGrown made code.nodes.items
  pub values : IsGrown kept code.values.items

abbrev pub IsMethodMade : Program → List ℕ → List (List ℕ) → List ℕ → tables.Method → MethodCode → Type 0
IsMethodMade p arrays known linked m made = (final : Final) (code : Code) → Becomes p known linked final code → IsMethodCode (run_program p arrays) code (numbering_of p final) m made

-- by its number
abbrev pub IsMethodNumbered : Program → List ℕ → List (List ℕ) → List ℕ → ℕ → MethodCode → Type 0
IsMethodNumbered p arrays known linked k made = IsMethodMade p arrays known linked (method_numbered (table p) k) made

-- the constructor of a class, if it has one
abbrev pub IsConstructorMade : Program → List ℕ → List (List ℕ) → List ℕ → ℕ → Option tables.Constructor → Option Constructor → Type 0
IsConstructorMade p arrays known linked c k made = (final : Final) (code : Code) → Becomes p known linked final code → IsMaybeConstructor (run_program p arrays) code (numbering_of p final) c k made

-- the class of a number; those above it are there
pub record IsClassMade (p : Program) (arrays : List ℕ) (known : List (List ℕ)) (linked : List ℕ) (made : List Node) (values : List Value) (c : ℕ) (k : ClassCode) : Type 0 where
  pub class : (final : Final) (code : Code) → Becomes p known linked final code → Begins made values code → IsClassCode (run_program p arrays) code (numbering_of p final) c k
  pub line : (final : Final) (code : Code) → Becomes p known linked final code → All (λ d. IsSome (class_at code d)) (listed code k.line)

-- ---- in the end

-- the nodes after those before them are initial values
pub record AddsInitialisers (old new : List Node) : Type 0 where
  pub added : List Initialiser
  pub items : new ≡ old ++ map nodes.Initialiser added

-- the methods and the classes are those of the program by their numbers
pub record AreBodies (program : meaning.Program) (code : Code) (n : Numbering) : Type 0 where
  pub methods : (k : ℕ) (m : MethodCode) → method_at code k ≡ Some m → IsMethodCode program code n (n.method k) m
  pub classes : (c : ℕ) (k : ClassCode) → class_at code c ≡ Some k → IsClassCode program code n c k
  pub lines : (c : ℕ) (k : ClassCode) → class_at code c ≡ Some k → All (λ d. IsSome (class_at code d)) (listed code k.line)
