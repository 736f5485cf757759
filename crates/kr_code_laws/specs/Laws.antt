-- Between crates: the meaning of nodes of code, by their trees.
use Rattle.std.specs.Prelude.{◌≡◌, ℕ, List, Some}
use Rattle.kr_value.specs.declared.value.Value.{Value}
use Rattle.kr_classes_table.specs.Table.{Method}
use Rattle.kr_mean.specs.Program.{Program}
use Rattle.kr_mean.specs.Steps.{State}
use Rattle.kr_mean.specs.Meaning.{value, execute, loop, unbounded, run_method}
use Rattle.kr_code.specs.declared.code.Code.{Code}
use Rattle.kr_code.specs.Tables.{method_at}
use Rattle.kr_code.specs.Doing as doings
use Rattle.kr_code.specs.Doing.{Doing, IsMeaning}
use Rattle.kr_code.specs.Resolved.{Numbering, IsMethod, IsCodeOf}

-- a node does what its tree does, in its scope
abbrev pub doing_of : Program → Numbering → Doing
doing_of program n = record { value = λ i. value program (n.origin i).scope (n.origin i).tree; exec = λ i. execute program (n.origin i).scope (n.origin i).tree; loop = loop }

-- The meaning of a program is a meaning of its code, and methods run as their code does.
pub record IsRunBy (program : Program) (code : Code) (n : Numbering) : Type 0 where
  pub meaning : IsMeaning code (doing_of program n)
  pub methods : (m : Method) (k : ℕ) → IsMethod code n m k → (receiver : Value) (arguments : List Value) (s : State) → doings.run_method code (doing_of program n) receiver arguments (method_at code k) s ≡ run_method program (unbounded program) receiver arguments (Some m) s

abbrev pub ResolvedLaw : Type 0
ResolvedLaw = (program : Program) (code : Code) (n : Numbering) → IsCodeOf program code n → IsRunBy program code n
