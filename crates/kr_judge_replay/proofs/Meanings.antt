-- A claim that every meaning of code shows holds.
use Rattle.kr_mean.specs.Program.{Program}
use Rattle.kr_code.specs.Doing.{Doing, IsMeaning}
use Rattle.kr_code.specs.Resolved.{Numbering, IsCodeOf}
use Rattle.kr_code.specs.declared.code.Code.{Code}
use Rattle.kr_code_laws.specs.Laws.{doing_of}
use Rattle.kr_code_laws.proofs.Resolved.{is_run_by}

-- the code of a program has one
pub in_one : (X : Type 0) (code : Code) → ((d : Doing) → IsMeaning code d → X) → (program : Program) (n : Numbering) → IsCodeOf program code n → X
in_one X code h program n c = h (doing_of program n) (is_run_by program code n c).meaning
