-- Between crates: statements that cost a unit before anything else.
use Rattle.std.specs.Prelude.{◌≡◌}
use Rattle.kr_mean.specs.Steps.{State, bind, tick}
use Rattle.kr_code.specs.declared.code.Code.{Code}
use Rattle.kr_code.specs.declared.statement.Statement.{Statement}
use Rattle.kr_code.specs.Doing.{Doing, statement_done, flow_of}

abbrev pub IsTicked : Statement → Type 0
IsTicked t = (code : Code) (d : Doing) (s : State) → statement_done code d t s ≡ bind tick (λ u. flow_of code d t) s
