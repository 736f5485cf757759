-- Between crates: expressions of a typed program are safe where their parts are.
use Rattle.kr_mean.specs.Program.{Program}
use Rattle.kr_mean.specs.Meaning.{Parts, value_of}
use Rattle.kr_laws_safety.specs.Triples.{Fixed}
use Rattle.kr_laws_safety.specs.Typed.{IsTypedProgram}
use Rattle.kr_laws_safety.specs.Claims.{ValuesSafe, PartsSafe}

abbrev pub ValuesLaw : Type 0
ValuesLaw = (program : Program) (fixed : Fixed) (parts : Parts) → IsTypedProgram program → PartsSafe program fixed parts → ValuesSafe program fixed (value_of program parts)
