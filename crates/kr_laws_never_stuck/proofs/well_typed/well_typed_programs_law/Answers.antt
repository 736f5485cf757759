use Rattle.kr_laws_never_stuck.proofs.Programs.{well_typed}
use Rattle.kr_laws_never_stuck.proofs.well_typed.well_typed_programs_law.Goals as goal

pub returns : goal.returns
returns c = well_typed
