use Rattle.kr_laws_never_stuck.proofs.Programs.{never_stuck}
use Rattle.kr_laws_never_stuck.proofs.well_typed.runs_law.Goals as goal

pub returns : goal.returns
returns c = never_stuck
