use Rattle.kr_parse_laws.proofs.Finish.{productivity}
use Rattle.kr_parse_laws.proofs.Shape.{preservation}
use Rattle.kr_parse_laws.proofs.Falls.{termination}
use Rattle.kr_parse_laws.proofs.laws.productivity.Goals as goal

pub returns-clause-taken : goal.returns-clause-taken
returns-clause-taken c = productivity

pub returns-clause-kept : goal.returns-clause-kept
returns-clause-kept c = preservation

pub returns-clause-falls : goal.returns-clause-falls
returns-clause-falls c = termination
