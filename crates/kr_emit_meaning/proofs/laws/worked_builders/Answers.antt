use Rattle.std.proofs.Common.{refl}
use Rattle.std.specs.Fmt.{digits}
use Rattle.kr_emit_meaning.specs.Builders.{builder_text}
use Rattle.kr_emit_meaning.proofs.laws.worked_builders.Goals as goal

pub returns-clause-nodes : goal.returns-clause-nodes
unfolding builder_text digits
returns-clause-nodes c = refl

pub returns-clause-kinds : goal.returns-clause-kinds
unfolding builder_text digits
returns-clause-kinds c = refl
