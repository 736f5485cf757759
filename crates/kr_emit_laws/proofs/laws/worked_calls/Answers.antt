use Rattle.std.proofs.Common.{refl}
use Rattle.std.specs.Fmt.{digits}
use Rattle.kr_classes_table.specs.Table.{table_of}
use Rattle.kr_mean.specs.Meaning.{eval, value}
use Rattle.kr_mean.specs.Steps.{bind}
use Rattle.kr_types_meaning.specs.Typing.{judged}
use Rattle.kr_emit_laws.proofs.laws.worked_calls.Goals as goal

pub returns-clause-nodes : goal.returns-clause-nodes
returns-clause-nodes c = refl

pub returns-clause-kinds : goal.returns-clause-kinds
returns-clause-kinds c = refl

pub returns-clause-call : goal.returns-clause-call
unfolding value eval bind table_of digits judged
returns-clause-call c = record { root = refl; heap = refl }
