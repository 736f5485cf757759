-- Programs without a broken node.
use Rattle.std.proofs.Common.{ap}
use Rattle.kr_classes_table.specs.Rules.{least}
use Rattle.kr_classes_table.proofs.Least.{is_least}
use Rattle.kr_types_meaning.specs.Typing.{type_fault, type_faults}
use Rattle.kr_types_meaning.specs.Laws.{WellTypedLaw}

pub well_typed_law : WellTypedLaw
unfolding type_fault
well_typed_law files = ((is_least (type_faults files)).none, λ e. ap least e)
