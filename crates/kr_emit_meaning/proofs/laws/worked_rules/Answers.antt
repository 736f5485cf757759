use Rattle.std.proofs.Common.{refl}
use Rattle.kr_emit_meaning.specs.Buildable.{build_fault}
use Rattle.kr_emit_meaning.proofs.laws.worked_rules.Goals as goal

pub returns : goal.returns
unfolding build_fault
returns c = record { plain = refl; negative = refl; twice = refl; positive = refl; variable = refl; constructed = refl; taken = refl; nested = refl }
