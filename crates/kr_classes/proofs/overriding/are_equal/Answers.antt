use Rattle.std.proofs.Common.{sym}
use Rattle.kr_classes_names.specs.Types.{type_at}
use Rattle.kr_classes.proofs.SameTypes.{other_length}
use Rattle.kr_classes.proofs.overriding.are_equal.Goals as goal

pub returns-then-first-second : goal.returns-then-first-second
returns-then-first-second c = sym (other_length (type_at c.args.types.now) c.args.first.now c.args.second.now c.if-first-second.true)
