use Rattle.std.proofs.Common.{sym, length, arith}
use Rattle.kr_classes_members.specs.Shown.{table_in}
use Rattle.kr_classes.proofs.Fronts.{past_superclass}
use Rattle.kr_classes.proofs.hierarchy.Hierarchy.superclass.Goals as goal

pub returns-else-class-len : goal.returns-else-class-len
returns-else-class-len c = λ files h. past_superclass (table_in files) c.args.class (length c.args.self.now.supers.items) (sym h.supers.count) (omega arith)
