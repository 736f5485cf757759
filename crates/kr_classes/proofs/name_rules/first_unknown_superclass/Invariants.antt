use Rattle.kr_classes_table.specs.Rules.{C2}
use Rattle.kr_classes.specs.Faults.{IsFirstIn}
use Rattle.kr_classes_members.specs.Shown.{table_in}
use Rattle.kr_classes.proofs.name_rules.first_unknown_superclass.Given as goal

abbrev pub invariant-loop-class : goal.invariant-loop-class
invariant-loop-class l = IsFirstIn 2 C2 (table_in l.trees) l.class l.first
