use Rattle.kr_classes.specs.Faults.{IsFirstIn, repeats}
use Rattle.kr_classes_members.specs.Shown.{table_in}
use Rattle.kr_classes.proofs.name_rules.first_repeated_name.Given as goal

abbrev pub invariant-loop-class : goal.invariant-loop-class
invariant-loop-class l = IsFirstIn 1 repeats (table_in l.trees) l.class l.first
