use Rattle.kr_classes_table.specs.Rules.{C3}
use Rattle.kr_classes.specs.Faults.{IsFirstOf}
use Rattle.kr_classes.proofs.name_rules.first_own_ancestor.Given as goal

abbrev pub invariant-loop-class : goal.invariant-loop-class
invariant-loop-class l = IsFirstOf 3 C3 l.heads l.supers l.class l.first
