use Rattle.kr_classes.specs.Faults.{IsFirstIn}
use Rattle.kr_classes_members.specs.Shown.{table_in}
use Rattle.kr_classes.specs.MemberRules.{member_number, rule_of}
use Rattle.kr_classes.proofs.member_rules.first_place.Given as goal

abbrev pub invariant-loop-class : goal.invariant-loop-class
invariant-loop-class l = IsFirstIn (member_number l.rule) (rule_of l.rule) (table_in l.trees) l.class l.first
