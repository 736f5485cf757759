use Rattle.std.proofs.Common.{◌≡◌, map, take}
use Rattle.std.specs.Prelude.{None}
use Rattle.kr_classes_table.specs.Rules.{first_of}
use Rattle.kr_classes_members.specs.Shown.{table_in}
use Rattle.kr_classes.specs.MemberRules.{first_fault, member_rules}
use Rattle.kr_classes.proofs.member_rules.first_broken_member.Given as goal

abbrev pub invariant-loop-rule : goal.invariant-loop-rule
invariant-loop-rule l = first_of (map (first_fault (table_in l.trees)) (take l.rule-index member_rules)) ≡ None
