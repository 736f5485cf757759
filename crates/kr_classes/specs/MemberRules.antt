-- Between crates: the class rules on members, C4 to C8, one after another.
use Rattle.std.specs.Prelude.{◌≡◌, ℕ, List, [], ◌∷◌, map, Option, Some, None}
use Rattle.kr_classes_table.specs.Table.{Table}
use Rattle.kr_classes_table.specs.Rules.{Fault, C4, C5, C6, C7, C8, first_of}
use Rattle.kr_classes.specs.declared.member_rules.MemberRule.{MemberRule}
use Rattle.kr_classes.specs.declared.member_rules.MemberRule.TheVariants.{RepeatedMember, OtherParameters, ObjectMethod, OtherResult, TooMany}
use Rattle.kr_classes.specs.declared.refusal.Found.{Found}
use Rattle.kr_classes.specs.Faults.{ClassRule, first_of_rule}
use Rattle.kr_classes.specs.Refusals.{rule_number}

abbrev pub member_number : MemberRule → ℕ
member_number RepeatedMember = 4
member_number OtherParameters = 5
member_number ObjectMethod = 6
member_number OtherResult = 7
member_number TooMany = 8

abbrev pub rule_of : MemberRule → ClassRule
rule_of RepeatedMember = C4
rule_of OtherParameters = C5
rule_of ObjectMethod = C6
rule_of OtherResult = C7
rule_of TooMany = C8

-- the first fault of one of them
abbrev pub first_fault : Table → MemberRule → Option Fault
first_fault t rule = first_of_rule (rule_of rule) t

-- in their order
abbrev pub member_rules : List MemberRule
member_rules = RepeatedMember ∷ OtherParameters ∷ ObjectMethod ∷ OtherResult ∷ TooMany ∷ []

-- the first fault of the least of them that is broken
abbrev pub members_fault : Table → Option Fault
members_fault t = first_of (map (first_fault t) member_rules)

-- it is that fault, or there is none
abbrev pub IsMembersFault : Table → Option Found → Type 0
IsMembersFault t None = members_fault t ≡ None
IsMembersFault t (Some f) = members_fault t ≡ Some (record { place = f.place; rule = rule_number f.rule })
