-- To be believed: the refusal of a source that breaks a class rule.
use Rattle.std.specs.Prelude.{◌≡◌, ℕ, List, [], ◌∷◌, Option, Some, None, codes}
use Rattle.kr_base.specs.declared.refusal.RefusalAt.{RefusalAt}
use Rattle.kr_base.specs.declared.refusal.RefusalAt.TheVariants.{Broken, NoMemory}
use Rattle.kr_ast.specs.Arena.{Arena}
use Rattle.kr_classes_table.specs.Table.{Table}
use Rattle.kr_classes_table.specs.Rules.{Fault, C1, C2, C3, class_fault, first_of, least}
use Rattle.kr_classes_names.specs.Shown.{AreHeads}
use Rattle.kr_classes.specs.declared.refusal.ClassRule.{ClassRule as Rule}
use Rattle.kr_classes.specs.declared.refusal.ClassRule.TheVariants.{RepeatedClass, UnknownSuperclass, OwnAncestor, RepeatedMember, OtherParameters, ObjectMethod, OtherResult, TooMany}
use Rattle.kr_classes.specs.declared.hierarchy.Hierarchy.{Hierarchy}
use Rattle.kr_classes.specs.Faults.{AreBelow, AreSuperclasses, first_of_rule}
use Rattle.kr_classes_members.specs.Shown.{table_in}

abbrev pub rule_code : Rule → List ℕ
rule_code RepeatedClass = codes "C1"
rule_code UnknownSuperclass = codes "C2"
rule_code OwnAncestor = codes "C3"
rule_code RepeatedMember = codes "C4"
rule_code OtherParameters = codes "C5"
rule_code ObjectMethod = codes "C6"
rule_code OtherResult = codes "C7"
rule_code TooMany = codes "C8"

abbrev pub rule_number : Rule → ℕ
rule_number RepeatedClass = 1
rule_number UnknownSuperclass = 2
rule_number OwnAncestor = 3
rule_number RepeatedMember = 4
rule_number OtherParameters = 5
rule_number ObjectMethod = 6
rule_number OtherResult = 7
rule_number TooMany = 8

-- the first fault of the rules on names and on what classes extend
abbrev pub names_fault : Table → Option Fault
names_fault t = first_of (least (C1 t) ∷ first_of_rule C2 t ∷ first_of_rule C3 t ∷ [])

-- the reported rule is the first broken one; memory may always run out
abbrev pub IsRefusal : List Arena → RefusalAt Rule → Type 0
IsRefusal files (Broken p r) = class_fault (table_in files) ≡ Some (record { place = p; rule = rule_number r })
IsRefusal files (NoMemory _) = Unit {0}

-- heads and superclasses of these files, which break none of these rules
pub record IsHierarchy (files : List Arena) (h : Hierarchy) : Type 0 where
  pub heads : AreHeads files h.heads
  pub supers : AreSuperclasses h.supers.items (table_in files)
  pub below : AreBelow h.supers.items
  pub unbroken : names_fault (table_in files) ≡ None
