-- Between crates: the refusal of files that break a typing rule.
use Rattle.std.specs.Prelude.{◌≡◌, ℕ, List, map, take, flat_map, Some}
use Rattle.kr_base.specs.declared.refusal.RefusalAt.{RefusalAt}
use Rattle.kr_base.specs.declared.refusal.RefusalAt.TheVariants.{Broken, NoMemory}
use Rattle.kr_ast.specs.Arena.{Arena, root}
use Rattle.kr_ast.specs.Tree.{Tree}
use Rattle.kr_classes_table.specs.Rules.{Fault}
use Rattle.kr_types_meaning.specs.Typing.{judged, outside, type_fault}
use Rattle.kr_ast.specs.Files.{file_at}
use Rattle.kr_classes_members.specs.Shown.{table_in}
use Rattle.kr_types_judging.specs.Numbers.{rule_number}
use Rattle.kr_types_judging.specs.declared.rules.TypingRule.{TypingRule}

-- the place and the rule are those of the first broken node; memory may always run out
abbrev pub IsRefusal : List Arena → RefusalAt TypingRule → Type 0
IsRefusal files (Broken p r) = type_fault (map root files) ≡ Some (record { place = p; rule = rule_number r })
IsRefusal files (NoMemory _) = Unit {0}

-- the broken nodes of a tree that is one of these files
abbrev pub tree_faults : List Arena → Tree → List Fault
tree_faults files t = (judged (outside (table_in files)) t).faults

-- those of a file, and those of the first files
abbrev pub root_faults : List Arena → ℕ → List Fault
root_faults files f = tree_faults files (root (file_at files f))

abbrev pub faults_in : List Arena → ℕ → List Fault
faults_in files n = flat_map (tree_faults files) (take n (map root files))
