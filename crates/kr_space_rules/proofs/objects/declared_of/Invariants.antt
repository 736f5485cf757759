use Rattle.std.proofs.Common.{map, take}
use Rattle.kr_ast.specs.Arena.{root}
use Rattle.kr_classes_table.specs.Table.{headings_of}
use Rattle.kr_space_meaning.specs.Bounds.{declared}
use Rattle.kr_space_rules.specs.ObjectDomains.{AreDeclared}
use Rattle.kr_space_rules.proofs.objects.declared_of.Given as goal

abbrev pub invariant-loop-at : goal.invariant-loop-at
invariant-loop-at l = AreDeclared l.all l.objects.items (declared (headings_of (map root l.trees)) (take l.at l.all))
