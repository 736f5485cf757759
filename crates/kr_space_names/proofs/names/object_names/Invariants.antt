use Rattle.std.proofs.Common.{◌≡◌, fold, drop}
use Rattle.std.specs.Prelude.{map}
use Rattle.kr_ast.specs.Arena.{root}
use Rattle.kr_classes_table.specs.Table.{headings_of}
use Rattle.kr_space_meaning.specs.Order.{lesser}
use Rattle.kr_space_meaning.specs.Faults.{objects_unknown}
use Rattle.kr_space_names.proofs.names.object_names.Given as goal

abbrev pub invariant-loop-count : goal.invariant-loop-count
invariant-loop-count l =
    fold lesser l.initial.least (objects_unknown (headings_of (map root l.trees)) l.counts)
    ≡ fold lesser l.least (objects_unknown (headings_of (map root l.trees)) (drop l.count-index l.counts))
