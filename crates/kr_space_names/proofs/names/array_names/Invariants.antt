use Rattle.std.proofs.Common.{◌≡◌, fold, drop}
use Rattle.std.specs.Prelude.{map}
use Rattle.kr_ast.specs.Arena.{root}
use Rattle.kr_classes_table.specs.Table.{headings_of}
use Rattle.kr_classes_names.specs.Types.{Extends}
use Rattle.kr_space_meaning.specs.Order.{lesser}
use Rattle.kr_space_meaning.specs.Faults.{arrays_unknown}
use Rattle.kr_space_names.proofs.names.array_names.Given as goal

abbrev pub invariant-loop-bound : goal.invariant-loop-bound
invariant-loop-bound l = record {
  noted : fold lesser l.initial.least (arrays_unknown (headings_of (map root l.trees)) l.bounds) ≡ fold lesser l.least (arrays_unknown (headings_of (map root l.trees)) (drop l.bound-index l.bounds));
  extends : Extends l.initial.types l.types;
}
