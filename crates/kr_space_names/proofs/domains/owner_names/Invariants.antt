use Rattle.std.proofs.Common.{◌≡◌, fold, drop}
use Rattle.std.specs.Prelude.{map}
use Rattle.kr_ast.specs.Arena.{root}
use Rattle.kr_classes_table.specs.Table.{headings_of}
use Rattle.kr_classes_names.specs.Types.{Extends}
use Rattle.kr_space_meaning.specs.Order.{lesser}
use Rattle.kr_space_meaning.specs.Faults.{owners_unknown}
use Rattle.kr_space_names.proofs.domains.owner_names.Given as goal

abbrev pub invariant-loop-domain : goal.invariant-loop-domain
invariant-loop-domain l = record {
  noted : fold lesser l.initial.least (owners_unknown (headings_of (map root l.trees)) l.domains) ≡ fold lesser l.least (owners_unknown (headings_of (map root l.trees)) (drop l.domain-index l.domains));
  extends : Extends l.initial.types l.types;
}
