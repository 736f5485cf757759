use Rattle.std.proofs.Common.{◌≡◌, fold, drop}
use Rattle.kr_classes_names.specs.Types.{Extends}
use Rattle.kr_space_meaning.specs.Order.{lesser}
use Rattle.kr_space_meaning.specs.Faults.{no_fields}
use Rattle.kr_space_rules.specs.Classes.{AreTyped, table_of}
use Rattle.kr_space_rules.proofs.slots.note_fields.Given as goal

abbrev pub invariant-loop-domain : goal.invariant-loop-domain
invariant-loop-domain l = record {
  noted : fold lesser l.initial.least (no_fields (table_of l.classes) l.domains) ≡ fold lesser l.least (no_fields (table_of l.classes) (drop l.domain-index l.domains));
  typed : AreTyped l.classes l.types;
  extends : Extends l.initial.types l.types;
}
