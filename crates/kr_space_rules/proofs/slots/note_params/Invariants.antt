use Rattle.std.proofs.Common.{◌≡◌, fold, drop}
use Rattle.kr_space_meaning.specs.Order.{lesser}
use Rattle.kr_space_meaning.specs.Faults.{no_params}
use Rattle.kr_space_rules.specs.Classes.{table_of}
use Rattle.kr_space_rules.proofs.slots.note_params.Given as goal

abbrev pub invariant-loop-domain : goal.invariant-loop-domain
invariant-loop-domain l = record {
  noted : fold lesser l.initial.least (no_params (table_of l.classes) l.root l.domains) ≡ fold lesser l.least (no_params (table_of l.classes) l.root (drop l.domain-index l.domains));
}
