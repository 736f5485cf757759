use Rattle.std.proofs.Common.{◌≡◌, ◌+◌, take}
use Rattle.std.specs.Prelude.{flat_map}
use Rattle.std.specs.List.{AllZip}
use Rattle.kr_classes_table.specs.Table.{own_fields, is_instance}
use Rattle.kr_code_members.specs.Nodes.{table}
use Rattle.kr_code.specs.Resolved.{has_initial}
use Rattle.kr_code_bodies.specs.Made.{IsInitial}
use Rattle.kr_code_bodies.proofs.fields.class_initialisers.Given as goal

abbrev pub invariant-loop-node : goal.invariant-loop-node
invariant-loop-node l = record {
  number : l.field ≡ l.first_field + l.node-index;
  found : AllZip (IsInitial l.program) (flat_map (λ f. flat_map has_initial (is_instance f)) (take l.node-index (own_fields (table l.program) l.class))) l.found.items;
}
