use Rattle.std.proofs.Common.{◌≡◌, ap, ◌∙◌, false, ℕ, ◌+◌, ◌<◌, List, [], length, get_or, arith}
use Rattle.std.specs.Prelude.{flat_map}
use Rattle.std.proofs.lemmas.List.{take_all}
use Rattle.kr_classes_table.specs.Table.{Field, own_fields, is_instance}
use Rattle.kr_classes_members.proofs.Classes.{flat_flat}
use Rattle.kr_code_members.specs.Nodes.{table, IsFieldNode}
use Rattle.kr_code_members.proofs.Zipped.{zip_at, zip_length, zip_step}
use Rattle.kr_code.specs.Resolved.{has_initial}
use Rattle.kr_classes_members.specs.Rosters.{field_numbered, no_field}
use Rattle.kr_code_bodies.specs.Made.{IsInitial}
use Rattle.kr_code_bodies.proofs.Assembled.{first_next, first_within}
use Rattle.kr_code_bodies.proofs.Initial.{own_number}
use Rattle.kr_code_bodies.proofs.fields.class_initialisers.Goals as goal

pub initialiser_at-requires-clause-there : goal.initialiser_at-requires-clause-there
initialiser_at-requires-clause-there c =
    let p = c.args.program.now in
    (zip_at (IsFieldNode p) (own_fields (table p) c.args.class) c.args.nodes.now c.loop-node.node-index (no_field (table p)) (record { file = 0; is_static = false; initial = 0 }) c.requires.nodes (omega arith)).there

pub overflow_add-field : goal.overflow_add-field
overflow_add-field c =
    let p = c.args.program.now in
    omega (arith, zip_length (IsFieldNode p) (own_fields (table p) c.args.class) c.args.nodes.now c.requires.nodes, first_next (table p) c.args.class, first_within (table p) (c.args.class + 1))

pub loop-node-preserved : goal.loop-node-preserved
loop-node-preserved c =
    let p = c.args.program.now in
    let own = own_fields (table p) c.args.class in
    let i = c.loop-node.node-index in
    let none = no_field (table p) in
    let count = zip_length (IsFieldNode p) own c.args.nodes.now c.requires.nodes in
    let l : i < length own = omega (arith, count) in
    let inv = c.loop-node.invariant in
    let numbered : field_numbered (table p) c.loop-node.field ≡ get_or own i none =
    ap (field_numbered (table p)) (inv.number ∙ ap (λ (n : ℕ). n + i) c.requires.first) ∙ own_number (table p) c.args.class i none l in
    record {
      number = omega arith;
      found = zip_step (IsInitial p) (λ f. flat_map has_initial (is_instance f)) [] c.loop-node.found.items _ c.initialiser_at.result own i none l c.in_ok-add_found.ensures inv.found
          (c.initialiser_at.ensures (get_or own i none) (zip_at (IsFieldNode p) own c.args.nodes.now i none (record { file = 0; is_static = false; initial = 0 }) c.requires.nodes (omega arith)) numbered);
    }

pub returns : goal.returns
returns c =
    let p = c.args.program.now in
    let own = own_fields (table p) c.args.class in
    let count = zip_length (IsFieldNode p) own c.args.nodes.now c.requires.nodes in
    rw (ap (λ (xs : List Field). flat_map (λ f. flat_map has_initial (is_instance f)) xs) (take_all c.loop-node.node-index own (omega (arith, count))) ∙ flat_flat has_initial is_instance own) at c.loop-node.invariant.found
