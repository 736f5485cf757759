use Rattle.std.proofs.Common.{◌≡◌, ◌∙◌, Bool, List, [], ap, sym, true, false}
use Rattle.std.specs.Prelude.{flat_map, if◌then◌else◌}
use Rattle.kr_classes.proofs.Each.{of_both}
use Rattle.kr_classes_members.specs.Shown.{table_in}
use Rattle.kr_classes_table.specs.Rules.{Fault, least}
use Rattle.kr_classes_table.specs.Table.{own_fields}
use Rattle.kr_emit_meaning.specs.Buildable.{constructor_fault, constructors_of, construction_faults, field_fault, is_built}
use Rattle.kr_emit.proofs.construction.class_place.Goals as goal

pub returns : goal.returns
returns c =
    let files = c.args.trees.now in
    let t = table_in files in
    let class = c.args.class in
    let built : is_built t class c.args.layout.now.domains ≡ true = sym (c.is_built.ensures files c.requires.members) ∙ c.if-not-is_built.false in
    of_both 1 (flat_map constructor_fault (constructors_of t class)) (flat_map field_fault (own_fields t class)) c.constructor_place-constructor.result c.field_place-field.result c.earlier.result
    (c.constructor_place-constructor.ensures files c.requires.members) c.field_place-field.ensures c.earlier.ensures.fault
    ∙ ap (λ (b : Bool). least (let faults : List Fault = if b then construction_faults t class else [] in faults)) (sym built)

pub returns-then-not-is_built : goal.returns-then-not-is_built
returns-then-not-is_built c =
    let files = c.args.trees.now in
    let t = table_in files in
    let class = c.args.class in
    let none : is_built t class c.args.layout.now.domains ≡ false = sym (c.is_built.ensures files c.requires.members) ∙ c.if-not-is_built.true in
    ap (λ (b : Bool). least (let faults : List Fault = if b then construction_faults t class else [] in faults)) (sym none)
