use Rattle.std.proofs.Common.{sym, ap, ◌∙◌, arith}
use Rattle.std.specs.Prelude.{option_and_then}
use Rattle.kr_base.specs.declared.place.Place.{Place}
use Rattle.kr_classes_table.specs.Table.{Field}
use Rattle.kr_classes_table.specs.Constants.{constant_in, value_at, values_of}
use Rattle.kr_code_members.specs.Nodes.{table}
use Rattle.kr_types_resolving.proofs.Chosen.{field_there}
use Rattle.kr_types_resolving.proofs.Rostered.{field_is}
use Rattle.kr_code_lowering.proofs.named.constant_value.Goals as goal

pub index-field-requires : goal.index-field-requires
index-field-requires c = let p = c.args.program.now in omega (arith, field_there p.trees.items p.roster c.requires.program.roster c.args.number c.requires.number, p.roster.fields.ok.0)

pub returns : goal.returns
returns c =
    let p = c.args.program.now in
    let known = values_of (table p) in
    let place = ap (λ (f : Field). f.place) (field_is p.trees.items p.roster c.requires.program.roster c.args.number c.index-field.result.now c.requires.number c.index-field.ensures) in
    c.value_of.ensures p.trees.items known c.requires.program.table.table.values ∙ sym (ap (λ (q : Place). option_and_then constant_in (value_at known q)) place)
