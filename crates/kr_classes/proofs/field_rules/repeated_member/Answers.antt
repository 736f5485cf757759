use Rattle.std.proofs.Common.{◌<◌, ap, ◌∙◌, true, drop, length, arith}
use Rattle.std.specs.Prelude.{flat_map}
use Rattle.kr_classes_table.specs.Table as table
use Rattle.kr_classes_table.specs.Rules.{break_if, least, repeated}
use Rattle.kr_classes_members.proofs.Upwards.{kept_count}
use Rattle.kr_classes.specs.Faults.{class_in, field_places, inherited_names}
use Rattle.kr_classes_members.specs.Shown.{table_in}
use Rattle.kr_classes.proofs.Each.{constructors_there, fields_there, of_both}
use Rattle.kr_classes.proofs.field_rules.repeated_member.Goals as goal

pub returns : goal.returns
returns c =
    let files = c.args.trees.now in
    let t = table_in files in
    let class = c.args.class in
    let h = c.requires.members in
    let d = class_in t class in
    let l : class < length t.classes = omega (arith, c.requires.class, kept_count files c.args.members.now h) in
    let g = λ (k : table.Constructor). break_if true 4 k.place in
    of_both 4 (repeated 4 (inherited_names t class) (field_places d.fields)) (flat_map g (drop 1 d.constructors)) c.repeated_field-field.result c.later_constructor-constructor.result c.earlier.result
    (c.repeated_field-field.ensures ∙ ap (λ fs. least (repeated 4 (inherited_names t class) (field_places fs))) (fields_there t class l))
    (c.later_constructor-constructor.ensures files h ∙ ap (λ ks. least (flat_map g (drop 1 ks))) (constructors_there t class l))
    c.earlier.ensures.fault
