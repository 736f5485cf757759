use Rattle.std.proofs.Common.{◌<◌, ◌+◌, ◌-◌, ap, ◌∙◌, length, nat_lt, arith}
use Rattle.std.specs.Prelude.{flat_map}
use Rattle.kr_classes_table.specs.Table.{ancestors, fields_of, is_instance, own_fields}
use Rattle.kr_classes_table.specs.Predefined.{PREDEFINED}
use Rattle.kr_classes_table.specs.Rules.{break_if, least, past}
use Rattle.kr_classes_members.proofs.Upwards.{kept_count}
use Rattle.kr_classes.specs.Faults.{class_in}
use Rattle.kr_classes_members.specs.Shown.{table_in}
use Rattle.kr_classes.proofs.Counts.{inherited_length, room_left}
use Rattle.kr_classes.proofs.Each.{fields_there, of_both}
use Rattle.kr_classes.proofs.field_rules.too_many.Goals as goal

pub returns : goal.returns
returns c = λ files h.
    let t = table_in files in
    let class = c.args.class in
    let d = class_in t class in
    let l : class < length t.classes = omega (arith, c.requires, kept_count files c.args.members.now h) in
    let own = fields_there t class l in
    let above = inherited_length t class d.fields own in
    let room = room_left c.inherited_count-room.result (length (flat_map is_instance (flat_map (own_fields t) (ancestors t class)))) (length (fields_of t class) - length (flat_map is_instance d.fields)) (c.inherited_count-room.ensures.value files h) above in
    of_both 8 (break_if (nat_lt (63 + PREDEFINED) class) 8 d.place) (past (32 - (length (fields_of t class) - length (flat_map is_instance d.fields))) (flat_map is_instance d.fields)) c.extra_class.result c.extra_field.result c.earlier.result
    (c.extra_class.ensures files h)
    (c.extra_field.ensures files h ∙ ap (λ fs. least (past (32 - c.inherited_count-room.result) (flat_map is_instance fs))) own ∙ ap (λ k. least (past k (flat_map is_instance d.fields))) room)
    c.earlier.ensures.fault
