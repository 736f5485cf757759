use Rattle.std.proofs.Common.{sym, ap, ◌∙◌}
use Rattle.std.specs.Prelude.{Option, option_map}
use Rattle.kr_classes_table.specs.Table.{Field}
use Rattle.kr_classes_table.specs.Constants.{known_value, values_of}
use Rattle.kr_classes_members.specs.Rosters.{field_numbered}
use Rattle.kr_code_members.specs.Nodes.{table}
use Rattle.kr_code_lowering.proofs.Read.{constant_found}
use Rattle.kr_code_lowering.proofs.access.class_constant.Goals as goal

pub constant_value-requires-clause-number : goal.constant_value-requires-clause-number
constant_value-requires-clause-number c =
    let t = table c.args.program.now in
    rw c.in-Some.is at (c.constant.ensures.within t c.meaning_at.ensures.within)

pub returns-in-None : goal.returns-in-None
returns-in-None c = λ class before.
    let p = c.args.program.now in
    let t = table p in
    ap (λ (o : Option Field). known_value (values_of t) o)
    (sym (ap (option_map (field_numbered t)) c.in-None.is) ∙ (c.constant.ensures.shown t ∙ constant_found p c.args.site c.args._entry c.requires.here c.meaning_at.result c.meaning_at.ensures c.args._object c.args._name c.requires.node class before))

pub returns-in-Some : goal.returns-in-Some
returns-in-Some c = λ class before.
    let p = c.args.program.now in
    let t = table p in
    c.constant_value.ensures
    ∙ ap (λ (o : Option Field). known_value (values_of t) o)
    (sym (ap (option_map (field_numbered t)) c.in-Some.is) ∙ (c.constant.ensures.shown t ∙ constant_found p c.args.site c.args._entry c.requires.here c.meaning_at.result c.meaning_at.ensures c.args._object c.args._name c.requires.node class before))
