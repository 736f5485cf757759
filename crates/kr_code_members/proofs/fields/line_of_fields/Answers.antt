use Rattle.kr_code_members.proofs.Declaring.{field_line}
use Rattle.kr_code_members.proofs.fields.line_of_fields.Goals as goal

pub returns-in-Field : goal.returns-in-Field
returns-in-Field c =
    let a = c.args in
    field_line a.program.now c.requires.program a.file a.class a.member c.requires.member c.entry.result c.entry.ensures c.in-Field.is_static c.in-Field.is_final c.in-Field.declared c.in-Field.declarators c.in-Field.is
