use Rattle.std.proofs.Common.{ap, ◌∙◌, ◌+◌, add-one}
use Rattle.std.specs.Prelude.{Some}
use Rattle.kr_classes_table.specs.Table.{method_on, line_within}
use Rattle.kr_classes_members.specs.Shown.{table_in}
use Rattle.kr_classes_members.proofs.members.Members.method_named.Goals as goal

pub returns-clause-shown : goal.returns-clause-shown
returns-clause-shown c = λ files h.
    let t = table_in files in
    c.method_upwards.ensures.shown files h
    ∙ ap (λ n. method_on t (line_within (n + 1) t (Some c.args.class)) c.args.name.now) (c.len.ensures.all files h)
    ∙ ap (λ n. method_on t (line_within n t (Some c.args.class)) c.args.name.now) (add-one _)
