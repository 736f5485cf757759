use Rattle.std.proofs.Common.{sym, ap, ◌∙◌, ◌-◌, List, ◌++◌, map, arith}
use Rattle.std.proofs.lemmas.List.{take_all}
use Rattle.kr_classes_table.specs.Table as tables
use Rattle.kr_classes_names.proofs.Walks.{map_map}
use Rattle.kr_classes_members.specs.declared.fields.Field.{Field}
use Rattle.kr_classes_members.specs.Shown.{field_shown}
use Rattle.kr_mean.specs.Program.{default_of}
use Rattle.kr_code.specs.declared.expression.Nodes.{Nodes}
use Rattle.kr_code_bodies.proofs.There.{there_behind}
use Rattle.kr_code_bodies.proofs.values.add_values.Goals as goal

pub returns-clause-there : goal.returns-clause-there
returns-clause-there c =
    let files = c.args.program.now.trees.items in
    let before = c.args.values.now.items in
    let fs = c.args.fields.now in
    let ns : Nodes = record { first = c.len-start.result; count = c.len-2.result - c.len-start.result } in
    let all = ap (λ (xs : List Field). before ++ map (λ f. default_of (field_shown files f).type) xs) (take_all c.loop-field.field-index fs (omega arith))
    ∙ ap (λ (vs : List _). before ++ vs) (sym (map_map (λ (f : tables.Field). default_of f.type) (field_shown files) fs)) in
    there_behind before c.loop-field.values.items (map (λ f. default_of f.type) (map (field_shown files) fs)) ns (c.loop-field.invariant.items ∙ all) (omega arith) (omega arith)
