use Rattle.std.proofs.Common.{sym, ap, ◌∙◌}
use Rattle.kr_classes_table.specs.Table.{Table}
use Rattle.kr_code_lowering.specs.Origins.{node_tree}
use Rattle.kr_code_lowering.proofs.Naming.{headings_are, scope_table}
use Rattle.kr_code_lowering.proofs.types.named_type.Goals as goal

pub returns : goal.returns
returns c =
    let p = c.args.program.now in
    let s = c.args.site in
    let t = node_tree p s.file c.args.node in
    let headings = sym (ap (λ (w : Table). w.headings) (scope_table p s.file s.node) ∙ headings_are p) in
    let number = c.requires.program.table.table.numbers s.file c.args.node in
    rw c.number.ensures (rw headings at number)
