use Rattle.std.proofs.Common.{◌≡◌, List, [], ap, arith, rules}
use Rattle.kr_ast.specs.Arena.{Arena}
use Rattle.kr_classes_members.specs.Shown.{table_in}
use Rattle.kr_ast.specs.Files.{file_at}
use Rattle.kr_code_members.specs.Nodes.{table}
use Rattle.kr_types.specs.Programs.{setting_in}
use Rattle.kr_code_lowering.proofs.declarators.declared_type.Goals as goal

pub at-here-requires : goal.at-here-requires
at-here-requires c = omega (arith, ((c.requires.program.files c.args.site.file c.typed.result.now c.typed.ensures).scopes (table c.args.program.now) []).long, c.requires.site.node)

pub returns : goal.returns
returns c =
    let p = c.args.program.now in
    let s = c.args.site in
    let types = p.table.types in
    let trees : p.trees.items ≡ c.deref.result.now = search rules in
    let there = rw c.at-here.ensures at (c.type_of_node.ensures (setting_in p.trees.items s.file) (ap table_in trees) (ap (λ (files : List Arena). file_at files s.file) trees)) in
    rw c.typed.ensures there
