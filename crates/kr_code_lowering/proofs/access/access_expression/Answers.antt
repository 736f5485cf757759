use Rattle.std.proofs.Common.{sym, ap, ◌∙◌, subst, List, Some}
use Rattle.kr_ast.specs.Tree.{Tree}
use Rattle.kr_ast.specs.Arena.{name_in}
use Rattle.kr_ast.specs.declared.node.Node.TheVariants.{FieldAccess}
use Rattle.kr_classes_table.specs.Table.{Table}
use Rattle.kr_classes_table.specs.Constants.{Known, constant_of, known_value, values_of}
use Rattle.kr_types_meaning.specs.Handing.{handed}
use Rattle.kr_code_members.specs.Nodes.{table}
use Rattle.kr_code_lowering.specs.Sites.{Resolves, arena_at, scope_at}
use Rattle.kr_code_lowering.proofs.Parts.{part_scope, tree_is}
use Rattle.kr_code_lowering.proofs.Naming.{class_constant_resolves, field_resolves, parts_are, scope_table, scope_values}
use Rattle.kr_code_lowering.proofs.access.access_expression.Goals as goal

pub class_before-requires-clause-handed : goal.class_before-requires-clause-handed
class_before-requires-clause-handed c =
    let p = c.args.program.now in
    let s = c.args.site in
    let node = FieldAccess c.args.object c.args.name in
    part_scope p c.requires.program s c.requires.here.site 0 c.args.object (parts_are p s c.args.entry node c.requires.here c.requires.node).0 ∙ ap (λ (t : Tree). handed (scope_at p s) t 0) (tree_is p s c.args.entry node c.requires.here c.requires.node)

pub returns-in-Some-clause-resolves : goal.returns-in-Some-clause-resolves
returns-in-Some-clause-resolves c = λ arrays links.
    let p = c.args.program.now in
    let s = c.args.site in
    let v = scope_values p s.file s.node in
    let t = scope_table p s.file s.node in
    let k = c.in-Some.field-0 in
    let x = name_in (arena_at p s).text c.args.name in
    let class = sym c.class_before.ensures ∙ c.in-Some.is in
    let same = ap (λ (ks : List Known). known_value ks (constant_of (scope_at p s).table (Some k) x)) v ∙ (ap (λ (w : Table). known_value (values_of (table p)) (constant_of w (Some k) x)) t ∙ sym (c.class_constant.ensures k class)) in
    subst (Resolves p arrays s c.args.names.now links) (sym c.literal.ensures) (class_constant_resolves p c.requires.program arrays s c.args.entry c.args.object c.args.name c.requires.here c.requires.node c.args.names.now links k c.class_constant.result class same)

pub returns-in_ok-number-in-None-clause-resolves : goal.returns-in_ok-number-in-None-clause-resolves
returns-in_ok-number-in-None-clause-resolves c = λ arrays links.
    let p = c.args.program.now in
    let s = c.args.site in
    let class = sym c.class_before.ensures ∙ c.in-None.is in
    rw c.code_number.ensures (field_resolves p c.requires.program arrays s c.args.entry c.args.object c.args.name c.requires.here c.requires.node c.number.new.self links c.in_ok-number-in-None.number class (rw c.text.ensures at c.in_ok-number-in-None.ensures.at))
