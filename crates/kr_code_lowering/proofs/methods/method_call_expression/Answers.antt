use Rattle.kr_code_lowering.proofs.Naming.{parts_are, scope_table}
use Rattle.kr_code_lowering.specs.Calls.{IsStaticCallee}
use Rattle.kr_types_meaning.specs.Scopes.{static_only}
use Rattle.kr_classes_table.specs.Table.{Table, method_named}
use Rattle.std.specs.Prelude.{option_and_then}
use Rattle.std.proofs.Common.{sym, ap, ◌∙◌, subst}
use Rattle.kr_ast.specs.Arena.{name_in}
use Rattle.kr_ast.specs.Tree.{Tree}
use Rattle.kr_ast.specs.declared.node.Node.TheVariants.{MethodCall}
use Rattle.kr_types_meaning.specs.Handing.{handed}
use Rattle.kr_mean.specs.Meaning.{typed_method}
use Rattle.kr_code_lowering.specs.Origins.{node_tree}
use Rattle.kr_code_lowering.specs.Sites.{arena_at, scope_at}
use Rattle.kr_code_lowering.proofs.Parts.{part_scope, tree_is}
use Rattle.kr_code_members.specs.Nodes.{table}
use Rattle.kr_code_lowering.proofs.Read.{typed_found}
use Rattle.kr_code_lowering.proofs.Called.{called_resolves, found_within, static_resolves}
use Rattle.kr_code_lowering.proofs.methods.method_call_expression.Goals as goal

pub class_before-requires-clause-handed : goal.class_before-requires-clause-handed
class_before-requires-clause-handed c =
    let p = c.args.program.now in
    let s = c.args.site in
    let node = MethodCall c.args.object c.args.name c.args.arguments in
    part_scope p c.requires.program s c.requires.here.site 0 c.args.object (parts_are p s c.args.entry node c.requires.here c.requires.node).0 ∙ ap (λ (t : Tree). handed (scope_at p s) t 0) (tree_is p s c.args.entry node c.requires.here c.requires.node)

pub called_on-requires-clause-method : goal.called_on-requires-clause-method
called_on-requires-clause-method c =
    let p = c.args.program.now in
    let s = c.args.site in
    let m = c.method-method in
    let found = typed_found p s c.args.entry c.requires.here c.meaning_at.result c.meaning_at.ensures c.args.object c.args.name c.args.arguments c.requires.node (sym c.class_before.ensures ∙ c.in-None.is) m.result (m.ensures.within (table p) c.meaning_at.ensures.within) (m.ensures.shown (table p)) in
    found_within p m.result (typed_method (scope_at p s) (node_tree p s.file c.args.object) (name_in (arena_at p s).text c.args.name)) found

pub returns-in-Some-clause-resolves : goal.returns-in-Some-clause-resolves
returns-in-Some-clause-resolves c = λ arrays names.
    let p = c.args.program.now in
    let s = c.args.site in
    let k = c.in-Some.field-0 in
    let x = name_in (arena_at p s).text c.args.name in
    let links = c.list_links.new.links in
    let linked = rw c.at.ensures at c.in_ok-nodes.ensures.linked in
    let class = sym c.class_before.ensures ∙ c.in-Some.is in
    static_resolves p c.requires.program arrays s c.args.entry c.requires.here names links c.args.object c.args.arguments c.args.name c.requires.node c.in_ok-nodes.nodes linked k c.static_callee.result class
    (subst (λ (t : Table). IsStaticCallee p (option_and_then static_only (method_named t k x)) c.static_callee.result) (sym (scope_table p s.file s.node)) (c.static_callee.ensures k class))

pub returns-in-None-clause-resolves : goal.returns-in-None-clause-resolves
returns-in-None-clause-resolves c = λ arrays names.
    let p = c.args.program.now in
    let s = c.args.site in
    let links = c.list_links.new.links in
    let m = c.method-method in
    let found = typed_found p s c.args.entry c.requires.here c.meaning_at.result c.meaning_at.ensures c.args.object c.args.name c.args.arguments c.requires.node (sym c.class_before.ensures ∙ c.in-None.is) m.result (m.ensures.within (table p) c.meaning_at.ensures.within) (m.ensures.shown (table p)) in
    let linked = rw c.at.ensures at c.in_ok-nodes.ensures.linked in
    called_resolves p c.requires.program arrays s c.args.entry c.requires.here names links c.args.object c.args.arguments c.args.name c.requires.node c.in_ok-nodes.nodes linked m.result c.called_on.result (sym c.class_before.ensures ∙ c.in-None.is)
    found
    (rw (c.text-text.ensures, c.code_number.ensures) at c.called_on.ensures)
