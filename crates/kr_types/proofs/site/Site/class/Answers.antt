use Rattle.std.proofs.Common.{ap, ◌∙◌, arith}
use Rattle.kr_ast.specs.Arena.{Arena}
use Rattle.std.proofs.Common.{length}
use Rattle.kr_classes_table.specs.Constants.{values_of}
use Rattle.kr_classes_members.specs.Shown.{table_in}
use Rattle.kr_types_scopes.specs.Settings.{class_number, class_there}
use Rattle.kr_types.specs.Programs.{setting_in}
use Rattle.kr_types.specs.Sites.{tree_there}
use Rattle.kr_types.proofs.Absent.{no_tree}
use Rattle.kr_types.proofs.site.Site.class.Goals as goal

pub returns-then-node-nodes : goal.returns-then-node-nodes
returns-then-node-nodes c =
    let s = c.args.self.now in
    ap (class_there (setting_in s.trees.now s.file)) c.in-Some.is ∙ c.class_of.ensures (values_of (table_in s.trees.now))

pub returns-else-node-nodes : goal.returns-else-node-nodes
returns-else-node-nodes c =
    let s = c.args.self.now in
    let count = ap (λ (a : Arena). length a.entries) c.tree.ensures in
    ap (class_there (setting_in s.trees.now s.file)) c.in-Some.is
    ∙ ap (class_number (table_in s.trees.now)) (no_tree (tree_there s).text (tree_there s).entries c.in-Some.node (omega (arith, count, c.nodes.ensures.count, c.if-node-nodes.false)))
