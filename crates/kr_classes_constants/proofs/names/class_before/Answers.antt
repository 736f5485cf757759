use Rattle.std.proofs.Common.{sym, ap, ◌∙◌}
use Rattle.kr_ast.specs.Arena.{Arena, tree_in, tree_of}
use Rattle.kr_ast.specs.Tree.{Variable as VariableTree}
use Rattle.kr_classes_table.specs.Constants.{class_meant}
use Rattle.kr_classes_members.specs.Shown.{table_in}
use Rattle.kr_classes_constants.proofs.names.class_before.Goals as goal

pub returns-in-Variable : goal.returns-in-Variable
returns-in-Variable c =
    let files = c.args.trees.now in
    let class = c.args.site.class in
    let t = c.tree_of-tree.result.now in
    let p = c.entry.result.place in
    c.class_named.ensures files p c.requires.heads c.requires.members
    ∙ ap (λ n. class_meant (table_in files) class (VariableTree p n)) c.name.ensures
    ∙ ap (class_meant (table_in files) class) (sym (c.entry.ensures.tree ∙ ap (tree_of t.text (tree_in t) p) c.in-Variable.is))
    ∙ ap (λ (a : Arena). class_meant (table_in files) class (tree_in a c.args.object)) c.tree_of-tree.ensures
