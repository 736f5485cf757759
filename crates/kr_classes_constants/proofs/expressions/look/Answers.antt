use Rattle.std.proofs.Common.{◌≡◌, subst}
use Rattle.kr_ast.specs.Arena.{Arena, ArePartsFrom, parts, tree_in, tree_of}
use Rattle.kr_ast.specs.Files.{file_at}
use Rattle.kr_classes_members.specs.Shown.{table_in}
use Rattle.kr_classes_constants.proofs.Rules.{looked, parts_below}
use Rattle.kr_classes_constants.proofs.expressions.look.Goals as goal

pub look_at-requires-clause-parts : goal.look_at-requires-clause-parts
look_at-requires-clause-parts c =
    let e = c.entry-entry.result in
    parts_below (file_at c.args.trees.now c.args.site.file) c.args.node 0 (parts e.node) c.requires.node
    (subst (λ (a : Arena). ArePartsFrom a.entries c.args.node 0 (parts e.node)) c.tree_of.ensures c.entry-entry.ensures.parts)

pub returns-clause-same : goal.returns-clause-same
returns-clause-same c =
    let e = c.entry-entry.result in
    looked (table_in c.args.trees.now) c.args.site.class (file_at c.args.trees.now c.args.site.file) c.args.node e c.args.frames.now c.look_at.new.frames c.args.values.now
    (subst (λ (a : Arena). tree_in a c.args.node ≡ tree_of a.text (tree_in a) e.place e.node) c.tree_of.ensures c.entry-entry.ensures.tree)
    c.look_at.result c.look_at.ensures.same
