use Rattle.std.proofs.Common.{◌≡◌, ◌∙◌, sym, ap, map}
use Rattle.std.specs.Prelude.{unwrap_or}
use Rattle.kr_ast.specs.Arena.{Arena, root, tree_in, tree_of, name_in}
use Rattle.kr_ast.specs.Tree as trees
use Rattle.kr_classes_table.specs.Table.{headings_of, number_of}
use Rattle.kr_ast.specs.Files.{file_at}
use Rattle.kr_types_expressions.proofs.Meanings.{class_is}
use Rattle.kr_types_expressions.proofs.names.class_of.Goals as goal

pub returns-in-None-number_of : goal.returns-in-None-number_of
returns-in-None-number_of c = λ known.
    let files = c.args.trees.now in
    let t = c.tree_of-tree.result.now in
    let p = c.entry.result.place in
    let k = c.in-Some.node in
    let n = name_in t.text c.in-Class.name in
    let is : tree_in (file_at files c.args.file) k ≡ trees.Class p n (tree_in t c.in-Class.extended) (tree_in t c.in-Class.members) =
    sym (ap (λ (a : Arena). tree_in a k) c.tree_of-tree.ensures) ∙ c.entry.ensures.tree ∙ ap (tree_of t.text (tree_in t) p) c.in-Class.is in
    let found : c.number_of.result ≡ number_of (headings_of (map root files)) n = c.number_of.ensures files c.requires.heads ∙ ap (number_of (headings_of (map root files))) c.name.ensures in
    class_is files known c.args.file k c.args.node p n (tree_in t c.in-Class.extended) (tree_in t c.in-Class.members) c.number_of.result c.in-Some.is is found ∙ ap (λ x. unwrap_or x 0) c.in-None-number_of.is

pub returns-in-Some-number_of : goal.returns-in-Some-number_of
returns-in-Some-number_of c = λ known.
    let files = c.args.trees.now in
    let t = c.tree_of-tree.result.now in
    let p = c.entry.result.place in
    let k = c.in-Some.node in
    let n = name_in t.text c.in-Class.name in
    let is : tree_in (file_at files c.args.file) k ≡ trees.Class p n (tree_in t c.in-Class.extended) (tree_in t c.in-Class.members) =
    sym (ap (λ (a : Arena). tree_in a k) c.tree_of-tree.ensures) ∙ c.entry.ensures.tree ∙ ap (tree_of t.text (tree_in t) p) c.in-Class.is in
    let found : c.number_of.result ≡ number_of (headings_of (map root files)) n = c.number_of.ensures files c.requires.heads ∙ ap (number_of (headings_of (map root files))) c.name.ensures in
    class_is files known c.args.file k c.args.node p n (tree_in t c.in-Class.extended) (tree_in t c.in-Class.members) c.number_of.result c.in-Some.is is found ∙ ap (λ x. unwrap_or x 0) c.in-Some-number_of.is
