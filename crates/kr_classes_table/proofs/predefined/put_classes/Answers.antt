use Rattle.std.proofs.Common.{◌≡◌, ℕ, List, [], ◌∷◌, length, get_or, drop, codes, ap, ◌∙◌}
use Rattle.kr_ast.specs.Arena.{tree_in, trees}
use Rattle.kr_ast.specs.Tree.{Tree, Nil, Cons}
use Rattle.kr_ast.proofs.Roots.{roots_none}
use Rattle.kr_classes_table.specs.Predefined.{class_tree, listed_before, predefined, predefined_classes}
use Rattle.kr_classes_table.proofs.Listed.{at_end, length_trees, ok_to}
use Rattle.kr_classes_table.proofs.predefined.put_classes.Goals as goal

pub put_unchecked-requires : goal.put_unchecked-requires
put_unchecked-requires c = c.in_ok-rest.ensures.roots [] (roots_none c.args.forest.now.entries c.requires)

pub returns-clause-tree : goal.returns-clause-tree
unfolding predefined
returns-clause-tree c =
    let old = c.args.forest.now in
    let root : Tree → Tree = λ t. Cons (class_tree 0 (record { name = codes "Throwable"; extended = [] })) t in
    let exception : Tree → Tree = λ t. Cons (class_tree 1 (record { name = codes "Exception"; extended = codes "Throwable" })) t in
    let runtime : Tree → Tree = λ t. Cons (class_tree 2 (record { name = codes "RuntimeException"; extended = codes "Exception" })) t in
    let none : tree_in c.put.new.self c.in_ok-rest.rest ≡ Nil =
    ap (λ (ts : List Tree). get_or ts c.in_ok-rest.rest Nil) c.in_ok-rest.ensures.trees
    ∙ at_end (trees old.text old.entries) Nil c.in_ok-rest.rest (c.in_ok-rest.ensures.at ∙ length_trees old.text old.entries) in
    let unchecked = c.in_ok-at.ensures.tree ∙ ap (listed_before 3 (drop 3 predefined_classes)) none in
    let below = c.in_ok-at-3.ensures.tree ∙ ap exception (c.in_ok-at-2.ensures.tree ∙ ap runtime unchecked) in
    ok_to (λ at. tree_in c.put_class-3.new.forest at ≡ root (tree_in c.put_class-2.new.forest c.in_ok-at-3.at)) (λ at. tree_in c.put_class-3.new.forest at ≡ predefined) c.put_class-3.result
    (λ at h. h ∙ ap root below) c.put_class-3.ensures.tree
