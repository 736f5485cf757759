use Rattle.std.proofs.Common.{[], ◌∷◌, ap, ◌∙◌}
use Rattle.kr_ast.specs.Tree.{Tree, Nil}
use Rattle.kr_ast.specs.Arena.{tree_at}
use Rattle.kr_parse_grammar.specs.declared.value.Form.TheVariants.{Other}
use Rattle.kr_parse_grammar.specs.Values.{part}
use Rattle.kr_parse_trees.specs.Built.{values_of}
use Rattle.kr_parse_trees.proofs.Growing.{leaf_fits, leaf_tree}
use Rattle.kr_parse_trees.proofs.builder.Builder.put_leaf.Goals as goal

pub put-requires-clause-fits : goal.put-requires-clause-fits
put-requires-clause-fits c = rw c.tree.ensures (leaf_fits c.args.self.now.forest.text c.args.self.now.values _ _ c.args.node c.requires.alone c.requires.nameless)

pub returns-clause-shown : goal.returns-clause-shown
returns-clause-shown c =
    let a = c.args.self.now.forest in
    let h = rw c.tree.ensures at c.in_ok-put.ensures.shown in
    h ∙ ap (λ (t : Tree). part c.args.place Other t ∷ values_of c.args.self.now) (leaf_tree a.text [] (tree_at a.text a.entries) (λ i. Nil) c.args.place c.args.node c.requires.alone c.requires.nameless)
