use Rattle.std.proofs.Common.{◌+◌, sym, ◌∙◌, arith}
use Rattle.kr_parse_grammar.specs.declared.value.Form.TheVariants as forms
use Rattle.kr_parse_trees.proofs.Chains.{type_fits, lowest_test, lowest_plain, top_is_tree, tree_under, name_within, tree_within, named_at}
use Rattle.kr_parse_trees.proofs.builder.Builder.put_lowest.Goals as goal

pub overflow_add-next : goal.overflow_add-next
overflow_add-next c =
    let l = name_within c.args.self.now.values c.args.depth c.requires.name in
    omega (arith, c.len-count.ensures, c.len-count.type_inv)

pub overflow_add-past : goal.overflow_add-past
overflow_add-past c =
    let l = tree_within c.args.self.now.values (c.args.depth + 1) (sym c.is_tree.ensures ∙ c.if-is_tree.true) in
    omega (arith, c.len-count.ensures, c.len-count.type_inv)

pub put-requires-clause-fits : goal.put-requires-clause-fits
put-requires-clause-fits c =
    rw (c.tree.ensures, c.place-place.ensures, c.type_node-node.ensures, c.peek.ensures)
    (type_fits c.args.self.now.forest.text c.args.self.now.values c.args.self.now.values _ c.args.depth c.requires.name c.requires.built.named)

pub put_test-requires-clause-top : goal.put_test-requires-clause-top
put_test-requires-clause-top c =
    let k = rw c.tree.ensures at c.in_ok-put.ensures.kept.1 in
    top_is_tree c.args.self.now.values c.put.new.self.values c.place-place.result forms.Type c.in_ok-put.ensures.kept.0 k

pub put_test-requires-clause-tree : goal.put_test-requires-clause-tree
put_test-requires-clause-tree c =
    let k = rw c.tree.ensures at c.in_ok-put.ensures.kept.1 in
    tree_under c.args.self.now.values c.put.new.self.values c.place-place.result forms.Type c.in_ok-put.ensures.kept.0 (c.args.depth + 1) (c.args.depth + 1 + 1) k (omega arith) (sym c.is_tree.ensures ∙ c.if-is_tree.true)

pub put_operand-requires-clause-named : goal.put_operand-requires-clause-named
put_operand-requires-clause-named c = rw c.value-value.ensures (named_at c.args.self.now.forest.text c.args.self.now.values c.args.depth c.requires.built.named)

pub returns-then-is_tree : goal.returns-then-is_tree
returns-then-is_tree c =
    let o = c.in_ok-put.ensures in
    let u = c.in_ok-put_test.ensures in
    let k = rw (c.tree.ensures, c.place-place.ensures) at o.kept.1 in
    let h = rw (c.tree.ensures, c.place-place.ensures, c.type_node-node.ensures, c.peek.ensures) at o.shown in
    lowest_test c.args.self.now.forest c.put.new.self.forest c.put_test.new.self.forest c.args.self.now.values c.put.new.self.values c.put_test.new.self.values c.args.depth o.kept.0 u.kept.0 (c.args.depth + 1) (c.args.depth + 1 + 1)
    (omega arith) (omega arith) c.requires.name (sym c.is_tree.ensures ∙ c.if-is_tree.true) k h o.text u.kept.1 u.shown u.text u.built

pub returns : goal.returns
returns c =
    let u = c.in_ok-put_operand.ensures in
    let k = rw c.value-value.ensures at u.kept.1 in
    let h = rw c.value-value.ensures at u.shown in
    lowest_plain c.args.self.now.forest c.put_operand.new.self.forest c.args.self.now.values c.put_operand.new.self.values c.args.depth u.kept.0 (c.args.depth + 1)
    (omega arith) c.requires.name c.requires.end (sym c.is_tree.ensures ∙ c.if-is_tree.false) k h u.text u.built
