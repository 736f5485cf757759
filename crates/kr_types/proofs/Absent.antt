-- A node that isn't there.
use Rattle.std.proofs.Common.{◌≡◌, ℕ, ◌≤◌, List, [], length, arith}
use Rattle.std.proofs.Math.ListN.{get_or-eq_default}
use Rattle.kr_ast.specs.Tree.{Nil}
use Rattle.kr_ast.specs.declared.node.Entry.{Entry}
use Rattle.kr_ast.specs.Arena.{entry_tree, trees, tree_at}
use Rattle.kr_ast.proofs.Grown.{length-grow}

pub no_tree : (text : List ℕ) (es : List Entry) (i : ℕ) → length es ≤ i → tree_at text es i ≡ Nil
unfolding trees
no_tree text es i h = get_or-eq_default (trees text es) Nil {n = i} (omega (arith, h, length-grow (entry_tree text) [] es))
