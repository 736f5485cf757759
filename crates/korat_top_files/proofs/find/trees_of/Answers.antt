use Rattle.std.proofs.Common.{◌≡◌, ◌∙◌, ◌+◌, ◌<◌, ◌≤◌, ◌++◌, ◌∷◌, [], length, take, ap, sym, subst, arith}
use Rattle.std.specs.Prelude.{All, Ok, map}
use Rattle.std.proofs.lemmas.List.{map-append}
use Rattle.std.proofs.lemmas.List.Elements.{All-push}
use Rattle.kr_ast.specs.Arena.{Arena, root}
use Rattle.kr_laws_types.specs.Derivation.{AreClasses}
use Rattle.korat_top_files.specs.Found.{AreShaped}
use Rattle.korat_top_files.specs.Chains.{MOST_NODES, each, growing}
use Rattle.korat_top_files.proofs.Outcomes.{each_next, stops_each}
use Rattle.korat_top_files.proofs.find.trees_of.Goals as goal

pub returns-in-Err-clause-grown : goal.returns-in-Err-clause-grown
returns-in-Err-clause-grown c =
    let within : c.loop-number.number < length c.args.texts.now = omega (arith, c.loop-number-test.true, c.len-number-end.ensures) in
    stops_each growing c.args.texts.now c.loop-number.number [] (map root c.loop-number.trees.items) c.in-Err.stop within c.loop-number.invariant.0
    (rw c.get.ensures at c.in-Err.ensures.grown)

pub loop-number-preserved : goal.loop-number-preserved
loop-number-preserved c =
    let texts = c.args.texts.now in
    let i = c.loop-number.number in
    let within : i < length texts = omega (arith, c.loop-number-test.true, c.len-number-end.ensures) in
    let trees = c.loop-number.trees.items in
    let pushed : map root c.add_tree.new.trees.items ≡ map root trees ++ root c.in-Ok.tree ∷ [] = ap (map root) c.in_ok-add_tree-in-Ok.ensures.added ∙ map-append root trees (c.in-Ok.tree ∷ []) in
    let grown = subst (λ made. each growing 0 (take (i + 1) texts) (Ok made)) (sym pushed) (each_next growing texts i [] (map root trees) (root c.in-Ok.tree) within c.loop-number.invariant.0 (rw c.get.ensures at c.in-Ok.ensures.grown)) in
    let small = subst (All (λ (tree : Arena). length tree.entries ≤ MOST_NODES)) (sym c.in_ok-add_tree-in-Ok.ensures.added) (All-push (λ (tree : Arena). length tree.entries ≤ MOST_NODES) trees c.in-Ok.tree c.loop-number.invariant.1 c.in-Ok.ensures.small) in
    let shaped = subst AreShaped (sym c.in_ok-add_tree-in-Ok.ensures.added) (All-push (λ (tree : Arena). AreClasses (root tree)) trees c.in-Ok.tree c.loop-number.invariant.2 c.in-Ok.ensures.shaped) in
    (grown, small, shaped)
