use Rattle.std.proofs.Common.{◌≡◌, ◌<◌, ap, subst, ◌∙◌, [], map, arith}
use Rattle.kr_ast.specs.Arena.{Arena, tree_in}
use Rattle.kr_classes_table.specs.Table.{Parameter, items, parameter_in}
use Rattle.kr_ast.specs.Files.{file_at}
use Rattle.kr_base.proofs.Added.{flat_all}
use Rattle.kr_classes_members.specs.Shown.{headings_in}
use Rattle.kr_base.proofs.Added.{found_shown, found_stands}
use Rattle.kr_classes_names.specs.Types.{count, type_at}
use Rattle.kr_classes.proofs.SameTypes.{map_flat}
use Rattle.kr_classes.proofs.overriding.parameter_types.Goals as goal

pub loop-node-preserved : goal.loop-node-preserved
loop-node-preserved c =
    let files = c.args.trees.now in
    let a = file_at files c.args.file in
    let kept = c.loop-node.found.items in
    let found = c.parameter_type.result in
    record {
      within = λ ts h. found_stands (λ n. n < count ts) kept _ found c.in_ok-add_found.ensures (c.loop-node.invariant.within ts h) (c.parameter_type.ensures.within ts h);
      shown = λ ts h. found_shown (type_at ts) (λ n. map (λ (p : Parameter). p.type) (parameter_in (headings_in files) (tree_in a n))) [] kept _ found _ c.loop-node.node-index 0 (omega arith) c.in_ok-add_found.ensures
          (c.loop-node.invariant.shown ts h) (c.parameter_type.ensures.shown ts h);
    }

pub returns-clause-shown : goal.returns-clause-shown
returns-clause-shown c = λ ts h.
    let files = c.args.trees.now in
    let a = file_at files c.args.file in
    let xs = c.deref-node-items.result.now in
    let kept = c.in_ok-nodes.nodes.items in
    let listed : map (tree_in a) kept ≡ items (tree_in a c.args.list) = subst (λ (x : Arena). map (tree_in x) kept ≡ items (tree_in x c.args.list)) c.tree_of.ensures c.in_ok-nodes.ensures.shown in
    c.loop-node.invariant.shown ts h
    ∙ flat_all (λ t. map (λ (p : Parameter). p.type) (parameter_in (headings_in files) t)) (tree_in a) xs c.loop-node.node-index _ (omega arith) (ap (map (tree_in a)) c.deref-node-items.ensures.value ∙ listed)
    ∙ map_flat (λ (p : Parameter). p.type) (parameter_in (headings_in files)) (items (tree_in a c.args.list))
