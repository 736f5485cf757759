use Rattle.std.proofs.Common.{◌≡◌, ap, ◌∙◌, subst, length, arith}
use Rattle.kr_ast.specs.Arena.{Arena, IsArena}
use Rattle.kr_classes_names.proofs.Growing.{extends_itself, extends_on}
use Rattle.kr_types.specs.Programs.{setting_in}
use Rattle.kr_types.specs.Sites.{tree_there}
use Rattle.kr_types.proofs.Passing.{judged_there, site_kept}
use Rattle.kr_types.proofs.Meant.{meant_there, none_kept}
use Rattle.kr_types.proofs.notes.notes_of.Goals as goal

pub loop-at-init : goal.loop-at-init
loop-at-init c = record {
  extends = extends_itself c.args.types.now;
  site = c.requires;
  kept = none_kept c.args.site.now c.args.types.now c.new-noted.result c.new-noted.ensures.notes c.new-noted.ensures.meanings (c.new-noted.ensures.inside (setting_in c.args.site.now.trees.now c.args.site.now.file));
  count = ap length c.new-noted.ensures.notes;
}

pub add_node-requires-clause-forest : goal.add_node-requires-clause-forest
add_node-requires-clause-forest c = (subst (λ (t : Arena). IsArena t.text t.entries) c.tree.ensures c.nodes-nodes.ensures.arena).forest

pub add_node-requires-clause-within : goal.add_node-requires-clause-within
add_node-requires-clause-within c =
    let nodes = ap (λ (t : Arena). length t.entries) c.tree.ensures in
    omega (arith, nodes, c.nodes-nodes.ensures.count, c.loop-at-test.true)

pub loop-at-preserved : goal.loop-at-preserved
loop-at-preserved c =
    let s = c.args.site.now in
    let inv = c.loop-at.invariant in
    record {
      extends = extends_on _ c.loop-at.types c.add_node.new.types inv.extends c.add_node.ensures.extends;
      site = site_kept s c.loop-at.types c.add_node.new.types c.add_node.ensures.extends inv.site;
      kept = c.in_ok-add_node.ensures.kept;
      count = c.in_ok-add_node.ensures.count;
    }

pub returns-clause-long : goal.returns-clause-long
returns-clause-long c =
    let nodes = ap (λ (t : Arena). length t.entries) c.tree.ensures in
    omega (arith, nodes, c.nodes-nodes.ensures.count, c.loop-at.invariant.count, c.loop-at-test.false, c.loop-at.auto.at-end)

pub returns-clause-within : goal.returns-clause-within
returns-clause-within c = c.loop-at.invariant.kept.noted.within

pub returns-clause-resolved : goal.returns-clause-resolved
returns-clause-resolved c =
    let nodes = ap (λ (t : Arena). length t.entries) c.tree.ensures in
    omega (arith, nodes, c.nodes-nodes.ensures.count, c.loop-at.invariant.kept.count, c.loop-at.invariant.count, c.loop-at-test.false, c.loop-at.auto.at-end)

pub returns-clause-judged : goal.returns-clause-judged
returns-clause-judged c =
    let s = c.args.site.now in
    let inv = c.loop-at.invariant in
    let arena = subst (λ (t : Arena). IsArena t.text t.entries) c.tree.ensures c.nodes-nodes.ensures.arena in
    let nodes = ap (λ (t : Arena). length t.entries) c.tree.ensures in
    let count : length c.loop-at.noted.notes ≡ length (tree_there s).entries = omega (arith, nodes, c.nodes-nodes.ensures.count, inv.count, c.loop-at-test.false, c.loop-at.auto.at-end) in
    judged_there s c.loop-at.types c.loop-at.noted.notes arena inv.site inv.kept.noted count

pub returns-clause-meant : goal.returns-clause-meant
returns-clause-meant c =
    let s = c.args.site.now in
    let inv = c.loop-at.invariant in
    let arena = subst (λ (t : Arena). IsArena t.text t.entries) c.tree.ensures c.nodes-nodes.ensures.arena in
    let nodes = ap (λ (t : Arena). length t.entries) c.tree.ensures in
    let count : length c.loop-at.noted.notes ≡ length (tree_there s).entries = omega (arith, nodes, c.nodes-nodes.ensures.count, inv.count, c.loop-at-test.false, c.loop-at.auto.at-end) in
    meant_there s c.loop-at.types c.loop-at.noted.notes inv.site (judged_there s c.loop-at.types c.loop-at.noted.notes arena inv.site inv.kept.noted count) c.loop-at.noted.meanings.items arena inv.kept.meant (inv.kept.count ∙ count)
