use Rattle.std.proofs.Common.{sym, ap, ◌∙◌, subst, List, ◌++◌, map, append-nil}
use Rattle.std.proofs.lemmas.List.Elements.{All-push}
use Rattle.kr_ast.specs.Tree.{Tree}
use Rattle.kr_classes_table.specs.Table.{items}
use Rattle.kr_code_members.specs.Nodes.{node_scope, node_tree}
use Rattle.kr_code_members.specs.Walk.{AreStill, IsIn}
use Rattle.kr_code_members.proofs.Items.{list_step}
use Rattle.kr_code_members.proofs.lists.list_nodes.Goals as goal

pub loop-item-preserved : goal.loop-item-preserved
loop-item-preserved c =
    let p = c.args.program.now in
    let f = c.args.file in
    let s = node_scope p f c.args.list in
    let i = c.loop-item.invariant in
    let split = c.in-Some.ensures in
    let both = split.stand s i.at i.still in
    record {
      at = both.1;
      still = (subst (AreStill s) split.shown i.still).1;
      stand = rw c.in_ok-push.ensures.items (All-push (IsIn p f s) c.loop-item.nodes.items c.in-Some.item i.stand both.0);
      shown = list_step (node_tree p f) c.loop-item.nodes.items _ c.in-Some.item (items (node_tree p f c.in-Some.rest)) (items (node_tree p f c.loop-item.at)) (items (node_tree p f c.args.list)) c.in_ok-push.ensures.items split.shown i.shown;
    }

pub returns-clause-shown : goal.returns-clause-shown
returns-clause-shown c =
    let v = node_tree c.args.program.now c.args.file in
    sym (append-nil (map v c.loop-item.nodes.items)) ∙ ap (λ (ts : List Tree). map v c.loop-item.nodes.items ++ ts) (sym c.in_default.ensures) ∙ c.loop-item.invariant.shown
