use Rattle.std.proofs.Common.{sym, subst, List, take, arith}
use Rattle.std.proofs.lemmas.List.{take_more}
use Rattle.kr_ast.specs.declared.files.NodeId.{NodeId}
use Rattle.kr_pure.specs.Found.{IsAdded}
use Rattle.kr_pure.proofs.Adding.{none_added, then_added}
use Rattle.kr_pure.proofs.found.Found.add_all.Goals as goal

pub loop-at-init : goal.loop-at-init
loop-at-init c = record { found = c.requires.found; added = none_added c.args.self.now.nodes.items }

pub loop-at-preserved : goal.loop-at-preserved
loop-at-preserved c =
    let nodes = c.args.nodes.now in
    let before = c.args.self.now.nodes.items in
    let more = take_more nodes c.loop-at.at-index (record { file = 0; node = 0 }) (omega arith) in
    record {
      found = c.in_ok-add.ensures.found;
      added = subst (λ (xs : List NodeId). IsAdded before xs c.add.new.self.nodes.items) (sym more)
          (then_added before (take c.loop-at.at-index nodes) c.loop-at.self.nodes.items _ c.add.new.self.nodes.items c.loop-at.invariant.added c.in_ok-add.ensures.added);
    }
