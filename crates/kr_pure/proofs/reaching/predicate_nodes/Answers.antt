use Rattle.std.proofs.Common.{sym, subst, List}
use Rattle.std.proofs.lemmas.List.Elements.{All-weaker}
use Rattle.std.specs.Prelude.{Contains}
use Rattle.kr_ast.specs.Arena.{Arena}
use Rattle.kr_ast.specs.declared.files.NodeId.{NodeId}
use Rattle.kr_ast.specs.Files.{IsNode}
use Rattle.kr_code_members.specs.Nodes.{IsThere}
use Rattle.kr_pure.specs.Found.{IsAdded}
use Rattle.kr_pure.specs.Reach.{AreArenas, ArePredicateCode}
use Rattle.kr_pure.proofs.Reached.{all_reached}
use Rattle.kr_pure.proofs.Steps.{start_below}
use Rattle.kr_pure.proofs.reaching.predicate_nodes.Goals as goal

pub walk_on-requires-clause-below : goal.walk_on-requires-clause-below
walk_on-requires-clause-below c =
    let problem = c.args.problem.now in
    let arenas = subst (λ (ts : List Arena). AreArenas ts) c.as_slice-trees.ensures.value c.count_nodes-count.ensures.arenas in
    let entries = c.in_ok-entries.entries.items in
    let new = c.add_all.new.self.nodes.items in
    let added = subst (λ (xs : List NodeId). IsAdded c.in_ok-found.found.nodes.items xs new) c.deref.ensures.value c.in_ok-add_all.ensures.added in
    start_below problem c.requires.posed arenas c.in_ok-found.found.nodes.items entries new c.in_ok-found.ensures.none added c.in_ok-entries.ensures

pub returns : goal.returns
returns c =
    let problem = c.args.problem.now in
    let p = problem.program in
    let arenas = subst (λ (ts : List Arena). AreArenas ts) c.as_slice-trees.ensures.value c.count_nodes-count.ensures.arenas in
    let entries = c.in_ok-entries.entries.items in
    let mid = c.add_all.new.self.nodes.items in
    let new = c.walk_on.new.found.nodes.items in
    let added = subst (λ (xs : List NodeId). IsAdded c.in_ok-found.found.nodes.items xs mid) c.deref.ensures.value c.in_ok-add_all.ensures.added in
    let walked = c.in_ok-walk_on.ensures.walked in
    subst (λ (xs : List NodeId). ArePredicateCode problem xs) (sym c.into_nodes.ensures)
    (all_reached problem new c.requires.posed arenas (record {
      there = All-weaker (IsNode p.trees.items) (λ n. IsThere p n.file n.node) (λ n h. record { file = h.file; node = h.node }) new c.in_ok-walk_on.ensures.found.nodes;
      roots = (entries, c.in_ok-entries.ensures, All-weaker (Contains mid) (Contains new) walked.kept entries added.there);
      followed = walked.followed;
      below = walked.below;
    }))
