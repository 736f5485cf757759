use Rattle.std.proofs.Common.{◌≡◌, List, Option, ℕ, refl, ◌∙◌, ap, arith, length, subst, sym, true, false}
use Rattle.std.specs.List.{list_all, sum_by}
use Rattle.kr_base.specs.Causes.{capped}
use Rattle.kr_core.proofs.Fronts.{rows_in}
use Rattle.kr_core.specs.States.{is_closed}
use Rattle.kr_core.specs.declared.segment.Segment.{Segment}
use Rattle.kr_trace.specs.Chains.{Made, walk}
use Rattle.kr_trace.proofs.Views.{TriedLeft, Walks, tried_begins, tried_ends, tried_in, tried_next, walk_begins, walk_ends, walk_next, walk_over, walk_within}
use Rattle.kr_trace.proofs.chain.Chain.tried.Goals as goal

pub loop-step-init : goal.loop-step-init
loop-step-init c =
    let own = c.self.inside in
    let all = walk own.nodes.items (length own.nodes.items) own.first in
    walk_begins own.nodes.items own.first (TriedLeft all 0) c.self.invariant (tried_begins all)

pub returns-in-None : goal.returns-in-None
returns-in-None c =
    let own = c.self.inside in
    let all = walk own.nodes.items (length own.nodes.items) own.first in
    tried_ends all c.loop-step.tried (walk_ends own.nodes.items c.loop-step.link c.loop-step.step (TriedLeft all c.loop-step.tried) c.loop-step.invariant c.in-None.is)
    ∙ ap (λ (m : Made). capped (tried_in m.segments)) c.self.view_is

pub index-node-requires : goal.index-node-requires
index-node-requires c =
    let own = c.self.inside in
    let all = walk own.nodes.items (length own.nodes.items) own.first in
    let w = subst (λ (l : Option ℕ). Walks own.nodes.items l c.loop-step.step (TriedLeft all c.loop-step.tried)) c.in-Some.is c.loop-step.invariant in
    omega (arith, walk_within own.nodes.items c.in-Some.at c.loop-step.step (TriedLeft all c.loop-step.tried) w, own.nodes.ok.0)

pub loop-step-preserved : goal.loop-step-preserved
loop-step-preserved c =
    let own = c.self.inside in
    let all = walk own.nodes.items (length own.nodes.items) own.first in
    let x = c.index-node.result.now in
    let w = subst (λ (l : Option ℕ). Walks own.nodes.items l c.loop-step.step (TriedLeft all c.loop-step.tried)) c.in-Some.is c.loop-step.invariant in
    walk_next own.nodes.items c.in-Some.at c.loop-step.step (TriedLeft all c.loop-step.tried) (TriedLeft all c.saturating_add-tried.result) x w c.index-node.ensures (λ s ss same p. tried_next all c.loop-step.tried c.saturating_add-tried.result x.segment s ss same c.saturating_add-tried.ensures p)

pub returns : goal.returns
returns c =
    let own = c.self.inside in
    let all = walk own.nodes.items (length own.nodes.items) own.first in
    tried_ends all c.loop-step.tried (walk_over own.nodes.items c.loop-step.link c.loop-step.step (TriedLeft all c.loop-step.tried) c.loop-step.invariant (omega (arith, c.loop-step-test.false, c.len-step-end.ensures, own.nodes.ok.0)))
    ∙ ap (λ (m : Made). capped (tried_in m.segments)) c.self.view_is
