use Rattle.std.proofs.Common.{◌≡◌, List, Option, ℕ, refl, ◌∙◌, ap, arith, length, subst, sym, true, false}
use Rattle.std.specs.List.{list_all, sum_by}
use Rattle.kr_base.specs.Causes.{capped}
use Rattle.kr_core.proofs.Fronts.{rows_in}
use Rattle.kr_core.specs.States.{is_closed}
use Rattle.kr_core.specs.declared.segment.Segment.{Segment}
use Rattle.kr_trace.specs.Chains.{Made, walk}
use Rattle.kr_trace.proofs.Views.{ClosedLeft, Walks, closed_next, open_found, walk_begins, walk_ends, walk_here, walk_next, walk_over, walk_within}
use Rattle.kr_trace.proofs.chain.Chain.are_closed.Goals as goal

pub loop-step-init : goal.loop-step-init
loop-step-init c =
    let own = c.self.inside in
    let all = walk own.nodes.items (length own.nodes.items) own.first in
    walk_begins own.nodes.items own.first (ClosedLeft all) c.self.invariant refl

pub returns-in-None : goal.returns-in-None
returns-in-None c =
    let own = c.self.inside in
    let all = walk own.nodes.items (length own.nodes.items) own.first in
    sym (walk_ends own.nodes.items c.loop-step.link c.loop-step.step (ClosedLeft all) c.loop-step.invariant c.in-None.is)
    ∙ ap (λ (m : Made). list_all is_closed m.segments) c.self.view_is

pub index-node-requires : goal.index-node-requires
index-node-requires c =
    let own = c.self.inside in
    let all = walk own.nodes.items (length own.nodes.items) own.first in
    let w = subst (λ (l : Option ℕ). Walks own.nodes.items l c.loop-step.step (ClosedLeft all)) c.in-Some.is c.loop-step.invariant in
    omega (arith, walk_within own.nodes.items c.in-Some.at c.loop-step.step (ClosedLeft all) w, own.nodes.ok.0)

pub returns-then-not-is_closed : goal.returns-then-not-is_closed
returns-then-not-is_closed c =
    let own = c.self.inside in
    let all = walk own.nodes.items (length own.nodes.items) own.first in
    let x = c.index-node.result.now in
    let w = subst (λ (l : Option ℕ). Walks own.nodes.items l c.loop-step.step (ClosedLeft all)) c.in-Some.is c.loop-step.invariant in
    walk_here own.nodes.items c.in-Some.at c.loop-step.step (ClosedLeft all) (false ≡ list_all is_closed all) x w c.index-node.ensures (λ s ss same p. sym (open_found all x.segment s ss same (sym c.is_closed.ensures ∙ c.if-not-is_closed.true) p))
    ∙ ap (λ (m : Made). list_all is_closed m.segments) c.self.view_is

pub loop-step-preserved : goal.loop-step-preserved
loop-step-preserved c =
    let own = c.self.inside in
    let all = walk own.nodes.items (length own.nodes.items) own.first in
    let x = c.index-node.result.now in
    let w = subst (λ (l : Option ℕ). Walks own.nodes.items l c.loop-step.step (ClosedLeft all)) c.in-Some.is c.loop-step.invariant in
    walk_next own.nodes.items c.in-Some.at c.loop-step.step (ClosedLeft all) (ClosedLeft all) x w c.index-node.ensures (λ s ss same p. closed_next all x.segment s ss same (sym c.is_closed.ensures ∙ c.if-not-is_closed.false) p)

pub returns : goal.returns
returns c =
    let own = c.self.inside in
    let all = walk own.nodes.items (length own.nodes.items) own.first in
    sym (walk_over own.nodes.items c.loop-step.link c.loop-step.step (ClosedLeft all) c.loop-step.invariant (omega (arith, c.loop-step-test.false, c.len-step-end.ensures, own.nodes.ok.0)))
    ∙ ap (λ (m : Made). list_all is_closed m.segments) c.self.view_is
