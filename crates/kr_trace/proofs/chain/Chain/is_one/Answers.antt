use Rattle.std.proofs.Common.{ap, sym, arith, List, length, ◌==◌}
use Rattle.kr_core.specs.declared.segment.Segment.{Segment}
use Rattle.kr_trace.proofs.Views.{first_node, first_within, no_first, none_is, one_segment}
use Rattle.kr_trace.proofs.chain.Chain.is_one.Goals as goal

pub returns-in-None : goal.returns-in-None
returns-in-None c = let own = c.self.inside in sym (ap (λ (ss : List Segment). length ss == 1) (no_first own.nodes.items own.first c.args.self.now c.self.invariant c.self.view_is c.in-None.is))

pub index-requires : goal.index-requires
index-requires c = let own = c.self.inside in omega (arith, first_within own.nodes.items own.first c.in-Some.at c.self.invariant c.in-Some.is, own.nodes.ok.0)

pub returns-in-Some : goal.returns-in-Some
returns-in-Some c =
    let own = c.self.inside in
    one_segment c.args.self.now c.in-Some.at c.index.result.now c.is_none.result (first_node own.nodes.items own.first c.args.self.now c.in-Some.at c.index.result.now c.self.invariant c.self.view_is c.in-Some.is c.index.ensures) (none_is c.index.result.now.later c.is_none.result c.is_none.ensures)
