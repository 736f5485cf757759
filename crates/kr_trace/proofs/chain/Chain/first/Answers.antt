use Rattle.std.proofs.Common.{ap, arith}
use Rattle.kr_trace.proofs.Views.{first_node, first_seen, first_within, no_first}
use Rattle.kr_trace.specs.Chains.{first_of}
use Rattle.kr_trace.proofs.chain.Chain.first.Goals as goal

pub returns-in-None-clause-none : goal.returns-in-None-clause-none
returns-in-None-clause-none c = let own = c.self.inside in ap first_of (no_first own.nodes.items own.first c.args.self.now c.self.invariant c.self.view_is c.in-None.is)

pub index-requires : goal.index-requires
index-requires c = let own = c.self.inside in omega (arith, first_within own.nodes.items own.first c.in-Some.at c.self.invariant c.in-Some.is, own.nodes.ok.0)

pub returns-in-Some-clause-some : goal.returns-in-Some-clause-some
returns-in-Some-clause-some c =
    let own = c.self.inside in
    first_seen c.args.self.now c.in-Some.at c.index.result.now (first_node own.nodes.items own.first c.args.self.now c.in-Some.at c.index.result.now c.self.invariant c.self.view_is c.in-Some.is c.index.ensures)
