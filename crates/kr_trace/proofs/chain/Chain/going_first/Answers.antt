use Rattle.std.proofs.Common.{ap, sym, arith}
use Rattle.kr_trace.proofs.Views.{first_going, first_node, first_within, no_first}
use Rattle.kr_trace.specs.Chains.{going_first}
use Rattle.kr_trace.proofs.chain.Chain.going_first.Goals as goal

pub returns-in-None : goal.returns-in-None
returns-in-None c = let own = c.self.inside in sym (ap going_first (no_first own.nodes.items own.first c.args.self.now c.self.invariant c.self.view_is c.in-None.is))

pub index-requires : goal.index-requires
index-requires c = let own = c.self.inside in omega (arith, first_within own.nodes.items own.first c.in-Some.at c.self.invariant c.in-Some.is, own.nodes.ok.0)

pub returns-in-Some : goal.returns-in-Some
returns-in-Some c =
    let own = c.self.inside in
    first_going c.args.self.now c.in-Some.at c.index.result.now c.going.result (first_node own.nodes.items own.first c.args.self.now c.in-Some.at c.index.result.now c.self.invariant c.self.view_is c.in-Some.is c.index.ensures) c.going.ensures
