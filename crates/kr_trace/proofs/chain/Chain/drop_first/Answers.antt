use Rattle.std.proofs.Common.{arith, refl}
use Rattle.kr_trace.proofs.Views.{first_dropped, first_within}
use Rattle.kr_trace.proofs.chain.Chain.drop_first.Goals as goal

pub index-requires : goal.index-requires
index-requires c = let own = c.self.inside in omega (arith, first_within own.nodes.items own.first c.in-Some.at c.self.invariant c.in-Some.is, own.nodes.ok.0)

pub drop_node-requires : goal.drop_node-requires
drop_node-requires c = let own = c.self.inside in first_within own.nodes.items own.first c.in-Some.at c.self.invariant c.in-Some.is

pub invariant_of-self : goal.invariant_of-self
invariant_of-self c =
    let own = c.self.inside in
    let x = c.index.result.now in
    (first_dropped own.nodes.items c.drop_node.new.nodes.items own.first x.later c.args.self.now c.in-Some.at x c.self.invariant c.self.view_is c.in-Some.is c.index.ensures refl c.drop_node.ensures).holds

pub returns-in-Some-clause-segments : goal.returns-in-Some-clause-segments
returns-in-Some-clause-segments c =
    let own = c.self.inside in
    let x = c.index.result.now in
    (first_dropped own.nodes.items c.drop_node.new.nodes.items own.first x.later c.args.self.now c.in-Some.at x c.self.invariant c.self.view_is c.in-Some.is c.index.ensures refl c.drop_node.ensures).segments

pub returns-in-Some-clause-made : goal.returns-in-Some-clause-made
returns-in-Some-clause-made c =
    let own = c.self.inside in
    let x = c.index.result.now in
    (first_dropped own.nodes.items c.drop_node.new.nodes.items own.first x.later c.args.self.now c.in-Some.at x c.self.invariant c.self.view_is c.in-Some.is c.index.ensures refl c.drop_node.ensures).made_is
