use Rattle.std.proofs.Common.{List, length, ap, arith, refl}
use Rattle.kr_trace.specs.Chains.{dropped}
use Rattle.kr_trace.specs.declared.nodes.Node.{Node}
use Rattle.kr_trace.proofs.Numbered.{at_length}
use Rattle.kr_trace.proofs.Views.{HasNext, drops_next, has_next, is_last, is_within, next_within}
use Rattle.kr_trace.proofs.chain.Chain.drop_next.Goals as goal
use Rattle.kr_trace.proofs.chain.Chain.drop_next.Goals.{In-Some}

next_is : (c : In-Some) → HasNext c.self.inside.nodes.items c.args.self.now.segments c.args.at c.in-Some.next
next_is c =
    let own = c.self.inside in
    has_next own.nodes.items own.first c.args.self.now c.args.at c.in-Some.next c.index.result.now c.self.invariant c.self.view_is c.requires c.index.ensures c.in-Some.is

pub index-requires : goal.index-requires
index-requires c =
    let own = c.self.inside in
    omega (arith, is_within own.nodes.items own.first c.args.self.now c.args.at c.self.invariant c.self.view_is c.requires, own.nodes.ok.0)

pub index-requires-in-Some : goal.index-requires-in-Some
index-requires-in-Some c =
    let own = c.self.inside in
    omega (arith, next_within own.nodes.items c.args.self.now.segments c.args.at c.in-Some.next (next_is (goal.at.index-requires-in-Some c).In-Some), own.nodes.ok.0)

pub drop_node-requires : goal.drop_node-requires
drop_node-requires c = let own = c.self.inside in next_within own.nodes.items c.args.self.now.segments c.args.at c.in-Some.next (next_is (goal.at.drop_node-requires c).In-Some)

pub link_to-requires : goal.link_to-requires
link_to-requires c =
    let own = c.self.inside in
    omega (
      arith,
      is_within own.nodes.items own.first c.args.self.now c.args.at c.self.invariant c.self.view_is c.requires,
      at_length own.nodes.items c.in-Some.next dropped,
      ap (λ (ns : List Node). length ns) c.drop_node.ensures,
    )

pub invariant_of-self : goal.invariant_of-self
invariant_of-self c =
    let own = c.self.inside in
    let y = c.index-in-Some.result.now in
    (drops_next own.nodes.items c.drop_node.new.nodes.items c.link_to.new.nodes.items own.first y.later c.args.self.now c.args.at c.in-Some.next y c.self.invariant c.self.view_is
    (next_is (goal.at.invariant_of-self c).In-Some) c.index-in-Some.ensures refl c.drop_node.ensures c.link_to.ensures).holds

pub returns-in-None : goal.returns-in-None
returns-in-None c =
    let own = c.self.inside in
    (is_last own.nodes.items own.first c.args.self.now c.args.at c.index.result.now c.self.invariant c.self.view_is c.requires c.index.ensures c.in-None.is, refl)

pub returns-in-Some : goal.returns-in-Some
returns-in-Some c =
    let own = c.self.inside in
    let y = c.index-in-Some.result.now in
    (drops_next own.nodes.items c.drop_node.new.nodes.items c.link_to.new.nodes.items own.first y.later c.args.self.now c.args.at c.in-Some.next y c.self.invariant c.self.view_is
    (next_is (goal.at.returns-in-Some c).In-Some) c.index-in-Some.ensures refl c.drop_node.ensures c.link_to.ensures).drops
