use Rattle.std.proofs.Common.{List, [], ◌∷◌, ◌∙◌, length, length-append, ap, arith}
use Rattle.kr_trace.specs.declared.nodes.Node.{Node}
use Rattle.kr_trace.proofs.Views.{is_within, split_becomes}
use Rattle.kr_trace.proofs.chain.Chain.split.Goals as goal

pub index-requires : goal.index-requires
index-requires c =
    let own = c.self.inside in
    omega (arith, is_within own.nodes.items own.first c.args.self.now c.args.victim c.self.invariant c.self.view_is c.requires, own.nodes.ok.0)

pub lower-requires : goal.lower-requires
lower-requires c =
    let own = c.self.inside in
    omega (
      arith,
      is_within own.nodes.items own.first c.args.self.now c.args.victim c.self.invariant c.self.view_is c.requires,
      length-append own.nodes.items (c.in_ok-rest.rest ∷ []),
      ap (λ (ns : List Node). length ns) c.in_ok-push.ensures.items,
    )

pub invariant_of-self-2 : goal.invariant_of-self-2
invariant_of-self-2 c =
    let own = c.self.inside in
    (split_becomes own.nodes.items c.push.new.self.items c.lower.new.nodes.items own.first c.args.self.now c.args.victim c.len-made.result c.args.seat c.args.cut c.index.result.now c.in_ok-rest.rest
    c.self.invariant c.self.view_is c.requires c.index.ensures (c.len-made.ensures ∙ own.nodes.ok.0) c.in_ok-rest.ensures c.in_ok-push.ensures.items c.lower.ensures).holds

pub returns-clause-segments : goal.returns-clause-segments
returns-clause-segments c =
    let own = c.self.inside in
    (split_becomes own.nodes.items c.push.new.self.items c.lower.new.nodes.items own.first c.args.self.now c.args.victim c.len-made.result c.args.seat c.args.cut c.index.result.now c.in_ok-rest.rest
    c.self.invariant c.self.view_is c.requires c.index.ensures (c.len-made.ensures ∙ own.nodes.ok.0) c.in_ok-rest.ensures c.in_ok-push.ensures.items c.lower.ensures).segments

pub returns-clause-made : goal.returns-clause-made
returns-clause-made c =
    let own = c.self.inside in
    (split_becomes own.nodes.items c.push.new.self.items c.lower.new.nodes.items own.first c.args.self.now c.args.victim c.len-made.result c.args.seat c.args.cut c.index.result.now c.in_ok-rest.rest
    c.self.invariant c.self.view_is c.requires c.index.ensures (c.len-made.ensures ∙ own.nodes.ok.0) c.in_ok-rest.ensures c.in_ok-push.ensures.items c.lower.ensures).made_is
