use Rattle.std.proofs.Common.{◌∙◌, ap, sym, arith, refl}
use Rattle.kr_trace.specs.Chains.{Made, cleared, ended_at, ended_first, without_rows}
use Rattle.kr_trace.proofs.Views.{first_becomes, first_cleared, first_ended, first_within, no_first}
use Rattle.kr_trace.proofs.chain.Chain.end_first.Goals as goal

pub end_segment-requires : goal.end_segment-requires
end_segment-requires c = let own = c.self.inside in first_within own.nodes.items own.first c.in-Some.at c.self.invariant c.in-Some.is

pub invariant_of-self : goal.invariant_of-self
invariant_of-self c =
    let own = c.self.inside in
    (first_becomes own.nodes.items c.end_segment.new.nodes.items own.first c.args.self.now c.in-Some.at (ended_at c.args.mark) (λ t. refl) c.self.invariant c.self.view_is c.in-Some.is c.end_segment.ensures).holds

pub returns-in-Some-clause-segments : goal.returns-in-Some-clause-segments
returns-in-Some-clause-segments c =
    let own = c.self.inside in
    (first_becomes own.nodes.items c.end_segment.new.nodes.items own.first c.args.self.now c.in-Some.at (ended_at c.args.mark) (λ t. refl) c.self.invariant c.self.view_is c.in-Some.is c.end_segment.ensures).segments ∙ first_ended c.args.mark c.args.self.now.segments

pub returns-in-Some-clause-made : goal.returns-in-Some-clause-made
returns-in-Some-clause-made c =
    let own = c.self.inside in
    (first_becomes own.nodes.items c.end_segment.new.nodes.items own.first c.args.self.now c.in-Some.at (ended_at c.args.mark) (λ t. refl) c.self.invariant c.self.view_is c.in-Some.is c.end_segment.ensures).made_is
