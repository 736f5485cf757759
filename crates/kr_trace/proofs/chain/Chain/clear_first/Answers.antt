use Rattle.std.proofs.Common.{◌∙◌, ap, sym, arith, refl}
use Rattle.kr_trace.specs.Chains.{Made, cleared, ended_at, ended_first, without_rows}
use Rattle.kr_trace.proofs.Views.{first_becomes, first_cleared, first_ended, first_within, no_first}
use Rattle.kr_trace.proofs.chain.Chain.clear_first.Goals as goal

pub clear_rows-requires : goal.clear_rows-requires
clear_rows-requires c = let own = c.self.inside in first_within own.nodes.items own.first c.in-Some.at c.self.invariant c.in-Some.is

pub invariant_of-self : goal.invariant_of-self
invariant_of-self c =
    let own = c.self.inside in
    (first_becomes own.nodes.items c.clear_rows.new.nodes.items own.first c.args.self.now c.in-Some.at (cleared) (λ t. refl) c.self.invariant c.self.view_is c.in-Some.is c.clear_rows.ensures).holds

pub returns-in-Some-clause-segments : goal.returns-in-Some-clause-segments
returns-in-Some-clause-segments c =
    let own = c.self.inside in
    (first_becomes own.nodes.items c.clear_rows.new.nodes.items own.first c.args.self.now c.in-Some.at (cleared) (λ t. refl) c.self.invariant c.self.view_is c.in-Some.is c.clear_rows.ensures).segments ∙ first_cleared c.args.self.now.segments

pub returns-in-Some-clause-made : goal.returns-in-Some-clause-made
returns-in-Some-clause-made c =
    let own = c.self.inside in
    (first_becomes own.nodes.items c.clear_rows.new.nodes.items own.first c.args.self.now c.in-Some.at (cleared) (λ t. refl) c.self.invariant c.self.view_is c.in-Some.is c.clear_rows.ensures).made_is
