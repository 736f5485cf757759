use Rattle.std.proofs.Common.{refl, true, false}
use Rattle.kr_core.specs.Steps.{owned, scanned}
use Rattle.kr_trace.specs.Chains.{with}
use Rattle.kr_trace.proofs.Views.{in_place_becomes}
use Rattle.kr_trace.proofs.chain.Chain.scan_to.Goals as goal

pub invariant_of-self : goal.invariant_of-self
invariant_of-self c =
    let own = c.self.inside in
    (in_place_becomes own.nodes.items c.scan_to.new.nodes.items own.first c.args.self.now c.args.number (scanned c.args.reach c.args.rows c.args.tried false) (λ t. refl) c.self.invariant c.self.view_is c.scan_to.ensures).holds

pub returns-clause-segments : goal.returns-clause-segments
returns-clause-segments c =
    let own = c.self.inside in
    (in_place_becomes own.nodes.items c.scan_to.new.nodes.items own.first c.args.self.now c.args.number (scanned c.args.reach c.args.rows c.args.tried false) (λ t. refl) c.self.invariant c.self.view_is c.scan_to.ensures).segments

pub returns-clause-made : goal.returns-clause-made
returns-clause-made c =
    let own = c.self.inside in
    (in_place_becomes own.nodes.items c.scan_to.new.nodes.items own.first c.args.self.now c.args.number (scanned c.args.reach c.args.rows c.args.tried false) (λ t. refl) c.self.invariant c.self.view_is c.scan_to.ensures).made_is
