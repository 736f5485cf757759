use Rattle.std.proofs.Common.{◌<◌, ◌^◌, length, sym, subst, ◌∙◌}
use Rattle.kr_mean.specs.Problem.{Problem, slots}
use Rattle.kr_mean.specs.Space.{Space, IsVector}
use Rattle.kr_run_state.specs.Worlds.{state_of}
use Rattle.kr_space_layout.specs.Bounds.{Bounds, bare}
use Rattle.kr_space_problem.specs.Posed.{posed}
use Rattle.kr_judge_prepared.proofs.Laid.{space_same, well_formed}
use Rattle.kr_contract.specs.Kept.{IsKept}
use Rattle.kr_contract.proofs.Verdicts.{all_tested, begun_laid}
use Rattle.kr_contract.proofs.tester.judge.Goals as goal

pub bring-requires-clause-well : goal.bring-requires-clause-well
bring-requires-clause-well c = well_formed (posed c.args.prepared.now.problem) c.layout-layout.result.now c.layout-layout.ensures.laid c.laws.ensures.well

pub bring-requires-clause-vector : goal.bring-requires-clause-vector
bring-requires-clause-vector c = subst (λ (s : Space). IsVector s c.args.vector.now) (space_same (posed c.args.prepared.now.problem) c.layout-layout.result.now c.layout-layout.ensures.laid) c.requires.vector

pub bring-requires-clause-small : goal.bring-requires-clause-small
bring-requires-clause-small c = subst (λ (p : Problem). length (slots p) < 2 ^ 31) c.layout-layout.ensures.laid c.laws.ensures.small

pub bring-requires-clause-kept : goal.bring-requires-clause-kept
bring-requires-clause-kept c = subst (λ (b : Bounds). IsKept (bare b) c.args.rooms.now.kept) (sym c.layout-layout.ensures.same) c.requires.kept

pub begin-requires-clause-vector : goal.begin-requires-clause-vector
begin-requires-clause-vector c = subst (λ (s : Space). IsVector s c.args.vector.now) (space_same (posed c.args.prepared.now.problem) c.layout-layout.result.now c.layout-layout.ensures.laid) c.requires.vector

pub begin-requires-clause-small : goal.begin-requires-clause-small
begin-requires-clause-small c = subst (λ (p : Problem). length (slots p) < 2 ^ 31) c.layout-layout.ensures.laid c.laws.ensures.small

pub returns-clause-kept : goal.returns-clause-kept
returns-clause-kept c = subst (λ (b : Bounds). IsKept (bare b) c.bring.new.kept) c.layout-layout.ensures.same c.bring.ensures.kept

pub returns-clause-verdict : goal.returns-clause-verdict
returns-clause-verdict c =
    let P = posed c.args.prepared.now.problem in
    let v = c.args.vector.now in
    all_tested P (record { predicate = c.predicate-predicate.result.now; contract = c.args.prepared.now.contract }) c.predicate-predicate.ensures.tested v c.args.fuel c.args.contract.now c.rep_ok-root.result (state_of c.begin.new.world) c.test-verdict.result c.requires.contract
    (c.in_ok-begin.ensures.state ∙ begun_laid P c.layout-layout.result.now v c.args.fuel c.layout-layout.ensures.laid) c.rep_ok-root.ensures c.test-verdict.ensures
