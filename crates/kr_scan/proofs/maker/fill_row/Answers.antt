use Rattle.std.proofs.Common.{◌≡◌, ◌∙◌, sym, subst}
use Rattle.kr_mean.specs.Space.{Space, IsVector}
use Rattle.kr_mean.specs.Verdicts.{verdict_of}
use Rattle.kr_space_problem.specs.Posed.{posed}
use Rattle.kr_judge_prepared.specs.Preparing.{Ready}
use Rattle.kr_judge_prepared.proofs.Laid.{space_same, well_formed}
use Rattle.kr_scan.proofs.Rows.{row_is, structure_same}
use Rattle.kr_scan.proofs.maker.fill_row.Goals as goal

pub fill_structure-requires-clause-well : goal.fill_structure-requires-clause-well
fill_structure-requires-clause-well c = well_formed (posed c.args.prepared.now.problem) c.layout-layout.result.now c.layout-layout.ensures.laid c.laws.ensures.well

pub fill_structure-requires-clause-vector : goal.fill_structure-requires-clause-vector
fill_structure-requires-clause-vector c =
    subst (λ (s : Space). IsVector s c.args.vector.now) (space_same (posed c.args.prepared.now.problem) c.layout-layout.result.now c.layout-layout.ensures.laid) c.requires.vector

pub returns-clause-row : goal.returns-clause-row
returns-clause-row c =
    let P = posed c.args.prepared.now.problem in
    let v = c.args.vector.now in
    let verdict = subst (λ (r : Ready). c.in_ok-row.field-0 ≡ verdict_of (posed r.problem) v) c.requires.tester c.in_ok-row.ensures.verdict in
    row_is P v c.assign.new.self c.fill_structure.new.structure c.in_ok-row.field-0 verdict (c.in_ok-assign.ensures ∙ c.requires.key)
    (c.in_ok-fill_structure.ensures ∙ sym (structure_same P c.layout-layout.result.now v c.layout-layout.ensures.laid))
