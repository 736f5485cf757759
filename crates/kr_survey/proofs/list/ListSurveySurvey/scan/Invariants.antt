use Rattle.std.proofs.Common.{take}
use Rattle.kr_base.specs.declared.span.Bound.TheVariants.{At}
use Rattle.kr_survey.proofs.Scanning.{IsFront}
use Rattle.kr_survey.proofs.list.ListSurveySurvey.scan.Given as goal

abbrev pub invariant-loop-entry : goal.invariant-loop-entry
invariant-loop-entry g l = IsFront (At l.after) l.upto l.most (take l.entry-index l.entry-items) l.rows.items l.tried
