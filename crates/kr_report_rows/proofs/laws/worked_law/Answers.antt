use Rattle.std.proofs.Common.{refl}
use Rattle.std.specs.Fmt.{digits}
use Rattle.kr_report.specs.Texts.{structure_text}
use Rattle.kr_report_rows.proofs.laws.worked_law.Goals as goal

pub returns : goal.returns
unfolding structure_text digits
returns c = refl
