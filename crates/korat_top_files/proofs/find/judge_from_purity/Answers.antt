use Rattle.std.proofs.Common.{sym, ap}
use Rattle.kr_space_problem.specs.Posed.{posed}
use Rattle.korat_top_files.proofs.find.judge_from_purity.Goals as goal

pub returns : goal.returns
returns c = record { judged = (tt, c.in_ok-subject.ensures.pure, ap posed (sym c.new.ensures)) }
