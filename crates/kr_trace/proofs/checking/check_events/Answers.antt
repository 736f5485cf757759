use Rattle.std.proofs.Common.{arith}
use Rattle.kr_trace.proofs.Sections.{lines_short}
use Rattle.kr_trace.proofs.checking.check_events.Goals as goal

pub end_log-requires : goal.end_log-requires
end_log-requires c = omega (arith, c.requires.small, c.in_ok-count.ensures.count, lines_short c.args.text.now)
