use Rattle.std.proofs.Common.{◌-◌}
use Rattle.kr_lex.specs.Reading.{IsReading}
use Rattle.kr_lex.proofs.lexer.read_all.Given as goal

abbrev pub invariant-loop-progress : goal.invariant-loop-progress
invariant-loop-progress l = IsReading l.file l.bytes l.valid l.items.items l.progress

abbrev pub decreases-loop-progress : goal.decreases-loop-progress
decreases-loop-progress l = l.valid - l.progress.cursor.at
