use Rattle.std.proofs.Common.{◌-◌, ◌≤◌}
use Rattle.kr_lex.specs.Cursors.{Stands}
use Rattle.kr_lex.proofs.cursor.Cursor.advance.Given as goal

abbrev pub invariant-loop-cursor : goal.invariant-loop-cursor
invariant-loop-cursor l = Stands l.bytes l.cursor × (l.cursor.at ≤ l.to)

abbrev pub decreases-loop-cursor : goal.decreases-loop-cursor
decreases-loop-cursor l = l.to - l.cursor.at
