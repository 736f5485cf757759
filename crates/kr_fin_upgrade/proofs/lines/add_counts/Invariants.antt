use Rattle.std.proofs.Common.{◌≡◌, fold, drop}
use Rattle.kr_fin_upgrade.specs.Shown.{lines_shown}
use Rattle.kr_fin_upgrade.specs.Upgraded.{add_line}
use Rattle.kr_fin_upgrade.proofs.lines.add_counts.Given as goal

abbrev pub invariant-loop-count : goal.invariant-loop-count
invariant-loop-count l = fold add_line (lines_shown l.initial.lines) l.counts ≡ fold add_line (lines_shown l.lines) (drop l.count-index l.counts)
