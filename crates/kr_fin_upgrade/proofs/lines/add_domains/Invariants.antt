use Rattle.std.proofs.Common.{◌≡◌, fold, drop}
use Rattle.kr_fin_upgrade.specs.Shown.{lines_shown}
use Rattle.kr_fin_upgrade.specs.Upgraded.{add_line, domain_lines}
use Rattle.kr_fin_upgrade.proofs.lines.add_domains.Given as goal

abbrev pub invariant-loop-domain : goal.invariant-loop-domain
invariant-loop-domain l = fold add_line (lines_shown l.initial.lines) (domain_lines l.domains) ≡ fold add_line (lines_shown l.lines) (domain_lines (drop l.domain-index l.domains))
