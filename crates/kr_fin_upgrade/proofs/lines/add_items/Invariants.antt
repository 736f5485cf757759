use Rattle.std.proofs.Common.{◌≡◌, fold, drop}
use Rattle.std.specs.Prelude.{flat_map}
use Rattle.kr_fin_upgrade.specs.Shown.{lines_shown}
use Rattle.kr_fin_upgrade.specs.Upgraded.{add_line, item_lines}
use Rattle.kr_fin_upgrade.proofs.lines.add_items.Given as goal

abbrev pub invariant-loop-item : goal.invariant-loop-item
invariant-loop-item l = fold add_line (lines_shown l.initial.lines) (flat_map item_lines l.items) ≡ fold add_line (lines_shown l.lines) (flat_map item_lines (drop l.item-index l.items))
