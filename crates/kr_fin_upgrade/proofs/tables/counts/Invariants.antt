use Rattle.std.proofs.Common.{◌≡◌, fold}
use Rattle.toml.specs.Data.{no_members}
use Rattle.toml.specs.View.{members_view}
use Rattle.kr_fin_upgrade.specs.Shown.{entries_shown}
use Rattle.kr_fin_upgrade.specs.Tables.{put_count}
use Rattle.kr_fin_upgrade.proofs.tables.counts.Given as goal

abbrev pub invariant-loop-name : goal.invariant-loop-name
invariant-loop-name l = fold (put_count 2) no_members (entries_shown l.lines.entries) ≡ fold (put_count 2) (members_view l.table.entries) (entries_shown l.name-iterator)
