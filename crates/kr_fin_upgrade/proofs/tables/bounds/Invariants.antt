use Rattle.std.proofs.Common.{◌≡◌, fold, drop}
use Rattle.toml.specs.Data.{no_members}
use Rattle.toml.specs.View.{members_view}
use Rattle.kr_fin_upgrade.specs.Tables.{put_bound}
use Rattle.kr_fin_upgrade.proofs.tables.bounds.Given as goal

abbrev pub invariant-loop-one : goal.invariant-loop-one
invariant-loop-one l = fold (put_bound) no_members l.bounds ≡ fold (put_bound) (members_view l.table.entries) (drop l.one-index l.bounds)
