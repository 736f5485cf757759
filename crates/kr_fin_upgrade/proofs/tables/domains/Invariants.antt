use Rattle.std.proofs.Common.{◌≡◌, fold, drop}
use Rattle.toml.specs.Data.{no_members}
use Rattle.toml.specs.View.{members_view}
use Rattle.kr_fin_upgrade.specs.Tables.{put_domain}
use Rattle.kr_fin_upgrade.proofs.tables.domains.Given as goal

abbrev pub invariant-loop-one : goal.invariant-loop-one
invariant-loop-one l = fold (put_domain) no_members l.domains ≡ fold (put_domain) (members_view l.table.entries) (drop l.one-index l.domains)
