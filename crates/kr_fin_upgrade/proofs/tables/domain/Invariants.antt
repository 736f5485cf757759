use Rattle.std.proofs.Common.{◌≡◌, drop}
use Rattle.toml.specs.View.{items_view}
use Rattle.kr_fin_upgrade.specs.Tables.{domain_items}
use Rattle.kr_fin_upgrade.specs.Shown.{after_items}
use Rattle.kr_fin_upgrade.proofs.tables.domain.Given as goal

abbrev pub invariant-loop-one : goal.invariant-loop-one
invariant-loop-one l = domain_items l.items ≡ after_items (items_view l.array.items) (domain_items (drop l.one-index l.items))
