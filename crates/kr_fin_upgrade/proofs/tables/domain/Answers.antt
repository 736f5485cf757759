use Rattle.std.proofs.Common.{◌∙◌}
use Rattle.toml.proofs.Views.{view-Array}
use Rattle.kr_fin_upgrade.proofs.Puts.{items_end, items_next}
use Rattle.kr_fin_upgrade.proofs.tables.domain.Goals as goal

pub loop-one-preserved : goal.loop-one-preserved
loop-one-preserved c =
    items_next c.args.items.now c.loop-one.one-index c.one-item.result _ _ _ c.loop-one-test.true c.one-item.is c.loop-one.invariant c.in_ok-add_item.ensures

pub returns : goal.returns
returns c = view-Array c.loop-one.array ∙ items_end c.args.items.now c.loop-one.one-index _ _ c.loop-one-test.false c.loop-one.invariant
