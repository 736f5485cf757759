use Rattle.std.proofs.Common.{◌≡◌, fold, drop}
use Rattle.toml.specs.View.{items_view}
use Rattle.kr_fin.specs.Faults.{values}
use Rattle.kr_fin.specs.Order.{lesser}
use Rattle.kr_fin.proofs.judge.values.Given as goal

abbrev pub invariant-loop-one : goal.invariant-loop-one
invariant-loop-one l =
    fold lesser l.initial.least (values l.purpose l.at (items_view l.array.items))
    ≡ fold lesser l.least (values l.purpose l.at (items_view (drop l.one-index l.array.items)))
