use Rattle.std.proofs.Common.{◌≡◌, ◌++◌, drop}
use Rattle.toml.specs.View.{items_view}
use Rattle.kr_fin.specs.Document.{items_of}
use Rattle.kr_fin.proofs.reading.items_of.Given as goal

abbrev pub invariant-loop-value : goal.invariant-loop-value
invariant-loop-value l =
    items_of (items_view l.array.items) ≡ l.domain ++ items_of (items_view (drop l.value-index l.array.items))
