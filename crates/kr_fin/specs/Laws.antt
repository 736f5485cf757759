-- Between crates: what holds of the definitions, in other words than theirs.
use Rattle.std.specs.Prelude.{◌≡◌, ℕ, List, [], length}
use Rattle.toml.specs.Data.{Data}
use Rattle.kr_fin.specs.declared.shapes.Purpose.{Purpose}
use Rattle.kr_fin.specs.Document.{item_of}
use Rattle.kr_fin.specs.Faults.{value}
use Rattle.kr_fin.specs.Least as by
use Rattle.kr_fin.specs.Order.{rank_of}

-- the least is there where there are faults, and is the least of them
abbrev pub LeastLaw : Type 0
LeastLaw = by.LeastLaw rank_of

-- a value of a domain that breaks no rule is one item of it
abbrev pub ItemLaw : Type 0
ItemLaw = (purpose : Purpose) (at : List ℕ) (d : Data) → value purpose at d ≡ [] → length (item_of d) ≡ 1
