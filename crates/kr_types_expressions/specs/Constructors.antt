-- Between crates: classes with at most one constructor, as class rule C4 asks.
use Rattle.std.specs.Prelude.{ℕ, ◌<◌, List, length, flat_map, option_to_list}
use Rattle.kr_classes_table.specs.Table.{Table, Constructor, class_at}

abbrev pub constructors_of : Table → ℕ → List Constructor
constructors_of t c = flat_map (λ d. d.constructors) (option_to_list (class_at t.classes c))

abbrev pub IsSingle : Table → ℕ → Type 0
IsSingle t c = length (constructors_of t c) < 2

abbrev pub AreSingle : Table → Type 0
AreSingle t = (c : ℕ) → IsSingle t c
