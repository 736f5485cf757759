-- Between crates: names with their numbers of objects, in a map, as object domains; items after others.
use Rattle.std.specs.Prelude.{ℕ, List, [], ◌∷◌, String, string_bytes}
use Rattle.std.specs.BTreeMap.{BTreeMap}
use Rattle.std.specs.declared.alloc.Global.{Global}
use Rattle.toml.specs.Data.{Items, no_items, item}
use Rattle.kr_fin.specs.declared.document.Count.{Count}
use Rattle.kr_fin_upgrade.specs.Upgraded.{line}

abbrev pub entries_shown : List (String Global × ℕ) → List Count
entries_shown [] = []
entries_shown (e ∷ es) = line (string_bytes e.0) e.1 ∷ entries_shown es

abbrev pub lines_shown : BTreeMap (String Global) ℕ → List Count
lines_shown m = entries_shown m.entries

abbrev pub after_items : Items → Items → Items
after_items no_items ds = ds
after_items (item d more) ds = item d (after_items more ds)
