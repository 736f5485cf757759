use Rattle.std.proofs.Common.{◌≡◌, ◌++◌, map, drop}
use Rattle.kr_classes_table.specs.Table.{fields_of}
use Rattle.kr_classes_members.specs.Shown.{field_shown}
use Rattle.kr_space_layout.specs.Bounds.{spotted}
use Rattle.kr_space_meaning.specs.Bounds.{field_spots}
use Rattle.kr_space_rules.specs.Classes.{table_of}
use Rattle.kr_space.specs.Basis.{setting_on}
use Rattle.kr_space.specs.Pools.{pool}
use Rattle.kr_space.proofs.object_domains.field_spots.Given as goal

abbrev pub invariant-loop-at : goal.invariant-loop-at
invariant-loop-at l =
    field_spots (setting_on l.basis) 0 (fields_of (table_of l.basis.classes.now) l.class)
    ≡ map (spotted (pool (setting_on l.basis) l.basis.document.now)) l.spots ++ field_spots (setting_on l.basis) l.at (map (field_shown l.basis.classes.now.trees.now) (drop l.at l.fields.items))
