use Rattle.std.proofs.Common.{◌≡◌, drop, take}
use Rattle.std.specs.Prelude.{flat_map}
use Rattle.kr_iso.specs.Objects.{object_of}
use Rattle.kr_space_layout.specs.Bounds.{bare}
use Rattle.kr_report_rows.specs.Parts.{entry_objects, is_new}
use Rattle.kr_report_rows.proofs.objects.is_first.Given as goal

-- the object is new exactly if the entries that are left of so many don't name it
abbrev pub invariant-loop-entry : goal.invariant-loop-entry
invariant-loop-entry l =
    is_new (flat_map (entry_objects (bare l.layout)) (take l.count l.structure)) (object_of l.object)
    ≡ is_new (flat_map (entry_objects (bare l.layout)) (take l.left (drop l.entry-index l.structure))) (object_of l.object)
