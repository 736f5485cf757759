use Rattle.std.proofs.Common.{◌≡◌, map, take}
use Rattle.std.specs.Prelude.{codes, flat_map}
use Rattle.kr_base.specs.Told.{Added}
use Rattle.kr_classes_members.specs.Shown.{field_name}
use Rattle.kr_iso.specs.Objects.{object_of}
use Rattle.kr_space_layout.specs.Bounds.{bare}
use Rattle.kr_report.specs.Joined.{are_any}
use Rattle.kr_report.specs.Texts.{joined_by}
use Rattle.kr_report_rows.specs.Parts.{entry_named}
use Rattle.kr_report_rows.proofs.parts.put_parts.Given as goal

-- what the entries so far have of the object is written
abbrev pub invariant-loop-entry : goal.invariant-loop-entry
invariant-loop-entry g l = record {
  any : l.any ≡ are_any (flat_map (entry_named (bare l.layout) (map (field_name l.trees) l.fields) (object_of l.fn.object)) (take l.entry-index l.structure));
  sent : Added g.K.Sink.taken g.K.Sink.faults l.fn.out l.out (joined_by (codes ",") (flat_map (entry_named (bare l.layout) (map (field_name l.trees) l.fields) (object_of l.fn.object)) (take l.entry-index l.structure)));
}
