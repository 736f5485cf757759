use Rattle.std.proofs.Common.{◌≡◌, map, take}
use Rattle.std.specs.Prelude.{codes, flat_map}
use Rattle.kr_base.specs.Told.{Added}
use Rattle.kr_mean.specs.Heaps.{distinct, is_same_object}
use Rattle.kr_space_layout.specs.Bounds.{bare}
use Rattle.kr_space_problem.specs.Posed.{posed}
use Rattle.kr_report.specs.Joined.{are_any}
use Rattle.kr_report.specs.Texts.{joined_by, object_text}
use Rattle.kr_report_rows.specs.Parts.{entry_objects}
use Rattle.kr_report_rows.proofs.rows.put_objects.Given as goal

-- the objects that the entries so far name are written
abbrev pub invariant-loop-at : goal.invariant-loop-at
invariant-loop-at g l = record {
  any : l.any ≡ are_any (map (object_text (posed l.prepared.problem) l.structure) (distinct is_same_object (flat_map (entry_objects (bare l.layout)) (take l.at l.structure))));
  sent : Added g.K.Sink.taken g.K.Sink.faults l.fn.out l.out (joined_by (codes " ") (map (object_text (posed l.prepared.problem) l.structure) (distinct is_same_object (flat_map (entry_objects (bare l.layout)) (take l.at l.structure)))));
}
