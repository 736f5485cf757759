use Rattle.std.proofs.Common.{◌≡◌, take}
use Rattle.std.specs.Prelude.{codes, flat_map}
use Rattle.kr_base.specs.Told.{Added}
use Rattle.kr_space_layout.specs.Bounds.{bare}
use Rattle.kr_report.specs.Joined.{are_any}
use Rattle.kr_report.specs.Names.{names_of}
use Rattle.kr_report.specs.Texts.{joined_by}
use Rattle.kr_report_rows.specs.Parts.{parameter_named}
use Rattle.kr_report_rows.proofs.parameters.put_list.Given as goal

-- the parameters of the entries so far are written
abbrev pub invariant-loop-entry : goal.invariant-loop-entry
invariant-loop-entry g l = record {
  any : l.any ≡ are_any (flat_map (parameter_named (bare l.layout) (names_of l.trees l.method)) (take l.entry-index l.structure));
  sent : Added g.K.Sink.taken g.K.Sink.faults l.fn.out l.out (joined_by (codes ",") (flat_map (parameter_named (bare l.layout) (names_of l.trees l.method)) (take l.entry-index l.structure)));
}
