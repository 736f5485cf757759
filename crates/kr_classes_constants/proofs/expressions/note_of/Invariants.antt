use Rattle.std.proofs.Common.{◌≡◌, List, length}
use Rattle.kr_classes_table.specs.Constants.{Known}
use Rattle.kr_ast.specs.Files.{file_at}
use Rattle.kr_classes_members.specs.Shown.{table_in}
use Rattle.kr_classes_constants.specs.Kept.{AreValues}
use Rattle.kr_classes_constants.specs.Frames.{AreWithin, IsWithin, outcome_at, setting, weights, whole}
use Rattle.kr_classes_constants.proofs.expressions.note_of.Given as goal

abbrev pub invariant-loop-task : goal.invariant-loop-task
invariant-loop-task l = record {
  here : IsWithin (length (file_at l.trees l.site.file).entries) l.task;
  within : AreWithin (length (file_at l.trees l.site.file).entries) l.frames;
  same : (known : List Known) → AreValues known l.values
      → whole (setting (table_in l.trees) known l.site.class (file_at l.trees l.site.file)) l.task l.frames
      ≡ outcome_at (setting (table_in l.trees) known l.site.class (file_at l.trees l.site.file)) l.node;
}

abbrev pub decreases-loop-task : goal.decreases-loop-task
decreases-loop-task l = weights (file_at l.trees l.site.file) l.task l.frames
