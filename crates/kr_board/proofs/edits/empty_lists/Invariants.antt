use Rattle.std.proofs.Common.{◌≡◌, []}
use Rattle.std.specs.Prelude.{replicate}
use Rattle.kr_survey.specs.Joins.{lists}
use Rattle.kr_board.proofs.edits.empty_lists.Given as goal

abbrev pub invariant-loop-made : goal.invariant-loop-made
invariant-loop-made g l = lists l.kept.items ≡ replicate l.made []
