use Rattle.std.proofs.Common.{◌++◌, ◌∷◌, [], ◌∙◌, ap, List}
use Rattle.std.specs.Prelude.{replicate}
use Rattle.std.proofs.lemmas.List.{replicate_more}
use Rattle.kr_survey.specs.Joins.{lists}
use Rattle.kr_board.proofs.Lists.{lists-append}
use Rattle.kr_board.proofs.edits.empty_lists.Goals as goal

pub loop-made-preserved : goal.loop-made-preserved
loop-made-preserved g c =
    ap lists c.in_ok-push.ensures.items
    ∙ (lists-append c.loop-made.kept.items (c.new.result ∷ [])
    ∙ (ap (λ (ls : List (List g.row.R.Denot)). ls ++ c.new.result.items ∷ []) c.loop-made.invariant
    ∙ (ap (λ (l : List g.row.R.Denot). replicate c.loop-made.made [] ++ l ∷ []) c.new.ensures.items ∙ replicate_more c.loop-made.made [])))
