use Rattle.std.proofs.Common.{◌≤◌, ◌+◌, ◌∙◌, ap, length, arith, List}
use Rattle.std.specs.Prelude.{insert}
use Rattle.kr_survey.specs.Joins.{lists}
use Rattle.kr_board.proofs.Lists.{lists-insert}
use Rattle.kr_board.proofs.edits.insert_behind.Goals as goal
use Rattle.kr_core.proofs.Places.{inserted}

pub returns : goal.returns
returns g c =
    let old = c.args.kept.now in
    let within : c.args.i + 1 ≤ length old.items = omega (arith, c.requires.within) in
    ap lists (inserted c.insert.result c.insert.new.self.items _ old.items c.insert.ensures.items (c.insert.ensures.succeeds c.requires.room))
    ∙ (lists-insert old.items (c.args.i + 1) c.new.result within ∙ ap (λ (l : List _). insert (lists old.items) (c.args.i + 1) l) c.new.ensures.items)
