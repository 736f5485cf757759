use Rattle.std.proofs.Common.{◌+◌, vec_len}
use Rattle.kr_board.proofs.Fronts.{moved_first}
use Rattle.kr_board.proofs.edits.move_first.Goals as goal
use Rattle.kr_core.proofs.Places.{inserted}

pub returns-clause-moved : goal.returns-clause-moved
returns-clause-moved g c =
    moved_first c.args.kept.now.items c.remove-first.new.self.items c.args.front.now c.push.new.self c.remove-first.result c.push.result c.requires.some c.remove-first.ensures.value c.remove-first.ensures.items c.push.ensures.items (c.push.ensures.succeeds c.requires.room)

pub returns-clause-len : goal.returns-clause-len
returns-clause-len g c = inserted c.push.result (vec_len c.push.new.self) (vec_len c.args.front.now + 1) (vec_len c.args.front.now) c.push.ensures.len (c.push.ensures.succeeds c.requires.room)
