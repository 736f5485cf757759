use Rattle.kr_board.proofs.Lists.{lists_added, room_get}
use Rattle.kr_board.proofs.edits.append_at.Goals as goal
use Rattle.kr_core.proofs.Places.{inserted}

pub returns : goal.returns
returns g c =
    let room = room_get c.args.kept.now.items c.args.i _ c.index_mut.result.now c.requires.within c.index_mut.ensures.value c.requires.room in
    lists_added c.args.kept.now.items c.args.i c.index_mut.result.now c.append.new.self c.args.rows.items c.requires.within c.index_mut.ensures.value (inserted c.append.result c.append.new.self.items _ c.index_mut.result.now.items c.append.ensures.items (c.append.ensures.succeeds room))
