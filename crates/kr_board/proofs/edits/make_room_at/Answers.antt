use Rattle.kr_board.proofs.Lists.{lists_same, room_set}
use Rattle.kr_board.proofs.edits.make_room_at.Goals as goal

pub returns-clause-same : goal.returns-clause-same
returns-clause-same g c = lists_same c.args.kept.now.items c.args.i c.index_mut.result.now c.reserve.new.self c.requires c.index_mut.ensures.value c.reserve.ensures.items

pub returns-clause-room : goal.returns-clause-room
returns-clause-room g c = room_set c.args.kept.now.items c.args.i c.args.extra c.reserve.new.self c.requires c.in_ok-reserve.ensures.ok

pub returns-in_err-reserve-clause-same : goal.returns-in_err-reserve-clause-same
returns-in_err-reserve-clause-same g c = lists_same c.args.kept.now.items c.args.i c.index_mut.result.now c.reserve.new.self c.requires c.index_mut.ensures.value c.reserve.ensures.items
