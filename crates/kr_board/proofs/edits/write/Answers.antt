use Rattle.kr_board.proofs.Lists.{added_within, place_within, edited_end}
use Rattle.kr_board.proofs.edits.write.Goals as goal

pub end_at-requires : goal.end_at-requires
end_at-requires g c =
    added_within c.args.kept.now.items c.append_at.new.kept.items c.in-Append.i c.args.rows.items c.append_at.ensures (place_within c.args.edit c.in-Append.i c.in-Append.ends _ c.in-Append.is c.requires.within)

pub returns-then-ends : goal.returns-then-ends
returns-then-ends g c =
    edited_end c.args.edit c.in-Append.i c.in-Append.ends c.args.rows.items c.args.kept.now.items c.append_at.new.kept.items c.end_at.new.kept.items c.in-Append.is c.if-ends.true c.append_at.ensures c.end_at.ensures
