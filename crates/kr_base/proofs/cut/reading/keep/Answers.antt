use Rattle.std.proofs.Common.{◌≤◌, ◌<◌, length, ◌∙◌, arith}
use Rattle.kr_base.proofs.Stages.{keeps_front, keeps_more}
use Rattle.kr_base.proofs.cut.reading.keep.Goals as goal

pub returns-then-len-ge-MOST : goal.returns-then-len-ge-MOST
returns-then-len-ge-MOST c = λ done is.
    let full : 4096 ≤ length c.args.kept.now.items = grind arith in
    keeps_front c.args.kept.now.items done c.args.number is full

pub returns : goal.returns
returns c = λ done is.
    let room : length c.args.kept.now.items < 4096 = grind arith in
    c.in_ok-push.ensures.items ∙ keeps_more c.args.kept.now.items done c.args.number is room
