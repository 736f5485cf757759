use Rattle.std.proofs.Common.{◌-◌, length, take, drop, arith}
use Rattle.kr_shard.proofs.Fronts.{body_made, body_refused, front_count, rest_whole}
use Rattle.kr_shard.proofs.reading.read_body.Goals as goal

pub read_ending-requires : goal.read_ending-requires
read_ending-requires c =
    let few = front_count c.args.span.now c.args.text.now c.in_ok-front.front c.in_ok-front.ensures in
    omega (arith, few)

pub returns-in-Err : goal.returns-in-Err
returns-in-Err c =
    let text = c.args.text.now in
    let front = c.in_ok-front.front in
    body_refused c.args.span.now c.args.text.now (take (length text - front.len) (drop front.len text)) c.in_ok-front.front c.in_ok-front.ensures c.in-Err.refusal (rest_whole front.len text) c.in-Err.ensures

pub returns : goal.returns
returns c =
    let text = c.args.text.now in
    let front = c.in_ok-front.front in
    body_made c.args.span.now c.args.text.now (take (length text - front.len) (drop front.len text)) c.in_ok-front.front c.in_ok-front.ensures c.in_ok-rows-in-Ok.rows c.in-Ok.ending (rest_whole front.len text)
    c.in_ok-rows-in-Ok.ensures c.in-Ok.ensures
