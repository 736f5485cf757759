use Rattle.std.proofs.Common.{◌++◌, ◌+◌, drop, refl}
use Rattle.kr_base.specs.Writing.{stopped_then, stopped_early, added_then, writes_exit}
use Rattle.kr_shard.proofs.Pieces.{all_bytes, sent_more}
use Rattle.kr_shard.proofs.writing.put_rows.Goals as goal

pub returns-in_err-put_all : goal.returns-in_err-put_all
returns-in_err-put_all g c =
    let i = c.loop-at.at in
    let all = c.args.rows.now in
    writes_exit c.from_residual.result c.from_residual.ensures.0
    (stopped_early (all_bytes (drop (i + 1) all)) (stopped_then c.loop-at.invariant.2 (rw c.as_bytes.ensures at c.in_err-put_all.ensures) refl)
    (sent_more all i c.get.result.now c.loop-at.invariant.0 c.get.ensures c.loop-at.invariant.1))

pub loop-at-preserved : goal.loop-at-preserved
loop-at-preserved g c =
    let sent = c.loop-at.invariant.0 in (
      sent ++ c.get.result.now.bytes,
      sent_more c.args.rows.now c.loop-at.at c.get.result.now sent c.get.ensures c.loop-at.invariant.1,
      added_then c.loop-at.invariant.2 (rw c.as_bytes.ensures at c.in_ok-put_all.ensures) refl,
    )
