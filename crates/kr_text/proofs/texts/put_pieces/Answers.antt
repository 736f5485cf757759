use Rattle.std.proofs.Common.{◌++◌, ◌+◌, [], drop, refl, get_or}
use Rattle.kr_base.specs.Writing.{stopped_then, stopped_early, added_then, writes_exit}
use Rattle.kr_text.specs.Texts.{joined}
use Rattle.kr_text.proofs.Pieces.{sent_more}
use Rattle.kr_text.proofs.texts.put_pieces.Goals as goal

pub returns-in_err-put_all : goal.returns-in_err-put_all
returns-in_err-put_all g c =
    let i = c.loop-piece.piece-index in
    let ps = c.args.pieces.now in
    writes_exit c.from_residual.result c.from_residual.ensures.0
    (stopped_early (joined (drop (i + 1) ps)) (stopped_then c.loop-piece.invariant.2 c.in_err-put_all.ensures refl)
    (sent_more ps i _ c.loop-piece.invariant.0 c.loop-piece-test.true c.loop-piece.invariant.1))

pub loop-piece-preserved : goal.loop-piece-preserved
loop-piece-preserved g c =
    let i = c.loop-piece.piece-index in
    let ps = c.args.pieces.now in
    let sent = c.loop-piece.invariant.0 in (
      sent ++ (get_or ps i (record { ref_ptr = (0, 0); now = [] })).now,
      sent_more ps i _ sent c.loop-piece-test.true c.loop-piece.invariant.1,
      added_then c.loop-piece.invariant.2 c.in_ok-put_all.ensures refl,
    )
