use Rattle.std.proofs.Common.{sym, ap, ◌∙◌}
use Rattle.kr_base.specs.declared.span.Bound.{Bound}
use Rattle.kr_base.specs.declared.span.Bound.TheVariants.{At}
use Rattle.kr_base.specs.Bounds.{less}
use Rattle.kr_deque.proofs.Following.{ahead_at, refused, one_more, last_says}
use Rattle.kr_deque.proofs.joining.check_from.Goals as goal
use Rattle.kr_base.proofs.Bounds.{asymmetric}

pub loop-piece-init : goal.loop-piece-init
loop-piece-init g c = (
  sym c.requires.start,
  ap (λ (b : Bound). less c.args.asked.now.upto b) c.requires.start ∙ asymmetric (At c.args.asked.now.after) c.args.asked.now.upto c.requires.asked,
)

pub check_next-requires : goal.check_next-requires
check_next-requires g c = (ahead_at c.args.pieces.now c.loop-piece.piece-index c.piece-item.result c.loop-piece-test.true c.piece-item.is c.requires.ahead).1.0

pub returns-in-Err : goal.returns-in-Err
returns-in-Err g c =
    refused c.args.asked.now c.args.pieces.now c.loop-piece.piece-index c.piece-item.result c.loop-piece.at.now c.in-Err.refusal c.requires.ahead c.requires.sorted c.loop-piece-test.true c.piece-item.is c.loop-piece.invariant.0
    c.loop-piece.invariant.1 c.in-Err.ensures

pub loop-piece-preserved : goal.loop-piece-preserved
loop-piece-preserved g c = (
  one_more (At c.args.asked.now.after) c.args.pieces.now c.loop-piece.piece-index c.piece-item.result c.loop-piece.at.now c.loop-piece-test.true c.piece-item.is c.loop-piece.invariant.0 c.in-Ok.ensures.0,
  c.in-Ok.ensures.1,
)

pub returns : goal.returns
returns g c =
    last_says c.args.asked.now c.args.pieces.now c.loop-piece.piece-index c.loop-piece.at.now c.check_end.result c.requires.ahead c.loop-piece-test.false c.loop-piece.invariant.0 c.check_end.ensures
