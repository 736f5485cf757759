use Rattle.std.proofs.Common.{arith}
use Rattle.kr_text.proofs.Splits.{place_found, place_none}
use Rattle.kr_text.proofs.splitting.place_of.Goals as goal

pub returns-then-text-at : goal.returns-then-text-at
returns-then-text-at c = place_found c.args.byte c.args.text.now c.loop-at.at c.loop-at-test.true c.loop-at.invariant c.if-text-at.true

pub returns : goal.returns
returns c = place_none c.args.byte c.args.text.now _ (omega arith) (λ k h. c.loop-at.invariant k (omega arith))
