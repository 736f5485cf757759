use Rattle.std.proofs.Common.{arith}
use Rattle.kr_text.proofs.Splits.{place_found, place_none}
use Rattle.kr_emit.proofs.objects.position.Goals as goal

pub returns-then-objects-at : goal.returns-then-objects-at
returns-then-objects-at c = place_found c.args.object c.args.objects.now c.loop-at.at c.loop-at-test.true c.loop-at.invariant c.if-objects-at.true

pub returns : goal.returns
returns c = place_none c.args.object c.args.objects.now _ (omega arith) (λ k h. c.loop-at.invariant k (omega arith))
