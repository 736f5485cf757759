use Rattle.std.proofs.Common.{◌∙◌, ap, arith, sym}
use Rattle.kr_base.specs.Cuts.{is_before}
use Rattle.kr_shard.specs.Merging.{from_of}
use Rattle.kr_shard.specs.declared.order.Given.{Given}
use Rattle.kr_shard.proofs.Orders.{place_found, place_last, same_read}
use Rattle.kr_shard.proofs.order.place_for.Goals as goal

pub returns-then-not-is_below : goal.returns-then-not-is_below
returns-then-not-is_below c =
    place_found c.args.ordered.now c.args.from.now c.loop-at.at c.loop-at-test.true c.loop-at.invariant
    (λ d. ap (λ (g : Given). is_before (from_of g) c.args.from.now) (same_read c.args.ordered.now c.loop-at.at d c.index-ordered-at.result c.loop-at-test.true) ∙ (sym c.is_below.ensures ∙ c.if-not-is_below.true))

pub returns : goal.returns
returns c = place_last c.args.ordered.now c.args.from.now _ (omega arith) (λ k d h. c.loop-at.invariant k d (omega arith))
