use Rattle.std.proofs.Common.{rules, ◌≡◌, ◌∙◌, ap, arith, is_some, sym, true}
use Rattle.std.proofs.lemmas.Grind.{common_steps}
use Rattle.kr_shard.specs.declared.order.Given.{Given}
use Rattle.kr_shard.proofs.Joins.{through_all, through_at}
use Rattle.kr_shard.proofs.merging.count_through_spent.Goals as goal

pub returns-then-is_some : goal.returns-then-is_some
returns-then-is_some c =
    let own = c.index-ordered-at.result in
    let here : is_some c.index-ordered-at.result.shard.spent ≡ true = first_of (search rules, grind (arith, common_steps)) in
    through_at c.args.ordered.now c.loop-at.at c.index-ordered-at.result c.loop-at-test.true (λ k h. c.loop-at.invariant k c.index-ordered-at.result h)
    (ap (λ (g : Given). is_some g.shard.spent) (sym c.index-ordered-at.is) ∙ here)

pub returns : goal.returns
returns c = through_all c.args.ordered.now (λ k d h. c.loop-at.invariant k d (omega arith))
