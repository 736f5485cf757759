use Rattle.kr_space.proofs.Laid.{elements_next}
use Rattle.kr_space.proofs.array_domains.add_elements.Goals as goal

pub loop-at-preserved : goal.loop-at-preserved
loop-at-preserved c = λ domains.
    elements_next domains _ c.loop-at.spots c.push.new.self c.loop-at.at c.args.count c.args.domain c.loop-at-test.true c.in_ok-push.ensures.added (c.loop-at.invariant domains)
