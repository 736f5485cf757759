use Rattle.std.proofs.Common.{◌≡◌, ◌+◌, ℕ, List, drop, arith, ap}
use Rattle.std.proofs.lemmas.List.{drop_more}
use Rattle.kr_core.specs.declared.event.Event.{Event}
use Rattle.kr_core.specs.Rows.{drained, drains}
use Rattle.kr_pool.proofs.alone.wanted_after.Goals as goal

pub loop-event-preserved : goal.loop-event-preserved
loop-event-preserved c =
    let i = c.loop-event.invariant in
    let next = ap (λ (l : List Event). drained l) (drop_more c.args.log.now c.loop-event.event-index c.event-item.result c.loop-event-test.true) in
    let same = ap (λ (e : Event). drains e) c.event-item.is in
    let count = c.drains.ensures in
    let before = i.2 in
    (i.0 + c.drains.result, c.after-wanted.ensures c.args.limit i.0 i.1, omega (arith, before, next, same, count))
