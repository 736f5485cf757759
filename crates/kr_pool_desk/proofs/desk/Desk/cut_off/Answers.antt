use Rattle.kr_pool_desk.proofs.Laid.{cuts_off, lays_one}
use Rattle.kr_pool_desk.proofs.desk.Desk.cut_off.Goals as goal

pub returns-in-Ok-Some-clause-laid : goal.returns-in-Ok-Some-clause-laid
returns-in-Ok-Some-clause-laid g c =
    let old = c.args.self.now.0 in
    let middle = c.split.new.self.0 in
    let new = c.give_up.new.self.0 in
    let lease = c.args.lease in
    let rest = c.in-Ok-Some.rest in
    let e = rw c.in-Ok-Some.field-0-is at c.in-Ok-Some.ensures in
    lays_one old new lease _ (cuts_off c.args.seat old middle new lease rest c.give_up.result c.requires.lease.seat_is e.cut e.event e.owned c.give_up.ensures.unowned c.give_up.ensures.event)
