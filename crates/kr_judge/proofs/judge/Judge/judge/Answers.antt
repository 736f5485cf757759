use Rattle.std.proofs.Common.{[], refl}
use Rattle.std.specs.Prelude.{flat_map}
use Rattle.kr_mean.specs.Runs.{slots_for}
use Rattle.kr_space_layout.specs.Bounds.{bare}
use Rattle.kr_judge.specs.Orders.{with_slots}
use Rattle.kr_judge.proofs.Ends.{order_is}
use Rattle.kr_judge.proofs.judge.Judge.judge.Goals as goal

pub returns-clause-order : goal.returns-clause-order
returns-clause-order g c = λ program n p.
    let r = c.in_ok-ran.ensures.run program n p in
    order_is program c.args.layout.now c.args.vector.now c.in_ok-ran.ran.end c.in_ok-ran.ran.reads (with_slots [] (flat_map (slots_for (bare c.args.layout.now)) c.in_ok-ran.ran.reads)) c.take_order.new.self r.ends r.reads refl c.in_ok-take_order.ensures
