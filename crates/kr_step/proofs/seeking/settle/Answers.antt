use Rattle.std.proofs.Common.{◌≡◌, length, sym, ap, ◌∙◌, arith}
use Rattle.kr_step.proofs.Turns.{settled, ended}
use Rattle.kr_step.proofs.seeking.settle.Goals as goal

pub returns-then-depth-order-clause-stands : goal.returns-then-depth-order-clause-stands
returns-then-depth-order-clause-stands g c =
    let S = g.C.Slots.space c.args.candidates.now in
    let o = g.C.Candidate.order c.args.candidates.now in
    let m = g.C.Candidate.ending c.args.candidates.now in
    let w = g.C.Candidate.vector c.args.candidates.now in
    let path_is : length c.as_slice-depth.result.now ≡ length c.args.path.now.items = ap length c.as_slice-depth.ensures.value in
    let order_is : length c.last_order-order.result.now ≡ length (o w) = ap length (c.last_order-order.ensures ∙ c.in_ok-ending.ensures.last) in
    let past = c.if-depth-order.true in
    ended S o m c.laws.ensures.space c.laws.ensures.reading w (g.C.Candidate.vector c.run.new.self) c.args.path.now.items c.requires (omega arith) c.run.ensures.vector

pub returns-clause-stands : goal.returns-clause-stands
returns-clause-stands g c =
    let S = g.C.Slots.space c.args.candidates.now in
    let o = g.C.Candidate.order c.args.candidates.now in
    let m = g.C.Candidate.ending c.args.candidates.now in
    let w = g.C.Candidate.vector c.args.candidates.now in
    let path_is : length c.as_slice-depth.result.now ≡ length c.args.path.now.items = ap length c.as_slice-depth.ensures.value in
    let order_is : length c.last_order-order.result.now ≡ length (o w) = ap length (c.last_order-order.ensures ∙ c.in_ok-ending.ensures.last) in
    let short = c.if-depth-order.false in
    let both = settled S o m c.laws.ensures.space c.laws.ensures.reading w (g.C.Candidate.vector c.run.new.self) (g.C.Candidate.last c.run.new.self) c.args.path.now.items c.extend.new.path.items c.requires (omega arith) c.run.ensures.vector c.in_ok-ending.ensures.last c.in_ok-extend.ensures.ok in
    (both.0, c.in_ok-ending.ensures.ends ∙ ap m (sym c.run.ensures.vector), both.1)
