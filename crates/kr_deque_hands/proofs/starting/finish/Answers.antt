use Rattle.std.proofs.Common.{◌≡◌, length, ap, arith, Vec, Global}
use Rattle.kr_deque_hands.specs.Hands.{Front}
use Rattle.kr_deque_hands.proofs.Made.{filled_own, all_hands, all_fresh}
use Rattle.kr_deque_hands.proofs.starting.finish.Goals as goal

pub hand_of-requires-clause-filled : goal.hand_of-requires-clause-filled
hand_of-requires-clause-filled g c = let b = c.requires.built.1 in filled_own _ b.given c.args.building.last b.filled

pub hand_of-requires-clause-next : goal.hand_of-requires-clause-next
hand_of-requires-clause-next g c = c.requires.built.1.first_view

pub returns-in_ok-push-in-Ok-clause-hands : goal.returns-in_ok-push-in-Ok-clause-hands
returns-in_ok-push-in-Ok-clause-hands g c = λ lists b.
    let made = c.in-Ok.ensures in
    let number : c.in-Ok.hand.number ≡ length c.args.building.hands.items = let a = made.0 in let l = c.len-number.ensures in let d = c.args.building.hands.ok.0 in let few = c.requires.few in omega (arith, a, l, d, few) in
    all_hands lists c.args.building c.in-Ok.hand c.push.new.self.items b c.requires.some c.in_ok-push-in-Ok.ensures.items number made.1 made.2 made.3 c.work_of.result (ap (λ (v : Vec Front Global). v.items) c.work_of.ensures)

pub returns-in_ok-push-in-Ok-clause-fresh : goal.returns-in_ok-push-in-Ok-clause-fresh
returns-in_ok-push-in-Ok-clause-fresh g c = λ lists b.
    let made = c.in-Ok.ensures in
    let number : c.in-Ok.hand.number ≡ length c.args.building.hands.items = let a = made.0 in let l = c.len-number.ensures in let d = c.args.building.hands.ok.0 in let few = c.requires.few in omega (arith, a, l, d, few) in
    all_fresh lists c.args.building c.in-Ok.hand c.push.new.self.items b c.requires.some c.in_ok-push-in-Ok.ensures.items number made.1 made.2 made.3
