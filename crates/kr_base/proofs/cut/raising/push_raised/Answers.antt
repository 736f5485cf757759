use Rattle.std.proofs.Common.{◌≡◌, arith, rules}
use Rattle.std.proofs.lemmas.Grind.{common_steps}
use Rattle.kr_base.proofs.Insides.{keeps_last, raises, keeps_above}
use Rattle.kr_base.proofs.cut.raising.push_raised.Goals as goal

pub returns-then-number-eq4294967295 : goal.returns-then-number-eq4294967295
returns-then-number-eq4294967295 c = keeps_last c.args.front.now.items c.push.new.self.items c.args.number c.args.bound.now c.if-number-eq4294967295.true c.in_ok-push.ensures.items

pub returns-then-is_above_key : goal.returns-then-is_above_key
returns-then-is_above_key c = raises c.args.front.now.items c.push-2.new.self.items c.args.number c.args.bound.now (search rules) c.ranges.number.fits c.in_ok-push-2.ensures.items (search rules)

pub returns : goal.returns
returns c =
    let back : c.pop.new.self.items ≡ c.args.front.now.items = grind (arith, common_steps) in
    keeps_above c.args.front.now.items c.push-2.new.self.items c.pop.new.self.items c.push-3.new.self.items c.args.number c.args.bound.now (search rules) c.ranges.number.fits c.in_ok-push-2.ensures.items (search rules) back c.in_ok-push-3.ensures.items
