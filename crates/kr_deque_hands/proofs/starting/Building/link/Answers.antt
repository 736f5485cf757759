use Rattle.std.proofs.Common.{refl, ◌∙◌, arith}
use Rattle.kr_deque_hands.proofs.starting.Building.link.Goals as goal

pub returns-in_ok-push-in-Ok : goal.returns-in_ok-push-in-Ok
returns-in_ok-push-in-Ok g c =
    let made = c.in-Ok.ensures in (
      c.in-Ok.hand,
      (let a = made.0 in let b = c.len-number.ensures in let d = c.args.self.now.hands.ok.0 in let few = c.requires.few in omega (arith, a, b, d, few)),
      made.1 ∙ c.replace-before.ensures.value,
      made.2,
      made.3,
      c.in_ok-push-in-Ok.ensures.items,
      c.replace-before.ensures.after,
      refl,
      refl,
    )
