use Rattle.std.proofs.Common.{◌≡◌, length, ◌∙◌, arith}
use Rattle.kr_step.proofs.Keeps.{last_key, whole_key}
use Rattle.kr_step.proofs.path.copy_indices.Goals as goal

pub returns-then-left-eq1 : goal.returns-then-left-eq1
returns-then-left-eq1 c = last_key c.args.key.now c.args.path.now c.args.kept c.requires.kept c.requires.long c.if-left-eq1.true

pub returns : goal.returns
returns c =
    let long : length c.loop-at.key ≡ length c.args.path.now = c.loop-at.auto.key ∙ c.requires.long in
    let end = c.loop-at-test.false in
    whole_key c.loop-at.key c.args.path.now long (λ k h. c.loop-at.invariant k (omega arith))
