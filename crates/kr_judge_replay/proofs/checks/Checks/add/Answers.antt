use Rattle.std.proofs.Common.{◌≡◌, ◌++◌, ◌∷◌, [], List, take, rules, ap, ◌∙◌}
use Rattle.kr_judge_replay.specs.declared.check.Check.{Check}
use Rattle.kr_judge_replay.proofs.Lists.{one_more}
use Rattle.kr_judge_replay.proofs.checks.Checks.add.Goals as goal

pub returns-clause-kept : goal.returns-clause-kept
returns-clause-kept c =
    let x = c.fill.new.self in
    let n = c.self.inside.count in
    let own : take n c.self.inside.items.items ≡ c.args.self.now = search rules in
    (x, c.in_ok-fill.ensures, one_more c.make_room.new.items.items n x c.in_ok-make_room.ensures.room ∙ ap (λ (ys : List Check). ys ++ x ∷ []) (c.in_ok-make_room.ensures.same ∙ own))
