use Rattle.std.proofs.Common.{◌≡◌, ◌+◌, true, rules}
use Rattle.kr_judge_replay.proofs.Told.{decides_true}
use Rattle.kr_judge_replay.proofs.going.decided.Goals as goal

pub returns-in-None : goal.returns-in-None
returns-in-None c =
    let on : c.in-Some.following ≡ c.args.condition + 1 = search rules in
    let yes : c.in-Bool.truth ≡ true = search rules in
    decides_true c.args.predicate.now c.args.condition c.in-Some.following c.condition_at.result c.args.value c.in-Bool.truth c.in-Bool.is yes on c.condition_at.ensures c.in-None.is
