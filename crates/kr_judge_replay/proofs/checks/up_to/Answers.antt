use Rattle.std.proofs.Common.{◌≤◌, ℕ, subst}
use Rattle.kr_judge_replay.proofs.Held.{few_all, none_read}
use Rattle.kr_judge_replay.proofs.checks.up_to.Goals as goal

pub returns-then-places_at-places-clause-few : goal.returns-then-places_at-places-clause-few
returns-then-places_at-places-clause-few c =
    few_all c.args.checks.now c.checks.left c.args.places c.len-left.ensures.ascend c.checks.invariant
    (λ other lt. subst (λ (n : ℕ). n ≤ c.args.places) (c.places_at.ensures other) c.if-places_at-places.true)

pub returns-clause-few : goal.returns-clause-few
returns-clause-few c = none_read c.args.checks.now c.args.places
