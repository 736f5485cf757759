use Rattle.std.proofs.Common.{◌≡◌, ℕ, true, take, subst, sym}
use Rattle.std.specs.Prelude.{map}
use Rattle.kr_run_state.specs.Noting.{is_read}
use Rattle.kr_judge.specs.Follows.{place_in}
use Rattle.kr_judge_replay.proofs.Held.{contains_within, held_all, none_held}
use Rattle.kr_judge_replay.proofs.checks.holding.Goals as goal

pub returns-then-slots_before-fresh-clause-held : goal.returns-then-slots_before-fresh-clause-held
returns-then-slots_before-fresh-clause-held c =
    let a = c.args.accesses.now in
    held_all c.args.checks.now c.checks.left c.args.fresh a c.len-left.ensures.ascend c.checks.invariant
    (λ other lt f h p s i m.
    contains_within a.order c.slots_before.result c.args.fresh s c.if-slots_before-fresh.true
    (c.slots_before.ensures f h p s (subst (λ (n : ℕ). is_read p (take n (map place_in a.places.items)) ≡ true) (sym (c.places_at.ensures other)) i) m))

pub returns-then-fresh-eq0-clause-held : goal.returns-then-fresh-eq0-clause-held
returns-then-fresh-eq0-clause-held c = none_held c.args.checks.now c.args.fresh c.args.accesses.now

pub returns-clause-held : goal.returns-clause-held
returns-clause-held c = none_held c.args.checks.now c.args.fresh c.args.accesses.now
