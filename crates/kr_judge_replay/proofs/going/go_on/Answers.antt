use Rattle.std.proofs.Common.{◌≡◌, ◌+◌, true, false, Some, None, refl, sym, rules}
use Rattle.kr_judge_replay.proofs.Steps.{all_hold_so, next_so, false_so, stays_halted, stuck_so}
use Rattle.kr_judge_replay.proofs.going.go_on.Goals as goal

pub returns-in-Int-clause-means : goal.returns-in-Int-clause-means
returns-in-Int-clause-means c = stuck_so c.args.input.layout.now c.args.input.predicate.now c.args.input.vector.now c.conditions.at c.in-Ok.given _ c.give.new.world c.in-Int.is (λ m s. refl) c.in-Ok.ensures.gives

pub returns-in-Null-clause-means : goal.returns-in-Null-clause-means
returns-in-Null-clause-means c = stuck_so c.args.input.layout.now c.args.input.predicate.now c.args.input.vector.now c.conditions.at c.in-Ok.given _ c.give.new.world c.in-Null.is (λ m s. refl) c.in-Ok.ensures.gives

pub returns-in-Ref-clause-means : goal.returns-in-Ref-clause-means
returns-in-Ref-clause-means c = stuck_so c.args.input.layout.now c.args.input.predicate.now c.args.input.vector.now c.conditions.at c.in-Ok.given _ c.give.new.world c.in-Ref.is (λ m s. refl) c.in-Ok.ensures.gives

pub conditions-preserved : goal.conditions-preserved
conditions-preserved c =
    let yes : c.in-Bool.truth ≡ true = search rules in
    let following = c.in-Some.following in
    (next_so c.args.input.layout.now c.args.input.predicate.now c.args.input.vector.now c.conditions.at following.at following.node (Some following.node) c.in-Ok.given c.in-Bool.truth c.clear.new.self c.give.new.world c.in-Bool.is yes c.in-Some.ensures.0 (sym c.in-Some.ensures.1) refl c.clear.ensures c.in-Ok.ensures.gives, c.in-Ok.ensures.kept)

pub returns-then-not-truth-clause-means : goal.returns-then-not-truth-clause-means
returns-then-not-truth-clause-means c =
    let no : c.in-Bool.truth ≡ false = search rules in
    false_so c.args.input.layout.now c.args.input.predicate.now c.args.input.vector.now c.conditions.at c.in-Ok.given c.in-Bool.truth c.give.new.world c.in-Bool.is no c.in-Ok.ensures.gives

pub returns-in-None-clause-means : goal.returns-in-None-clause-means
returns-in-None-clause-means c =
    let yes : c.in-Bool.truth ≡ true = search rules in
    all_hold_so c.args.input.layout.now c.args.input.predicate.now c.args.input.vector.now c.conditions.at (c.conditions.at + 1) None c.in-Ok.given c.in-Bool.truth c.give.new.world c.in-Bool.is yes refl (sym c.in-None.ensures) refl c.in-Ok.ensures.gives

pub returns-in-Int-clause-stays : goal.returns-in-Int-clause-stays
returns-in-Int-clause-stays c = c.in-Ok.ensures.stays

pub returns-in-Null-clause-stays : goal.returns-in-Null-clause-stays
returns-in-Null-clause-stays c = c.in-Ok.ensures.stays

pub returns-in-Ref-clause-stays : goal.returns-in-Ref-clause-stays
returns-in-Ref-clause-stays c = c.in-Ok.ensures.stays

pub returns-then-not-truth-clause-stays : goal.returns-then-not-truth-clause-stays
returns-then-not-truth-clause-stays c = c.in-Ok.ensures.stays

pub returns-in-None-clause-stays : goal.returns-in-None-clause-stays
returns-in-None-clause-stays c = c.in-Ok.ensures.stays

pub returns-in-Err-clause-stays : goal.returns-in-Err-clause-stays
returns-in-Err-clause-stays c = stays_halted c.args.input.layout.now c.args.input.predicate.now c.args.input.vector.now c.in-Err.halt c.give.new.world c.in-Err.ensures.stays
