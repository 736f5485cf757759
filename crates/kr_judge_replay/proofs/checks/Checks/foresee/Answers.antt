use Rattle.std.proofs.Common.{◌≡◌, ◌<◌, ◌≤◌, ◌-◌, ◌++◌, ◌∷◌, [], inr, length, take, get_or, rules, ap, ◌∙◌}
use Rattle.kr_judge_replay.specs.Ascending.{Ascend}
use Rattle.kr_judge_replay.specs.Going.{IsLastOf}
use Rattle.kr_judge_replay.specs.declared.check.Check.{Check}
use Rattle.kr_judge_replay.proofs.Held.{foreseen_last, last_most}
use Rattle.kr_judge_replay.proofs.Lists.{last_is}
use Rattle.kr_judge_replay.proofs.checks.Checks.foresee.Goals as goal

pub returns-clause-reads : goal.returns-clause-reads
returns-clause-reads c =
    let x = c.index_mut.result.now in
    let n = c.self.inside.count in
    let items = c.self.inside.items.items in
    let some : 0 < n = search rules in
    let few : n ≤ length items = search rules in
    let is : get_or items (n - 1) x ≡ x = search rules in
    let own : c.args.self.now ≡ take n items = search rules in
    let last : IsLastOf x c.args.self.now = (take (n - 1) items, own ∙ (last_is items n x some few ∙ ap (λ (y : Check). take (n - 1) items ++ y ∷ []) is)) in
    let ascend : Ascend c.args.self.now = search rules in
    inr (record {
      check = x;
      last = last;
      most = last_most c.args.self.now x ascend last;
      grows = c.in_ok-found.ensures.reads;
    })

pub returns-clause-foreseen : goal.returns-clause-foreseen
returns-clause-foreseen c =
    let x = c.index_mut.result.now in
    let n = c.self.inside.count in
    let items = c.self.inside.items.items in
    let some : 0 < n = search rules in
    let few : n ≤ length items = search rules in
    let is : get_or items (n - 1) x ≡ x = search rules in
    let own : c.args.self.now ≡ take n items = search rules in
    let last : IsLastOf x c.args.self.now = (take (n - 1) items, own ∙ (last_is items n x some few ∙ ap (λ (y : Check). take (n - 1) items ++ y ∷ []) is)) in
    foreseen_last c.args.self.now c.args.code.now c.args.world.now c.foresee.new.world x c.in_ok-found.found last c.in_ok-found.ensures.foreseen
