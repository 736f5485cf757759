use Rattle.std.proofs.Common.{◌≡◌, ◌<◌, ◌≤◌, ◌-◌, ◌++◌, ◌∷◌, [], List, length, take, get_or, rules, refl, ap, ◌∙◌}
use Rattle.kr_mean.specs.Places.{SlotPlace}
use Rattle.kr_judge_replay.specs.declared.check.Check.{Check}
use Rattle.kr_judge_replay.proofs.Lists.{last_is}
use Rattle.kr_judge_replay.proofs.checks.Checks.wake.Goals as goal

pub returns-clause-woken : goal.returns-clause-woken
returns-clause-woken c =
    let x = c.index-check.result.now in
    let n = c.self.inside.count in
    let items = c.self.inside.items.items in
    let some : 0 < n = search rules in
    let few : n ≤ length items = search rules in
    let is : get_or items (n - 1) x ≡ x = search rules in
    let own : c.args.self.now ≡ take n items = search rules in
    let s = c.in_ok-resume.ensures.copied in
    record {
      check = x;
      last = (take (n - 1) items, own ∙ (last_is items n x some few ∙ ap (λ (y : Check). take (n - 1) items ++ y ∷ []) is));
      condition_is = refl;
      task_is = refl;
      count_is = refl;
      stack = c.in_ok-copy_from.ensures.alike;
      world = record { this = s.this; locals = s.locals; result = s.result; olds = s.olds; thrown = s.thrown; made = s.made; fuel = s.fuel };
      reads_are = c.truncate.ensures ∙ ap (λ (ps : List SlotPlace). take x.count ps) c.in_ok-resume.ensures.reads;
    }
