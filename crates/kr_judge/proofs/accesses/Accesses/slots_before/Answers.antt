use Rattle.std.proofs.Common.{◌≡◌, ◌<◌, true, get_or, length, rules, subst, take}
use Rattle.kr_mean.specs.Runs.{contains_number}
use Rattle.kr_judge.specs.declared.accesses.Access.{Access}
use Rattle.kr_judge.proofs.Follows.{all_come_before, come_before, take_front}
use Rattle.kr_judge.proofs.accesses.Accesses.slots_before.Goals as goal

pub returns-then-places-len : goal.returns-then-places-len
returns-then-places-len c = λ f h p s i m.
    let a = c.args.self.now in
    let x = c.index.result.now in
    let items = a.places.items in
    let inside : c.args.places < length items = search rules in
    let is : get_or items c.args.places x ≡ x = search rules in
    take_front f a.order x.before a.count s
    (subst (λ (y : Access). contains_number (take y.before (take a.count a.order)) s ≡ true) is (come_before f items c.args.places x (take a.count a.order) inside h p s i m))

pub returns-else-places-len : goal.returns-else-places-len
returns-else-places-len c = λ f h. let a = c.args.self.now in all_come_before f a.places.items c.args.places (take a.count a.order) (search rules) h
