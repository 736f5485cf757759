use Rattle.std.proofs.Common.{subst, Option}
use Rattle.kr_base.specs.declared.place.Place.{Place}
use Rattle.kr_pure.specs.Touched.{IsFirstTouch}
use Rattle.kr_pure.proofs.Touching.{touched_first, untouched}
use Rattle.kr_pure.proofs.purity.test.Goals as goal

pub returns-in-None-clause-pure : goal.returns-in-None-clause-pure
returns-in-None-clause-pure c =
    let problem = c.args.problem.now in
    let nodes = c.in_ok-nodes.nodes.items in
    let first = c.in_ok-first_touch.ensures in
    untouched problem nodes c.in_ok-nodes.ensures (subst (λ (o : Option Place). IsFirstTouch problem nodes o) c.in-None.is first)

pub returns-clause-impure : goal.returns-clause-impure
returns-clause-impure c =
    let problem = c.args.problem.now in
    let nodes = c.in_ok-nodes.nodes.items in
    let first = c.in_ok-first_touch.ensures in
    touched_first problem nodes c.in_ok-nodes.ensures c.in-Some.place (subst (λ (o : Option Place). IsFirstTouch problem nodes o) c.in-Some.is first)
