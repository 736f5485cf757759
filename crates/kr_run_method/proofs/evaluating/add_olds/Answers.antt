use Rattle.std.proofs.Common.{◌≤◌, ◌<◌, ◌++◌, List, length, ap, arith, ◌∙◌}
use Rattle.std.specs.Prelude.{map}
use Rattle.kr_mean.specs.Steps.{Old}
use Rattle.kr_run_state.specs.Shown.{old_of}
use Rattle.kr_run_method.proofs.Places.{all_there, ended_at, olds_more}
use Rattle.kr_run_method.proofs.evaluating.add_olds.Goals as goal

pub loop-number-preserved : goal.loop-number-preserved
loop-number-preserved c =
    let ps = c.args.places.now in
    let vs = c.args.values.now in
    let k = c.loop-number.number in
    let here : k < length ps = omega (arith, c.loop-number-test.true, c.lesser-count.ensures.first) in
    let there : k < length vs = omega (arith, c.loop-number-test.true, c.lesser-count.ensures.second) in
    olds_more ps vs k _ _ c.args.olds.now.items c.loop-number.olds.items c.push.new.self.items here there c.loop-number.invariant c.in_ok-push.ensures.items

pub returns : goal.returns
returns c =
    let ps = c.args.places.now in
    let vs = c.args.values.now in
    let k = c.loop-number.number in
    let over : c.lesser-count.result ≤ k = omega (arith, c.loop-number-test.false) in
    c.loop-number.invariant ∙ ap (λ (os : List Old). map old_of c.args.olds.now.items ++ os) (all_there ps vs k (ended_at (length ps) (length vs) c.lesser-count.result k c.lesser-count.ensures.is over))
