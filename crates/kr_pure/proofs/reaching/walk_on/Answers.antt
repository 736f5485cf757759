use Rattle.std.proofs.Common.{◌≡◌, ◌<◌, ◌≤◌, length, arith, Some}
use Rattle.std.specs.Prelude.{slice_get}
use Rattle.std.proofs.lemmas.Option.{slice_get_within}
use Rattle.kr_types.specs.Programs.{all_entries}
use Rattle.kr_pure.proofs.Adding.{few}
use Rattle.kr_pure.specs.Reach.{IsBelow, IsFollowed}
use Rattle.kr_pure.proofs.Steps.{all_by_index, step_stays, walk_more}
use Rattle.kr_pure.proofs.reaching.walk_on.Goals as goal

pub loop-next-init : goal.loop-next-init
loop-next-init c = record {
  found = c.requires.found;
  reached = omega arith;
  kept = λ n h. h;
  followed = λ k n l q. absurd (omega (arith, l));
  below = c.requires.below;
}

pub loop-next-smaller : goal.loop-next-smaller
loop-next-smaller c =
    let m : length c.loop-next.found.nodes.items ≤ length (all_entries c.args.problem.now.program.trees.items) = few c.args.problem.now.program.trees.items c.loop-next.found c.loop-next.invariant.found in
    let l : c.loop-next.next < length c.loop-next.found.nodes.items = omega arith in
    omega (arith, m, l)

pub loop-next-preserved : goal.loop-next-preserved
loop-next-preserved c =
    let problem = c.args.problem.now in
    let old = c.loop-next.found.nodes.items in
    let new = c.follow.new.found.nodes.items in
    let next = c.loop-next.next in
    let at = c.at-at.result in
    let here : slice_get old next ≡ Some at = c.at-at.ensures in
    let step = c.in_ok-follow.ensures.step in
    record {
      found = c.in_ok-follow.ensures.found;
      reached = let w = slice_get_within new next at (step.kept next at here) in omega (arith, w);
      kept = λ n h. step_stays problem at old new step n (c.loop-next.invariant.kept n h);
      followed = walk_more problem next at old new here step c.loop-next.invariant.followed;
      below = step.below (Rattle.kr_pure.proofs.Lists.all_at (IsBelow problem) old next at c.loop-next.invariant.below here) c.loop-next.invariant.below;
    }

pub returns-clause-walked : goal.returns-clause-walked
returns-clause-walked c = record {
  kept = c.loop-next.invariant.kept;
  followed = all_by_index (IsFollowed c.args.problem.now c.loop-next.found.nodes.items) c.loop-next.found.nodes.items c.loop-next.next (omega arith) c.loop-next.invariant.followed;
  below = c.loop-next.invariant.below;
}
