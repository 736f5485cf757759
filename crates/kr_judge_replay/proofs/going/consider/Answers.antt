use Rattle.kr_judge_replay.specs.Going.{IsCheckOf}
use Rattle.kr_judge_replay.specs.Kept.{Kept}
use Rattle.kr_judge_replay.proofs.Steps.{all_added, check_kept}
use Rattle.kr_judge_replay.proofs.going.consider.Goals as goal

pub returns : goal.returns
returns c =
    let b = c.args.input.layout.now in
    let p = c.args.input.predicate.now in
    let v = c.args.input.vector.now in
    record {
      kept = all_added (Kept b p v) (IsCheckOf c.args.condition c.in-Some.action c.args.stack.now c.args.world.now)
          (λ x k. check_kept b p v x c.args.condition c.in-Some.action c.args.stack.now c.args.task.now c.args.world.now c.in-Some.ensures.frozen c.requires.goes_on c.in-Some.ensures.before k)
          c.args.checks.now c.keep.new.self c.in_ok-keep.ensures c.requires.kept;
    }

pub returns-in_err-keep : goal.returns-in_err-keep
returns-in_err-keep c =
    let b = c.args.input.layout.now in
    let p = c.args.input.predicate.now in
    let v = c.args.input.vector.now in
    record {
      kept = all_added (Kept b p v) (IsCheckOf c.args.condition c.in-Some.action c.args.stack.now c.args.world.now)
          (λ x k. check_kept b p v x c.args.condition c.in-Some.action c.args.stack.now c.args.task.now c.args.world.now c.in-Some.ensures.frozen c.requires.goes_on c.in-Some.ensures.before k)
          c.args.checks.now c.keep.new.self c.in_err-keep.ensures c.requires.kept;
    }
