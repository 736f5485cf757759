use Rattle.std.proofs.Common.{◌≡◌, Result, Ok, Err, refl, subst}
use Rattle.kr_run_state.specs.Worlds.{state_at}
use Rattle.kr_run_state.specs.declared.world.Halt.{Halt}
use Rattle.kr_run_frames.specs.declared.task.Task.TheVariants as tasks
use Rattle.kr_run_frames.specs.Frames.{resumed}
use Rattle.kr_run.specs.Answers.{StepsTo}
use Rattle.kr_run.specs.declared.steps.Step.{Step}
use Rattle.kr_run.specs.declared.steps.Step.TheVariants.{More, Finished}
use Rattle.kr_run.proofs.Passing.{step_is, step_then, well_is}
use Rattle.kr_run.proofs.run.advance.Goals as goal
use Rattle.kr_run.proofs.run.advance.Goals.{in-Got, in-Evaluate, in-Execute, in_default}

pub returns-in-Err : goal.returns-in-Err
returns-in-Err c =
    let code = c.args.code.now in
    let m = c.match-task in
    let s = c.steps in
    let reached : StepsTo code m.step m.task m.stack m.world s.world (λ d x. resumed code d s.stack s.task (state_at s.world x)) = elim m.branch [
      | in-Got w ↦ step_is code m.step w.value_step-step.result m.task w.value_step-step.new.task s.task (tasks.Got w.in-Got.given) m.stack w.value_step-step.new.stack s.stack m.world w.value_step-step.new.world s.world w.step-is w.task-is w.stack-is w.world-is (w.in-Got.is) w.value_step-step.ensures
      | in-Evaluate w ↦ step_is code m.step w.evaluate_step-step.result m.task w.evaluate_step-step.new.task s.task (tasks.Evaluate w.in-Evaluate.node) m.stack w.evaluate_step-step.new.stack s.stack m.world w.evaluate_step-step.new.world s.world w.step-is w.task-is w.stack-is w.world-is (w.in-Evaluate.is) w.evaluate_step-step.ensures
      | in-Execute w ↦ step_is code m.step w.execute_step-step.result m.task w.execute_step-step.new.task s.task (tasks.Execute w.in-Execute.node) m.stack w.execute_step-step.new.stack s.stack m.world w.execute_step-step.new.world s.world w.step-is w.task-is w.stack-is w.world-is (w.in-Execute.is) w.execute_step-step.ensures
      | in_default w ↦ step_is code m.step w.other_step-step.result m.task w.other_step-step.new.task s.task s.task m.stack w.other_step-step.new.stack s.stack m.world w.other_step-step.new.world s.world w.step-is w.task-is w.stack-is w.world-is refl w.other_step-step.ensures
    ] in
    let is : m.step ≡ Err c.in-Err.halt = c.in-Err.is in
    subst (λ (r : Result Step Halt). StepsTo code r m.task m.stack m.world c.args.world.now (λ d x. resumed code d c.args.stack.now c.args.task.now (state_at c.args.world.now x))) is
    (step_then code m.step m.task s.task m.stack s.stack m.world s.world c.args.world.now (λ d x. resumed code d c.args.stack.now c.args.task.now (state_at c.args.world.now x)) s.invariant reached)

pub returns-in-Finished : goal.returns-in-Finished
returns-in-Finished c =
    let code = c.args.code.now in
    let m = c.match-task in
    let s = c.steps in
    let reached : StepsTo code m.step m.task m.stack m.world s.world (λ d x. resumed code d s.stack s.task (state_at s.world x)) = elim m.branch [
      | in-Got w ↦ step_is code m.step w.value_step-step.result m.task w.value_step-step.new.task s.task (tasks.Got w.in-Got.given) m.stack w.value_step-step.new.stack s.stack m.world w.value_step-step.new.world s.world w.step-is w.task-is w.stack-is w.world-is (w.in-Got.is) w.value_step-step.ensures
      | in-Evaluate w ↦ step_is code m.step w.evaluate_step-step.result m.task w.evaluate_step-step.new.task s.task (tasks.Evaluate w.in-Evaluate.node) m.stack w.evaluate_step-step.new.stack s.stack m.world w.evaluate_step-step.new.world s.world w.step-is w.task-is w.stack-is w.world-is (w.in-Evaluate.is) w.evaluate_step-step.ensures
      | in-Execute w ↦ step_is code m.step w.execute_step-step.result m.task w.execute_step-step.new.task s.task (tasks.Execute w.in-Execute.node) m.stack w.execute_step-step.new.stack s.stack m.world w.execute_step-step.new.world s.world w.step-is w.task-is w.stack-is w.world-is (w.in-Execute.is) w.execute_step-step.ensures
      | in_default w ↦ step_is code m.step w.other_step-step.result m.task w.other_step-step.new.task s.task s.task m.stack w.other_step-step.new.stack s.stack m.world w.other_step-step.new.world s.world w.step-is w.task-is w.stack-is w.world-is refl w.other_step-step.ensures
    ] in
    let is : m.step ≡ Ok (Finished c.in-Finished.given) = well_is m.step _ _ c.in-Ok.is c.in-Finished.is in
    subst (λ (r : Result Step Halt). StepsTo code r m.task m.stack m.world c.args.world.now (λ d x. resumed code d c.args.stack.now c.args.task.now (state_at c.args.world.now x))) is
    (step_then code m.step m.task s.task m.stack s.stack m.world s.world c.args.world.now (λ d x. resumed code d c.args.stack.now c.args.task.now (state_at c.args.world.now x)) s.invariant reached)

pub returns-then-may_read : goal.returns-then-may_read
returns-then-may_read c =
    let code = c.args.code.now in
    let m = c.match-task in
    let s = c.steps in
    let reached : StepsTo code m.step m.task m.stack m.world s.world (λ d x. resumed code d s.stack s.task (state_at s.world x)) = elim m.branch [
      | in-Got w ↦ step_is code m.step w.value_step-step.result m.task w.value_step-step.new.task s.task (tasks.Got w.in-Got.given) m.stack w.value_step-step.new.stack s.stack m.world w.value_step-step.new.world s.world w.step-is w.task-is w.stack-is w.world-is (w.in-Got.is) w.value_step-step.ensures
      | in-Evaluate w ↦ step_is code m.step w.evaluate_step-step.result m.task w.evaluate_step-step.new.task s.task (tasks.Evaluate w.in-Evaluate.node) m.stack w.evaluate_step-step.new.stack s.stack m.world w.evaluate_step-step.new.world s.world w.step-is w.task-is w.stack-is w.world-is (w.in-Evaluate.is) w.evaluate_step-step.ensures
      | in-Execute w ↦ step_is code m.step w.execute_step-step.result m.task w.execute_step-step.new.task s.task (tasks.Execute w.in-Execute.node) m.stack w.execute_step-step.new.stack s.stack m.world w.execute_step-step.new.world s.world w.step-is w.task-is w.stack-is w.world-is (w.in-Execute.is) w.execute_step-step.ensures
      | in_default w ↦ step_is code m.step w.other_step-step.result m.task w.other_step-step.new.task s.task s.task m.stack w.other_step-step.new.stack s.stack m.world w.other_step-step.new.world s.world w.step-is w.task-is w.stack-is w.world-is refl w.other_step-step.ensures
    ] in
    let is : m.step ≡ Ok More = well_is m.step _ _ c.in-Ok.is c.in-More.is in
    subst (λ (r : Result Step Halt). StepsTo code r m.task m.stack m.world c.args.world.now (λ d x. resumed code d c.args.stack.now c.args.task.now (state_at c.args.world.now x))) is
    (step_then code m.step m.task s.task m.stack s.stack m.world s.world c.args.world.now (λ d x. resumed code d c.args.stack.now c.args.task.now (state_at c.args.world.now x)) s.invariant reached)

pub steps-preserved : goal.steps-preserved
steps-preserved c =
    let code = c.args.code.now in
    let m = c.match-task in
    let s = c.steps in
    let reached : StepsTo code m.step m.task m.stack m.world s.world (λ d x. resumed code d s.stack s.task (state_at s.world x)) = elim m.branch [
      | in-Got w ↦ step_is code m.step w.value_step-step.result m.task w.value_step-step.new.task s.task (tasks.Got w.in-Got.given) m.stack w.value_step-step.new.stack s.stack m.world w.value_step-step.new.world s.world w.step-is w.task-is w.stack-is w.world-is (w.in-Got.is) w.value_step-step.ensures
      | in-Evaluate w ↦ step_is code m.step w.evaluate_step-step.result m.task w.evaluate_step-step.new.task s.task (tasks.Evaluate w.in-Evaluate.node) m.stack w.evaluate_step-step.new.stack s.stack m.world w.evaluate_step-step.new.world s.world w.step-is w.task-is w.stack-is w.world-is (w.in-Evaluate.is) w.evaluate_step-step.ensures
      | in-Execute w ↦ step_is code m.step w.execute_step-step.result m.task w.execute_step-step.new.task s.task (tasks.Execute w.in-Execute.node) m.stack w.execute_step-step.new.stack s.stack m.world w.execute_step-step.new.world s.world w.step-is w.task-is w.stack-is w.world-is (w.in-Execute.is) w.execute_step-step.ensures
      | in_default w ↦ step_is code m.step w.other_step-step.result m.task w.other_step-step.new.task s.task s.task m.stack w.other_step-step.new.stack s.stack m.world w.other_step-step.new.world s.world w.step-is w.task-is w.stack-is w.world-is refl w.other_step-step.ensures
    ] in
    let is : m.step ≡ Ok More = well_is m.step _ _ c.in-Ok.is c.in-More.is in
    subst (λ (r : Result Step Halt). StepsTo code r m.task m.stack m.world c.args.world.now (λ d x. resumed code d c.args.stack.now c.args.task.now (state_at c.args.world.now x))) is
    (step_then code m.step m.task s.task m.stack s.stack m.world s.world c.args.world.now (λ d x. resumed code d c.args.stack.now c.args.task.now (state_at c.args.world.now x)) s.invariant reached)
