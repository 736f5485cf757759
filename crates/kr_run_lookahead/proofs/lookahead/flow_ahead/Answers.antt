use Rattle.std.proofs.Common.{◌≡◌, ◌+◌, ◌∷◌, drop, ap, ◌∙◌}
use Rattle.kr_run_frames.specs.Kept.{frame_of}
use Rattle.kr_run_frames.specs.declared.frame.Waiting.{Waiting}
use Rattle.kr_run_frames.specs.Frame as frames
use Rattle.kr_run_lookahead.proofs.Goes.{drop_next, flow_on, spent_then}
use Rattle.kr_run_lookahead.proofs.Lefts.{gave_told}
use Rattle.kr_run_lookahead.proofs.lookahead.flow_ahead.Goals as goal

pub returns-in-Gave-clause-told : goal.returns-in-Gave-clause-told
returns-in-Gave-clause-told c =
    let fs = c.args.stack.now in
    gave_told c.args.code.now (drop c.args.depth fs) (drop c.frames.at fs) c.args.world.now c.frames.world c.args.flow c.frames.next c.in-Gave.value c.left_ahead.result c.frames.invariant.0 c.frames.invariant.1 c.in-Gave.is c.left_ahead.ensures

pub frames-preserved-in-Some-pass_flow : goal.frames-preserved-in-Some-pass_flow
frames-preserved-in-Some-pass_flow c =
    let on = c.in-Some.ensures in
    let fs = c.args.stack.now in
    let is : drop c.frames.at fs ≡ frames.Flow c.in-Flow.frame ∷ on.rest = on.is ∙ ap (λ (w : Waiting). frame_of w on.values on.locals ∷ on.rest) c.in-Flow.is in (
      flow_on c.args.code.now (drop c.args.depth fs) (drop c.frames.at fs) on.rest (drop (c.frames.at + 1) fs) (frames.Flow c.in-Flow.frame) c.args.world.now c.frames.world c.pass_flow.new.world c.args.flow c.frames.next c.in-Some-pass_flow.led c.frames.invariant.0 is (drop_next c.frames.at fs on.rest _ is) c.in-Some-pass_flow.ensures.passes,
      spent_then c.args.world.now c.frames.world c.pass_flow.new.world c.frames.invariant.1 c.pass_flow.ensures.spent,
    )

pub frames-preserved : goal.frames-preserved
frames-preserved c =
    let on = c.in-Some.ensures in
    let fs = c.args.stack.now in
    let is : drop c.frames.at fs ≡ frames.Scope c.in-Scope.count ∷ on.rest = on.is ∙ ap (λ (w : Waiting). frame_of w on.values on.locals ∷ on.rest) c.in-Scope.is in (
      flow_on c.args.code.now (drop c.args.depth fs) (drop c.frames.at fs) on.rest (drop (c.frames.at + 1) fs) (frames.Scope c.in-Scope.count) c.args.world.now c.frames.world c.pass_scope.new.world c.args.flow c.frames.next c.frames.next c.frames.invariant.0 is (drop_next c.frames.at fs on.rest _ is) (λ d gs i. c.pass_scope.ensures.passes c.args.code.now d gs c.frames.next),
      spent_then c.args.world.now c.frames.world c.pass_scope.new.world c.frames.invariant.1 c.pass_scope.ensures.spent,
    )
