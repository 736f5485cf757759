use Rattle.std.proofs.Common.{◌≡◌, ◌+◌, ◌∷◌, drop, ap, ◌∙◌}
use Rattle.kr_run_frames.specs.Kept.{frame_of}
use Rattle.kr_run_frames.specs.declared.frame.Waiting.{Waiting}
use Rattle.kr_run_frames.specs.Frame as frames
use Rattle.kr_run_lookahead.proofs.Goes.{drop_next, flow_told, spent_then, value_on}
use Rattle.kr_run_lookahead.proofs.lookahead.value_ahead.Goals as goal

pub frames-preserved : goal.frames-preserved
frames-preserved c =
    let on = c.in-Some.ensures in
    let fs = c.args.stack.now in
    let is : drop c.frames.at fs ≡ frames.Value c.in-Value.frame ∷ on.rest = on.is ∙ ap (λ (w : Waiting). frame_of w on.values on.locals ∷ on.rest) c.in-Value.is in (
      value_on c.args.code.now fs (drop c.frames.at fs) on.rest (drop (c.frames.at + 1) fs) (frames.Value c.in-Value.frame) c.args.world.now c.frames.world c.pass_value.new.world c.args.given c.frames.value c.in-Some-pass_value.made c.frames.invariant.0 is (drop_next c.frames.at fs on.rest _ is) c.in-Some-pass_value.ensures.passes,
      spent_then c.args.world.now c.frames.world c.pass_value.new.world c.frames.invariant.1 c.pass_value.ensures.spent,
    )

pub returns-in-Some-pass_test-clause-told : goal.returns-in-Some-pass_test-clause-told
returns-in-Some-pass_test-clause-told c =
    let on = c.in-Some.ensures in
    let fs = c.args.stack.now in
    let is : drop c.frames.at fs ≡ frames.Test c.in-Test.frame ∷ on.rest = on.is ∙ ap (λ (w : Waiting). frame_of w on.values on.locals ∷ on.rest) c.in-Test.is in
    flow_told c.args.code.now fs (drop c.frames.at fs) on.rest (drop (c.frames.at + 1) fs) c.in-Test.frame c.args.world.now c.frames.world c.pass_test.new.world c.args.given c.frames.value c.in-Some-pass_test.flow c.flow_ahead.result c.frames.invariant.0 c.frames.invariant.1 is (drop_next c.frames.at fs on.rest _ is) c.in-Some-pass_test.ensures.passes c.pass_test.ensures.spent c.flow_ahead.ensures.told
