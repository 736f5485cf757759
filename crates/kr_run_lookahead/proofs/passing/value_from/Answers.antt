use Rattle.kr_code.specs.Doing.{Doing}
use Rattle.kr_run_frames.specs.declared.frame.ValueFrame.{ValueFrame}
use Rattle.kr_run_frames.specs.Frames.{got}
use Rattle.kr_run_lookahead.proofs.Alike.{value_as}
use Rattle.kr_run_lookahead.proofs.passing.value_from.Goals as goal

pub returns-in-Load : goal.returns-in-Load
returns-in-Load c = value_as c.args.code.now c.args.world.now c.args.fuel c.loaded.result (λ (f : ValueFrame) (d : Doing). got c.args.code.now d f c.args.given) _ _ c.in-Load.is c.loaded.ensures

pub returns-in-Left : goal.returns-in-Left
returns-in-Left c = value_as c.args.code.now c.args.world.now c.args.fuel c.with_right.result (λ (f : ValueFrame) (d : Doing). got c.args.code.now d f c.args.given) _ _ c.in-Left.is c.with_right.ensures

pub returns-in-AndThen : goal.returns-in-AndThen
returns-in-AndThen c = value_as c.args.code.now c.args.world.now c.args.fuel c.both.result (λ (f : ValueFrame) (d : Doing). got c.args.code.now d f c.args.given) _ _ c.in-AndThen.is c.both.ensures

pub returns-in-OrElse : goal.returns-in-OrElse
returns-in-OrElse c = value_as c.args.code.now c.args.world.now c.args.fuel c.either.result (λ (f : ValueFrame) (d : Doing). got c.args.code.now d f c.args.given) _ _ c.in-OrElse.is c.either.ensures
