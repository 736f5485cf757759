use Rattle.kr_judge_replay.proofs.Steps.{halts_on, finishes_on, more_on, stays_on}
use Rattle.kr_judge_replay.proofs.going.give.Goals as goal

pub returns-in-Err-clause-gives : goal.returns-in-Err-clause-gives
returns-in-Err-clause-gives c = halts_on c.args.input.layout.now c.args.input.predicate.now c.args.input.vector.now c.args.condition c.steps.stack c.advance.new.stack c.steps.next c.advance.new.task c.in-Err.halt c.steps.world c.advance.new.world c.steps.invariant.0 c.in-Err.ensures

pub returns-in-Finished-clause-gives : goal.returns-in-Finished-clause-gives
returns-in-Finished-clause-gives c = finishes_on c.args.input.layout.now c.args.input.predicate.now c.args.input.vector.now c.args.condition c.steps.stack c.advance.new.stack c.steps.next c.advance.new.task c.in-Ok.stepped c.in-Finished.given c.steps.world c.advance.new.world c.in-Finished.is c.steps.invariant.0 c.in-Ok.ensures

pub consider-requires-clause-goes_on : goal.consider-requires-clause-goes_on
consider-requires-clause-goes_on c = more_on c.args.input.layout.now c.args.input.predicate.now c.args.input.vector.now c.args.condition c.steps.stack c.advance.new.stack c.steps.next c.advance.new.task c.in-Ok.stepped c.steps.world c.advance.new.world c.in-More.is c.steps.invariant.0 c.in-Ok.ensures

pub steps-preserved : goal.steps-preserved
steps-preserved c = (more_on c.args.input.layout.now c.args.input.predicate.now c.args.input.vector.now c.args.condition c.steps.stack c.advance.new.stack c.steps.next c.advance.new.task c.in-Ok.stepped c.steps.world c.advance.new.world c.in-More.is c.steps.invariant.0 c.in-Ok.ensures, c.consider.ensures.kept)

pub returns-in-Err-clause-stays : goal.returns-in-Err-clause-stays
returns-in-Err-clause-stays c = stays_on c.args.input.layout.now c.args.input.predicate.now c.args.input.vector.now c.args.condition c.steps.stack c.advance.new.stack c.steps.next c.advance.new.task c.in-Err.halt c.steps.world c.advance.new.world c.steps.invariant.0 c.in-Err.ensures

pub returns-in-Finished-clause-stays : goal.returns-in-Finished-clause-stays
returns-in-Finished-clause-stays c = (finishes_on c.args.input.layout.now c.args.input.predicate.now c.args.input.vector.now c.args.condition c.steps.stack c.advance.new.stack c.steps.next c.advance.new.task c.in-Ok.stepped c.in-Finished.given c.steps.world c.advance.new.world c.in-Finished.is c.steps.invariant.0 c.in-Ok.ensures).same
