use Rattle.std.proofs.Common.{◌∙◌, subst}
use Rattle.std.specs.Prelude.{Option, IfSome}
use Rattle.kr_judge_replay.specs.Going.{Wakes}
use Rattle.kr_judge_replay.specs.declared.checks.Start.{Start}
use Rattle.kr_judge_replay.proofs.Steps.{begins, goes_on_from, shared_from}
use Rattle.kr_judge_replay.proofs.going.stand.Goals as goal

pub returns-in-Some-clause-goes_on : goal.returns-in-Some-clause-goes_on
returns-in-Some-clause-goes_on c =
    let checks = c.args.checks.now in
    let reads = c.args.world.now.reads in
    let woken = subst (λ (f : Option Start). IfSome f (λ s. Wakes checks s reads c.wake.new.stack c.wake.new.world)) c.in-Some.is c.in_ok-start.ensures.woken in
    goes_on_from c.args.input.layout.now c.args.input.predicate.now c.args.input.vector.now checks c.in-Some.start reads c.wake.new.stack c.wake.new.world c.requires.vector (c.in_ok-start.ensures.candidates ∙ c.requires.candidates) (c.in_ok-start.ensures.frozen ∙ c.requires.frozen) c.requires.kept c.requires.shared woken

pub returns-in-Some-clause-shared : goal.returns-in-Some-clause-shared
returns-in-Some-clause-shared c =
    let checks = c.args.checks.now in
    let reads = c.args.world.now.reads in
    let woken = subst (λ (f : Option Start). IfSome f (λ s. Wakes checks s reads c.wake.new.stack c.wake.new.world)) c.in-Some.is c.in_ok-start.ensures.woken in
    shared_from c.args.input.layout.now c.args.input.predicate.now c.args.input.vector.now checks c.in-Some.start reads c.wake.new.stack c.wake.new.world woken

pub returns-in_ok-begin-in-None-clause-goes_on : goal.returns-in_ok-begin-in-None-clause-goes_on
returns-in_ok-begin-in-None-clause-goes_on c =
    let r = c.in_ok-begin-in-None.ensures in
    begins c.args.input.layout.now c.args.input.predicate.now c.args.input.vector.now c.clear.new.self c.args.node c.begin.new.world c.requires.vector c.clear.ensures c.requires.first r.state r.reads (r.candidates ∙ (c.in_ok-start.ensures.candidates ∙ c.requires.candidates)) r.made (r.frozen ∙ (c.in_ok-start.ensures.frozen ∙ c.requires.frozen))
