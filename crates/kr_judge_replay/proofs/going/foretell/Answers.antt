use Rattle.std.proofs.Common.{Bool, Result, subst}
use Rattle.std.specs.Prelude.{IfSome, Option}
use Rattle.kr_mean.specs.declared.kind.Stop.{Stop}
use Rattle.kr_judge_replay.specs.Foretelling.{Decides, IsForeseen}
use Rattle.kr_judge_replay.specs.Going.{IsLastOf}
use Rattle.kr_judge_replay.specs.declared.check.Check.{Check}
use Rattle.kr_judge_replay.specs.declared.check.Foreseen.{Foreseen}
use Rattle.kr_judge_replay.proofs.Told.{foretold}
use Rattle.kr_judge_replay.proofs.going.foretell.Goals as goal

pub returns-in-Some-decided-clause-foretold : goal.returns-in-Some-decided-clause-foretold
returns-in-Some-decided-clause-foretold c =
    let p = c.args.predicate.now in
    let checks = c.args.checks.now in
    let before = c.args.world.now in
    let after = c.foresee.new.world in
    let f = c.in-Some.foreseen in
    let seen = subst (λ (found : Option Foreseen). IfSome found (λ g. (x : Check) × IsLastOf x checks × IsForeseen p.code x before after g)) c.in-Some.is c.in_ok-foresee.ensures.foreseen in
    let decides = subst (λ (found : Option (Result Bool Stop)). IfSome found (λ end. Decides p f.condition f.value end)) c.in-Some-decided.is c.decided.ensures in
    foretold p checks before after f c.in-Some-decided.end seen decides
