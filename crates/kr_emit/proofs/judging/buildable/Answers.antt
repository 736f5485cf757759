use Rattle.std.proofs.Common.{◌≡◌, subst}
use Rattle.std.specs.Prelude.{IfErr, IfOk, None}
use Rattle.kr_emit_meaning.specs.Buildable.{build_fault}
use Rattle.kr_emit.specs.Refusals.{Refuses}
use Rattle.kr_space_problem.specs.declared.problem.Problem.{Problem}
use Rattle.kr_space_problem.specs.Posed.{posed}
use Rattle.kr_emit.proofs.judging.buildable.Goals as goal

pub judge-requires-clause-posed : goal.judge-requires-clause-posed
judge-requires-clause-posed c = c.problem-problem.ensures.accepted.posed

pub returns-clause-built : goal.returns-clause-built
returns-clause-built c = subst (λ (p : Problem). IfOk c.judge.result (λ done. build_fault (posed p) ≡ None)) c.problem-problem.ensures.same c.judge.ensures.built

pub returns-clause-refused : goal.returns-clause-refused
returns-clause-refused c = subst (λ (p : Problem). IfErr c.judge.result (Refuses (posed p))) c.problem-problem.ensures.same c.judge.ensures.refused
