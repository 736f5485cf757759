use Rattle.std.proofs.Common.{◌<◌, ◌^◌, ◌∙◌, length, subst}
use Rattle.kr_mean.specs.Problem.{Problem, slots}
use Rattle.kr_mean.specs.Space.{Space, IsVector}
use Rattle.kr_mean.specs.WellFormed.{IsWellFormed}
use Rattle.kr_space_problem.specs.Posed.{posed}
use Rattle.kr_judge_prepared.proofs.Laid.{space_same, well_formed}
use Rattle.kr_judge_replay.specs.Seen.{IsRunOn, Seen}
use Rattle.kr_judge_replay.proofs.Runs.{ends_as, order_as, some_condition}
use Rattle.kr_judge_replay.proofs.runner.RunnerCandidate.run.Goals as goal

pub judge-requires-clause-well : goal.judge-requires-clause-well
judge-requires-clause-well g c =
    let is = subst (λ (s : Seen). IsRunOn (posed s.problem) s.bounds s.predicate) c.self.view_is c.self.invariant.5 in
    well_formed (posed c.args.self.now.problem) c.args.self.now.bounds is.laid (subst (λ (s : Seen). IsWellFormed (posed s.problem)) c.self.view_is c.laws.ensures.well)

pub judge-requires-clause-vector : goal.judge-requires-clause-vector
judge-requires-clause-vector g c =
    let is = subst (λ (s : Seen). IsRunOn (posed s.problem) s.bounds s.predicate) c.self.view_is c.self.invariant.5 in
    subst (λ (s : Space). IsVector s c.args.self.now.vector) (space_same (posed c.args.self.now.problem) c.args.self.now.bounds is.laid) (record { long = c.requires.long; within = c.requires.within })

pub judge-requires-clause-small : goal.judge-requires-clause-small
judge-requires-clause-small g c =
    let is = subst (λ (s : Seen). IsRunOn (posed s.problem) s.bounds s.predicate) c.self.view_is c.self.invariant.5 in
    subst (λ (p : Problem). length (slots p) < 2 ^ 31) is.laid (subst (λ (s : Seen). length (slots (posed s.problem)) < 2 ^ 31) c.self.view_is c.laws.ensures.small)

pub judge-requires-clause-some : goal.judge-requires-clause-some
judge-requires-clause-some g c =
    let is = subst (λ (s : Seen). IsRunOn (posed s.problem) s.bounds s.predicate) c.self.view_is c.self.invariant.5 in
    some_condition (posed c.args.self.now.problem) c.args.self.now.predicate is.run

pub returns-clause-ends : goal.returns-clause-ends
returns-clause-ends g c =
    let is = subst (λ (s : Seen). IsRunOn (posed s.problem) s.bounds s.predicate) c.self.view_is c.self.invariant.5 in
    let s = c.args.self.now in
    c.ending_for.ensures ∙ ends_as (posed s.problem) s.bounds s.vector s.predicate is.laid is.run c.in_ok-end.end c.in_ok-end.ensures.ends

pub returns-clause-last : goal.returns-clause-last
returns-clause-last g c =
    let is = subst (λ (s : Seen). IsRunOn (posed s.problem) s.bounds s.predicate) c.self.view_is c.self.invariant.5 in
    let s = c.args.self.now in
    order_as (posed s.problem) s.bounds s.vector s.predicate is.laid is.run c.judge.new.self.order c.in_ok-end.ensures.order
