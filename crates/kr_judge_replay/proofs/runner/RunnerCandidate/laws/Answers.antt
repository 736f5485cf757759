use Rattle.kr_space_problem.specs.Posed.{posed}
use Rattle.kr_judge_replay.proofs.Laws.{reading_is, some_read}
use Rattle.kr_judge_replay.proofs.runner.RunnerCandidate.laws.Goals as goal

pub returns-clause-reading : goal.returns-clause-reading
returns-clause-reading c = rw (← c.self.view_is) (reading_is (posed c.self.inside.prepared.now.problem) c.laws.ensures.lawful)

pub returns-clause-some : goal.returns-clause-some
returns-clause-some c = rw (← c.self.view_is) (λ v h. some_read (posed c.self.inside.prepared.now.problem) c.laws.ensures.well v)
