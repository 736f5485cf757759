use Rattle.std.specs.Prelude.{◌≡◌, IfSome}
use Rattle.kr_pool_tests.proofs.tests.rounds.work_on.Given as goal

abbrev pub invariant-loop : goal.invariant-loop
invariant-loop g l = (goal.iterator-loop g).can_next l.iterator' × (goal.iterator-loop g).is_finite l.iterator' × IfSome l.scratch (g.S.Survey.made l.survey) × (l.lead.2 ≡ l.fn.lead.2)
