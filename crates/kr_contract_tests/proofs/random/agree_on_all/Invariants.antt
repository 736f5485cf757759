use Rattle.std.proofs.Common.{◌≡◌}
use Rattle.kr_contract_tests.proofs.random.agree_on_all.Given as goal

abbrev pub invariant-candidates : goal.invariant-candidates
invariant-candidates l = l.tester ≡ l.prepared
