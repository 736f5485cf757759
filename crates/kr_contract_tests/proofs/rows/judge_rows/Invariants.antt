use Rattle.std.proofs.Common.{◌≡◌}
use Rattle.kr_contract_tests.proofs.rows.judge_rows.Given as goal

abbrev pub invariant-rows : goal.invariant-rows
invariant-rows g l = l.tester ≡ l.prepared
