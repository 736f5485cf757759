use Rattle.kr_types_scopes.proofs.Passing.{passed_result}
use Rattle.kr_types_scopes.proofs.after.pass.Goals as goal

pub returns-in-SetResult : goal.returns-in-SetResult
returns-in-SetResult c = rw c.in-SetResult.is (passed_result c.args.tree.now c.args.bindings.now.items c.args.here.now c.args.tasks.now c.requires.chain c.requires.top c.in-SetResult.result)
