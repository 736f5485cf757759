use Rattle.kr_run_lookahead.proofs.Goes.{scope_passes}
use Rattle.kr_run_lookahead.proofs.lookahead.pass_scope.Goals as goal

pub returns-clause-passes : goal.returns-clause-passes
returns-clause-passes c = λ code d fs flow. scope_passes code d c.args.world.now c.args.count c.truncate.new.self.items fs flow c.truncate.ensures.items
