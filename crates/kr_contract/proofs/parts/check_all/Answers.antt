use Rattle.std.proofs.Common.{◌+◌, ℕ, ap}
use Rattle.kr_run_state.specs.Worlds.{state_of}
use Rattle.kr_contract.proofs.Decided.{ensured_next, ensured_stop}
use Rattle.kr_contract.proofs.parts.check_all.Goals as goal

pub returns-in-Some : goal.returns-in-Some
returns-in-Some c =
    ensured_stop c.args.code.now c.args.nodes.now (state_of c.args.world.now) (c.nodes.number + 1) c.nodes.node-index (state_of c.nodes.world) c.in-Some.verdict c.in_ok-verdict.field-0 c.check.new.world c.nodes-test.true c.in-Some.is c.nodes.invariant.1 c.in_ok-verdict.ensures

pub nodes-preserved : goal.nodes-preserved
nodes-preserved c =
    let next = ensured_next c.args.code.now c.args.nodes.now (state_of c.args.world.now) (c.nodes.number + 1) c.nodes.node-index (state_of c.nodes.world) c.in_ok-verdict.field-0 c.check.new.world c.nodes-test.true c.in-None.is c.nodes.invariant.1 c.in_ok-verdict.ensures in
    (next.0, next.1, ap (λ (n : ℕ). n + 1) c.nodes.invariant.2)
