use Rattle.std.proofs.Common.{◌≡◌, ap, List}
use Rattle.std.specs.Prelude.{map}
use Rattle.kr_mean.specs.Steps.{State}
use Rattle.kr_run_state.specs.declared.world.Old.{Old}
use Rattle.kr_run_state.specs.declared.world.World.{World}
use Rattle.kr_run_state.specs.Shown.{old_of}
use Rattle.kr_run_state.specs.Worlds.{state_of}
use Rattle.kr_contract.specs.Tests.{fitting_at}
use Rattle.kr_contract.proofs.Signalled.{object_fails, object_holds}
use Rattle.kr_contract.proofs.signals.check_object.Goals as goal

pub returns-in-Some : goal.returns-in-Some
returns-in-Some c =
    object_fails c.args.code.now c.args.rep_ok (fitting_at c.args.code.now c.args.kind 1 c.args.contract.now.signals.items) (map old_of c.args.olds.now) c.args.object (state_of c.args.world.now) c.in-Some.verdict c.in_ok-verdict.field-0 c.check_rep_ok.new.world c.in-Some.is c.in_ok-verdict.ensures

pub returns-in_ok-refill-in-None : goal.returns-in_ok-refill-in-None
returns-in_ok-refill-in-None c =
    let w = c.check_rep_ok.new.world in
    let x : World = record w { olds = c.refill.new.items } in
    let shown : state_of x ≡ record (state_of w) { olds = map old_of c.args.olds.now } = ap (λ (os : List Old). let s : State = record (state_of w) { olds = map old_of os } in s) c.in_ok-refill-in-None.ensures.same in
    object_holds c.args.code.now c.args.rep_ok c.args.kind c.as_slice-signals.result.now c.args.contract.now.signals.items (map old_of c.args.olds.now) c.args.object (state_of c.args.world.now) c.in_ok-verdict.field-0 w x c.check_signals.result c.in-None.is c.in_ok-verdict.ensures
    shown c.as_slice-signals.ensures.value c.check_signals.ensures
