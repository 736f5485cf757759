use Rattle.std.proofs.Common.{subst, ℕ, List}
use Rattle.kr_code_lowering.specs.Calls.{IsCalledOn}
use Rattle.kr_judge_code.specs.Compiled.{no_arguments}
use Rattle.kr_judge_code.proofs.RepOk.{calls_rep_ok}
use Rattle.kr_judge_code.proofs.call.rep_ok_call.Goals as goal

pub returns : goal.returns
returns c = λ class found.
    let p = c.args.program.now in
    let m = c.args.method in
    let called = subst (λ (x : List ℕ). IsCalledOn p c.args.object x no_arguments m c.called_on.result) c.as_slice-name.ensures c.called_on.ensures in
    calls_rep_ok p class c.args.object m c.called_on.result found called
