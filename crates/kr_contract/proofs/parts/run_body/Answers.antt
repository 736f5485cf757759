use Rattle.std.proofs.Common.{◌≡◌, List, ap, sym, subst, ◌∙◌}
use Rattle.std.specs.Prelude.{IfOk, map}
use Rattle.kr_value.specs.declared.value.Value.{Value}
use Rattle.kr_code.specs.Doing.{run_method}
use Rattle.kr_code.specs.Tables.{method_at}
use Rattle.kr_mean.specs.declared.kind.Verdict.TheVariants.{Trap}
use Rattle.kr_run_state.specs.declared.world.Local.{Local}
use Rattle.kr_run_state.specs.Shown.{local_of}
use Rattle.kr_run_state.specs.Worlds.{state_at, state_of}
use Rattle.kr_contract.specs.Tests.{Ends}
use Rattle.kr_contract.proofs.Decided.{ended_so, values_in_state}
use Rattle.kr_contract.proofs.parts.run_body.Goals as goal

pub returns : goal.returns
returns c =
    let code = c.args.code.now in
    let w = c.args.world.now in
    let vs = c.as_slice-2.result.now in
    let values : vs ≡ map (λ l. l.value) (map local_of w.locals.items) = c.as_slice-2.ensures.value ∙ (c.in_ok-take_values.ensures ∙ (ap (λ (ls : List Local). map (λ l. l.value) ls) c.as_slice.ensures.value ∙ sym (values_in_state w.locals.items))) in
    subst (λ (us : List Value). IfOk c.ended.result (λ said. Ends code said c.call.new.world (λ d. run_method code d w.this us (method_at code c.args.method) (state_of w)))) values
    (ended_so code w c.call.new.world (λ d x. run_method code d w.this vs (method_at code c.args.method) (state_at w x)) (λ x. Trap x) c.requires c.call.result c.ended.result c.ended.ensures c.call.ensures)
