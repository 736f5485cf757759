use Rattle.std.proofs.Common.{◌≡◌, Bool, refl, sym, ap, ◌∙◌, subst, ℕ, length, take, None, arith}
use Rattle.kr_mean.specs.declared.kind.Verdict.TheVariants.{CheckTrap}
use Rattle.kr_mean.specs.Verdicts.{naming, then_judged}
use Rattle.kr_run_state.specs.declared.world.Local.{Local}
use Rattle.kr_run_state.specs.declared.world.World.{World}
use Rattle.kr_run_state.specs.Worlds.{state_of}
use Rattle.kr_contract.specs.Tests.{Decides}
use Rattle.kr_contract.proofs.Decided.{named}
use Rattle.kr_contract.proofs.parts.evaluate_naming.Goals as goal

pub returns : goal.returns
returns c =
    let code = c.args.code.now in
    let before = c.args.world.now in
    let within : World = record before { locals = c.push.new.self } in
    let w = c.evaluate-2.new.world in
    let after : World = record w { locals = c.truncate.new.self } in
    let x : Local = record { value = c.args.object; parameter = None } in
    let count : c.len-count.result ≡ length before.locals.items = omega (arith, c.len-count.ensures, before.locals.ok.0) in
    let cut = c.truncate.ensures.items ∙ ap (λ (n : ℕ). take n w.locals.items) count in
    subst (λ (b : Bool). Decides code c.in_ok-said.said after (λ d. then_judged CheckTrap (naming b c.args.object (d.value c.args.node) (state_of before)))) (sym c.if-not-is_named.false)
    (named before within w after x c.args.object refl c.in_ok-push.ensures.items refl cut refl code c.args.node c.in_ok-said.said (λ h. record { none = h.none }) c.in_ok-said.ensures)
