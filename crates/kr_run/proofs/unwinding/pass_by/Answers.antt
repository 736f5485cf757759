use Rattle.std.proofs.Common.{List, refl, sym, ap, ◌∙◌}
use Rattle.std.specs.Prelude.{map}
use Rattle.kr_mean.specs.Steps as steps
use Rattle.kr_run_state.specs.declared.world.Local.{Local}
use Rattle.kr_run_state.specs.Shown.{local_of}
use Rattle.kr_run_state.specs.Worlds.{state_at}
use Rattle.kr_run_frames.specs.Kept.{IsOnTop, locals_on}
use Rattle.kr_run.proofs.Machine.{locals_cut}
use Rattle.kr_run.proofs.Passing.{fewer, goes, stays}
use Rattle.kr_run.specs.Unwinding.{PassesBy, out_passing, state_behind}
use Rattle.kr_run.specs.declared.unwinding.Ends.{Ends}
use Rattle.kr_run.proofs.unwinding.pass_by.Goals as goal

pub frames-init : goal.frames-init
frames-init c = stays c.args.code.now c.args.stack.now c.args.by c.args.world.now

pub frames-preserved-in-Nothing : goal.frames-preserved-in-Nothing
frames-preserved-in-Nothing c =
    let w = c.frames.world in
    let before = c.args.world.now in
    let top = c.frames.stack in
    let on : IsOnTop c.in-Some.top.now top = c.in-Some.ensures in
    let passes : PassesBy c.args.code.now c.in-Some.top.now c.args.by c.in-Some-past.ends = c.in-Some-past.ensures in
    goes c.args.code.now top _ c.in-Some.top.now c.args.by c.in-Some-past.ends w _ before (λ d x. out_passing c.args.code.now d c.args.stack.now c.args.by (state_at before x)) on c.drop_top.ensures passes (λ x a. a) (λ x k. k) refl
    (λ x. sym (ap (λ (e : Ends). state_behind e (locals_on top) (state_at w x)) c.in-Nothing.is))
    c.frames.invariant

pub frames-preserved-in-Scope : goal.frames-preserved-in-Scope
frames-preserved-in-Scope c =
    let w = c.frames.world in
    let before = c.args.world.now in
    let top = c.frames.stack in
    let on : IsOnTop c.in-Some.top.now top = c.in-Some.ensures in
    let passes : PassesBy c.args.code.now c.in-Some.top.now c.args.by c.in-Some-past.ends = c.in-Some-past.ensures in
    goes c.args.code.now top _ c.in-Some.top.now c.args.by c.in-Some-past.ends w _ before (λ d x. out_passing c.args.code.now d c.args.stack.now c.args.by (state_at before x)) on c.drop_top-in-Scope.ensures passes (λ x a. a)
    (λ x k. record { allowed = k.allowed; frozen_before = k.frozen_before; same = k.same; long = k.long })
    refl
    (λ x.
    ap (λ (ls : List Local). record (state_at w x) { locals = map local_of ls }) c.truncate.ensures.items
    ∙ ap (λ (ls : List steps.Local). record (state_at w x) { locals = ls }) (sym (locals_cut w.locals.items c.in-Scope.count))
    ∙ sym (ap (λ (e : Ends). state_behind e (locals_on top) (state_at w x)) c.in-Scope.is))
    c.frames.invariant

pub frames-preserved : goal.frames-preserved
frames-preserved c =
    let w = c.frames.world in
    let before = c.args.world.now in
    let top = c.frames.stack in
    let on : IsOnTop c.in-Some.top.now top = c.in-Some.ensures in
    let passes : PassesBy c.args.code.now c.in-Some.top.now c.args.by c.in-Some-past.ends = c.in-Some-past.ensures in
    goes c.args.code.now top _ c.in-Some.top.now c.args.by c.in-Some-past.ends w _ before (λ d x. out_passing c.args.code.now d c.args.stack.now c.args.by (state_at before x)) on c.in_ok-take_locals-in-Body.ensures.rest passes (λ x a. a)
    (λ x k. record { allowed = k.allowed; frozen_before = k.frozen_before; same = k.same; long = k.long })
    refl
    (λ x.
    ap (λ (ls : List Local). record (state_at w x) { this_value = c.in-Body.this; locals = map local_of ls }) c.in_ok-take_locals-in-Body.ensures.locals
    ∙ sym (ap (λ (e : Ends). state_behind e (locals_on top) (state_at w x)) c.in-Body.is))
    c.frames.invariant

pub frames-smaller-in-Nothing : goal.frames-smaller-in-Nothing
frames-smaller-in-Nothing c = fewer c.in-Some.top.now c.frames.stack _ c.in-Some.ensures c.drop_top.ensures

pub frames-smaller-in-Scope : goal.frames-smaller-in-Scope
frames-smaller-in-Scope c = fewer c.in-Some.top.now c.frames.stack _ c.in-Some.ensures c.drop_top-in-Scope.ensures

pub frames-smaller : goal.frames-smaller
frames-smaller c = fewer c.in-Some.top.now c.frames.stack _ c.in-Some.ensures c.in_ok-take_locals-in-Body.ensures.rest
