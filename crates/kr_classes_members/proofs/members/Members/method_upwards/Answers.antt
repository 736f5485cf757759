use Rattle.std.proofs.Common.{◌≡◌, ◌∙◌, sym, ◌<◌, ◌-◌, true, false, bytes_eq}
use Rattle.std.specs.Prelude.{is_some}
use Rattle.kr_classes_table.specs.Table as table
use Rattle.kr_classes_table.specs.Table.{line_within, own_methods}
use Rattle.kr_classes_members.specs.Shown.{method_shown, table_in}
use Rattle.kr_classes_members.proofs.Upwards.{above, absent, ended, nearest, nowhere, present}
use Rattle.kr_classes_members.proofs.members.Members.method_upwards.Goals as goal

pub returns-in-None-clause-shown : goal.returns-in-None-clause-shown
returns-in-None-clause-shown c = λ files h.
    let t = table_in files in
    let left = c.args.steps - c.loop-step.step in
    nowhere (own_methods t) (λ (f : table.Method). bytes_eq f.name c.args.name.now) (line_within left t c.loop-step.at) (ended left t c.loop-step.at c.in-None.is)
    ∙ c.loop-step.invariant files h

pub returns-then-is_some-clause-shown : goal.returns-then-is_some-clause-shown
returns-then-is_some-clause-shown c = λ files h.
    let t = table_in files in
    let n = c.args.steps in
    let l : c.loop-step.step < n = c.loop-step-test.true in
    let shown = c.own_method-found.ensures.shown files h in
    let some : is_some c.own_method-found.result ≡ true = sym c.is_some.ensures ∙ c.if-is_some.true in
    shown
    ∙ nearest (own_methods t) (λ (f : table.Method). bytes_eq f.name c.args.name.now) t n c.loop-step.step c.in-Some.here c.loop-step.at l c.in-Some.is (present (method_shown files) c.own_method-found.result _ shown some)
    ∙ c.loop-step.invariant files h

pub loop-step-preserved : goal.loop-step-preserved
loop-step-preserved c = λ files h.
    let t = table_in files in
    let n = c.args.steps in
    let l : c.loop-step.step < n = c.loop-step-test.true in
    let shown = c.own_method-found.ensures.shown files h in
    let none : is_some c.own_method-found.result ≡ false = sym c.is_some.ensures ∙ c.if-is_some.false in
    above (own_methods t) (λ (f : table.Method). bytes_eq f.name c.args.name.now) t n c.loop-step.step c.in-Some.here c.loop-step.at c.superclass-at.result l c.in-Some.is (c.superclass-at.ensures files h)
    (absent (method_shown files) c.own_method-found.result _ shown none)
    ∙ c.loop-step.invariant files h
