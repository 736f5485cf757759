use Rattle.std.proofs.Common.{◌≡◌, ◌∙◌, sym, ap, ◌<◌, ◌+◌, ◌-◌, true, false, bytes_eq, append-nil, arith}
use Rattle.std.specs.Prelude.{is_some, find}
use Rattle.kr_classes_table.specs.Table as table
use Rattle.kr_classes_table.specs.Table.{line_within, own_fields, field_on}
use Rattle.kr_classes_members.specs.Shown.{table_in}
use Rattle.kr_classes_members.proofs.Upwards.{above, ended, nearest, nowhere, spent, whole}
use Rattle.kr_classes_members.specs.Rosters.{all_fields}
use Rattle.kr_classes_members.proofs.Found.{missing, present}
use Rattle.kr_classes_members.proofs.roster.Roster.field_named.Goals as goal

pub loop-step-init : goal.loop-step-init
loop-step-init c = λ files h r.
    let t = table_in files in
    ap (λ cs. field_on t cs c.args.name.now) (whole t c.len-steps.result c.args.class (c.len-steps.ensures.all files h))

pub returns-in-None-clause-shown : goal.returns-in-None-clause-shown
returns-in-None-clause-shown c = λ files h r.
    let t = table_in files in
    let left = c.len-steps.result + 1 - c.loop-step.step in
    nowhere (own_fields t) (λ (f : table.Field). bytes_eq f.name c.args.name.now) (line_within left t c.loop-step.at) (ended left t c.loop-step.at c.in-None.is)
    ∙ c.loop-step.invariant files h r

pub returns-then-is_some-clause-shown : goal.returns-then-is_some-clause-shown
returns-then-is_some-clause-shown c = λ files h r.
    let t = table_in files in
    let n = c.len-steps.result + 1 in
    let p = λ (f : table.Field). bytes_eq f.name c.args.name.now in
    let own = own_fields t c.in-Some.here in
    let l : c.loop-step.step < n = c.loop-step-test.true in
    let shown = c.own_field-found.ensures.shown files h r ∙ ap (find p) (append-nil own) in
    let some : is_some c.own_field-found.result ≡ true = sym c.is_some.ensures ∙ c.if-is_some.true in
    shown
    ∙ nearest (own_fields t) p t n c.loop-step.step c.in-Some.here c.loop-step.at l c.in-Some.is (present (all_fields t) c.own_field-found.result (find p own) shown (c.own_field-found.ensures.within files h r) some)
    ∙ c.loop-step.invariant files h r

pub returns-clause-shown : goal.returns-clause-shown
returns-clause-shown c = λ files h r.
    let t = table_in files in
    let left = c.len-steps.result + 1 - c.loop-step.step in
    nowhere (own_fields t) (λ (f : table.Field). bytes_eq f.name c.args.name.now) (line_within left t c.loop-step.at) (spent left t c.loop-step.at (omega arith))
    ∙ c.loop-step.invariant files h r

pub loop-step-preserved : goal.loop-step-preserved
loop-step-preserved c = λ files h r.
    let t = table_in files in
    let n = c.len-steps.result + 1 in
    let p = λ (f : table.Field). bytes_eq f.name c.args.name.now in
    let own = own_fields t c.in-Some.here in
    let l : c.loop-step.step < n = c.loop-step-test.true in
    let shown = c.own_field-found.ensures.shown files h r ∙ ap (find p) (append-nil own) in
    let none : is_some c.own_field-found.result ≡ false = sym c.is_some.ensures ∙ c.if-is_some.false in
    above (own_fields t) p t n c.loop-step.step c.in-Some.here c.loop-step.at c.superclass-at.result l c.in-Some.is (c.superclass-at.ensures files h) (missing (all_fields t) c.own_field-found.result (find p own) shown none)
    ∙ c.loop-step.invariant files h r
