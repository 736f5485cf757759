use Rattle.std.proofs.Common.{◌∙◌, sym, ap, ℕ, map}
use Rattle.std.specs.Prelude.{Option, option_map}
use Rattle.kr_classes_table.specs.Table.{Method, Table, method_named}
use Rattle.kr_types_meaning.specs.Rules as rules
use Rattle.kr_types_meaning.specs.Noting as noting
use Rattle.kr_types_scopes.specs.Settings.{scope_in}
use Rattle.kr_classes_names.specs.Types.{type_at}
use Rattle.kr_types_judging.specs.Shown.{note_shown}
use Rattle.kr_types_expressions.specs.Notes.{typed_in}
use Rattle.kr_types_expressions.specs.Parts.{with_list}
use Rattle.kr_types_expressions.proofs.Asking.{concludes_list, concludes_one_and_list}
use Rattle.kr_types_expressions.proofs.calls.method_call_note.Goals as goal

pub returns-in-Some-clause-within : goal.returns-in-Some-clause-within
returns-in-Some-clause-within c = c.conclude.ensures.within c.args.classes.now.types.now c.static_call_verdict-verdict.ensures.within

pub returns-in-Some-clause-shown : goal.returns-in-Some-clause-shown
returns-in-Some-clause-shown c = λ g bs e.
    let l = c.args.classes.now.types.now in
    let look = typed_in l c.args.notes.now in
    let s = scope_in g bs c.args.here in
    let n = c.args.name.now in
    let x = note_shown l look c.args.x in
    let y = note_shown l look c.args.y in
    let o = option_map (λ ts. map (type_at l) ts.items) c.in_ok-arguments.arguments in
    concludes_list c.args.place (rules.static_rule s (method_named s.table c.in-Some.class n)) y
    (c.static_call_verdict-verdict.ensures.says g bs e
    ∙ ap (λ (m : Option Method). with_list (rules.static_rule s m) o) (c.method_named-found.ensures.shown c.args.classes.now.trees.now c.requires.classes.members ∙ ap (λ (t : Table). method_named t c.in-Some.class n) (sym e)))
    c.in_ok-arguments.ensures.shown (c.conclude.ensures.shown l look)
    ∙ ap (λ (b : Option ℕ). noting.method_of s c.args.place n b x y) (sym c.in-Some.is)

pub returns-in-None-clause-within : goal.returns-in-None-clause-within
returns-in-None-clause-within c = c.conclude-in-None.ensures.within c.args.classes.now.types.now c.object_call_verdict-verdict.ensures.within

pub returns-in-None-clause-shown : goal.returns-in-None-clause-shown
returns-in-None-clause-shown c = λ g bs e.
    let l = c.args.classes.now.types.now in
    let look = typed_in l c.args.notes.now in
    let s = scope_in g bs c.args.here in
    let n = c.args.name.now in
    let x = note_shown l look c.args.x in
    let y = note_shown l look c.args.y in
    concludes_one_and_list c.args.place (rules.object_call_rule s n) x y (c.object_call_verdict-verdict.ensures.says g bs e) (c.part_type-object.ensures.shown l look) c.in_ok-arguments.ensures.shown c.earlier.ensures (c.conclude-in-None.ensures.shown l look)
    ∙ ap (λ (b : Option ℕ). noting.method_of s c.args.place n b x y) (sym c.in-None.is)
