use Rattle.std.proofs.Common.{sym, ap, ◌∙◌, refl, Some, None}
use Rattle.std.specs.Prelude.{option_map}
use Rattle.kr_types_meaning.specs.Scopes.{Scope}
use Rattle.kr_types_meaning.specs.Typing.{judged, type_in}
use Rattle.kr_classes_names.specs.Types.{type_at}
use Rattle.kr_code_lowering.specs.Origins.{node_tree}
use Rattle.kr_code_lowering.specs.Sites.{scope_at}
use Rattle.kr_code_lowering.proofs.Variables.{array_of, array_scope, element_written, no_element_written}
use Rattle.kr_code_lowering.proofs.targets.element_target.Goals as goal

pub returns-in-None : goal.returns-in-None
returns-in-None c =
    let p = c.args.program.now in
    let r = scope_at p c.args.site in
    let at = c.args.at in
    let e = c.args.entry in
    let l = p.table.types in
    let t = node_tree p at.file c.args.array in
    let scope = array_scope p c.requires.program r at e c.args.array c.args.index c.requires.here c.requires.node c.requires.handed c.args.names.now in
    let shown = rw c.at.ensures at c.type_of.ensures.shown in
    let typed = sym (shown ∙ ap (λ (s : Scope). type_in (judged s t).typed) scope) in
    no_element_written p c.requires.program r at e c.args.array c.args.index c.requires.here c.requires.node c.requires.handed c.args.names.now None (typed ∙ ap (option_map (type_at l)) c.in-None.is) refl

pub returns-then-is_array : goal.returns-then-is_array
returns-then-is_array c =
    let p = c.args.program.now in
    let r = scope_at p c.args.site in
    let at = c.args.at in
    let e = c.args.entry in
    let l = p.table.types in
    let t = node_tree p at.file c.args.array in
    let scope = array_scope p c.requires.program r at e c.args.array c.args.index c.requires.here c.requires.node c.requires.handed c.args.names.now in
    let shown = rw c.at.ensures at c.type_of.ensures.shown in
    let typed = sym (shown ∙ ap (λ (s : Scope). type_in (judged s t).typed) scope) in
    let array = array_of (type_at l c.in-Some.class) (sym c.is_array.ensures ∙ c.if-is_array.true) in
    rw (c.code_number.ensures, c.code_number-then-is_array.ensures) (element_written p c.requires.program r at e c.args.array c.args.index c.requires.here c.requires.node c.requires.handed c.args.names.now c.in-Some.class array.0 (typed ∙ ap (option_map (type_at l)) c.in-Some.is) array.1)

pub returns-else-is_array : goal.returns-else-is_array
returns-else-is_array c =
    let p = c.args.program.now in
    let r = scope_at p c.args.site in
    let at = c.args.at in
    let e = c.args.entry in
    let l = p.table.types in
    let t = node_tree p at.file c.args.array in
    let scope = array_scope p c.requires.program r at e c.args.array c.args.index c.requires.here c.requires.node c.requires.handed c.args.names.now in
    let shown = rw c.at.ensures at c.type_of.ensures.shown in
    let typed = sym (shown ∙ ap (λ (s : Scope). type_in (judged s t).typed) scope) in
    no_element_written p c.requires.program r at e c.args.array c.args.index c.requires.here c.requires.node c.requires.handed c.args.names.now (Some (type_at l c.in-Some.class)) (typed ∙ ap (option_map (type_at l)) c.in-Some.is) (sym c.is_array.ensures ∙ c.if-is_array.false)
