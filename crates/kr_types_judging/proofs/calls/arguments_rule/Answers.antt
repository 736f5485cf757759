use Rattle.std.proofs.Common.{◌∙◌, sym, ap, map}
use Rattle.kr_ast.specs.Arena.{tree_in}
use Rattle.kr_classes_table.specs.Table.{Table, items}
use Rattle.kr_types_meaning.specs.Rules as rules
use Rattle.kr_ast.specs.Files.{file_at}
use Rattle.kr_types_scopes.specs.Settings.{scope_in}
use Rattle.kr_classes_members.specs.Shown.{headings_in, method_shown}
use Rattle.kr_classes_names.specs.Types.{type_at}
use Rattle.kr_types_judging.specs.Arguments.{arguments_go_into, listed_types}
use Rattle.kr_types_judging.proofs.Walking.{asked}
use Rattle.kr_types_judging.proofs.calls.arguments_rule.Goals as goal

pub returns-clause-within : goal.returns-clause-within
returns-clause-within c = c.ask.ensures.within c.args.classes.now.types.now c.result_rule.ensures.within

pub returns-clause-says : goal.returns-clause-says
returns-clause-says c = λ g bs e.
    let l = c.args.classes.now.types.now in
    let files = c.args.classes.now.trees.now in
    let m = c.args.method in
    let s = scope_in g bs c.args.here in
    let ts = map (type_at l) c.args.arguments.now in
    let hs = headings_in files in
    let a = file_at files m.file in
    c.ask.ensures.says l
    ∙ ap (λ (v : rules.Judgement). rules.ask c.arguments_fit-fit.result 24 v) (c.result_rule.ensures.says g bs)
    ∙ ap (λ b. rules.ask b 24 (rules.result_rule s (method_shown files m)))
    (c.arguments_fit-fit.ensures ∙ ap (λ (t : Table). arguments_go_into t hs ts (listed_types a m.parameters)) (sym e) ∙ sym (asked s hs ts (items (tree_in a m.parameters))))
