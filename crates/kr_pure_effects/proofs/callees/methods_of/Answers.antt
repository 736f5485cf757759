use Rattle.std.proofs.Common.{◌≡◌, sym, ap, ◌∙◌, subst, [], map, rules}
use Rattle.std.proofs.lemmas.Result.{IfOk-weaker}
use Rattle.kr_ast.specs.Arena.{tree_in}
use Rattle.kr_ast.specs.Files.{file_at}
use Rattle.kr_classes_members.specs.Shown.{table_in}
use Rattle.kr_classes_members.specs.Rosters.{method_numbered}
use Rattle.kr_types.specs.Programs.{scope_there}
use Rattle.kr_types_resolving.specs.Shown.{IsMeaningWithin, meaning_shown}
use Rattle.kr_pure_effects.specs.Nodes.{runs_by}
use Rattle.kr_pure_effects.proofs.Read.{none_run, runs_law}
use Rattle.kr_pure_effects.proofs.callees.methods_of.Goals as goal

pub overriding-requires-clause-number : goal.overriding-requires-clause-number
overriding-requires-clause-number c = subst (IsMeaningWithin (table_in c.args.program.now.trees.items)) c.in-Virtual.is c.meaning_of.ensures.within

pub returns-in-Virtual-clause-shown : goal.returns-in-Virtual-clause-shown
returns-in-Virtual-clause-shown c =
    let files = c.args.program.now.trees.items in
    let tree = tree_in (file_at files c.args.file) c.args.node in
    IfOk-weaker c.overriding.result _ _ (λ methods h mean t table typed.
    h mean table
    ∙ ap (runs_by mean) (ap (meaning_shown (table_in files)) (sym c.in-Virtual.is) ∙ (c.meaning_of.ensures.meant t typed).shown)
    ∙ sym (runs_law mean (scope_there files c.args.file t c.args.node) tree)) c.overriding.ensures.shown

pub returns-in-Static-clause-shown : goal.returns-in-Static-clause-shown
returns-in-Static-clause-shown c =
    let files = c.args.program.now.trees.items in
    let tree = tree_in (file_at files c.args.file) c.args.node in
    IfOk-weaker c.alone.result _ _ (λ methods h mean t table typed.
    ap (map (method_numbered (table_in files))) h
    ∙ ap (runs_by mean) (ap (meaning_shown (table_in files)) (sym c.in-Static.is) ∙ (c.meaning_of.ensures.meant t typed).shown)
    ∙ sym (runs_law mean (scope_there files c.args.file t c.args.node) tree)) c.alone.ensures

pub returns-in-Super-clause-shown : goal.returns-in-Super-clause-shown
returns-in-Super-clause-shown c =
    let files = c.args.program.now.trees.items in
    let tree = tree_in (file_at files c.args.file) c.args.node in
    IfOk-weaker c.alone-in-Super.result _ _ (λ methods h mean t table typed.
    ap (map (method_numbered (table_in files))) h
    ∙ ap (runs_by mean) (ap (meaning_shown (table_in files)) (sym c.in-Super.is) ∙ (c.meaning_of.ensures.meant t typed).shown)
    ∙ sym (runs_law mean (scope_there files c.args.file t c.args.node) tree)) c.alone-in-Super.ensures

pub returns-in_default-clause-shown : goal.returns-in_default-clause-shown
returns-in_default-clause-shown c = λ mean t table typed.
    let files = c.args.program.now.trees.items in
    let tree = tree_in (file_at files c.args.file) c.args.node in
    let none : c.new.result.items ≡ [] = search rules in
    ap (map (method_numbered (table_in files))) none
    ∙ none_run mean (table_in files) c.meaning_of.result c.in_default.not-Virtual c.in_default.not-Static c.in_default.not-Super
    ∙ ap (runs_by mean) (c.meaning_of.ensures.meant t typed).shown
    ∙ sym (runs_law mean (scope_there files c.args.file t c.args.node) tree)
