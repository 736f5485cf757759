use Rattle.std.proofs.Common.{◌≡◌, sym, ap, ◌∙◌}
use Rattle.std.proofs.lemmas.Result.{IfOk-weaker}
use Rattle.kr_ast.specs.declared.node.Node.TheVariants as nodes
use Rattle.kr_ast.specs.Arena.{tree_in}
use Rattle.kr_ast.specs.Tree as trees
use Rattle.kr_ast.specs.Tree.{Tree}
use Rattle.kr_classes_table.specs.Types.{JavaType}
use Rattle.kr_types_meaning.specs.Running.{running}
use Rattle.kr_ast.specs.Files.{file_at}
use Rattle.kr_types.specs.Programs.{scope_there}
use Rattle.kr_classes_members.specs.Shown.{table_in}
use Rattle.kr_classes_names.specs.Types.{type_at}
use Rattle.kr_mean.specs.Program.{Program}
use Rattle.kr_mean.specs.Code.{classes_of, classes_run}
use Rattle.kr_pure_effects.proofs.Found.{for_all}
use Rattle.kr_pure_effects.proofs.Parts.{tree_is}
use Rattle.kr_pure_effects.proofs.runs.classes_of.Goals as goal

pub returns-in-ObjectCreation-clause-there : goal.returns-in-ObjectCreation-clause-there
returns-in-ObjectCreation-clause-there c =
    let files = c.args.program.now.trees.items in
    let w = c.in-ObjectCreation in
    c.created_classes.ensures.there files (tree_in (file_at files c.args.file) w.class) c.requires.program.table.table.members c.named_type.ensures.type_is

pub returns-in-ObjectCreation-clause-shown : goal.returns-in-ObjectCreation-clause-shown
returns-in-ObjectCreation-clause-shown c =
    let files = c.args.program.now.trees.items in
    let a = file_at files c.args.file in
    let e = c.entry_at.result in
    let w = c.in-ObjectCreation in
    let u : Tree = trees.ObjectCreation e.place (tree_in a w.class) (tree_in a w.arguments) in
    let is : tree_in a c.args.node ≡ u = tree_is a c.args.node e (nodes.ObjectCreation w.class w.arguments) c.entry_at.ensures w.is in
    let r = c.created_classes.result in
    let l = c.args.program.now.table.types in
    let found = for_all r (λ (mean : Program). mean.table ≡ table_in files) (λ mean classes. classes.items ≡ classes_of mean (type_at l c.named_type.result)) (λ mean table. c.created_classes.ensures.shown files mean c.requires.program.table.table.members table) in
    IfOk-weaker r _ _ (λ classes h mean t table typed.
    h mean table ∙ ap (λ (y : JavaType). classes_of mean y) c.named_type.ensures.type_is ∙ ap (λ (v : Tree). classes_run mean (running (scope_there files c.args.file t c.args.node)) v) (sym is)) found
