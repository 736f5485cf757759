use Rattle.std.proofs.Common.{◌≡◌, refl, sym, ap, ◌∙◌}
use Rattle.kr_ast.specs.declared.node.Node.TheVariants as nodes
use Rattle.kr_ast.specs.Arena.{tree_in}
use Rattle.kr_ast.specs.Tree as trees
use Rattle.kr_ast.specs.Tree.{Tree}
use Rattle.kr_classes_table.specs.Types.{JavaType}
use Rattle.kr_types_meaning.specs.Running.{running}
use Rattle.kr_ast.specs.Files.{file_at}
use Rattle.kr_types.specs.Programs.{scope_there}
use Rattle.kr_mean.specs.Program.{is_array_of}
use Rattle.kr_mean.specs.Purity.{is_class, may_touch}
use Rattle.kr_pure_effects.proofs.Parts.{parts_are, tree_is, write_touches}
use Rattle.kr_pure_effects.proofs.nodes.touch_of.Goals as goal

pub returns-in-Assignment-clause-shown : goal.returns-in-Assignment-clause-shown
returns-in-Assignment-clause-shown c = λ mean t class typed.
    let p = c.args.program.now in
    let a = file_at p.trees.items c.args.file in
    let i = c.args.node in
    let e = c.entry_at.result in
    let w = c.in-Assignment in
    let n = nodes.Assignment w.target w.value in
    let u : Tree = trees.Assignment e.place (tree_in a w.target) (tree_in a w.value) in
    let is : tree_in a i ≡ u = tree_is a i e n c.entry_at.ensures w.is in
    let part = (parts_are a i e n c.entry_at.ensures w.is).0 in
    c.written_touch.ensures.shown mean t class typed ∙ write_touches p c.requires.program c.args.file t typed i 0 w.target u c.requires.node part is (λ s. refl) (λ s m k. refl) mean class

pub returns-in-CompoundAssignment-clause-shown : goal.returns-in-CompoundAssignment-clause-shown
returns-in-CompoundAssignment-clause-shown c = λ mean t class typed.
    let p = c.args.program.now in
    let a = file_at p.trees.items c.args.file in
    let i = c.args.node in
    let e = c.entry_at.result in
    let w = c.in-CompoundAssignment in
    let n = nodes.CompoundAssignment w.operator w.target w.value in
    let u : Tree = trees.CompoundAssignment e.place w.operator (tree_in a w.target) (tree_in a w.value) in
    let is : tree_in a i ≡ u = tree_is a i e n c.entry_at.ensures w.is in
    let part = (parts_are a i e n c.entry_at.ensures w.is).0 in
    c.written_touch-in-CompoundAssignment.ensures.shown mean t class typed ∙ write_touches p c.requires.program c.args.file t typed i 0 w.target u c.requires.node part is (λ s. refl) (λ s m k. refl) mean class

pub returns-in-Step-clause-shown : goal.returns-in-Step-clause-shown
returns-in-Step-clause-shown c = λ mean t class typed.
    let p = c.args.program.now in
    let a = file_at p.trees.items c.args.file in
    let i = c.args.node in
    let e = c.entry_at.result in
    let w = c.in-Step in
    let n = nodes.Step w.operator w.target in
    let u : Tree = trees.Step e.place w.operator (tree_in a w.target) in
    let is : tree_in a i ≡ u = tree_is a i e n c.entry_at.ensures w.is in
    let part = (parts_are a i e n c.entry_at.ensures w.is).0 in
    c.written_touch-in-Step.ensures.shown mean t class typed ∙ write_touches p c.requires.program c.args.file t typed i 0 w.target u c.requires.node part is (λ s. refl) (λ s m k. refl) mean class

pub returns-in-ObjectCreation-clause-shown : goal.returns-in-ObjectCreation-clause-shown
returns-in-ObjectCreation-clause-shown c = λ mean t class typed.
    let p = c.args.program.now in
    let a = file_at p.trees.items c.args.file in
    let i = c.args.node in
    let e = c.entry_at.result in
    let w = c.in-ObjectCreation in
    let u : Tree = trees.ObjectCreation e.place (tree_in a w.class) (tree_in a w.arguments) in
    let is : tree_in a i ≡ u = tree_is a i e (nodes.ObjectCreation w.class w.arguments) c.entry_at.ensures w.is in
    c.creation_touch.ensures.shown mean class ∙ ap (λ (y : JavaType). is_class y class) c.named_type.ensures.type_is
    ∙ ap (λ (v : Tree). may_touch mean (running (scope_there p.trees.items c.args.file t i)) v class) (sym is)

pub returns-in-ArrayCreation-clause-shown : goal.returns-in-ArrayCreation-clause-shown
returns-in-ArrayCreation-clause-shown c = λ mean t class typed.
    let p = c.args.program.now in
    let a = file_at p.trees.items c.args.file in
    let i = c.args.node in
    let e = c.entry_at.result in
    let w = c.in-ArrayCreation in
    let u : Tree = trees.ArrayCreation e.place (tree_in a w.element) (tree_in a w.length) in
    let is : tree_in a i ≡ u = tree_is a i e (nodes.ArrayCreation w.element w.length) c.entry_at.ensures w.is in
    ap (λ (y : JavaType). is_array_of mean y class) c.named_type-in-ArrayCreation.ensures.type_is
    ∙ ap (λ (v : Tree). may_touch mean (running (scope_there p.trees.items c.args.file t i)) v class) (sym is)
