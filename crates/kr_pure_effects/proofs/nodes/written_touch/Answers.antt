use Rattle.std.proofs.Common.{◌≡◌, refl, sym, ap, ◌∙◌}
use Rattle.std.specs.Prelude.{Option, option_map}
use Rattle.kr_ast.specs.declared.node.Node.TheVariants as nodes
use Rattle.kr_ast.specs.Arena.{tree_in}
use Rattle.kr_ast.specs.Tree as trees
use Rattle.kr_ast.specs.Tree.{Tree}
use Rattle.kr_ast.specs.Files.{file_at}
use Rattle.kr_classes_table.specs.Types.{JavaType}
use Rattle.kr_classes_names.specs.Types.{type_at}
use Rattle.kr_types_meaning.specs.Typing.{type_of}
use Rattle.kr_types_meaning.specs.Running.{running}
use Rattle.kr_laws_types.proofs.Loops.{running_same}
use Rattle.kr_types.specs.Programs.{scope_there}
use Rattle.kr_mean.specs.Meaning.{element_target, target_of}
use Rattle.kr_mean.specs.Purity.{writes_to}
use Rattle.kr_types_resolving.specs.Meanings as meanings
use Rattle.kr_pure_effects.specs.Touches.{field_written}
use Rattle.kr_pure_effects.proofs.Parts.{part_type, parts_are, tree_is}
use Rattle.kr_pure_effects.proofs.Read.{write_law}
use Rattle.kr_pure_effects.proofs.nodes.written_touch.Goals as goal

pub returns-in-ArrayAccess-clause-shown : goal.returns-in-ArrayAccess-clause-shown
returns-in-ArrayAccess-clause-shown c = λ mean t class typed.
    let p = c.args.program.now in
    let f = file_at p.trees.items c.args.file in
    let i = c.args.target in
    let e = c.entry_at.result in
    let x = c.in-ArrayAccess.array in
    let a = tree_in f x in
    let j = tree_in f c.in-ArrayAccess.index in
    let n = nodes.ArrayAccess x c.in-ArrayAccess.index in
    let u : Tree = trees.ArrayAccess e.place a j in
    let s = scope_there p.trees.items c.args.file t i in
    let is : tree_in f i ≡ u = tree_is f i e n c.entry_at.ensures c.in-ArrayAccess.is in
    let part = (parts_are f i e n c.entry_at.ensures c.in-ArrayAccess.is).0 in
    let type : option_map (type_at p.table.types) c.type_of.result ≡ type_of (running s) a =
    c.type_of.ensures.shown t typed ∙ part_type p c.requires.program c.args.file t typed i 0 x u c.requires.target part is (λ s. refl) ∙ sym (running_same s a).type in
    c.element_touch.ensures.shown mean a j class
    ∙ ap (λ (o : Option JavaType). writes_to mean (element_target a j o) class) type
    ∙ ap (λ (v : Tree). writes_to mean (target_of (running s) v) class) (sym is)

pub returns-in_default-clause-within : goal.returns-in_default-clause-within
returns-in_default-clause-within c = c.field_touch.ensures.within c.args.program.now.table.types

pub returns-in_default-clause-shown : goal.returns-in_default-clause-shown
returns-in_default-clause-shown c = λ mean t class typed.
    let p = c.args.program.now in
    let f = file_at p.trees.items c.args.file in
    let i = c.args.target in
    let e = c.entry_at.result in
    let s = scope_there p.trees.items c.args.file t i in
    let is = c.entry_at.ensures.tree in
    c.field_touch.ensures.shown mean p.table.types class
    ∙ ap (λ (m : meanings.Meaning). field_written mean m class) (c.meaning_of.ensures.meant t typed).shown
    ∙ ap (λ (v : Tree). field_written mean (meanings.meaning s v) class) is
    ∙ sym (write_law mean s f.text (tree_in f) e.place e.node class c.in_default.not-ArrayAccess)
    ∙ ap (λ (v : Tree). writes_to mean (target_of (running s) v) class) (sym is)
