use Rattle.std.proofs.Common.{◌≡◌, refl, sym, ◌∙◌, subst, length, arith}
use Rattle.std.specs.Prelude.{Some, slice_get}
use Rattle.std.proofs.lemmas.Option.{get_or_from_slice_get, slice_get_read}
use Rattle.kr_ast.specs.Arena.{tree_in}
use Rattle.kr_ast.specs.Files.{file_at}
use Rattle.kr_classes_members.specs.Shown.{table_in}
use Rattle.kr_types_resolving.specs.Shown.{IsMeaningWithin, IsMeant}
use Rattle.kr_types_resolving.specs.declared.meaning.Meaning.TheVariants.{Nothing}
use Rattle.kr_types.specs.declared.program.TypedFile.{TypedFile}
use Rattle.kr_types.specs.Programs.{scope_there}
use Rattle.kr_types.proofs.program.Program.meaning_of.Goals as goal

pub at-requires : goal.at-requires
at-requires c =
    let p = c.args.self.now in
    let f = slice_get_read p.files.items (length p.files.items) c.args.file c.index.result.now refl (omega (arith, c.requires.program.count, c.requires.file)) c.index.ensures in
    omega (arith, (c.requires.program.files c.args.file c.index.result.now f).resolved, c.requires.node)

pub returns-clause-within : goal.returns-clause-within
returns-clause-within c =
    let p = c.args.self.now in
    let t = c.index.result.now in
    let ms = t.meanings.items in
    let f = slice_get_read p.files.items (length p.files.items) c.args.file t refl (omega (arith, c.requires.program.count, c.requires.file)) c.index.ensures in
    let is = c.requires.program.files c.args.file t f in
    let there = c.at.ensures in
    subst (IsMeaningWithin (table_in p.trees.items)) (get_or_from_slice_get ms c.args.node c.at.result Nothing there) (is.meant c.args.node c.requires.node).within

pub returns-clause-meant : goal.returns-clause-meant
returns-clause-meant c = λ u known.
    let p = c.args.self.now in
    let t = c.index.result.now in
    let f = slice_get_read p.files.items (length p.files.items) c.args.file t refl (omega (arith, c.requires.program.count, c.requires.file)) c.index.ensures in
    let same : t ≡ u = (let both : Some t ≡ Some u = sym f ∙ known in cc) in
    let is = c.requires.program.files c.args.file u known in
    let read = subst (λ (w : TypedFile). slice_get w.meanings.items c.args.node ≡ Some c.at.result) same c.at.ensures in
    subst (IsMeant (table_in p.trees.items) (scope_there p.trees.items c.args.file u c.args.node) (tree_in (file_at p.trees.items c.args.file) c.args.node)) (get_or_from_slice_get u.meanings.items c.args.node c.at.result Nothing read) (is.meant c.args.node c.requires.node)
