use Rattle.std.proofs.Common.{◌≡◌, refl, sym, ◌∙◌, subst, length, arith}
use Rattle.std.specs.Prelude.{Some, slice_get}
use Rattle.std.proofs.lemmas.Option.{slice_get_read}
use Rattle.kr_types.specs.declared.program.TypedFile.{TypedFile}
use Rattle.kr_types_expressions.specs.Notes.{typed_in}
use Rattle.kr_types.proofs.Faults.{type_there}
use Rattle.kr_types.proofs.program.Program.type_of.Goals as goal

pub returns-clause-within : goal.returns-clause-within
returns-clause-within c =
    let p = c.args.self.now in
    let f = slice_get_read p.files.items (length p.files.items) c.args.file c.index.result.now refl (omega (arith, c.requires.program.count, c.requires.file)) c.index.ensures in
    let typed = c.requires.program.files c.args.file c.index.result.now f in
    c.part_type.ensures.within p.table.types (typed.within.within c.args.node c.at.result c.at.ensures)

pub returns-clause-shown : goal.returns-clause-shown
returns-clause-shown c = λ t there.
    let p = c.args.self.now in
    let f = slice_get_read p.files.items (length p.files.items) c.args.file c.index.result.now refl (omega (arith, c.requires.program.count, c.requires.file)) c.index.ensures in
    let same : c.index.result.now ≡ t = (let both : Some c.index.result.now ≡ Some t = sym f ∙ there in cc) in
    let read = subst (λ (u : TypedFile). slice_get u.notes c.args.node ≡ Some c.at.result) same c.at.ensures in
    type_there p.trees.items p.table.types c.args.file t c.args.node c.at.result c.part_type.result (c.requires.program.files c.args.file t there) c.requires.node read (c.part_type.ensures.shown p.table.types (typed_in p.table.types t.notes))
