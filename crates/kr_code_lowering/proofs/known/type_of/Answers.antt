use Rattle.std.proofs.Common.{ap, sym, ◌∙◌, Option}
use Rattle.kr_types_meaning.specs.Typing.{judged, type_in}
use Rattle.kr_types_meaning.specs.Noting as noting
use Rattle.kr_types_expressions.specs.Notes.{typed_in}
use Rattle.kr_types_expressions.proofs.Notes.{shown_at}
use Rattle.kr_types.specs.declared.program.TypedFile.{TypedFile}
use Rattle.kr_code_lowering.specs.Origins.{scope_in}
use Rattle.kr_code_lowering.specs.Sites.{tree_at}
use Rattle.kr_code_lowering.proofs.known.type_of.Goals as goal

pub returns-clause-shown : goal.returns-clause-shown
returns-clause-shown c =
    let p = c.args.program.now in
    let s = c.args.site in
    let l = p.table.types in
    let t = c.typed.result.now in
    let is = c.requires.program.files s.file t c.typed.ensures in
    let n = c.at.result in
    let there = c.at.ensures in
    let known = sym (shown_at l t.notes is.within s.node n there) ∙ is.judged s.node c.requires.site.node in
    c.part_type.ensures.shown l (typed_in l t.notes) ∙ (ap (λ (x : noting.Note). type_in x.typed) known ∙ ap (λ (o : Option TypedFile). type_in (judged (scope_in p s.file s.node o) (tree_at p s)).typed) (sym c.typed.ensures))
