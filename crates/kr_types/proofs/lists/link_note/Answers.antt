use Rattle.std.proofs.Common.{sym, ap, ◌∙◌, subst, length}
use Rattle.kr_ast.specs.declared.node.Node.{Node}
use Rattle.kr_ast.specs.Arena.{parts}
use Rattle.kr_ast.specs.Arena.{AreBelow}
use Rattle.kr_types_meaning.specs.Noting as noting
use Rattle.kr_types_judging.specs.Shown.{note_shown}
use Rattle.kr_types_expressions.specs.Notes.{shown_notes, typed_in}
use Rattle.kr_types.specs.Sites.{IsNoteOf}
use Rattle.kr_types.proofs.Making.{made_of}
use Rattle.kr_types.proofs.lists.link_note.Goals as goal

pub returns-in-Nil : goal.returns-in-Nil
returns-in-Nil c = λ s here p.
    let l = c.args.types.now in
    let ns = c.args.notes.now in
    made_of s l ns (length ns) here p _ _ _ c.in-Nil.is (c.absent_note.ensures.within l) c.absent_note.ensures.no_rest (c.absent_note.ensures.shown l (typed_in l ns))

pub returns-in-Cons : goal.returns-in-Cons
returns-in-Cons c = λ s here p.
    let l = c.args.types.now in
    let ns = c.args.notes.now in
    let look = typed_in l ns in
    let below = subst (λ (n : Node). AreBelow (length ns) (parts n)) c.in-Cons.is c.requires.parts in
    let behind = ap (λ (x : noting.Note). x.typed) (sym c.part_note-y.ensures.shown) in
    subst (λ (n : Node). IsNoteOf s l ns (length ns) here p n c.list_note.result) (sym c.in-Cons.is) (record {
      within = c.list_note.ensures.within l c.part_note-x.ensures.within;
      below = c.list_note.ensures.below (length ns) below.1.0;
      linked = c.list_note.ensures.linked l look behind c.part_note-y.ensures.linked;
      shown = c.list_note.ensures.shown l look behind
          ∙ ap (λ (x : noting.Note). noting.both x (note_shown l look c.part_note-y.result)) c.part_note-x.ensures.shown
          ∙ ap (λ (x : noting.Note). noting.both (noting.note_at (shown_notes l ns) c.in-Cons.first) x) c.part_note-y.ensures.shown;
    })
