use Rattle.std.proofs.Common.{◌≡◌, refl, sym, ap, ◌∙◌, subst, List, [], ◌∷◌, ◌++◌, arith}
use Rattle.kr_types_meaning.specs.Noting as noting
use Rattle.kr_types_judging.specs.declared.notes.Note.{Note}
use Rattle.kr_types_expressions.specs.Notes.{AreNotesWithin, typed_in}
use Rattle.kr_types_expressions.proofs.Notes.{no_rest_below, no_rest_linked, shown_at, within_none, within_pushed}
use Rattle.kr_types_tests.proofs.tests.expressions.one_int.Goals as goal

pub returns-clause-within : goal.returns-clause-within
returns-clause-within c =
    let l = c.args.types.now in
    let end = c.absent_note-end.result in
    let list = c.list_note-list.result in
    let first = c.absent_note-end.ensures in
    let more = c.list_note-list.ensures in
    let a : AreNotesWithin l (end ∷ []) = within_pushed l [] end (within_none l) (first.within l) (no_rest_below 0 end.known first.no_rest) (no_rest_linked (typed_in l []) end.known first.no_rest) in
    let items : c.push-2.new.self ≡ (end ∷ []) ++ list ∷ [] = c.in_ok-push-2.ensures ∙ ap (λ ns. ns ++ list ∷ []) (c.in_ok-push.ensures ∙ ap (λ ns. ns ++ end ∷ []) c.new-notes.ensures) in
    let look = typed_in l (end ∷ []) in
    subst (λ (ns : List Note). AreNotesWithin l ns) (sym items)
    (within_pushed l (end ∷ []) list a (more.within l (c.value_note.ensures.within l c.int.ensures.within)) (more.below 1 (omega arith))
    (more.linked l look (ap (λ (n : noting.Note). n.typed) (shown_at l (end ∷ []) a 0 end refl)) (no_rest_linked look end.known first.no_rest)))
