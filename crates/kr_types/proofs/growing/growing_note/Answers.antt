use Rattle.std.proofs.Common.{refl, ap, ◌∙◌}
use Rattle.kr_types_meaning.specs.Rules as rules
use Rattle.kr_types_meaning.specs.Noting as noting
use Rattle.kr_types_scopes.specs.declared.within.Within.{Within}
use Rattle.kr_types_judging.specs.Shown.{note_shown}
use Rattle.kr_types_expressions.specs.Notes.{shown_notes, typed_in}
use Rattle.kr_types.specs.Programs.{setting_in}
use Rattle.kr_types.specs.Sites.{scope_here}
use Rattle.kr_types.proofs.Making.{of_if, part_grown}
use Rattle.kr_types.proofs.growing.growing_note.Goals as goal

pub returns-in-This-clause-note : goal.returns-in-This-clause-note
returns-in-This-clause-note c =
    let s = c.args.site.now in
    let l = c.this_note.new.types in
    let ns = c.args.notes.now in
    let class = ap (λ (w : Within). (scope_here s w).class) c.here.ensures ∙ c.requires.class in
    of_if s l ns c.args.spot c.this_note.result _ (λ v. noting.leaf c.args.spot.place (rules.this_rule v)) _ _ c.here.ensures c.in-This.is c.this_note.ensures.within c.this_note.ensures.no_rest c.this_note.ensures.shown
    (λ made h. h (setting_in s.trees.now s.file) s.scopes.now.bindings.items (typed_in l ns) class) refl

pub returns-in-ArrayCreation-clause-note : goal.returns-in-ArrayCreation-clause-note
returns-in-ArrayCreation-clause-note c =
    let s = c.args.site.now in
    let l = c.array_creation_note.new.types in
    let ns = c.args.notes.now in
    let a = c.args.types.now in
    let of = noting.note_at (shown_notes l ns) in
    let f = noting.two c.args.spot.place (rules.array_creation_rule (scope_here s c.here-in-ArrayCreation.result)) in
    of_if s l ns c.args.spot c.array_creation_note.result _ (λ v. noting.two c.args.spot.place (rules.array_creation_rule v) (of c.in-ArrayCreation.element) (of c.in-ArrayCreation.length)) _ _ c.here-in-ArrayCreation.ensures c.in-ArrayCreation.is c.array_creation_note.ensures.within c.array_creation_note.ensures.no_rest c.array_creation_note.ensures.shown
    (λ made h. h (setting_in s.trees.now s.file) s.scopes.now.bindings.items (typed_in l ns)
    ∙ ap (λ (x : noting.Note). f x (note_shown a (typed_in l ns) c.part_note-y.result)) (part_grown a l ns c.part_note-x.result c.in-ArrayCreation.element c.array_creation_note.ensures.extends c.requires.notes c.part_note-x.ensures.shown)
    ∙ ap (f (of c.in-ArrayCreation.element)) (part_grown a l ns c.part_note-y.result c.in-ArrayCreation.length c.array_creation_note.ensures.extends c.requires.notes c.part_note-y.ensures.shown)) refl
