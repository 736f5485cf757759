use Rattle.std.proofs.Common.{refl, ap, ◌∙◌}
use Rattle.kr_ast.specs.Arena.{tree_in}
use Rattle.kr_classes_table.specs.Table.{applied}
use Rattle.kr_types_meaning.specs.Rules as rules
use Rattle.kr_types_meaning.specs.Scopes.{written}
use Rattle.kr_types_meaning.specs.Noting as noting
use Rattle.kr_classes_names.proofs.Growing.{extends_itself}
use Rattle.kr_types_expressions.specs.Notes.{shown_notes, typed_in}
use Rattle.kr_types.specs.Sites.{scope_of, tree_there}
use Rattle.kr_types.proofs.Making.{of_if, part_grown}
use Rattle.kr_types.proofs.types.type_note.Goals as goal

pub returns-in-GenericType-clause-note : goal.returns-in-GenericType-clause-note
returns-in-GenericType-clause-note c =
    let s = c.args.site.now in
    let l = c.generic_type_note.new.types in
    let ns = c.args.notes.now in
    let a = c.in-GenericType.argument in
    let f : noting.Note → noting.Note = λ x. noting.one c.args.spot.place (λ t. rules.type_rule (applied (written (scope_of s c.args.spot.at) (tree_in (tree_there s) c.in-GenericType.head)) t)) x in
    of_if s l ns c.args.spot c.generic_type_note.result _ (λ v. f (noting.note_at (shown_notes l ns) a)) _ _ refl c.in-GenericType.is c.generic_type_note.ensures.within c.generic_type_note.ensures.no_rest c.generic_type_note.ensures.shown
    (λ n h. h (scope_of s c.args.spot.at) (typed_in l ns) refl ∙ ap f (part_grown c.args.types.now l ns c.part_note-x.result a c.generic_type_note.ensures.extends c.requires.notes c.part_note-x.ensures.shown)) refl

pub returns-in-ArrayType-clause-note : goal.returns-in-ArrayType-clause-note
returns-in-ArrayType-clause-note c =
    let l = c.array_type_note.new.types in
    let ns = c.args.notes.now in
    let a = c.in-ArrayType.element in
    let f = noting.one c.args.spot.place rules.array_rule in
    of_if c.args.site.now l ns c.args.spot c.array_type_note.result _ (λ v. f (noting.note_at (shown_notes l ns) a)) _ _ refl c.in-ArrayType.is c.array_type_note.ensures.within c.array_type_note.ensures.no_rest c.array_type_note.ensures.shown
    (λ n h. h (typed_in l ns) ∙ ap f (part_grown c.args.types.now l ns c.part_note-x-in-ArrayType.result a c.array_type_note.ensures.extends c.requires.notes c.part_note-x-in-ArrayType.ensures.shown)) refl

pub returns-in_default : goal.returns-in_default
returns-in_default c = record { extends = extends_itself c.args.types.now; note = c.type_name_note.ensures c.args.notes.now }
