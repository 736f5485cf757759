use Rattle.std.proofs.Common.{refl}
use Rattle.std.specs.Prelude.{None}
use Rattle.kr_classes_table.specs.Numbers.{Bits32, Bits64}
use Rattle.kr_types_meaning.specs.Rules as rules
use Rattle.kr_types_meaning.specs.Noting as noting
use Rattle.kr_types_expressions.specs.Notes.{typed_in}
use Rattle.kr_types.specs.Programs.{setting_in}
use Rattle.kr_types.proofs.Making.{of_none}
use Rattle.kr_types.proofs.expressions.leaf_note.Goals as goal

pub returns-in-Number : goal.returns-in-Number
returns-in-Number c =
    let s = c.args.context.now.site in
    let l = c.args.context.now.types.now in
    let ns = c.args.context.now.notes.now in
    of_none s l ns c.args.context.now.spot (λ v. noting.leaf c.args.context.now.spot.place (rules.number_rule v Bits32 c.in-Number.value)) _ _ _ c.here.ensures c.in-Number.is c.number_note.ensures.within c.number_note.ensures.no_rest
    (c.number_note.ensures.shown s.trees.now (setting_in s.trees.now s.file) s.scopes.now.bindings.items (typed_in l ns) c.requires.context.site.members refl) refl

pub returns-in-LongNumber : goal.returns-in-LongNumber
returns-in-LongNumber c =
    let s = c.args.context.now.site in
    let l = c.args.context.now.types.now in
    let ns = c.args.context.now.notes.now in
    of_none s l ns c.args.context.now.spot (λ v. noting.leaf c.args.context.now.spot.place (rules.number_rule v Bits64 c.in-LongNumber.value)) _ _ _ c.here-in-LongNumber.ensures c.in-LongNumber.is c.long_number_note.ensures.within c.long_number_note.ensures.no_rest
    (c.long_number_note.ensures.shown s.trees.now (setting_in s.trees.now s.file) s.scopes.now.bindings.items (typed_in l ns) c.requires.context.site.members refl) refl

pub returns-in-Break : goal.returns-in-Break
returns-in-Break c =
    let s = c.args.context.now.site in
    let l = c.args.context.now.types.now in
    let ns = c.args.context.now.notes.now in
    of_none s l ns c.args.context.now.spot (λ v. noting.leaf c.args.context.now.spot.place (rules.jump_rule v)) _ _ _ c.here-in-Break.ensures c.in-Break.is c.jump_note.ensures.within c.jump_note.ensures.no_rest
    (c.jump_note.ensures.shown s.trees.now (setting_in s.trees.now s.file) s.scopes.now.bindings.items (typed_in l ns) c.requires.context.site.members refl) refl

pub returns-in-Continue : goal.returns-in-Continue
returns-in-Continue c =
    let s = c.args.context.now.site in
    let l = c.args.context.now.types.now in
    let ns = c.args.context.now.notes.now in
    of_none s l ns c.args.context.now.spot (λ v. noting.leaf c.args.context.now.spot.place (rules.jump_rule v)) _ _ _ c.here-in-Continue.ensures c.in-Continue.is c.jump_note-in-Continue.ensures.within c.jump_note-in-Continue.ensures.no_rest
    (c.jump_note-in-Continue.ensures.shown s.trees.now (setting_in s.trees.now s.file) s.scopes.now.bindings.items (typed_in l ns) c.requires.context.site.members refl) refl

pub returns-in-Empty : goal.returns-in-Empty
returns-in-Empty c =
    let l = c.args.context.now.types.now in
    let ns = c.args.context.now.notes.now in
    of_none c.args.context.now.site l ns c.args.context.now.spot (λ v. noting.plain None) _ _ _ refl c.in-Empty.is (c.plain.ensures.within l) c.plain.ensures.no_rest (c.plain.ensures.shown l (typed_in l ns)) refl
