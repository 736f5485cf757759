use Rattle.std.proofs.Common.{refl}
use Rattle.kr_types_meaning.specs.Rules as rules
use Rattle.kr_types_meaning.specs.Noting as noting
use Rattle.kr_types_expressions.specs.Notes.{typed_in}
use Rattle.kr_types.specs.Programs.{setting_in}
use Rattle.kr_types.proofs.Making.{of_none, of_one}
use Rattle.kr_types.proofs.statements.returned_note.Goals as goal

pub returns-in-Result : goal.returns-in-Result
returns-in-Result c =
    let s = c.args.context.now.site in
    let l = c.args.context.now.types.now in
    of_none s l c.args.context.now.notes.now c.args.context.now.spot (λ v. noting.leaf c.args.context.now.spot.place (rules.result_value_rule v)) _ _ _ c.here.ensures c.in-Result.is c.result_note.ensures.within c.result_note.ensures.no_rest
    (c.result_note.ensures.shown (setting_in s.trees.now s.file) s.scopes.now.bindings.items (typed_in l c.args.context.now.notes.now) refl refl) refl

pub returns-in-Return : goal.returns-in-Return
returns-in-Return c =
    let s = c.args.context.now.site in
    let l = c.args.context.now.types.now in
    of_one s l c.args.context.now.notes.now c.args.context.now.spot (λ v. noting.maybe c.args.context.now.spot.place (rules.return_rule v)) _ _ _ _ _ c.here-in-Return.ensures c.in-Return.is c.return_note.ensures.within c.return_note.ensures.no_rest
    (c.return_note.ensures.shown (setting_in s.trees.now s.file) s.scopes.now.bindings.items (typed_in l c.args.context.now.notes.now) refl refl c.part.ensures.linked) c.part.ensures.shown refl
