use Rattle.std.proofs.Common.{refl}
use Rattle.kr_types_meaning.specs.Noting as noting
use Rattle.kr_types_meaning.specs.Rules as rules
use Rattle.kr_types_expressions.specs.Notes.{typed_in}
use Rattle.kr_types.specs.Programs.{setting_in}
use Rattle.kr_types.proofs.Making.{of_one}
use Rattle.kr_types.proofs.contracts.line_note.Goals as goal

pub returns-in-Old : goal.returns-in-Old
returns-in-Old c =
    let s = c.args.context.now.site in
    let l = c.args.context.now.types.now in
    of_one s l c.args.context.now.notes.now c.args.context.now.spot (λ v. noting.one c.args.context.now.spot.place (rules.old_rule v)) _ _ _ _ _ c.here.ensures c.in-Old.is c.old_note.ensures.within c.old_note.ensures.no_rest
    (c.old_note.ensures.shown s.trees.now (setting_in s.trees.now s.file) s.scopes.now.bindings.items (typed_in l c.args.context.now.notes.now) c.requires.context.site.members refl) c.part-x.ensures.shown refl

pub returns-in-Requires : goal.returns-in-Requires
returns-in-Requires c =
    let s = c.args.context.now.site in
    let l = c.args.context.now.types.now in
    of_one s l c.args.context.now.notes.now c.args.context.now.spot (λ v. noting.one c.args.context.now.spot.place (rules.contract_rule v)) _ _ _ _ _ c.here-in-Requires.ensures c.in-Requires.is c.contract_note.ensures.within c.contract_note.ensures.no_rest
    (c.contract_note.ensures.shown s.trees.now (setting_in s.trees.now s.file) s.scopes.now.bindings.items (typed_in l c.args.context.now.notes.now) c.requires.context.site.members refl) c.part-x-in-Requires.ensures.shown refl

pub returns-in-Ensures : goal.returns-in-Ensures
returns-in-Ensures c =
    let s = c.args.context.now.site in
    let l = c.args.context.now.types.now in
    of_one s l c.args.context.now.notes.now c.args.context.now.spot (λ v. noting.one c.args.context.now.spot.place (rules.contract_rule v)) _ _ _ _ _ c.here-in-Ensures.ensures c.in-Ensures.is c.contract_note-in-Ensures.ensures.within c.contract_note-in-Ensures.ensures.no_rest
    (c.contract_note-in-Ensures.ensures.shown s.trees.now (setting_in s.trees.now s.file) s.scopes.now.bindings.items (typed_in l c.args.context.now.notes.now) c.requires.context.site.members refl) c.part-x-in-Ensures.ensures.shown refl
