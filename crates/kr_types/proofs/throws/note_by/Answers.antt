use Rattle.std.proofs.Common.{refl, ◌<◌, ◌≤◌, arith, length}
use Rattle.kr_ast.specs.Arena.{tree_in}
use Rattle.kr_classes_table.specs.Rules.{sooner}
use Rattle.kr_types_meaning.specs.Rules as rules
use Rattle.kr_types_meaning.specs.Noting as noting
use Rattle.kr_types_meaning.specs.Scopes.{caught_type}
use Rattle.kr_types_expressions.specs.Notes.{typed_in}
use Rattle.kr_types.specs.Programs.{setting_in}
use Rattle.kr_types.specs.Sites.{scope_of, tree_there}
use Rattle.kr_types.proofs.Making.{of_one, of_two}
use Rattle.kr_types.proofs.throws.note_by.Goals as goal

pub returns-in-Throw : goal.returns-in-Throw
returns-in-Throw c =
    let k = c.args.context.now in
    let l = k.types.now in
    of_one k.site l k.notes.now k.spot (λ v. noting.one k.spot.place (rules.throw_rule v)) _ _ _ _ _ refl c.in-Throw.is c.throw_note.ensures.within c.throw_note.ensures.no_rest
    (c.throw_note.ensures.shown (scope_of k.site k.spot.at) (typed_in l k.notes.now) refl) c.part-x.ensures.shown refl

pub returns-in-Catch : goal.returns-in-Catch
returns-in-Catch c =
    let k = c.args.context.now in
    let l = k.types.now in
    of_two k.site l k.notes.now k.spot (λ v x y. noting.concluded k.spot.place (rules.caught_rule v 42 (caught_type v (tree_in (tree_there k.site) c.in-Catch.declared))) (sooner x.least y.least)) _ _ _ _ _ _ _ refl c.in-Catch.is c.catch_note.ensures.within c.catch_note.ensures.no_rest
    (c.catch_note.ensures.shown (scope_of k.site k.spot.at) (typed_in l k.notes.now) refl) c.part-x-in-Catch.ensures.shown c.part-y.ensures.shown refl

pub returns-in-Signals : goal.returns-in-Signals
returns-in-Signals c =
    let k = c.args.context.now in
    let l = k.types.now in
    of_two k.site l k.notes.now k.spot (λ v. noting.signals k.spot.place v (tree_in (tree_there k.site) c.in-Signals.declared)) _ _ _ _ _ _ _ c.here.ensures c.in-Signals.is c.signals_note.ensures.within c.signals_note.ensures.no_rest
    (c.signals_note.ensures.shown (setting_in k.site.trees.now k.site.file) k.site.scopes.now.bindings.items (typed_in l k.notes.now) refl) c.part-x-in-Signals.ensures.shown c.part-y-in-Signals.ensures.shown refl
