use Rattle.std.proofs.Common.{◌≡◌, ◌∙◌, sym, ap, subst, List, ◌++◌, ◌∷◌, []}
use Rattle.std.specs.Prelude.{None, is_some}
use Rattle.indexmap.proofs.CallerLemmas.{insert_entry-new}
use Rattle.kr_value.specs.declared.value.Value.{Value}
use Rattle.kr_classes_constants.specs.Kept.{Key, AreValues, found}
use Rattle.kr_classes_constants.proofs.Places.{looked, kept_value, added_value, none_from}
use Rattle.kr_classes_constants.proofs.known.Values.add.Goals as goal

pub returns-then-is_some : goal.returns-then-is_some
returns-then-is_some c = λ known h. kept_value known c.args.self.now c.args.place c.args.value h (ap is_some (sym c.find.ensures) ∙ sym c.is_some.ensures ∙ c.if-is_some.true)

pub returns : goal.returns
returns c = λ known h.
    let place = c.args.place in
    let value = c.args.value in
    let es = c.self.inside.by_place.entries in
    let absent : found place c.args.self.now ≡ None = none_from _ (ap is_some (sym c.find.ensures) ∙ sym c.is_some.ensures ∙ c.if-is_some.false) in
    let entries : c.insert.new.self.entries ≡ es ++ ((place.file, place.line, place.col), value) ∷ [] =
    c.in_ok-insert.ensures.entries
    ∙ insert_entry-new _ c.self.inside.by_place (place.file, place.line, place.col) value
    (looked place es ∙ ap (found place) c.self.view_is ∙ absent) in
    let all : c.insert.new.self.entries ≡ c.args.self.now ++ ((place.file, place.line, place.col), value) ∷ [] = entries ∙ ap (λ ds. ds ++ ((place.file, place.line, place.col), value) ∷ []) c.self.view_is in
    subst (λ (ds : List (Key × Value)). AreValues (known ++ record { place = place; value = value } ∷ []) ds) (sym all) (added_value known c.args.self.now place value h)
