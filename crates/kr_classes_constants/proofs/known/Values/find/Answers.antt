use Rattle.std.proofs.Common.{◌≡◌, ◌∙◌, subst, List}
use Rattle.kr_value.specs.declared.value.Value.{Value}
use Rattle.kr_classes_constants.specs.Kept.{Key, found}
use Rattle.kr_classes_constants.proofs.Places.{looked}
use Rattle.kr_classes_constants.proofs.known.Values.find.Goals as goal

pub returns : goal.returns
returns c =
    let p = c.args.place in
    subst (λ (es : List (Key × Value)). c.copied.result ≡ found p es) c.self.view_is (c.copied.ensures ∙ c.get.ensures.value ∙ looked p c.self.inside.by_place.entries)
