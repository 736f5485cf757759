use Rattle.std.proofs.Common.{◌≡◌, List, ℕ, ◌∷◌, subst, sym, ◌∙◌}
use Rattle.kr_base.specs.declared.entry.Entry.{Entry}
use Rattle.kr_base.specs.Entries.{Ascends}
use Rattle.kr_survey.proofs.Ascending.{ascends_test, test_ascends}
use Rattle.kr_survey.proofs.list.ListSurvey.is_ascending.Goals as goal

pub returns-in-Some : goal.returns-in-Some
returns-in-Some c =
    let first = c.in-Some.first.now in
    let rest = c.in-Some.rest.now in
    let split : c.args.entries.now ≡ first ∷ rest = c.in-Some.ensures.cases.0 in (
      λ h. subst (λ (es : List (Entry (List ℕ))). Ascends es) (sym split) (ascends_test first.key rest (sym c.ascends_from.ensures ∙ h)),
      λ h. let whole = subst (λ (es : List (Entry (List ℕ))). Ascends es) split h in c.ascends_from.ensures ∙ test_ascends first.key rest whole.0 whole.1,
    )
