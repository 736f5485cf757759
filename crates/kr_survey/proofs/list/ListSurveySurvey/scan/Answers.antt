use Rattle.std.proofs.Common.{◌≡◌, ◌⊎◌, inl, inr, ◌+◌, List, ℕ, subst, sym, ◌∙◌, true, false, ap, refl}
use Rattle.kr_base.specs.declared.entry.Entry.{Entry}
use Rattle.kr_base.specs.declared.span.Bound.TheVariants.{At}
use Rattle.kr_base.specs.Entries.{is_spent}
use Rattle.kr_survey.specs.declared.part.Part.{Part}
use Rattle.kr_survey.specs.Scans.{IsScan}
use Rattle.kr_survey.proofs.Scanning.{stopped, ended}
use Rattle.kr_survey.proofs.list.ListSurveySurvey.scan.Goals as goal
use Rattle.kr_survey.proofs.list.ListSurveySurvey.scan.Goals.{then-spent-via-then-spent, then-spent-via-else-spent+then-tried-most}

pub returns-then-spent-clause-part : goal.returns-then-spent-clause-part
returns-then-spent-clause-part g c =
    let es = c.as_slice-entry-items.result.now in
    let is : es ≡ c.args.self.now = c.as_slice-entry-items.ensures.value ∙ c.self.view_is in
    let e = c.entry-item.result in
    let part : Part (List ℕ) = record { reach = At c.in_ok-try_clone.field-0; rows = c.new.result; tried = c.from.result; spent = c.is_spent-spent.result } in
    let stop : (is_spent e.mark ≡ true) ⊎ (c.loop-entry.tried + 1 ≡ c.args.most) = elim c.then-spent.branch [
      | then-spent-via-then-spent w ↦ inl (sym c.is_spent-spent.ensures ∙ w.if-spent.true)
      | then-spent-via-else-spent+then-tried-most w ↦ inr w.if-tried-most.true
    ] in
    subst (λ (xs : List (Entry (List ℕ))). IsScan xs c.args.after.now c.args.upto.now c.args.most part) is
    (stopped c.args.after.now c.args.upto.now c.args.most es c.loop-entry.entry-index e c.loop-entry.rows.items c.loop-entry.tried part c.loop-entry-test.true c.entry-item.is (sym c.is_within.ensures ∙ c.if-is_within.true) c.loop-entry.invariant stop
    (ap At c.in_ok-try_clone.ensures) (c.new.ensures ∙ c.in_ok-add_row.ensures) c.from.ensures c.is_spent-spent.ensures)

pub returns-clause-part : goal.returns-clause-part
returns-clause-part g c =
    let es = c.as_slice-entry-items.result.now in
    let is : es ≡ c.args.self.now = c.as_slice-entry-items.ensures.value ∙ c.self.view_is in
    let part : Part (List ℕ) = record { reach = c.in_ok-try_clone-2.field-0; rows = c.new-2.result; tried = c.from-2.result; spent = false } in
    subst (λ (xs : List (Entry (List ℕ))). IsScan xs c.args.after.now c.args.upto.now c.args.most part) is
    (ended c.args.after.now c.args.upto.now c.args.most es c.loop-entry.entry-index c.loop-entry.rows.items c.loop-entry.tried part c.loop-entry-test.false c.loop-entry.invariant c.in_ok-try_clone-2.ensures c.new-2.ensures c.from-2.ensures refl)
