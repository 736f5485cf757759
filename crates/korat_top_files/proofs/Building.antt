-- The steps of `emit`: what was found of a listing's files, and of builders for its problem; and that they have one outcome.
use Rattle.std.proofs.Common.{◌≡◌, ◌∙◌, ℕ, List, ap, inl, inr, sym, subst}
use Rattle.std.specs.Prelude.{Option, Some, None, Result, Ok, Err}
use Rattle.kr_emit_meaning.specs.Buildable.{BuildFault, Construction, ClassName, Elements, build_fault}
use Rattle.kr_emit.specs.Refusals.{Refuses}
use Rattle.kr_emit.specs.declared.refusal.BuildRefusal.{BuildRefusal}
use Rattle.kr_emit.specs.declared.refusal.BuildRefusal.TheVariants as refusals
use Rattle.kr_io.specs.Held.{Held}
use Rattle.kr_mean.specs.Problem as means
use Rattle.kr_mean.specs.declared.mode.Mode.TheVariants.{List as Listing}
use Rattle.kr_space_problem.specs.Posed.{posed}
use Rattle.kr_space_problem.specs.declared.problem.Problem.{Problem}
use Rattle.korat_top_files.specs.Builds.{Builds, FindsBuilds, StopsUnbuilt, refusal_for}
use Rattle.korat_top_files.specs.Found.{FindsIn, IsFor}
use Rattle.korat_top_files.specs.OneOutcome.{HasOne}
use Rattle.korat_top_files.specs.Refusals.{Inputs, Refusal, refusal_of}
use Rattle.korat_top_files.specs.Steps.{Checks}
use Rattle.korat_top_files.specs.declared.refusal.Stop.{Stop}
use Rattle.korat_top_files.specs.declared.refusal.Stop.TheVariants.{Read, Refused, Memory}
use Rattle.korat_top_files.proofs.Chained.{to_checks}

module _ {F : Type 0} (held : F → Held) (faults : F → ℕ) (last : F → Option (List ℕ)) (inputs : Inputs) (files files' : F) where
  -- the listing's files are refused, or weren't read
  pub stopped_before : (stop : Stop) → FindsIn held faults last Listing inputs files files' (Err stop) → FindsBuilds held faults last inputs files files' (Err stop)
  stopped_before (Refused r) h = λ t. inl (to_checks (held files) Listing inputs (Err (refusal_of r)) (h t))
  stopped_before (Read failed) h = h
  stopped_before (Memory why) h = tt

  pub found : (f : Problem) → FindsIn held faults last Listing inputs files files' (Ok f) → build_fault (posed f) ≡ None → FindsBuilds held faults last inputs files files' (Ok f)
  found f h none = λ t. (to_checks (held files) Listing inputs (Ok (posed f)) (h t), none)

  -- a rule of builders is broken
  refused : (f : Problem) (fault : BuildFault) (stop : Stop) → FindsIn held faults last Listing inputs files files' (Ok f) → build_fault (posed f) ≡ Some fault → IsFor (refusal_for fault) stop → FindsBuilds held faults last inputs files files' (Err stop)
  refused f fault stop h is for =
      let r = for.0 in
      subst (λ (s : Stop). FindsBuilds held faults last inputs files files' (Err s)) (sym for.1)
      (λ t. inr (posed f, fault, to_checks (held files) Listing inputs (Ok (posed f)) (h t), is, for.2))

  pub unbuilt : (f : Problem) (refusal : BuildRefusal) (stop : Stop) → FindsIn held faults last Listing inputs files files' (Ok f) → Refuses (posed f) refusal → StopsUnbuilt refusal stop → FindsBuilds held faults last inputs files files' (Err stop)
  unbuilt f (refusals.Construction place) stop h is s = refused f (Construction place) stop h is s
  unbuilt f (refusals.ClassName place) stop h is s = refused f (ClassName place) stop h is s
  unbuilt f (refusals.Elements item) stop h is s = refused f (Elements item) stop h is s
  unbuilt f (refusals.NoMemory why) stop h is s = subst (λ (x : Stop). FindsBuilds held faults last inputs files files' (Err x)) (sym s) tt

-- ---- one outcome

abbrev problem_or : means.Problem → Result means.Problem Refusal → means.Problem
problem_or other (Ok p) = p
problem_or other (Err r) = other

module _ (held : Held) (inputs : Inputs) (one : HasOne (Checks held Listing inputs)) where
  one_problem : (p q : means.Problem) → Checks held Listing inputs (Ok p) → Checks held Listing inputs (Ok q) → p ≡ q
  one_problem p q x y = ap (problem_or p) (one (Ok p) (Ok q) x y)

  built_or_not : {X : Type 0} (p q : means.Problem) (fault : BuildFault) → p ≡ q → build_fault p ≡ None → build_fault q ≡ Some fault → X
  built_or_not p q fault same none some = let no : None ≡ Some fault = sym none ∙ (ap build_fault same ∙ some) in absurd (cc (no))

  accepted_or_not : {X : Type 0} (p : means.Problem) (r : Refusal) → Checks held Listing inputs (Ok p) → Checks held Listing inputs (Err r) → X
  accepted_or_not p r x y = let no : Ok p ≡ Err r = one (Ok p) (Err r) x y in absurd (cc (no))

  pub one_building : HasOne (Builds held inputs)
  one_building (Ok p) (Ok q) x y = one (Ok p) (Ok q) x.0 y.0
  one_building (Ok p) (Err r) x (inl y) = accepted_or_not p r x.0 y
  one_building (Ok p) (Err r) x (inr y) = built_or_not p y.0 y.1 (one_problem p y.0 x.0 y.2) x.1 y.3
  one_building (Err r) (Ok q) (inl x) y = accepted_or_not q r y.0 x
  one_building (Err r) (Ok q) (inr x) y = built_or_not q x.0 x.1 (one_problem q x.0 y.0 x.2) y.1 x.3
  one_building (Err r) (Err t) (inl x) (inl y) = one (Err r) (Err t) x y
  one_building (Err r) (Err t) (inl x) (inr y) = accepted_or_not y.0 r y.2 x
  one_building (Err r) (Err t) (inr x) (inl y) = accepted_or_not x.0 t x.2 y
  one_building (Err r) (Err t) (inr x) (inr y) =
      let same : Some x.1 ≡ Some y.1 = sym x.3 ∙ (ap build_fault (one_problem x.0 y.0 x.2 y.2) ∙ y.3) in
      let fault : x.1 ≡ y.1 = cc (same) in
      ap Err (x.4 ∙ (ap refusal_for fault ∙ sym y.4))
