-- Whether entries are of parameters.
use Rattle.std.proofs.Common.{◌≡◌, ℕ, ◌+◌, ◌<◌, ◌≤◌, true, false, List, length, drop, get_or, ap, ◌∙◌}
use Rattle.std.specs.Prelude.{flat_map, ◌||◌, Option, Some, None}
use Rattle.std.proofs.lemmas.List.{at_drop_all, at_drop_more}
use Rattle.kr_value.specs.declared.value.Value.{Value}
use Rattle.kr_mean.specs.Problem.{Problem, slot_at}
use Rattle.kr_report.specs.Joined.{are_any}
use Rattle.kr_report.proofs.Joined.{any_more}
use Rattle.kr_report_rows.specs.Parts.{argument_named, number_in, parameter_named}

module _ (problem : Problem) (names : List (List ℕ)) (structure : List (ℕ × Value)) (k : ℕ) where
  step : (d : ℕ × Value) → k < length structure → are_any (flat_map (parameter_named problem names) (drop k structure)) ≡ (are_any (parameter_named problem names (get_or structure k d)) || are_any (flat_map (parameter_named problem names) (drop (k + 1) structure)))
  step d h =
      at_drop_more (λ (es : List (ℕ × Value)). are_any (flat_map (parameter_named problem names) es)) structure k d h
      ∙ any_more (parameter_named problem names (get_or structure k d)) (flat_map (parameter_named problem names) (drop (k + 1) structure))

  here : (d : ℕ × Value) (n : Option ℕ) → number_in (slot_at problem (get_or structure k d).0).place ≡ n → are_any (parameter_named problem names (get_or structure k d)) ≡ are_any (argument_named problem names (get_or structure k d).1 n)
  here d n e = ap (λ (m : Option ℕ). are_any (argument_named problem names (get_or structure k d).1 m)) e

  pub some_parameter : (d : ℕ × Value) (i : ℕ) → k < length structure → number_in (slot_at problem (get_or structure k d).0).place ≡ Some i → are_any (flat_map (parameter_named problem names) (drop k structure)) ≡ true
  some_parameter d i h e = step d h ∙ ap (λ b. b || are_any (flat_map (parameter_named problem names) (drop (k + 1) structure))) (here d (Some i) e)

  pub no_parameter : (d : ℕ × Value) → k < length structure → number_in (slot_at problem (get_or structure k d).0).place ≡ None → are_any (flat_map (parameter_named problem names) (drop k structure)) ≡ are_any (flat_map (parameter_named problem names) (drop (k + 1) structure))
  no_parameter d h e = step d h ∙ ap (λ b. b || are_any (flat_map (parameter_named problem names) (drop (k + 1) structure))) (here d None e)

  pub no_more : length structure ≤ k → are_any (flat_map (parameter_named problem names) (drop k structure)) ≡ false
  no_more h = at_drop_all (λ (es : List (ℕ × Value)). are_any (flat_map (parameter_named problem names) es)) structure k h
