-- Keys of valid entries, counted between two bounds.
use Rattle.std.proofs.Common.{◌≡◌, ℕ, suc, ◌+◌, ◌<◌, ◌≤◌, List, [], ◌∷◌, Bool, true, false, length, refl, sym, ap, ◌∙◌, subst, arith}
use Rattle.std.specs.Prelude.{◌&&◌, not, filter, map, if◌then◌else◌}
use Rattle.std.specs.List.{count_by}
use Rattle.std.proofs.lemmas.Bool.{not-true}
use Rattle.std.proofs.lemmas.List.Sums.{length-filter}
use Rattle.kr_base.specs.declared.span.Bound.{Bound}
use Rattle.kr_base.specs.declared.span.Bound.TheVariants.{At}
use Rattle.kr_base.specs.declared.entry.Entry.{Entry}
use Rattle.kr_base.specs.Bounds.{less}
use Rattle.kr_base.specs.Entries.{is_valid, is_within, within}
use Rattle.kr_base.proofs.Bounds.{not_above_less}
use Rattle.kr_core.proofs.Bools.{and-left, and-right}
use Rattle.kr_trace.specs.Checked.{rows_between}
use Rattle.korat_top_laws.specs.Honest.{valid_keys}

module _ {E K : Type 0} (key : E → K) (here : K → Bool) (valid all : E → Bool) where
  -- those of all that are valid and here, by their keys
  abbrev written : List E → ℕ
  written es = length (filter here (map key (filter valid (filter all es))))

  abbrev counted : List E → ℕ
  counted es = length (filter valid (filter (λ e. here (key e)) es))

  pub as_many : ((e : E) → here (key e) ≡ true → all e ≡ true) → (es : List E) → written es ≡ counted es
  as_many imp [] = refl
  as_many imp (e ∷ es) = elim (here (key e)) as (λ t. here (key e) ≡ t → written (e ∷ es) ≡ counted (e ∷ es)) [
    | true ↦ λ w. let a : all e ≡ true = imp e w in elim (valid e) as (λ t. valid e ≡ t → written (e ∷ es) ≡ counted (e ∷ es)) [
      | true ↦ λ v. rw (a, v, w, v) (ap suc (as_many imp es))
      | false ↦ λ v. rw (a, v, w, v) (as_many imp es)
    ] refl
    | false ↦ λ w. elim (all e) as (λ t. all e ≡ t → written (e ∷ es) ≡ counted (e ∷ es)) [
      | true ↦ λ a. elim (valid e) as (λ t. valid e ≡ t → written (e ∷ es) ≡ counted (e ∷ es)) [
        | true ↦ λ v. rw (a, v, w) (as_many imp es)
        | false ↦ λ v. rw (a, v, w) (as_many imp es)
      ] refl
      | false ↦ λ a. rw (a, w) (as_many imp es)
    ] refl
  ] refl

  pub at_most : (es : List E) → written es ≤ counted es
  at_most [] = omega arith
  at_most (e ∷ es) =
      let rest : written es ≤ counted es = at_most es in
      elim (here (key e)) as (λ t. here (key e) ≡ t → written (e ∷ es) ≤ counted (e ∷ es)) [
        | true ↦ λ w. elim (all e) as (λ t. all e ≡ t → written (e ∷ es) ≤ counted (e ∷ es)) [
          | true ↦ λ a. elim (valid e) as (λ t. valid e ≡ t → written (e ∷ es) ≤ counted (e ∷ es)) [
            | true ↦ λ v. rw (a, v, w, v) (omega (arith, rest))
            | false ↦ λ v. rw (a, v, w, v) rest
          ] refl
          | false ↦ λ a. elim (valid e) as (λ t. valid e ≡ t → written (e ∷ es) ≤ counted (e ∷ es)) [
            | true ↦ λ v. rw (a, w, v) (omega (arith, rest))
            | false ↦ λ v. rw (a, w, v) rest
          ] refl
        ] refl
        | false ↦ λ w. elim (all e) as (λ t. all e ≡ t → written (e ∷ es) ≤ counted (e ∷ es)) [
          | true ↦ λ a. elim (valid e) as (λ t. valid e ≡ t → written (e ∷ es) ≤ counted (e ∷ es)) [
            | true ↦ λ v. rw (a, v, w) rest
            | false ↦ λ v. rw (a, v, w) rest
          ] refl
          | false ↦ λ a. rw (a, w) rest
        ] refl
      ] refl

-- what is between two bounds is between wider ones
wider : (a u mark reach : Bound) (key : List ℕ) → less mark a ≡ false → less u reach ≡ false → is_within mark reach key ≡ true → is_within a u key ≡ true
wider a u mark reach key low high h =
    let above : less mark (At key) ≡ true = and-left (less mark (At key)) (not (less reach (At key))) h in
    let upto : less reach (At key) ≡ false = not-true (less reach (At key)) (and-right (less mark (At key)) (not (less reach (At key))) h) in
    let after : less a (At key) ≡ true = not_above_less a mark (At key) low above in
    let below : less u (At key) ≡ false = elim (less u (At key)) as (λ t. less u (At key) ≡ t → t ≡ false) [
      | true ↦ λ p. sym (not_above_less reach u (At key) high p) ∙ upto
      | false ↦ λ p. refl
    ] refl in
    rw (after, below) refl

pub rows_counted : {R : Type 0} (es : List (Entry R)) (a u mark reach : Bound) → less mark a ≡ false → less u reach ≡ false
    → rows_between (valid_keys (within a u es)) mark reach ≡ count_by (λ (e : Entry R). is_valid e.mark) (within mark reach es)
rows_counted {R} es a u mark reach low high =
    as_many (λ (e : Entry R). e.key) (is_within mark reach) (λ (e : Entry R). is_valid e.mark) (λ (e : Entry R). is_within a u e.key) (λ e h. wider a u mark reach e.key low high h) es
    ∙ length-filter (λ (e : Entry R). is_valid e.mark) (within mark reach es)

pub rows_most : {R : Type 0} (es : List (Entry R)) (a u mark reach : Bound)
    → rows_between (valid_keys (within a u es)) mark reach ≤ count_by (λ (e : Entry R). is_valid e.mark) (within mark reach es)
rows_most {R} es a u mark reach =
    subst (λ (n : ℕ). rows_between (valid_keys (within a u es)) mark reach ≤ n) (length-filter (λ (e : Entry R). is_valid e.mark) (within mark reach es))
    (at_most (λ (e : Entry R). e.key) (is_within mark reach) (λ (e : Entry R). is_valid e.mark) (λ (e : Entry R). is_within a u e.key) es)
