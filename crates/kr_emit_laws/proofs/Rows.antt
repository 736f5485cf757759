-- The rows of a listing are those of vectors.
use Rattle.std.proofs.Common.{◌≡◌, ℕ, zero, suc, inl, inr, Bool, true, false, List, [], ◌∷◌, take, refl, subst}
use Rattle.std.specs.Prelude.{filter, if◌then◌else◌}
use Rattle.std.specs.List.{AllByRecursion}
use Rattle.kr_base.specs.Entries.{IsAmong, entries_in, is_spent, is_within, through_spent, within}
use Rattle.kr_base.specs.declared.entry.Entry.{Entry}
use Rattle.kr_base.specs.declared.span.Bound.TheVariants.{At}
use Rattle.kr_base.specs.declared.span.Span.{Span}
use Rattle.kr_shard_laws.proofs.EntryTexts.{IsOf, entry_is_of}
use Rattle.kr_emit_laws.specs.Accepted.{rows_listed}
use Rattle.kr_mean.specs.Entries.{all_entries, mark_for, mark_of, row_of, structure_of}
use Rattle.kr_mean.specs.Problem.{Problem}
use Rattle.kr_mean.specs.Runs as runs
use Rattle.kr_mean.specs.Runs.{End, end_on}
use Rattle.kr_mean.specs.Space.{IsVector, space_of}
use Rattle.kr_mean.specs.declared.row.Row.{Row}
use Rattle.kr_report.specs.Reports.{rows_in, rows_of_mark}
use Rattle.kr_space_meaning.proofs.Each.{each_flat, each_weaker}

-- ---- lists

each_among : (P : Entry Row → Type 0) (es : List (Entry Row)) → ((e : Entry Row) → IsAmong e es → P e) → AllByRecursion P es
each_among P [] h = tt
each_among P (e ∷ es) h = (h e (inl refl), each_among P es (λ x i. h x (inr i)))

each_kept : {X : Type 0} (P : X → Type 0) (p : X → Bool) (xs : List X) → AllByRecursion P xs → AllByRecursion P (filter p xs)
each_kept P p [] h = tt
each_kept P p (x ∷ xs) h = go (p x) (each_kept P p xs h.1)
  where
    go : (b : Bool) → AllByRecursion P (filter p xs) → AllByRecursion P (if b then x ∷ filter p xs else filter p xs)
    go true r = (h.0, r)
    go false r = r

each_through : (P : Entry Row → Type 0) (es : List (Entry Row)) → AllByRecursion P es → AllByRecursion P (through_spent es)
each_through P [] h = tt
each_through P (e ∷ es) h = (h.0, go (is_spent e.mark) (each_through P es h.1))
  where
    go : (b : Bool) → AllByRecursion P (through_spent es) → AllByRecursion P (if b then [] else through_spent es)
    go true r = tt
    go false r = r

each_taken : {X : Type 0} (P : X → Type 0) (n : ℕ) (xs : List X) → AllByRecursion P xs → AllByRecursion P (take n xs)
each_taken P zero xs h = tt
each_taken P (suc n) [] h = tt
each_taken P (suc n) (x ∷ xs) h = (h.0, each_taken P n xs h.1)

-- ---- rows

-- a row with the structure of a vector
pub record IsRowOf (problem : Problem) (row : Row) : Type 0 where
  pub vector : List ℕ
  pub within : IsVector (space_of problem) vector
  pub structure : row.structure ≡ structure_of problem vector

rows_of_vector : (problem : Problem) (v : List ℕ) → IsVector (space_of problem) v → (end : End) → AllByRecursion (IsRowOf problem) (rows_of_mark (mark_for end (row_of problem v)))
rows_of_vector problem v w runs.True = (record { vector = v; within = w; structure = refl }, tt)
rows_of_vector problem v w runs.False = tt
rows_of_vector problem v w (runs.Trap kind) = tt
rows_of_vector problem v w runs.Spent = tt

rows_of_entry : (problem : Problem) (e : Entry Row) → IsOf problem e → AllByRecursion (IsRowOf problem) (rows_of_mark e.mark)
unfolding mark_of
rows_of_entry problem e h =
    subst (λ (x : Entry Row). AllByRecursion (IsRowOf problem) (rows_of_mark x.mark)) h.is (rows_of_vector problem h.vector h.within (end_on problem h.vector))

pub rows_are : (problem : Problem) (limit : ℕ) (span : Span) → AllByRecursion (IsRowOf problem) (rows_listed problem limit span)
rows_are problem limit span =
    let all = all_entries problem in
    let there = entries_in (At span.after) span.upto all in
    let each : AllByRecursion (IsOf problem) there =
    each_through (IsOf problem) (within (At span.after) span.upto all) (each_kept (IsOf problem) (λ (e : Entry Row). is_within (At span.after) span.upto e.key) all (each_among (IsOf problem) all (entry_is_of problem))) in
    each_taken (IsRowOf problem) limit (rows_in there)
    (each_flat (IsRowOf problem) (λ (e : Entry Row). rows_of_mark e.mark) there (each_weaker (IsOf problem) (λ (e : Entry Row). AllByRecursion (IsRowOf problem) (rows_of_mark e.mark)) there (rows_of_entry problem) each))
