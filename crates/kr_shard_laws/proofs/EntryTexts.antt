-- All entries have lines, and those of a listing's problem are a listing's.
use Rattle.std.proofs.Common.{◌≡◌, ℕ, zero, suc, ◌+◌, ◌<◌, List, [], ◌∷◌, ◌++◌, length, get_or, refl, sym, ap, ◌∙◌, subst, arith}
use Rattle.std.specs.Prelude.{filter, flat_map, map, ◌&&◌}
use Rattle.std.specs.List.{range_with_len}
use Rattle.kr_base.specs.declared.entry.Entry.{Entry}
use Rattle.kr_base.specs.declared.entry.Mark.{Mark}
use Rattle.kr_base.specs.declared.entry.Mark.TheVariants.{Valid, Invalid, Spent}
use Rattle.kr_base.specs.Entries.{Ascends, IsAmong}
use Rattle.kr_value.specs.declared.value.Value.{Value}
use Rattle.kr_value.specs.declared.value.Value.TheVariants.{Ref as Reference}
use Rattle.kr_mean.specs.Entries.{all_entries, all_of, entry_of, is_least, is_settled, mark_for, mark_of, row_of, structure_of, vectors}
use Rattle.kr_mean.specs.Heaps.{met_within, slots_in, value_at, walk}
use Rattle.kr_mean.specs.Problem.{Problem, DomainObject, all_objects, heap_number, object_choice}
use Rattle.kr_mean.specs.Runs as runs
use Rattle.kr_mean.specs.Runs.{End, end_on, key_along, order_of}
use Rattle.kr_mean.specs.Space.{IsVector, no_choice, space_of}
use Rattle.kr_mean.specs.declared.mode.Mode.TheVariants.{List as Listing}
use Rattle.kr_mean.specs.declared.row.Row.{Row}
use Rattle.kr_laws_pruning.proofs.Membership.{has_filter_from, has_map_from}
use Rattle.kr_laws_pruning.proofs.Listed.{vectors_are}
use Rattle.kr_laws_pruning.proofs.Sorting.{among_sorted, ascends_sorted}
use Rattle.kr_report.specs.Texts.{structure_text}
use Rattle.kr_report.proofs.Texts.{no_verdict}
use Rattle.kr_shard_laws.specs.Listings.{IsListable, IsRowAt}
use Rattle.kr_shard_laws.specs.Entries.{EntriesLaw, IsLineAt, IsLined, LinesLaw, MakesLines}
use Rattle.kr_shard_laws.proofs.Keys.{key_cut, key_some}
use Rattle.kr_shard_laws.proofs.Lines.{structure_line, structure_some}

-- ---- entries come of vectors

pub entries_ascend : (problem : Problem) → Ascends (all_entries problem)
unfolding all_entries all_of
entries_ascend problem =
    ascends_sorted (map (entry_of (order_of problem) (mark_of problem)) (filter (λ v. is_least (space_of problem) (order_of problem) v && is_settled (space_of problem) (order_of problem) v) (vectors (space_of problem))))

-- a vector whose entry it is
pub record IsOf (problem : Problem) (e : Entry Row) : Type 0 where
  pub vector : List ℕ
  pub within : IsVector (space_of problem) vector
  pub is : entry_of (order_of problem) (mark_of problem) vector ≡ e

pub entry_is_of : (problem : Problem) (e : Entry Row) → IsAmong e (all_entries problem) → IsOf problem e
unfolding all_entries all_of
entry_is_of problem e h =
    let passes = λ (v : List ℕ). is_least (space_of problem) (order_of problem) v && is_settled (space_of problem) (order_of problem) v in
    let kept = filter passes (vectors (space_of problem)) in
    let has = among_sorted e (map (entry_of (order_of problem) (mark_of problem)) kept) h in
    let from = has_map_from (entry_of (order_of problem) (mark_of problem)) e kept has in
    let there = has_filter_from passes from.0 (vectors (space_of problem)) from.1 in
    record { vector = from.0; within = vectors_are (space_of problem) from.0 there.0; is = from.2 }

-- ---- the first slot has an object

object_there : (problem : Problem) (os : List DomainObject) (i : ℕ) → i < length (map (object_choice problem) os ++ []) → (o : ℕ) × ((get_or (map (object_choice problem) os ++ []) i no_choice).value ≡ Reference o)
object_there problem [] i h = absurd (omega (arith, h))
object_there problem (o ∷ os) zero h = (heap_number problem o, refl)
object_there problem (o ∷ os) (suc i) h = object_there problem os i (omega (arith, h))

-- a slot with its value
abbrev valued : Problem → List ℕ → ℕ → ℕ × Value
valued problem v s = (s, value_at problem v s)

module _ (problem : Problem) (makes : MakesLines problem) where
  this_object : (v : List ℕ) → IsVector (space_of problem) v → (o : ℕ) × (value_at problem v 0 ≡ Reference o)
  unfolding space_of
  this_object v is = object_there problem _ (get_or v 0 0) (is.within 0 (omega arith))

  walk_first : (v : List ℕ) → (rest : List ℕ) × (walk problem v ≡ 0 ∷ rest)
  unfolding walk
  walk_first v =
      let others = flat_map (slots_in problem v) (met_within problem v (length (all_objects problem))) in
      let long : length problem.parameters + 1 ≡ suc (length problem.parameters) = omega arith in
      (range_with_len 1 (length problem.parameters) ++ others, ap (λ (n : ℕ). range_with_len 0 n ++ others) long)

  structure_begins : (v : List ℕ) (ss rest : List ℕ) (o : ℕ) → ss ≡ 0 ∷ rest → value_at problem v 0 ≡ Reference o
      → map (valued problem v) ss ≡ (0, Reference o) ∷ map (valued problem v) rest
  structure_begins v ss rest o walks value =
      ap (λ (xs : List ℕ). map (valued problem v) xs) walks ∙ ap (λ (x : Value). (0, x) ∷ map (valued problem v) rest) value

  text_some : (v : List ℕ) → IsVector (space_of problem) v → 0 < length (structure_text problem (structure_of problem v))
  text_some v is =
      let walks = walk_first v in
      let object = this_object v is in
      let begins = structure_begins v (walk problem v) walks.0 object.0 walks.1 object.1 in
      subst (λ (t : List (ℕ × Value)). 0 < length (structure_text problem t)) (sym begins)
      (structure_some problem 0 object.0 (map (valued problem v) walks.0))

  -- ---- rows

  row_lined : (v : List ℕ) (end : End) → IsVector (space_of problem) v → IsLineAt problem (key_along v (order_of problem v)) (mark_for end (row_of problem v))
  row_lined v runs.True is = record { key_is = refl; vector = v; verdict = refl; some = text_some v is; line = structure_line problem makes (structure_of problem v) }
  row_lined v runs.False is = tt
  row_lined v (runs.Trap kind) is = tt
  row_lined v runs.Spent is = tt

  mark_lined : (v : List ℕ) → IsVector (space_of problem) v → IsLineAt problem (key_along v (order_of problem v)) (mark_of problem v)
  unfolding mark_of
  mark_lined v is = row_lined v (end_on problem v) is

  pub lined : (e : Entry Row) → IsAmong e (all_entries problem) → IsLined problem e
  lined e h =
      let from = entry_is_of problem e h in
      subst (λ (x : Entry Row). IsLined problem x) from.is
      (record { some = key_some problem makes from.vector; cut = key_cut problem makes from.vector from.within; row = mark_lined from.vector from.within })

pub entries_lined : LinesLaw
entries_lined problem makes e h = lined problem makes e h

-- ---- of a listing

row_listed : (problem : Problem) (key : List ℕ) (mark : Mark Row) → problem.mode ≡ Listing → IsLineAt problem key mark → IsRowAt problem key mark
row_listed problem key (Valid row) mode h = (h.key_is, h.verdict ∙ no_verdict problem h.vector mode, h.some, h.line)
row_listed problem key Invalid mode h = tt
row_listed problem key Spent mode h = tt

listable : (problem : Problem) → problem.mode ≡ Listing → (e : Entry Row) → IsLined problem e → IsListable problem e
listable problem mode e h = record { some = h.some; cut = h.cut; row = row_listed problem e.key e.mark mode h.row }

pub entries_listed : EntriesLaw
entries_listed problem mode makes = record { mode = mode; ascends = entries_ascend problem; listable = λ e h. listable problem mode e (lined problem makes e h) }
