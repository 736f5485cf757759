-- The key of a vector is a cut: not too many numbers, none of them too large, and at least one.
use Rattle.std.proofs.Common.{ℕ, ◌<◌, ◌≤◌, ◌^◌, Bool, true, false, List, [], ◌∷◌, ◌++◌, length, get_or, refl, arith}
use Rattle.std.specs.Prelude.{if◌then◌else◌}
use Rattle.std.specs.List.{AllByRecursion}
use Rattle.std.proofs.lemmas.Bool.{eq-eqb}
use Rattle.std.proofs.lemmas.List.{length-map}
use Rattle.std.proofs.lemmas.List.Elements.{All-from_recursion}
use Rattle.kr_mean.specs.Heaps.{distinct, walk}
use Rattle.kr_mean.specs.Places.{SlotPlace}
use Rattle.kr_mean.specs.Problem.{Problem, all_objects, slot_at, slots, upto}
use Rattle.kr_mean.specs.Runs.{accepted_walk, end_on, is_accepted, is_same_number, is_same_place, key_along, order_of, outcome_of, read_slots, slots_for}
use Rattle.kr_mean.specs.Space.{IsVector, space_of}
use Rattle.kr_laws_runs.proofs.Respects.{AllOf}
use Rattle.kr_laws_pruning.proofs.Membership.{range_has}
use Rattle.kr_laws_pruning.proofs.Reached.{apart_distinct, at_most}
use Rattle.kr_laws_pruning.proofs.SlotForks.{all_append, all_distinct, all_filter, all_from}
use Rattle.kr_laws_pruning.proofs.Walked.{Below, all_flat, walk_below}
use Rattle.kr_shard_laws.specs.Listings.{IsCut}
use Rattle.kr_shard_laws.specs.Entries.{MakesLines}

module _ (problem : Problem) (makes : MakesLines problem) where
  -- ---- the order has slots

  slots_below : (place : SlotPlace) → AllOf (Below problem) (slots_for problem place)
  slots_below place =
      let n = length (slots problem) in
      all_filter (Below problem) (λ s. is_same_place (slot_at problem s).place place) (upto n) (all_from (Below problem) (upto n) (λ s h. let r = (range_has 0 n s h).1 in omega arith))

  read_below : (v : List ℕ) → AllOf (Below problem) (read_slots problem v)
  unfolding read_slots
  read_below v = let reads = (outcome_of problem v).reads in all_flat (Below problem) (slots_for problem) reads (all_from (λ p. AllOf (Below problem) (slots_for problem p)) reads (λ p h. slots_below p))

  whole_walk_below : (v : List ℕ) → AllOf (Below problem) (walk problem v)
  unfolding walk
  whole_walk_below v = walk_below problem makes.formed v (length (all_objects problem))

  accepted_below : (v : List ℕ) → AllOf (Below problem) (accepted_walk problem v)
  accepted_below v = go (is_accepted (end_on problem v))
    where
      go : (b : Bool) → AllOf (Below problem) (if b then walk problem v else [])
      go true = whole_walk_below v
      go false = tt

  order_below : (v : List ℕ) → AllOf (Below problem) (order_of problem v)
  unfolding order_of
  order_below v =
      all_distinct (Below problem) is_same_number (read_slots problem v ++ accepted_walk problem v) (all_append (Below problem) (read_slots problem v) (accepted_walk problem v) (read_below v) (accepted_below v))

  order_few : (v : List ℕ) → length (order_of problem v) ≤ length (slots problem)
  unfolding order_of
  order_few v = at_most (length (slots problem)) (order_of problem v) (apart_distinct is_same_number (λ x. eq-eqb x x refl) (read_slots problem v ++ accepted_walk problem v)) (order_below v)

  -- ---- `this` is read first

  first_of : (xs ys : List ℕ) → 0 < length xs → 0 < length (distinct is_same_number (xs ++ ys))
  first_of [] ys h = absurd (omega arith)
  first_of (x ∷ xs) ys h = omega arith

  read_some : (v : List ℕ) → 0 < length (read_slots problem v)
  unfolding read_slots
  read_some v = omega arith

  order_some : (v : List ℕ) → 0 < length (order_of problem v)
  unfolding order_of
  order_some v = first_of (read_slots problem v) (accepted_walk problem v) (read_some v)

  -- ---- the key

  index_small : (v : List ℕ) → IsVector (space_of problem) v → (s : ℕ) → Below problem s → get_or v s 0 < 2 ^ 32
  unfolding space_of
  index_small v is s h = omega (arith, is.within s h, makes.small s h)

  indices_small : (v ss : List ℕ) → IsVector (space_of problem) v → AllOf (Below problem) ss → AllByRecursion (λ n. n < 2 ^ 32) (key_along v ss)
  indices_small v [] is h = tt
  indices_small v (s ∷ ss) is h = (index_small v is s h.0, indices_small v ss is h.1)

  pub key_cut : (v : List ℕ) → IsVector (space_of problem) v → IsCut (key_along v (order_of problem v))
  key_cut v is =
      record {
        few = omega (arith, length-map (order_of problem v) (λ (s : ℕ). get_or v s 0), order_few v, makes.few);
        small = All-from_recursion (λ n. n < 2 ^ 32) (key_along v (order_of problem v)) (indices_small v (order_of problem v) is (order_below v));
      }

  pub key_some : (v : List ℕ) → 0 < length (key_along v (order_of problem v))
  key_some v = omega (arith, length-map (order_of problem v) (λ (s : ℕ). get_or v s 0), order_some v)
