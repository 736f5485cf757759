-- Slots, domains and choices of a problem that is laid out.
use Rattle.std.proofs.Common.{◌≡◌, ℕ, ◌<◌, Option, length, get_or, ap, sym, ◌∙◌, subst}
use Rattle.kr_mean.specs.Problem.{Problem, slots, choices_at}
use Rattle.kr_mean.specs.Space.{no_choice, space_of}
use Rattle.kr_mean.specs.WellFormed.{IsWellFormed}
use Rattle.kr_iso.specs.Objects.{shown}
use Rattle.kr_iso.specs.declared.object.Object.{Object}
use Rattle.kr_space_layout.specs.Bounds.{Bounds, bare, problem_with}

module _ (problem : Problem) (b : Bounds) (laid : problem ≡ problem_with problem.program b) where
  pub space_same : space_of problem ≡ space_of (bare b)
  unfolding space_of
  space_same = ap (λ (p : Problem). space_of p) laid

  pub well_formed : IsWellFormed problem → IsWellFormed (bare b)
  well_formed w = let h = subst (λ (p : Problem). IsWellFormed p) laid w in record { root = h.root; filled = h.filled; plain = h.plain; spots = h.spots }

  pub slots_are : (n : ℕ) → n ≡ length (slots (bare b)) → n ≡ (space_of problem).slots
  unfolding space_of
  slots_are n e = e ∙ ap (λ (p : Problem). length (slots p)) (sym laid)

  pub slot_in : (s : ℕ) → s < (space_of problem).slots → s < length (slots (bare b))
  unfolding space_of
  slot_in s h = subst (λ (p : Problem). s < length (slots p)) laid h

  pub size_is : (s n : ℕ) → n ≡ length (choices_at (bare b) s) → n ≡ (space_of problem).size s
  unfolding space_of
  size_is s n e = e ∙ ap (λ (p : Problem). length (choices_at p s)) (sym laid)

  pub index_in : (s i : ℕ) → i < (space_of problem).size s → i < length (choices_at (bare b) s)
  unfolding space_of
  index_in s i h = subst (λ (p : Problem). i < length (choices_at p s)) laid h

  pub object_is : (s i : ℕ) (x : Option Object) → shown x ≡ (get_or (choices_at (bare b) s) i no_choice).object → shown x ≡ (space_of problem).object_at s i
  unfolding space_of
  object_is s i x e = e ∙ ap (λ (p : Problem). (get_or (choices_at p s) i no_choice).object) (sym laid)
