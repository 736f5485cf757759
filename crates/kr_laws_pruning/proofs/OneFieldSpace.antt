-- Candidates of a class of one `int` field: an object with an index into the field's values. Other names for one object
-- change nothing.
use Rattle.std.proofs.Common.{◌≡◌, ℕ, zero, suc, ◌<◌, ◌≤◌, true, ℤ, pos, List, [], ◌∷◌, length, map, get_or, None, refl, sym, ap, ◌∙◌, subst, arith}
use Rattle.kr_ast.specs.declared.node.BinaryOperator.{BinaryOperator}
use Rattle.kr_mean.specs.Problem.{Problem, Choice, choices_in, slots, slot_at, domain_at}
use Rattle.kr_mean.specs.Space.{Space, no_choice, space_of, IsVector, IsRenaming, IsRenamed}
use Rattle.kr_mean.specs.Blocks.{width_in, IsSpace, moved, on_slot, on_index}
use Rattle.kr_mean.specs.WellFormed.{ArePlain, AreSpots, IsWellFormed}
use Rattle.kr_mean.specs.Operators.{is_comparison}
use Rattle.kr_iso.proofs.Moves.{moves}
use Rattle.kr_laws_pruning.proofs.Spaces as spaces
use Rattle.kr_laws_pruning.specs.OneField.{Places, one_field, int_domain}
use Rattle.kr_value.specs.declared.value.Value.TheVariants.{Int}

-- a class of one field with the values of the field, and how much fuel there is beyond six units
pub record Form : Type 0 where
  pub at : Places
  pub class_name : List ℕ
  pub field_name : List ℕ
  pub test : BinaryOperator
  pub compares : is_comparison test ≡ true
  pub number : ℕ
  pub small : number ≤ 2147483647
  pub values : List ℤ
  pub spare : ℕ

abbrev pub problem_of : Form → Problem
problem_of form = one_field form.at form.class_name form.field_name form.test form.number form.values (suc (suc (suc (suc (suc (suc form.spare))))))

abbrev pub space_for : Form → Space
space_for form = space_of (problem_of form)

-- ---- the field's choices

abbrev pub chosen : ℤ → Choice
chosen z = record { value = Int z; object = None }

pub choices_long : (problem : Problem) (zs : List ℤ) → length (choices_in problem (int_domain zs)) ≡ length zs
choices_long problem [] = refl
choices_long problem (z ∷ zs) = ap suc (choices_long problem zs)

pub choice_of : (problem : Problem) (zs : List ℤ) (i : ℕ) → i < length zs → get_or (choices_in problem (int_domain zs)) i no_choice ≡ chosen (get_or zs i (pos 0))
choice_of problem [] i h = absurd (omega (arith, h))
choice_of problem (z ∷ zs) zero h = refl
choice_of problem (z ∷ zs) (suc i) h = choice_of problem zs i (omega (arith, h))

pub no_object_chosen : (problem : Problem) (zs : List ℤ) (i : ℕ) → (get_or (choices_in problem (int_domain zs)) i no_choice).object ≡ None
no_object_chosen problem [] i = refl
no_object_chosen problem (z ∷ zs) zero = refl
no_object_chosen problem (z ∷ zs) (suc i) = no_object_chosen problem zs i

-- ---- vectors

abbrev pub Spells : Form → List ℕ → Type 0
Spells form v = (i : ℕ) × (i < length form.values) × (v ≡ 0 ∷ i ∷ [])

spelled_by : (form : Form) (v : List ℕ) → length v ≡ 2 → get_or v 0 0 < 1 → get_or v 1 0 < length form.values → Spells form v
spelled_by form [] l o f = absurd (cc (l))
spelled_by form (x ∷ []) l o f = absurd (omega (arith, l))
spelled_by form (x ∷ y ∷ z ∷ v) l o f = absurd (omega (arith, l))
spelled_by form (x ∷ y ∷ []) l o f = (y, f, ap (λ x. x ∷ y ∷ []) (omega (arith, o)))

pub spelled : (form : Form) (v : List ℕ) → IsVector (space_for form) v → Spells form v
unfolding space_of
spelled form v h =
    let below : get_or v 1 0 < length (choices_in (problem_of form) (int_domain form.values)) = h.within 1 (omega arith) in
    spelled_by form v h.long (h.within 0 (omega arith)) (subst (λ n. get_or v 1 0 < n) (choices_long (problem_of form) form.values) below)

within_domains : (form : Form) (i : ℕ) → i < length form.values → (s : ℕ) → s < 2 → get_or (0 ∷ i ∷ []) s 0 < (space_for form).size s
unfolding space_of
within_domains form i h zero b = omega arith
within_domains form i h (suc zero) b = subst (λ n. i < n) (sym (choices_long (problem_of form) form.values)) h
within_domains form i h (suc (suc s)) b = absurd (omega (arith, b))

pub is_vector : (form : Form) (i : ℕ) → i < length form.values → IsVector (space_for form) (0 ∷ i ∷ [])
unfolding space_of
is_vector form i h = record { long = refl; within = within_domains form i h }

-- ---- the space

filled : (form : Form) → 0 < length form.values → (s : ℕ) → s < (space_for form).slots → 0 < (space_for form).size s
unfolding space_of
filled form h zero b = omega arith
filled form h (suc zero) b = subst (λ n. 0 < n) (sym (choices_long (problem_of form) form.values)) h
filled form h (suc (suc s)) b = absurd (omega (arith, b))

ints_plain : (zs : List ℤ) → ArePlain (int_domain zs)
ints_plain [] = tt
ints_plain (z ∷ zs) = (tt, ints_plain zs)

plain : (form : Form) (s : ℕ) → s < length (slots (problem_of form)) → ArePlain (slot_at (problem_of form) s).domain
plain form zero b = tt
plain form (suc zero) b = ints_plain form.values
plain form (suc (suc s)) b = absurd (omega (arith, b))

spots : (form : Form) (d : ℕ) → d < length (problem_of form).domains → AreSpots (domain_at (problem_of form) d).class (domain_at (problem_of form) d).spots
spots form zero b = (refl, tt)
spots form (suc d) b = absurd (omega (arith, b))

well_formed : (form : Form) → 0 < length form.values → IsWellFormed (problem_of form)
unfolding space_of
well_formed form h = record { root = omega arith; filled = filled form h; plain = plain form; spots = spots form }

pub is_space : (form : Form) → 0 < length form.values → IsSpace (space_for form)
is_space form h = spaces.is_space (problem_of form) (well_formed form h)

-- ---- other names

same_slots : (form : Form) (name : ℕ → ℕ → ℕ) → IsRenaming (space_for form) name → on_slot (space_for form) name 1 ≡ 1
unfolding space_of width_in
same_slots form name r = let h : name 0 0 < 1 = r.within 0 0 (omega arith) in omega (arith, h)

pub slots_stay : (form : Form) (name : ℕ → ℕ → ℕ) → IsRenaming (space_for form) name → map (on_slot (space_for form) name) (0 ∷ 1 ∷ []) ≡ 0 ∷ 1 ∷ []
unfolding space_of
slots_stay form name r = ap (λ s. 0 ∷ s ∷ []) (same_slots form name r)

same_indices : (form : Form) (name : ℕ → ℕ → ℕ) (i : ℕ) → on_index (space_for form) name 1 i ≡ i
unfolding space_of
same_indices form name i = ap (λ o. moved name o 1 i) (no_object_chosen (problem_of form) form.values i)

field_is_slot : (form : Form) → 1 < (space_for form).slots
unfolding space_of
field_is_slot form = omega arith

pub vectors_stay : (form : Form) (name : ℕ → ℕ → ℕ) (v w : List ℕ) → IsRenaming (space_for form) name → IsVector (space_for form) v → IsRenamed (space_for form) name v w → w ≡ v
vectors_stay form name v w r h m =
    let a = spelled form v h in
    let b = spelled form w m.vector in
    let there : get_or w (on_slot (space_for form) name 1) 0 ≡ on_index (space_for form) name 1 (get_or v 1 0) = (moves (space_for form) (is_space form (omega (arith, a.1))) name r v w h m).values 1 (field_is_slot form) in
    let here : get_or w 1 0 ≡ get_or v 1 0 = ap (λ s. get_or w s 0) (sym (same_slots form name r)) ∙ (there ∙ same_indices form name (get_or v 1 0)) in
    let same : b.0 ≡ a.0 = ap (λ u. get_or u 1 0) (sym b.2) ∙ (here ∙ ap (λ u. get_or u 1 0) a.2) in
    b.2 ∙ (ap (λ i. 0 ∷ i ∷ []) same ∙ sym a.2)
