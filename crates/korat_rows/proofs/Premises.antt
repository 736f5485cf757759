-- The worked problems, as the checker computes them.
use Rattle.std.proofs.Common.{◌≡◌, ℕ, zero, suc, ◌<◌, ◌≤◌, ◌⊎◌, inl, inr, true, [], ◌∷◌, length, refl, arith, subst}
use Rattle.std.specs.Prelude.{Option, Some, None, pos, map}
use Rattle.std.proofs.lemmas.Bool.{cases_lt}
use Rattle.kr_classes_table.specs.Numbers.{Width, Bits32, Bits64}
use Rattle.kr_classes_table.specs.Types.{NumberType, int_type}
use Rattle.kr_classes_table.specs.Table.{table_of, Method}
use Rattle.kr_classes_table.specs.Constants.{values_of, is_constant, evaluated, constant_width}
use Rattle.kr_types_meaning.specs.Typing.{judged}
use Rattle.kr_value.specs.declared.value.Value.TheVariants.{Int, Bool as Truth, Null}
use Rattle.kr_value.specs.declared.object.Class.TheVariants.{Object}
use Rattle.kr_mean.specs.Problem.{Problem, Plain, slots, slot_at, choices_at, domain_at}
use Rattle.kr_mean.specs.Runs.{root_class, tested_method}
use Rattle.kr_mean.specs.WellFormed.{ArePlain, AreSpots}
use Rattle.kr_mean.specs.Purity.{IsPure}
use Rattle.korat_rows.specs.Words.{int, long, boolean, named, number, yes, this, ◌dot◌, ◌at◌, new, new_array, ◌becomes◌, local, evaluate, assign, increment, throw, catch, try, signals}
use Rattle.korat_rows.specs.Listings.{sorted_array, plus, tree}
use Rattle.korat_rows.specs.Examples.{nodes_with, two_nodes, two_subclasses}
use Rattle.kr_laws_safety.specs.Fits.{IsWithin}
use Rattle.kr_laws_safety.specs.Domains.{AreSpotsOf, AreDomainsOf, HaveDomainsTypes}
use Rattle.korat_rows.specs.Premises.{Meets, Premises, numbers_of, running, contracted_by, v, x, add_one, element, box}
use Rattle.kr_laws_safety.proofs.Pure.{pure_by, impure_by}

-- ---- a fact of each number below one

abbrev Below : ℕ → (ℕ → Type 0) → Type 0
Below zero P = Unit {0}
Below (suc n) P = Below n P × P n

below : (n : ℕ) (P : ℕ → Type 0) → Below n P → (k : ℕ) → k < n → P k
below zero P h k lt = absurd (omega (arith, lt))
below (suc n) P h k lt = go (cases_lt k n) (λ l. below n P h.0 k l)
  where
    go : (k < n) ⊎ (n ≤ k) → (k < n → P k) → P k
    go (inl l) f = f l
    go (inr l) f = let e : n ≡ k = omega (arith, l, lt) in subst P e h.1

-- the facts of slots and class domains, one by one
meets : (problem : Problem) (n m : ℕ) → length (slots problem) ≡ n → length problem.domains ≡ m → problem.root < length problem.domains
    → Below n (λ s. (0 < length (choices_at problem s)) × ArePlain (slot_at problem s).domain)
    → Below m (λ d. AreSpots (domain_at problem d).class (domain_at problem d).spots)
    → IsPure problem → HaveDomainsTypes problem → Meets problem
meets problem n m e f r s d pure types = record {
  well_formed = record {
    root = r;
    filled = λ x lt. (below n (λ s. (0 < length (choices_at problem s)) × ArePlain (slot_at problem s).domain) s x (omega (arith, lt, e))).0;
    plain = λ x lt. (below n (λ s. (0 < length (choices_at problem s)) × ArePlain (slot_at problem s).domain) s x (omega (arith, lt, e))).1;
    spots = λ x lt. below m (λ d. AreSpots (domain_at problem d).class (domain_at problem d).spots) d x (omega (arith, lt, f));
  };
  pure = pure;
  types = types;
}

-- the domains, one by one
abbrev OnMethod : Problem → Option Method → Type 0
OnMethod problem None = problem.parameters ≡ []
OnMethod problem (Some m) = AreDomainsOf problem (map (λ p. p.type) m.parameters) problem.parameters

typed : (problem : Problem) (m : ℕ) → length problem.domains ≡ m → Below m (λ d. AreSpotsOf problem (domain_at problem d).class (domain_at problem d).spots) → OnMethod problem (tested_method problem problem.mode)
    → (domain_at problem problem.root).class ≡ Object (root_class problem) → HaveDomainsTypes problem
typed problem m e d p r = record {
  spots = λ x lt. below m (λ d. AreSpotsOf problem (domain_at problem d).class (domain_at problem d).spots) d x (omega (arith, lt, e));
  parameters = λ y f. subst (λ (z : Option Method). OnMethod problem z) f p;
  none = λ f. subst (λ (z : Option Method). OnMethod problem z) f p;
  root = r;
}

two_nodes_meets : Meets two_nodes
unfolding table_of values_of is_constant evaluated constant_width judged
two_nodes_meets =
    meets two_nodes 3 1 refl refl (omega arith) (((tt, (omega arith, tt)), (omega arith, (tt, tt))), (omega arith, (tt, tt))) (tt, (refl, tt)) (pure_by two_nodes 1 refl refl)
    (typed two_nodes 1 refl (tt, ((refl, ((omega arith, refl), tt)), tt)) refl refl)

two_subclasses_meets : Meets two_subclasses
unfolding table_of values_of is_constant evaluated constant_width judged
two_subclasses_meets =
    meets two_subclasses 3 3 refl refl (omega arith) (((tt, (omega arith, tt)), (omega arith, tt)), (omega arith, tt)) (((tt, (refl, (refl, tt))), tt), tt) (pure_by two_subclasses 1 refl refl)
    (typed two_subclasses 3 refl (((tt, (((omega arith, refl), ((omega arith, refl), tt)), (((omega arith, refl), ((omega arith, refl), tt)), tt))), tt), tt) refl refl)

sorted_array_meets : Meets sorted_array
unfolding table_of values_of is_constant evaluated constant_width judged
sorted_array_meets =
    meets sorted_array 5 2 refl refl (omega arith)
    (((((tt, (omega arith, tt)), (omega arith, tt)), (omega arith, (tt, (tt, (tt, tt))))), (omega arith, (tt, (tt, tt)))), (omega arith, (tt, (tt, tt))))
    ((tt, (refl, tt)), (refl, (refl, (refl, tt)), (omega arith, (omega arith, (omega arith, tt)))))
    (pure_by sorted_array 1 refl refl)
    (typed sorted_array 2 refl ((tt, (((omega arith, refl), tt), tt)), ((((Bits32, refl, omega arith), ((Bits32, refl, omega arith), tt)), (((Bits32, refl, omega arith), ((Bits32, refl, omega arith), tt)), tt)), omega arith)) refl refl)

plus_meets : Meets plus
unfolding table_of values_of is_constant evaluated constant_width judged
plus_meets =
    meets plus 3 1 refl refl (omega arith) (((tt, (omega arith, tt)), (omega arith, (tt, (tt, tt)))), (omega arith, (tt, tt))) (tt, (refl, tt)) (pure_by plus 1 refl refl)
    (typed plus 1 refl (tt, (((Bits32, refl, omega arith), tt), tt)) (((Bits32, refl, omega arith), ((Bits32, refl, omega arith), tt)), tt) refl)

tree_meets : Meets tree
unfolding table_of values_of is_constant evaluated constant_width judged
tree_meets =
    meets tree 6 2 refl refl (omega arith)
    ((((((tt, (omega arith, tt)), (omega arith, (tt, tt))), (omega arith, (tt, tt))), (omega arith, (tt, tt))), (omega arith, (tt, tt))), (omega arith, (tt, tt)))
    ((tt, (refl, tt)), (refl, (refl, tt)))
    (pure_by tree 1 refl refl)
    (typed tree 2 refl ((tt, ((refl, ((omega arith, refl), tt)), tt)), ((refl, ((omega arith, refl), tt)), ((refl, ((omega arith, refl), tt)), tt))) refl refl)

null_for_node : HaveDomainsTypes (nodes_with (Plain Null ∷ []))
unfolding table_of values_of is_constant evaluated constant_width judged
null_for_node = typed (nodes_with (Plain Null ∷ [])) 1 refl (tt, ((refl, tt), tt)) refl refl

number_for_node : HaveDomainsTypes (nodes_with (Plain (Int (pos 0)) ∷ [])) → ⊥
unfolding table_of values_of is_constant evaluated constant_width judged
number_for_node h = absurd (cc ((h.spots 0 (omega arith)).0.0.1))

boolean_for_node : HaveDomainsTypes (nodes_with (Plain Null ∷ Plain (Truth true) ∷ [])) → ⊥
unfolding table_of values_of is_constant evaluated constant_width judged
boolean_for_node h = absurd (cc ((h.spots 0 (omega arith)).0.1.0))

-- no int is so great, and no long
beyond_ints : (w : Width) → int_type ≡ NumberType w → IsWithin w (pos 2147483648) → ⊥
beyond_ints Bits32 e h = omega (arith, h)
beyond_ints Bits64 e h = cc (e)

beyond_longs : (w : Width) → IsWithin w (pos 9223372036854775808) → ⊥
beyond_longs Bits32 h = omega (arith, h)
beyond_longs Bits64 h = omega (arith, h)

long_in_long : HaveDomainsTypes (numbers_of long 2147483648)
unfolding table_of values_of is_constant evaluated constant_width judged
long_in_long = typed (numbers_of long 2147483648) 1 refl (tt, (((Bits64, refl, omega arith), tt), tt)) refl refl

long_in_int : HaveDomainsTypes (numbers_of int 2147483648) → ⊥
unfolding table_of values_of is_constant evaluated constant_width judged
long_in_int h = let i = (h.spots 0 (omega arith)).0.0 in beyond_ints i.0 i.1 i.2

beyond_long : HaveDomainsTypes (numbers_of long 9223372036854775808) → ⊥
unfolding table_of values_of is_constant evaluated constant_width judged
beyond_long h = let i = (h.spots 0 (omega arith)).0.0 in beyond_longs i.0 i.2

own_field_assigned : IsPure (running (assign v (number 1) ∷ [])) → ⊥
unfolding table_of values_of is_constant evaluated constant_width judged
own_field_assigned = impure_by (running (assign v (number 1) ∷ [])) (omega arith, (tt, tt)) refl

field_assigned : IsPure (running (assign (this dot "v") (number 1) ∷ [])) → ⊥
unfolding table_of values_of is_constant evaluated constant_width judged
field_assigned = impure_by (running (assign (this dot "v") (number 1) ∷ [])) (omega arith, (tt, tt)) refl

field_added_to : IsPure (running (add_one v ∷ [])) → ⊥
unfolding table_of values_of is_constant evaluated constant_width judged
field_added_to = impure_by (running (add_one v ∷ [])) (omega arith, (tt, tt)) refl

field_stepped : IsPure (running (increment v ∷ [])) → ⊥
unfolding table_of values_of is_constant evaluated constant_width judged
field_stepped = impure_by (running (increment v ∷ [])) (omega arith, (tt, tt)) refl

element_assigned : IsPure (running (assign element (number 1) ∷ [])) → ⊥
unfolding table_of values_of is_constant evaluated constant_width judged
element_assigned = impure_by (running (assign element (number 1) ∷ [])) (omega arith, (tt, tt)) refl

element_added_to : IsPure (running (add_one element ∷ [])) → ⊥
unfolding table_of values_of is_constant evaluated constant_width judged
element_added_to = impure_by (running (add_one element ∷ [])) (omega arith, (tt, tt)) refl

element_stepped : IsPure (running (increment element ∷ [])) → ⊥
unfolding table_of values_of is_constant evaluated constant_width judged
element_stepped = impure_by (running (increment element ∷ [])) (omega arith, (tt, tt)) refl

candidate_made : IsPure (running (evaluate (new (named "R") []) ∷ [])) → ⊥
unfolding table_of values_of is_constant evaluated constant_width judged
candidate_made = impure_by (running (evaluate (new (named "R") []) ∷ [])) (omega arith, (tt, tt)) refl

array_made : IsPure (running (evaluate (new_array int (number 1)) ∷ [])) → ⊥
unfolding table_of values_of is_constant evaluated constant_width judged
array_made = impure_by (running (evaluate (new_array int (number 1)) ∷ [])) (omega arith, (tt, tt)) refl

tried_assigned : IsPure (running (try (assign v (number 1) ∷ []) (catch (named "Box") "x" [] ∷ []) ∷ [])) → ⊥
unfolding table_of values_of is_constant evaluated constant_width judged
tried_assigned = impure_by (running (try (assign v (number 1) ∷ []) (catch (named "Box") "x" [] ∷ []) ∷ [])) (omega arith, (tt, tt)) refl

caught_assigned : IsPure (running (try [] (catch (named "Box") "x" (assign v (number 1) ∷ []) ∷ []) ∷ [])) → ⊥
unfolding table_of values_of is_constant evaluated constant_width judged
caught_assigned = impure_by (running (try [] (catch (named "Box") "x" (assign v (number 1) ∷ []) ∷ []) ∷ [])) (omega arith, (tt, tt)) refl

thrown_made : IsPure (running (throw (new (named "R") []) ∷ [])) → ⊥
unfolding table_of values_of is_constant evaluated constant_width judged
thrown_made = impure_by (running (throw (new (named "R") []) ∷ [])) (omega arith, (tt, tt)) refl

signals_assigned : IsPure (contracted_by (signals (named "E") (v becomes number 1) ∷ [])) → ⊥
unfolding table_of values_of is_constant evaluated constant_width judged
signals_assigned = impure_by (contracted_by (signals (named "E") (v becomes number 1) ∷ [])) (omega arith, tt) refl

local_written : IsPure (running (local int "x" (number 0) ∷ assign x (number 1) ∷ add_one x ∷ increment x ∷ []))
unfolding table_of values_of is_constant evaluated constant_width judged
local_written = pure_by (running (local int "x" (number 0) ∷ assign x (number 1) ∷ add_one x ∷ increment x ∷ [])) 1 refl refl

box_written : IsPure (running (box ∷ assign (x dot "w") (number 1) ∷ add_one (x dot "w") ∷ increment (x dot "w") ∷ []))
unfolding table_of values_of is_constant evaluated constant_width judged
box_written = pure_by (running (box ∷ assign (x dot "w") (number 1) ∷ add_one (x dot "w") ∷ increment (x dot "w") ∷ [])) 1 refl refl

other_array_written : IsPure (running (box ∷ assign (x dot "b") (new_array boolean (number 1)) ∷ assign (x dot "b" at number 0) yes ∷ []))
unfolding table_of values_of is_constant evaluated constant_width judged
other_array_written = pure_by (running (box ∷ assign (x dot "b") (new_array boolean (number 1)) ∷ assign (x dot "b" at number 0) yes ∷ [])) 1 refl refl

pub premises : Premises
premises = record {
  two_nodes_meets = two_nodes_meets;
  two_subclasses_meets = two_subclasses_meets;
  sorted_array_meets = sorted_array_meets;
  plus_meets = plus_meets;
  tree_meets = tree_meets;
  number_for_node = number_for_node;
  boolean_for_node = boolean_for_node;
  null_for_node = null_for_node;
  long_in_long = long_in_long;
  long_in_int = long_in_int;
  beyond_long = beyond_long;
  own_field_assigned = own_field_assigned;
  field_assigned = field_assigned;
  field_added_to = field_added_to;
  field_stepped = field_stepped;
  element_assigned = element_assigned;
  element_added_to = element_added_to;
  element_stepped = element_stepped;
  candidate_made = candidate_made;
  array_made = array_made;
  tried_assigned = tried_assigned;
  caught_assigned = caught_assigned;
  thrown_made = thrown_made;
  signals_assigned = signals_assigned;
  local_written = local_written;
  box_written = box_written;
  other_array_written = other_array_written;
}
