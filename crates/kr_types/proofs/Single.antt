-- Classes of which no rule is broken have at most one constructor each.
use Rattle.std.proofs.Common.{◌≡◌, refl, ℕ, zero, suc, ◌+◌, ◌<◌, List, [], ◌∷◌, ◌++◌, length, true, false, if◌then◌else◌, append-nil, arith}
use Rattle.std.specs.Prelude.{Option, Some, None, drop, flat_map, option_to_list}
use Rattle.kr_classes_table.specs.Table.{Table, Class, Constructor, class_at}
use Rattle.kr_classes_table.specs.Rules.{Fault, C1, C2, C3, C4, C5, C6, C7, C8, break_if, class_fault, each_class, first_of, is_before, least, sooner}
use Rattle.kr_types_expressions.specs.Constructors.{AreSingle}

sooner_some : (f : Fault) (g : Option Fault) → sooner (Some f) g ≡ None → ⊥
sooner_some f None e = cc
sooner_some f (Some g) e = elim (is_before g f) as (λ t. (if t then Some g else Some f) ≡ None → ⊥) [ true ↦ λ e. cc | false ↦ λ e. cc ] e

-- no fault comes first where there are none
pub none_broken : (fs : List Fault) → least fs ≡ None → fs ≡ []
none_broken [] e = refl
none_broken (f ∷ fs) e = absurd (sooner_some f (least fs) e)

first_none : (o : Option Fault) (os : List (Option Fault)) → first_of (o ∷ os) ≡ None → (o ≡ None) × (first_of os ≡ None)
first_none None os e = (refl, e)
first_none (Some f) os e = absurd (cc)

no_front : (fs gs : List Fault) → fs ++ gs ≡ [] → gs ≡ []
no_front [] gs e = e
no_front (f ∷ fs) gs e = absurd (cc)

no_back : (fs gs : List Fault) → fs ++ gs ≡ [] → fs ≡ []
no_back [] gs e = refl
no_back (f ∷ fs) gs e = absurd (cc)

few : (ks : List Constructor) → flat_map (λ k. break_if true 4 k.place) (drop 1 ks) ≡ [] → length ks < 2
few [] e = omega arith
few (k ∷ []) e = omega arith
few (k ∷ j ∷ ks) e = absurd (cc)

each_none : (t : Table) (n c : ℕ) (ds : List Class) → each_class (C4 t) n ds ≡ [] → length (flat_map (λ (d : Class). d.constructors) (option_to_list (class_at ds c))) < 2
each_none t n c [] e = omega arith
each_none t n zero (d ∷ ds) e = simp append-nil (few d.constructors (no_front _ _ (no_back _ _ e)))
each_none t n (suc c) (d ∷ ds) e = each_none t (n + 1) c ds (no_front (C4 t n d) _ e)

pub single : (t : Table) → class_fault t ≡ None → AreSingle t
unfolding class_fault
single t e c =
    let rule : (Table → ℕ → Class → List Fault) → Option Fault = λ r. least (each_class (r t) 0 t.classes) in
    let on_two = first_none (rule C2) (rule C3 ∷ rule C4 ∷ rule C5 ∷ rule C6 ∷ rule C7 ∷ rule C8 ∷ []) (first_none (least (C1 t)) (rule C2 ∷ rule C3 ∷ rule C4 ∷ rule C5 ∷ rule C6 ∷ rule C7 ∷ rule C8 ∷ []) e).1 in
    let on_three = first_none (rule C3) (rule C4 ∷ rule C5 ∷ rule C6 ∷ rule C7 ∷ rule C8 ∷ []) on_two.1 in
    let on_four = first_none (rule C4) (rule C5 ∷ rule C6 ∷ rule C7 ∷ rule C8 ∷ []) on_three.1 in
    each_none t 0 c t.classes (none_broken _ on_four.0)
