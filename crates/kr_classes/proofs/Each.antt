-- The first fault of members, one after another, and the members of a class of the table.
use Rattle.std.proofs.Common.{◌≡◌, refl, sym, ap, ◌∙◌, ℕ, ◌+◌, ◌<◌, ◌≤◌, List, [], ◌∷◌, ◌++◌, length, map, take, drop, get_or, ◌-◌, arith}
use Rattle.std.specs.Prelude.{Option, Some, flat_map, option_to_list}
use Rattle.kr_base.specs.declared.place.Place.{Place}
use Rattle.kr_classes_table.specs.Table.{Class, Table, class_at, own_fields, own_methods}
use Rattle.kr_classes_table.specs.Rules.{Fault, least, sooner}
use Rattle.kr_base.proofs.Added.{flat_step}
use Rattle.kr_classes_members.proofs.Classes.{declared_by}
use Rattle.kr_classes.specs.Faults.{class_in, fault_at, no_class}
use Rattle.kr_classes.proofs.ByClass.{at_index}
use Rattle.kr_classes.proofs.Sooner.{least_append}

-- one member more
pub one_each : {A : Type 0} (r : ℕ) (g : A → List Fault) (xs : List A) (i : ℕ) (d : A) (first here new : Option Place) → i < length xs
    → fault_at r first ≡ least (flat_map g (take i xs))
    → ((s : ℕ) → fault_at s new ≡ sooner (fault_at s first) (fault_at s here))
    → fault_at r here ≡ least (g (get_or xs i d))
    → fault_at r new ≡ least (flat_map g (take (i + 1) xs))
one_each r g xs i d first here new l f s h =
    let done = flat_map g (take i xs) in
    s r
    ∙ ap (λ o. sooner o (fault_at r here)) f
    ∙ ap (sooner (least done)) h
    ∙ sym (least_append done (g (get_or xs i d)))
    ∙ ap least (flat_step g [] done (g (get_or xs i d)) xs i d l refl refl)

-- the faults of two lists
pub of_both : (r : ℕ) (fs gs : List Fault) (a b new : Option Place) → fault_at r a ≡ least fs → fault_at r b ≡ least gs → ((s : ℕ) → fault_at s new ≡ sooner (fault_at s a) (fault_at s b)) → fault_at r new ≡ least (fs ++ gs)
of_both r fs gs a b new f g s = s r ∙ ap (λ o. sooner o (fault_at r b)) f ∙ ap (sooner (least fs)) g ∙ sym (least_append fs gs)

pub class_there : (t : Table) (c : ℕ) → c < length t.classes → class_at t.classes c ≡ Some (class_in t c)
class_there t c l = at_index t.classes c no_class l

pub fields_there : (t : Table) (c : ℕ) → c < length t.classes → own_fields t c ≡ (class_in t c).fields
fields_there t c l = declared_by (λ (d : Class). d.fields) t.classes c (class_in t c) (class_there t c l)

pub methods_there : (t : Table) (c : ℕ) → c < length t.classes → own_methods t c ≡ (class_in t c).methods
methods_there t c l = declared_by (λ (d : Class). d.methods) t.classes c (class_in t c) (class_there t c l)

pub constructors_there : (t : Table) (c : ℕ) → c < length t.classes → flat_map (λ (d : Class). d.constructors) (option_to_list (class_at t.classes c)) ≡ (class_in t c).constructors
constructors_there t c l = declared_by (λ (d : Class). d.constructors) t.classes c (class_in t c) (class_there t c l)

pub behind_first : {A B : Type 0} (v : A → B) (xs : List A) → map v (drop 1 xs) ≡ drop 1 (map v xs)
behind_first v [] = refl
behind_first v (x ∷ xs) = refl

pub length_behind : {A : Type 0} (xs : List A) → length (drop 1 xs) ≤ length xs - 1
length_behind [] = omega arith
length_behind (x ∷ xs) = omega arith
