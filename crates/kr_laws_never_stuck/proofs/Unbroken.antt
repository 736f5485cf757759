-- Where no class rule is broken, none is of any class.
use Rattle.std.proofs.Common.{◌≡◌, refl, ap, subst, ℕ, zero, suc, ◌+◌, List, [], ◌∷◌, arith}
use Rattle.std.specs.Prelude.{Option, Some, None}
use Rattle.kr_classes_table.specs.Table.{Table, Class, class_at}
use Rattle.kr_classes_table.specs.Rules.{Fault, class_fault, least, each_class, first_of, C1, C2, C3, C4, C5, C6, C7, C8}
use Rattle.kr_classes_table.proofs.Least.{is_least}
use Rattle.kr_base.proofs.ListLemmas.{append_is_nil}

-- all of several rules
abbrev pub AllNone : List (Option Fault) → Type 0
AllNone [] = Unit {0}
AllNone (f ∷ fs) = (f ≡ None) × AllNone fs

pub all_none : (fs : List (Option Fault)) → first_of fs ≡ None → AllNone fs
all_none [] e = tt
all_none (None ∷ fs) e = (refl, all_none fs e)
all_none (Some f ∷ fs) e = absurd (cc (e))

each : (rule : ℕ → Class → List Fault) (k : ℕ) (ds : List Class) (c : ℕ) (d : Class) → each_class rule k ds ≡ [] → class_at ds c ≡ Some d → rule (k + c) d ≡ []
each rule k [] c d e h = absurd (cc (h))
each rule k (x ∷ ds) zero d e h =
    let i : x ≡ d = ap (λ (o : Option Class). elim o as (λ y. Class) [ Some z ↦ z | None ↦ x ]) h in
    let n : k ≡ k + 0 = omega arith in
    subst (λ (z : Class). rule (k + 0) z ≡ []) i (subst (λ (j : ℕ). rule j x ≡ []) n (append_is_nil (rule k x) (each_class rule (k + 1) ds) e).0)
each rule k (x ∷ ds) (suc c) d e h =
    let n : k + 1 + c ≡ k + suc c = omega arith in
    subst (λ (j : ℕ). rule j d ≡ []) n (each rule (k + 1) ds c d (append_is_nil (rule k x) (each_class rule (k + 1) ds) e).1 h)

-- a rule of each class
pub record Unbroken (t : Table) : Type 0 where
  pub C3 : (c : ℕ) (d : Class) → class_at t.classes c ≡ Some d → C3 t c d ≡ []
  pub C4 : (c : ℕ) (d : Class) → class_at t.classes c ≡ Some d → C4 t c d ≡ []
  pub C5 : (c : ℕ) (d : Class) → class_at t.classes c ≡ Some d → C5 t c d ≡ []
  pub C7 : (c : ℕ) (d : Class) → class_at t.classes c ≡ Some d → C7 t c d ≡ []

of_class : (rule : ℕ → Class → List Fault) (t : Table) → least (each_class rule 0 t.classes) ≡ None → (c : ℕ) (d : Class) → class_at t.classes c ≡ Some d → rule c d ≡ []
of_class rule t e c d h = let n : 0 + c ≡ c = omega arith in subst (λ (j : ℕ). rule j d ≡ []) n (each rule 0 t.classes c d ((is_least (each_class rule 0 t.classes)).none e) h)

pub unbroken : (t : Table) → class_fault t ≡ None → Unbroken t
unfolding class_fault
unbroken t e =
    let all = all_none (least (C1 t) ∷ least (each_class (C2 t) 0 t.classes) ∷ least (each_class (C3 t) 0 t.classes) ∷ least (each_class (C4 t) 0 t.classes) ∷ least (each_class (C5 t) 0 t.classes) ∷ least (each_class (C6 t) 0 t.classes) ∷ least (each_class (C7 t) 0 t.classes) ∷ least (each_class (C8 t) 0 t.classes) ∷ []) e in
    record { C3 = of_class (C3 t) t all.1.1.0; C4 = of_class (C4 t) t all.1.1.1.0; C5 = of_class (C5 t) t all.1.1.1.1.0; C7 = of_class (C7 t) t all.1.1.1.1.1.1.0 }
