-- The rules on builders, class by class and domain by domain.
use Rattle.std.proofs.Common.{◌≡◌, ℕ, ◌+◌, ◌<◌, ◌≤◌, Bool, true, false, List, length, take, drop, get_or, refl, sym, ap, ◌∙◌, add-one, drop-cons, arith}
use Rattle.std.specs.Prelude.{◌||◌, flat_map, Option, Some, None}
use Rattle.std.proofs.lemmas.List.{drop_all, take_all}
use Rattle.std.proofs.lemmas.List.FromFn.{get_or-range_with_len, length-range_with_len}
use Rattle.kr_base.specs.declared.place.Place.{Place}
use Rattle.kr_classes.proofs.Each.{one_each}
use Rattle.kr_classes.specs.Faults.{fault_at}
use Rattle.kr_classes_table.specs.Rules.{Fault, least, sooner}
use Rattle.kr_classes_table.specs.Table.{Table}
use Rattle.kr_emit_meaning.specs.Buildable.{ClassName, Construction, E1, E2, E3, build_fault, construction_at, elements_at, first_of, is_built, is_counted, name_at, rank_of}
use Rattle.kr_emit_meaning.specs.declared.refusal.ElementRule.{ElementRule}
use Rattle.kr_base.specs.declared.refusal.Fault.{Fault as FaultOf}
use Rattle.kr_fin.specs.Least.{least as least_of}
use Rattle.kr_mean.specs.Problem.{ClassDomain, Problem, no_objects, upto}

-- ---- class domains

built_from : (t : Table) (c : ℕ) (ds : List ClassDomain) (i : ℕ) → i < length ds → is_built t c (drop i ds) ≡ (is_counted t c (get_or ds i no_objects) || is_built t c (drop (i + 1) ds))
built_from t c ds i h = rw (add-one, drop-cons ds i no_objects) refl

pub built_on : (t : Table) (c : ℕ) (ds : List ClassDomain) (i : ℕ) (here : Bool) → i < length ds → here ≡ is_counted t c (get_or ds i no_objects) → here ≡ false → is_built t c ds ≡ is_built t c (drop i ds) → is_built t c ds ≡ is_built t c (drop (i + 1) ds)
built_on t c ds i here h is none e = e ∙ (built_from t c ds i h ∙ ap (λ (b : Bool). b || is_built t c (drop (i + 1) ds)) (sym is ∙ none))

pub built_here : (t : Table) (c : ℕ) (ds : List ClassDomain) (i : ℕ) (here : Bool) → i < length ds → here ≡ is_counted t c (get_or ds i no_objects) → here ≡ true → is_built t c ds ≡ is_built t c (drop i ds) → true ≡ is_built t c ds
built_here t c ds i here h is some e = sym (e ∙ (built_from t c ds i h ∙ ap (λ (b : Bool). b || is_built t c (drop (i + 1) ds)) (sym is ∙ some)))

pub built_none : (t : Table) (c : ℕ) (ds : List ClassDomain) (i : ℕ) → length ds ≤ i → is_built t c ds ≡ is_built t c (drop i ds) → false ≡ is_built t c ds
built_none t c ds i h e = sym (e ∙ ap (is_built t c) (drop_all i ds h))

-- ---- classes by their numbers

-- one class more
pub one_class : (g : ℕ → List Fault) (n i : ℕ) (first here new : Option Place) → i < n
    → fault_at 1 first ≡ least (flat_map g (take i (upto n)))
    → ((s : ℕ) → fault_at s new ≡ sooner (fault_at s first) (fault_at s here))
    → fault_at 1 here ≡ least (g i)
    → fault_at 1 new ≡ least (flat_map g (take (i + 1) (upto n)))
one_class g n i first here new h f s e =
    let long : i < length (upto n) = omega (arith, h, length-range_with_len 0 n) in
    let at : get_or (upto n) i 0 ≡ i = get_or-range_with_len 0 n i 0 h ∙ omega arith in
    one_each 1 g (upto n) i 0 first here new long f s (e ∙ ap (λ k. least (g k)) (sym at))

pub all_classes : (g : ℕ → List Fault) (n i : ℕ) → n ≤ i → least (flat_map g (take i (upto n))) ≡ least (flat_map g (upto n))
all_classes g n i h = ap (λ ks. least (flat_map g ks)) (take_all i (upto n) (omega (arith, h, length-range_with_len 0 n)))

-- ---- array types

-- ---- the first broken rule

module _ (P : Problem) where
  pub at_construction : (p : Place) → fault_at 1 (Some p) ≡ least (E1 P) → build_fault P ≡ Some (Construction p)
  unfolding build_fault
  at_construction p e = ap (λ (f : Option Fault). first_of (construction_at f) (first_of (name_at (least (E2 P))) (elements_at (least_of rank_of (E3 P))))) (sym e)

  past_construction : fault_at 1 None ≡ least (E1 P) → build_fault P ≡ first_of (name_at (least (E2 P))) (elements_at (least_of rank_of (E3 P)))
  unfolding build_fault
  past_construction e = ap (λ (f : Option Fault). first_of (construction_at f) (first_of (name_at (least (E2 P))) (elements_at (least_of rank_of (E3 P))))) (sym e)

  pub at_name : (p : Place) → fault_at 1 None ≡ least (E1 P) → fault_at 2 (Some p) ≡ least (E2 P) → build_fault P ≡ Some (ClassName p)
  at_name p e f = past_construction e ∙ ap (λ (g : Option Fault). first_of (name_at g) (elements_at (least_of rank_of (E3 P)))) (sym f)

  pub at_elements : (kept : Option (FaultOf ElementRule)) → fault_at 1 None ≡ least (E1 P) → fault_at 2 None ≡ least (E2 P) → kept ≡ least_of rank_of (E3 P) → build_fault P ≡ elements_at kept
  at_elements kept e f k = past_construction e ∙ (ap (λ (g : Option Fault). first_of (name_at g) (elements_at (least_of rank_of (E3 P)))) (sym f) ∙ ap elements_at (sym k))
