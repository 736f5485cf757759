-- The objects at some slots, and at one slot more.
use Rattle.std.proofs.Common.{◌≡◌, ℕ, ◌⊎◌, inl, inr, Bool, true, false, List, [], ◌∷◌, ◌++◌, Option, Some, None, refl, sym, ap, ◌∙◌}
use Rattle.std.specs.Prelude.{filter, not, ◌||◌}
use Rattle.std.proofs.lemmas.List.{append-nil}
use Rattle.std.proofs.lemmas.List.Concat.{flat_map-append}
use Rattle.std.proofs.lemmas.Bool.{cases_Bool}
use Rattle.kr_mean.specs.Problem.{Problem, DomainObject}
use Rattle.kr_mean.specs.Heaps.{distinct, is_same_object, objects_of, objects_at, choice_at}
use Rattle.kr_laws_pruning.proofs.Places.{same_objects}
use Rattle.kr_laws_pruning.proofs.SlotForks.{added, distinct_append}
use Rattle.kr_laws_pruning.proofs.Walked.{objects_there}

-- whether an object is among some
abbrev pub is_in : DomainObject → List DomainObject → Bool
is_in o [] = false
is_in o (p ∷ ps) = is_same_object p o || is_in o ps

-- the object, unless it is among them
abbrev pub unless_in : Bool → DomainObject → List DomainObject
unless_in true o = []
unless_in false o = o ∷ []

added_one : (os : List DomainObject) (o : DomainObject) → added is_same_object os (o ∷ []) ≡ unless_in (is_in o os) o
added_one [] o = refl
added_one (p ∷ ps) o =
    ap (filter (λ y. not (is_same_object p y))) (added_one ps o) ∙ go (is_same_object p o) (is_in o ps) refl
  where
    go : (b c : Bool) → is_same_object p o ≡ b → filter (λ y. not (is_same_object p y)) (unless_in c o) ≡ unless_in (b || c) o
    go true true e = refl
    go false true e = refl
    go true false e = rw e refl
    go false false e = rw e refl

in_filter : (p o : DomainObject) (os : List DomainObject) → is_same_object p o ≡ false → is_in o (filter (λ y. not (is_same_object p y)) os) ≡ is_in o os
in_filter p o [] e = refl
in_filter p o (q ∷ qs) e = go (cases_Bool (is_same_object p q)) (cases_Bool (is_same_object q o)) (in_filter p o qs e)
  where
    go : (is_same_object p q ≡ true) ⊎ (is_same_object p q ≡ false) → (is_same_object q o ≡ true) ⊎ (is_same_object q o ≡ false)
        → is_in o (filter (λ y. not (is_same_object p y)) qs) ≡ is_in o qs → is_in o (filter (λ y. not (is_same_object p y)) (q ∷ qs)) ≡ is_in o (q ∷ qs)
    go (inl a) (inl b) r =
        let same : is_same_object p o ≡ true = ap (λ (x : DomainObject). is_same_object p x) (sym (same_objects q o b)) ∙ a in
        absurd (cc (same, e))
    go (inl a) (inr b) r = rw (a, b) r
    go (inr a) (inl b) r = rw (a, b) refl
    go (inr a) (inr b) r = rw (a, b) r

in_distinct : (o : DomainObject) (os : List DomainObject) → is_in o (distinct is_same_object os) ≡ is_in o os
in_distinct o [] = refl
in_distinct o (p ∷ ps) = go (cases_Bool (is_same_object p o)) (in_distinct o ps)
  where
    go : (is_same_object p o ≡ true) ⊎ (is_same_object p o ≡ false) → is_in o (distinct is_same_object ps) ≡ is_in o ps → is_in o (distinct is_same_object (p ∷ ps)) ≡ is_in o (p ∷ ps)
    go (inl e) r = rw e refl
    go (inr e) r = rw e (in_filter p o (distinct is_same_object ps) e ∙ r)

-- the objects that one slot more adds
abbrev pub new_objects : Option DomainObject → List DomainObject → List DomainObject
new_objects None os = []
new_objects (Some o) os = unless_in (is_in o os) o

pub objects_more : (problem : Problem) (v : List ℕ) (ss : List ℕ) (s : ℕ) → objects_at problem v (ss ++ s ∷ []) ≡ objects_at problem v ss ++ new_objects (choice_at problem v s).object (objects_at problem v ss)
objects_more problem v ss s =
    ap (distinct is_same_object) (flat_map-append (λ s. objects_of (choice_at problem v s).object) ss (s ∷ []))
    ∙ go (choice_at problem v s).object
  where
    there : List DomainObject
    there = objects_there problem v ss

    go : (x : Option DomainObject) → distinct is_same_object (there ++ (objects_of x ++ [])) ≡ distinct is_same_object there ++ new_objects x (distinct is_same_object there)
    go None = ap (distinct is_same_object) (append-nil there) ∙ sym (append-nil (distinct is_same_object there))
    go (Some o) =
        distinct_append is_same_object there (o ∷ [])
        ∙ ap (λ (l : List DomainObject). distinct is_same_object there ++ l) (added_one there o ∙ ap (λ (b : Bool). unless_in b o) (sym (in_distinct o there)))

pub in_more : (o p : DomainObject) (os : List DomainObject) → is_in o (os ++ p ∷ []) ≡ (is_in o os || is_same_object p o)
in_more o p [] = go (is_same_object p o)
  where
    go : (b : Bool) → (b || false) ≡ b
    go true = refl
    go false = refl
in_more o p (q ∷ qs) = ap (λ (b : Bool). is_same_object q o || b) (in_more o p qs) ∙ go (is_same_object q o)
  where
    go : (b : Bool) → (b || (is_in o qs || is_same_object p o)) ≡ ((b || is_in o qs) || is_same_object p o)
    go true = refl
    go false = refl
