-- Objects, each once.
use Rattle.std.proofs.Common.{◌≡◌, ℕ, suc, ◌+◌, ◌<◌, ◌≤◌, Bool, true, false, List, [], ◌∷◌, ◌++◌, length, take, drop, get_or, refl, sym, ap, ◌∙◌, arith}
use Rattle.std.specs.Prelude.{◌&&◌, filter, flat_map, not, if◌then◌else◌}
use Rattle.std.proofs.lemmas.List.{append-nil, at_drop_more, drop_all, take-append-drop, take_all}
use Rattle.std.proofs.lemmas.List.Elements.{filter-append}
use Rattle.std.proofs.lemmas.List.Concat.{flat_map-append}
use Rattle.kr_value.specs.declared.value.Value.{Value}
use Rattle.kr_value.specs.declared.value.Value.TheVariants.{Int, Bool as Truth, Null, Ref as Reference}
use Rattle.kr_mean.specs.Heaps.{distinct, is_same_object}
use Rattle.kr_mean.specs.Problem.{Problem, DomainObject}
use Rattle.kr_laws_pruning.proofs.SlotForks.{added, distinct_append}
use Rattle.kr_report.specs.Texts.{objects_in, objects_named}
use Rattle.kr_report_rows.specs.Parts.{entry_objects, is_new, new_in}
use Rattle.kr_report_rows.proofs.Fronts.{front_grown}

filter_one : (p : DomainObject → Bool) (b : Bool) (y : DomainObject) → filter p (if b then y ∷ [] else []) ≡ (if p y && b then y ∷ [] else [])
filter_one p false y = sym (no (p y))
  where
    no : (c : Bool) → (if c && false then y ∷ [] else []) ≡ []
    no true = refl
    no false = refl
filter_one p true y = go (p y) refl
  where
    go : (c : Bool) → p y ≡ c → filter p (y ∷ []) ≡ (if p y && true then y ∷ [] else [])
    go true e = rw e refl
    go false e = rw e refl

-- one object more
distinct_more : (xs : List DomainObject) (y : DomainObject) → distinct is_same_object (xs ++ y ∷ []) ≡ distinct is_same_object xs ++ (if is_new xs y then y ∷ [] else [])
distinct_more [] y = refl
distinct_more (x ∷ xs) y =
    ap (λ (l : List DomainObject). x ∷ filter (λ z. not (is_same_object x z)) l) (distinct_more xs y)
    ∙ (ap (λ (l : List DomainObject). x ∷ l) (filter-append (λ z. not (is_same_object x z)) (distinct is_same_object xs) (if is_new xs y then y ∷ [] else []))
    ∙ ap (λ (l : List DomainObject). x ∷ filter (λ z. not (is_same_object x z)) (distinct is_same_object xs) ++ l) (filter_one (λ z. not (is_same_object x z)) (is_new xs y) y))

-- those of a value
distinct_grown : (problem : Problem) (xs : List DomainObject) (v : Value) → distinct is_same_object (xs ++ objects_in problem v) ≡ distinct is_same_object xs ++ new_in xs (objects_in problem v)
distinct_grown problem xs (Int n) = none xs
  where
    none : (xs : List DomainObject) → distinct is_same_object (xs ++ []) ≡ distinct is_same_object xs ++ []
    none xs = ap (λ (l : List DomainObject). distinct is_same_object l) (append-nil xs) ∙ sym (append-nil (distinct is_same_object xs))
distinct_grown problem xs (Truth b) = ap (λ (l : List DomainObject). distinct is_same_object l) (append-nil xs) ∙ sym (append-nil (distinct is_same_object xs))
distinct_grown problem xs Null = ap (λ (l : List DomainObject). distinct is_same_object l) (append-nil xs) ∙ sym (append-nil (distinct is_same_object xs))
distinct_grown problem xs (Reference o) = distinct_more xs _

-- whether an object is new after both
pub new_both : (xs ys : List DomainObject) (o : DomainObject) → is_new (xs ++ ys) o ≡ (is_new xs o && is_new ys o)
new_both [] ys o = refl
new_both (x ∷ xs) ys o = ap (λ (b : Bool). not (is_same_object x o) && b) (new_both xs ys o) ∙ and_assoc (not (is_same_object x o)) (is_new xs o) (is_new ys o)
  where
    and_assoc : (a b c : Bool) → (a && (b && c)) ≡ ((a && b) && c)
    and_assoc true b c = refl
    and_assoc false b c = refl

module _ (problem : Problem) (structure : List (ℕ × Value)) (k : ℕ) (d : ℕ × Value) (h : k < length structure) where
  abbrev pub before : List DomainObject
  before = flat_map (entry_objects problem) (take k structure)

  abbrev pub new_here : List DomainObject
  new_here = new_in before (objects_in problem (get_or structure k d).1)

  pub named_grown : distinct is_same_object (flat_map (entry_objects problem) (take (k + 1) structure)) ≡ distinct is_same_object before ++ new_here
  named_grown =
      ap (λ (l : List DomainObject). distinct is_same_object l) (front_grown (entry_objects problem) structure k d h)
      ∙ distinct_grown problem before (get_or structure k d).1

  abbrev pub later : List DomainObject
  later = added is_same_object (flat_map (entry_objects problem) (take (k + 1) structure)) (flat_map (entry_objects problem) (drop (k + 1) structure))

  pub named_rest : objects_named problem structure ≡ (distinct is_same_object before ++ new_here) ++ later
  named_rest =
      ap (λ (l : List (ℕ × Value)). distinct is_same_object (flat_map (entry_objects problem) l)) (sym (take-append-drop (k + 1) structure))
      ∙ (ap (λ (l : List DomainObject). distinct is_same_object l) (flat_map-append (entry_objects problem) (take (k + 1) structure) (drop (k + 1) structure))
      ∙ (distinct_append is_same_object (flat_map (entry_objects problem) (take (k + 1) structure)) (flat_map (entry_objects problem) (drop (k + 1) structure))
      ∙ ap (λ (l : List DomainObject). l ++ later) named_grown))

-- the entries that are left of so many, one after another
pub new_step : (problem : Problem) (structure : List (ℕ × Value)) (k n m : ℕ) (d : ℕ × Value) (o : DomainObject) → k < length structure → m ≡ suc n
    → is_new (flat_map (entry_objects problem) (take m (drop k structure))) o ≡ (is_new (objects_in problem (get_or structure k d).1) o && is_new (flat_map (entry_objects problem) (take n (drop (k + 1) structure))) o)
new_step problem structure k n m d o h e =
    ap (λ (i : ℕ). is_new (flat_map (entry_objects problem) (take i (drop k structure))) o) e
    ∙ (at_drop_more (λ (es : List (ℕ × Value)). is_new (flat_map (entry_objects problem) (take (suc n) es)) o) structure k d h
    ∙ new_both (objects_in problem (get_or structure k d).1) (flat_map (entry_objects problem) (take n (drop (k + 1) structure))) o)

pub new_none : (problem : Problem) (structure : List (ℕ × Value)) (k m : ℕ) (o : DomainObject) → length structure ≤ k → is_new (flat_map (entry_objects problem) (take m (drop k structure))) o ≡ true
new_none problem structure k m o h =
    ap (λ (es : List (ℕ × Value)). is_new (flat_map (entry_objects problem) (take m es)) o) (drop_all k structure h)
    ∙ ap (λ (es : List (ℕ × Value)). is_new (flat_map (entry_objects problem) es) o) (take_all m [] (omega arith))

-- whether an object is another than one
pub one_new : (x o : DomainObject) → is_new (x ∷ []) o ≡ not (is_same_object x o)
one_new x o = go (is_same_object x o)
  where
    go : (b : Bool) → (not b && true) ≡ not b
    go true = refl
    go false = refl

-- an object that is new, and one that isn't
pub new_is : (earlier : List DomainObject) (o : DomainObject) (b : Bool) → is_new earlier o ≡ b → new_in earlier (o ∷ []) ≡ (if b then o ∷ [] else [])
new_is earlier o b e = ap (λ (c : Bool). if c then o ∷ [] else []) e
