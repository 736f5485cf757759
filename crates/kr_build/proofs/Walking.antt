-- A walk that visits one slot after another is the walk of the definition.
use Rattle.std.proofs.Common.{◌≡◌, ℕ, zero, suc, ◌+◌, ◌<◌, ◌≤◌, ◌⊎◌, inl, inr, Bool, true, false, List, [], ◌∷◌, ◌++◌, length, get_or, take, drop, Option, Some, None, refl, sym, ap, ◌∙◌, arith, subst, append_assoc}
use Rattle.std.specs.Prelude.{flat_map, ◌||◌, ◌==◌, if◌then◌else◌}
use Rattle.std.proofs.lemmas.List.{append-nil, length-append, take-append-drop, take-append-le, take_more, take_all, get_or_append_left, nil_from_length}
use Rattle.std.proofs.lemmas.List.Concat.{flat_map-append}
use Rattle.std.proofs.lemmas.Bool.{eq-eqb, eqb-true, cases_Bool}
use Rattle.kr_mean.specs.Problem.{Problem, DomainObject, all_objects, heap_number, slots, slot_at}
use Rattle.kr_mean.specs.WellFormed.{IsWellFormed}
use Rattle.kr_mean.specs.Heaps.{is_same_object, slots_in, objects_at, root_slots, met_within, walk, choice_at}
use Rattle.kr_laws_pruning.proofs.Places.{one_object, same_object, same_objects}
use Rattle.kr_laws_pruning.proofs.SlotForks.{added}
use Rattle.kr_laws_runs.proofs.Respects.{AllOf}
use Rattle.kr_laws_pruning.proofs.Spaces.{block_of}
use Rattle.kr_laws_pruning.proofs.Walked.{Valid, objects_there, walked, walk_below, objects_more as objects_both}
use Rattle.kr_laws_pruning.proofs.Reached.{settled}
use Rattle.kr_space_layout.specs.Marks.{IsMarked}
use Rattle.kr_build.specs.Visits.{IsVisit, IsVisitOf, IsMeeting}
use Rattle.kr_build.proofs.Meetings.{is_in, unless_in, new_objects, objects_more, in_more}

abbrev pub front : {A : Type 0} → List A → List A → Type 0
front {A} xs ys = (rest : List A) × (ys ≡ xs ++ rest)

-- all objects that are met
abbrev pub all_met : Problem → List ℕ → List DomainObject
all_met problem v = met_within problem v (length (all_objects problem))

-- the objects met so far, and their slots
pub record IsWalked (problem : Problem) (v order : List ℕ) (met : List Bool) (i : ℕ) (os : List DomainObject) : Type 0 where
  pub objects : os ≡ objects_at problem v (take i order)
  pub slots : order ≡ root_slots problem ++ flat_map (slots_in problem v) os
  pub begins : front os (all_met problem v)
  pub marks : (o : DomainObject) → Valid problem o → get_or met (heap_number problem o) false ≡ is_in o os
  pub within : i ≤ length order

-- the slots so far are the first of the walk
whole : (problem : Problem) (v order : List ℕ) (met : List Bool) (i : ℕ) (os : List DomainObject) → (r : IsWalked problem v order met i os) → walked problem v (length (all_objects problem)) ≡ order ++ flat_map (slots_in problem v) r.begins.0
whole problem v order met i os r =
    let f = flat_map (slots_in problem v) in
    ap (λ (xs : List DomainObject). root_slots problem ++ f xs) r.begins.1
    ∙ (ap (λ (xs : List ℕ). root_slots problem ++ xs) (flat_map-append (slots_in problem v) os r.begins.0)
    ∙ (sym (append_assoc (root_slots problem) (f os) (f r.begins.0))
    ∙ ap (λ (xs : List ℕ). xs ++ f r.begins.0) (sym r.slots)))

pub no_longer : (problem : Problem) (v order : List ℕ) (met : List Bool) (i : ℕ) (os : List DomainObject) → IsWalked problem v order met i os → length order ≤ length (walk problem v)
unfolding walk
no_longer problem v order met i os r = omega (arith, ap (λ (xs : List ℕ). length xs) (whole problem v order met i os r), length-append order (flat_map (slots_in problem v) r.begins.0))

at_all : (P : ℕ → Type 0) (xs : List ℕ) (i d : ℕ) → AllOf P xs → i < length xs → P (get_or xs i d)
at_all P [] i d a h = absurd (omega arith)
at_all P (x ∷ xs) zero d a h = a.0
at_all P (x ∷ xs) (suc i) d a h = at_all P xs i d a.1 (omega arith)

module _ (problem : Problem) (w : IsWellFormed problem) (v : List ℕ) where
  -- each slot that is met is one
  pub slot_below : (order : List ℕ) (met : List Bool) (i : ℕ) (os : List DomainObject) (d : ℕ) → IsWalked problem v order met i os → i < length order → get_or order i d < length (slots problem)
  slot_below order met i os d r h =
      let all = walk_below problem w v (length (all_objects problem)) in
      let e = whole problem v order met i os r in
      let long : i < length (walked problem v (length (all_objects problem))) = omega (arith, ap (λ (xs : List ℕ). length xs) e, length-append order (flat_map (slots_in problem v) r.begins.0)) in
      subst (λ (s : ℕ). s < length (slots problem))
      (ap (λ (xs : List ℕ). get_or xs i d) e ∙ get_or_append_left order (flat_map (slots_in problem v) r.begins.0) d i h)
      (at_all (λ s. s < length (slots problem)) (walked problem v (length (all_objects problem))) i d all long)

  module _ (order : List ℕ) (met : List Bool) (i : ℕ) (os : List DomainObject) (r : IsWalked problem v order met i os) (h : i < length order) where
    abbrev here : ℕ
    here = get_or order i 0

    next : objects_at problem v (take (i + 1) order) ≡ os ++ new_objects (choice_at problem v here).object os
    next =
        ap (objects_at problem v) (take_more order i 0 h)
        ∙ (objects_more problem v (take i order) here
        ∙ ap (λ (xs : List DomainObject). xs ++ new_objects (choice_at problem v here).object xs) (sym r.objects))

    still : front (objects_at problem v (take (i + 1) order)) (all_met problem v)
    still =
        let rest = flat_map (slots_in problem v) r.begins.0 in
        let ss = take (i + 1) order in
        let ts = drop (i + 1) order ++ rest in
        let e : walked problem v (length (all_objects problem)) ≡ ss ++ ts =
        whole problem v order met i os r ∙ (ap (λ (xs : List ℕ). xs ++ rest) (sym (take-append-drop (i + 1) order)) ∙ append_assoc ss (drop (i + 1) order) rest) in (
          added is_same_object (objects_there problem v ss) (objects_there problem v ts),
          sym (settled problem w v) ∙ (ap (objects_at problem v) e ∙ objects_both problem v ss ts),
        )

    kept : (new_met : List Bool) (new_order : List ℕ) → objects_at problem v (take (i + 1) order) ≡ os → new_met ≡ met → new_order ≡ order → (more : List DomainObject) × IsWalked problem v new_order new_met (i + 1) more
    kept new_met new_order q m o = (
      os,
      subst (λ (x : List ℕ). IsWalked problem v x new_met (i + 1) os) (sym o) (subst (λ (x : List Bool). IsWalked problem v order x (i + 1) os) (sym m) (record {
        objects = sym q;
        slots = r.slots;
        begins = subst (λ (xs : List DomainObject). front xs (all_met problem v)) q still;
        marks = r.marks;
        within = omega arith;
      })),
    )

    marked : (new_met : List Bool) (o : DomainObject) → Valid problem o → IsMarked met (heap_number problem o) new_met → (p : DomainObject) → Valid problem p → get_or new_met (heap_number problem p) false ≡ is_in p (os ++ o ∷ [])
    marked new_met o a m p b = m (heap_number problem p) ∙ (go (cases_Bool (is_same_object o p)) ∙ sym (in_more p o os))
      where
        or_true : (c : Bool) → (c || true) ≡ true
        or_true true = refl
        or_true false = refl

        or_false : (c : Bool) → (c || false) ≡ c
        or_false true = refl
        or_false false = refl

        other : is_same_object o p ≡ false → (heap_number problem p == heap_number problem o) ≡ false
        other e = off (cases_Bool (heap_number problem p == heap_number problem o))
          where
            off : ((heap_number problem p == heap_number problem o) ≡ true) ⊎ ((heap_number problem p == heap_number problem o) ≡ false) → (heap_number problem p == heap_number problem o) ≡ false
            off (inr f) = f
            off (inl t) =
                let q = one_object problem w p.domain p.number o.domain o.number b.0 b.1 a.0 a.1 (eqb-true (heap_number problem p) (heap_number problem o) t) in
                let s : is_same_object o p ≡ true = ap (λ (x : DomainObject). is_same_object o x) q ∙ same_object o in
                absurd (cc (s, e))

        go : (is_same_object o p ≡ true) ⊎ (is_same_object o p ≡ false) → (if heap_number problem p == heap_number problem o then true else get_or met (heap_number problem p) false) ≡ (is_in p os || is_same_object o p)
        go (inl e) =
            let q : heap_number problem p ≡ heap_number problem o = ap (heap_number problem) (sym (same_objects o p e)) in
            rw (eq-eqb (heap_number problem p) (heap_number problem o) q, e) (sym (or_true (is_in p os)))
        go (inr e) = rw (other e, e) (r.marks p b ∙ sym (or_false (is_in p os)))

    met_new : (new_met : List Bool) (new_order : List ℕ) (o : DomainObject) → Valid problem o → objects_at problem v (take (i + 1) order) ≡ os ++ o ∷ [] → IsMarked met (heap_number problem o) new_met → new_order ≡ order ++ slots_in problem v o → (more : List DomainObject) × IsWalked problem v new_order new_met (i + 1) more
    met_new new_met new_order o a q m e =
        let f = flat_map (slots_in problem v) in (
          os ++ o ∷ [],
          record {
            objects = sym q ∙ ap (objects_at problem v) (sym (ap (take (i + 1)) e ∙ take-append-le (i + 1) order (slots_in problem v o) (omega arith)));
            slots =
                e ∙ (ap (λ (xs : List ℕ). xs ++ slots_in problem v o) r.slots
                ∙ (append_assoc (root_slots problem) (f os) (slots_in problem v o)
                ∙ ap (λ (xs : List ℕ). root_slots problem ++ xs) (ap (λ (xs : List ℕ). f os ++ xs) (sym (append-nil (slots_in problem v o))) ∙ sym (flat_map-append (slots_in problem v) os (o ∷ [])))));
            begins = subst (λ (xs : List DomainObject). front xs (all_met problem v)) q still;
            marks = marked new_met o a m;
            within = omega (arith, ap (λ (xs : List ℕ). length xs) e, length-append order (slots_in problem v o));
          },
        )

    pub step : (new_met : List Bool) (new_order : List ℕ) → IsVisit problem v here met order new_met new_order → (more : List DomainObject) × IsWalked problem v new_order new_met (i + 1) more
    step new_met new_order = go (choice_at problem v here).object refl
      where
        go : (x : Option DomainObject) → (choice_at problem v here).object ≡ x → IsVisitOf problem v x met order new_met new_order → (more : List DomainObject) × IsWalked problem v new_order new_met (i + 1) more
        go None e visit = kept new_met new_order (next ∙ (ap (λ (x : Option DomainObject). os ++ new_objects x os) e ∙ append-nil os)) visit.0 visit.1
        go (Some o) e visit = meet (get_or met (heap_number problem o) false) refl visit
          where
            valid : Valid problem o
            valid = let b = block_of problem (slot_at problem here).domain (get_or v here 0) o e in (b.in_domain, b.in_number)

            found : (b : Bool) → get_or met (heap_number problem o) false ≡ b → objects_at problem v (take (i + 1) order) ≡ os ++ unless_in b o
            found b q = next ∙ (ap (λ (x : Option DomainObject). os ++ new_objects x os) e ∙ ap (λ (c : Bool). os ++ unless_in c o) (sym (r.marks o valid) ∙ q))

            meet : (b : Bool) → get_or met (heap_number problem o) false ≡ b → IsMeeting problem v o b met order new_met new_order → (more : List DomainObject) × IsWalked problem v new_order new_met (i + 1) more
            meet true q m = kept new_met new_order (found true q ∙ append-nil os) m.0 m.1
            meet false q m = met_new new_met new_order o valid (found false q) m.0 m.1

  -- at the end all is walked
  pub done : (order : List ℕ) (met : List Bool) (i : ℕ) (os : List DomainObject) → IsWalked problem v order met i os → length order ≤ i → order ≡ walk problem v
  unfolding walk
  done order met i os r h = r.slots ∙ ap (λ (xs : List DomainObject). root_slots problem ++ f xs) same
    where
      f : List DomainObject → List ℕ
      f = flat_map (slots_in problem v)

      are : os ≡ objects_at problem v (root_slots problem ++ flat_map (slots_in problem v) os)
      are = r.objects ∙ (ap (objects_at problem v) (take_all i order h) ∙ ap (objects_at problem v) r.slots)

      least : (n : ℕ) → front (met_within problem v n) os
      least zero = (added is_same_object (objects_there problem v (root_slots problem)) (objects_there problem v (flat_map (slots_in problem v) os)), are ∙ objects_both problem v (root_slots problem) (flat_map (slots_in problem v) os))
      least (suc n) = go (least n)
        where
          go : front (met_within problem v n) os → front (met_within problem v (suc n)) os
          go (rest, e) =
              let ss = root_slots problem ++ flat_map (slots_in problem v) (met_within problem v n) in
              let ts = flat_map (slots_in problem v) rest in
              let split : root_slots problem ++ flat_map (slots_in problem v) os ≡ ss ++ ts =
              ap (λ (xs : List DomainObject). root_slots problem ++ flat_map (slots_in problem v) xs) e
              ∙ (ap (λ (xs : List ℕ). root_slots problem ++ xs) (flat_map-append (slots_in problem v) (met_within problem v n) rest)
              ∙ sym (append_assoc (root_slots problem) (flat_map (slots_in problem v) (met_within problem v n)) ts)) in
              (added is_same_object (objects_there problem v ss) (objects_there problem v ts), are ∙ (ap (objects_at problem v) split ∙ objects_both problem v ss ts))

      same : os ≡ all_met problem v
      same = go r.begins (least (length (all_objects problem)))
        where
          go : front os (all_met problem v) → front (all_met problem v) os → os ≡ all_met problem v
          go (xs, e) (ys, g) =
              let none : xs ≡ [] = nil_from_length xs (omega (arith, ap (λ (l : List DomainObject). length l) e, ap (λ (l : List DomainObject). length l) g, length-append os xs, length-append (all_met problem v) ys)) in
              sym (e ∙ (ap (λ (l : List DomainObject). os ++ l) none ∙ append-nil os))
