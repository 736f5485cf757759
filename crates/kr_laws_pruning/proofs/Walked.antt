-- The walks over two vectors' heaps go the same way, up to names, as long as the vectors agree on the slots before.
use Rattle.std.proofs.Common.{◌≡◌, ℕ, zero, suc, ◌+◌, ◌<◌, ◌≤◌, ◌⊎◌, inl, inr, true, false, List, [], ◌∷◌, ◌++◌, length, get_or, Option, Some, None, refl, sym, ap, ◌∙◌, arith, subst, append_assoc}
use Rattle.std.specs.Prelude.{map, flat_map, pos, negsuc}
use Rattle.std.specs.List.{range_with_len}
use Rattle.std.proofs.lemmas.List.{map-append, append_cancel_left}
use Rattle.std.proofs.lemmas.List.Concat.{flat_map-append}
use Rattle.std.proofs.lemmas.Bool.{cases_Bool}
use Rattle.kr_mean.specs.Problem.{Problem, DomainObject, slots, slot_at, all_objects}
use Rattle.kr_mean.specs.Space.{space_of, IsRenaming, renamed_object}
use Rattle.kr_mean.specs.Heaps.{distinct, length_in, value_at, choice_at, is_same_object, slots_in, objects_of, objects_at, root_slots, met_within, walk}
use Rattle.kr_mean.specs.WellFormed.{IsWellFormed}
use Rattle.kr_value.specs.declared.object.Class.{Class}
use Rattle.kr_value.specs.declared.object.Class.TheVariants.{Object, Array, Set, List as ListClass}
use Rattle.kr_value.specs.declared.value.Value.{Value}
use Rattle.kr_value.specs.declared.value.Value.TheVariants.{Int, Bool as Truth, Null, Ref as Reference}
use Rattle.kr_laws_pruning.proofs.Numbering.{object, count_at, width_at, parameters, first_slot, object_slot, slots_long}
use Rattle.kr_laws_pruning.proofs.Spaces.{block_of}
use Rattle.kr_laws_pruning.proofs.Places.{class_at, extent_of, extent, extent_within, slots_in_are, same_objects, same_object}
use Rattle.kr_laws_pruning.proofs.Named.{name_in, name_apart, heap_name, on, on_this, on_parameter, on_spot, AgreeAt, choice_renamed}
use Rattle.kr_laws_runs.proofs.Respects.{AllOf}
use Rattle.kr_laws_pruning.proofs.Goes.{renamed_value}
use Rattle.kr_laws_pruning.proofs.SlotForks.{SlotForks, slots_then, slots_same, slots_map, slots_known, all_map, all_append, all_distinct, added, distinct_append, distinct_renamed}

-- an object that there is
abbrev pub Valid : Problem → DomainObject → Type 0
Valid problem o = (o.domain < length problem.domains) × (o.number < count_at problem o.domain)

abbrev pub Below : Problem → ℕ → Type 0
Below problem s = s < length (slots problem)

abbrev pub objects_there : Problem → List ℕ → List ℕ → List DomainObject
objects_there problem v ss = flat_map (λ s. objects_of (choice_at problem v s).object) ss

pub all_flat : {X Y : Type 0} (P : Y → Type 0) (f : X → List Y) (xs : List X) → AllOf (λ x. AllOf P (f x)) xs → AllOf P (flat_map f xs)
all_flat P f [] h = tt
all_flat P f (x ∷ xs) h = all_append P (f x) (flat_map f xs) h.0 (all_flat P f xs h.1)

objects_valid_at : (problem : Problem) (v : List ℕ) (s : ℕ) → AllOf (Valid problem) (objects_of (choice_at problem v s).object)
objects_valid_at problem v s = go (choice_at problem v s).object refl
  where
    go : (x : Option DomainObject) → (choice_at problem v s).object ≡ x → AllOf (Valid problem) (objects_of x)
    go None e = tt
    go (Some o) e = let b = block_of problem (slot_at problem s).domain (get_or v s 0) o e in ((b.in_domain, b.in_number), tt)

objects_valid : (problem : Problem) (v : List ℕ) (ss : List ℕ) → AllOf (Valid problem) (objects_there problem v ss)
objects_valid problem v [] = tt
objects_valid problem v (s ∷ ss) = all_append (Valid problem) (objects_of (choice_at problem v s).object) (objects_there problem v ss) (objects_valid_at problem v s) (objects_valid problem v ss)

pub met_valid : (problem : Problem) (v : List ℕ) (k : ℕ) → AllOf (Valid problem) (met_within problem v k)
met_valid problem v zero = all_distinct (Valid problem) is_same_object (objects_there problem v (root_slots problem)) (objects_valid problem v (root_slots problem))
met_valid problem v (suc k) = let ss = root_slots problem ++ flat_map (slots_in problem v) (met_within problem v k) in all_distinct (Valid problem) is_same_object (objects_there problem v ss) (objects_valid problem v ss)

-- the walk so far
abbrev pub walked : Problem → List ℕ → ℕ → List ℕ
walked problem v k = root_slots problem ++ flat_map (slots_in problem v) (met_within problem v k)

pub objects_more : (problem : Problem) (v : List ℕ) (ss ts : List ℕ) → objects_at problem v (ss ++ ts) ≡ objects_at problem v ss ++ added is_same_object (objects_there problem v ss) (objects_there problem v ts)
objects_more problem v ss ts = ap (distinct is_same_object) (flat_map-append (λ s. objects_of (choice_at problem v s).object) ss ts) ∙ distinct_append is_same_object (objects_there problem v ss) (objects_there problem v ts)

-- each step only adds
pub record Adds (problem : Problem) (v : List ℕ) (k : ℕ) : Type 0 where
  pub new : List DomainObject
  pub met : met_within problem v (suc k) ≡ met_within problem v k ++ new

pub adds : (problem : Problem) (v : List ℕ) (k : ℕ) → Adds problem v k
adds problem v zero = record { new = added is_same_object (objects_there problem v (root_slots problem)) (objects_there problem v (flat_map (slots_in problem v) (met_within problem v 0))); met = objects_more problem v (root_slots problem) (flat_map (slots_in problem v) (met_within problem v 0)) }
adds problem v (suc k) =
    let r = adds problem v k in
    let more = flat_map (slots_in problem v) r.new in
    record {
      new = added is_same_object (objects_there problem v (walked problem v k)) (objects_there problem v more);
      met = ap (objects_at problem v) (ap (λ (os : List DomainObject). root_slots problem ++ flat_map (slots_in problem v) os) r.met ∙ (ap (λ (ss : List ℕ). root_slots problem ++ ss) (flat_map-append (slots_in problem v) (met_within problem v k) r.new) ∙ sym (append_assoc (root_slots problem) (flat_map (slots_in problem v) (met_within problem v k)) more)))
          ∙ objects_more problem v (walked problem v k) more;
    }

walked_more : (problem : Problem) (v : List ℕ) (k : ℕ) → walked problem v (suc k) ≡ walked problem v k ++ flat_map (slots_in problem v) (adds problem v k).new
walked_more problem v k =
    let r = adds problem v k in
    ap (λ (os : List DomainObject). root_slots problem ++ flat_map (slots_in problem v) os) r.met ∙ (ap (λ (ss : List ℕ). root_slots problem ++ ss) (flat_map-append (slots_in problem v) (met_within problem v k) r.new) ∙ sym (append_assoc (root_slots problem) (flat_map (slots_in problem v) (met_within problem v k)) (flat_map (slots_in problem v) r.new)))

-- the new ones are there too
pub new_valid : (problem : Problem) (v : List ℕ) (k : ℕ) → AllOf (Valid problem) (adds problem v k).new
new_valid problem v k = back (met_within problem v k) (adds problem v k).new (subst (AllOf (Valid problem)) (adds problem v k).met (met_valid problem v (suc k)))
  where
    back : (xs ys : List DomainObject) → AllOf (Valid problem) (xs ++ ys) → AllOf (Valid problem) ys
    back [] ys h = h
    back (x ∷ xs) ys h = back xs ys h.1

module _ (problem : Problem) (w : IsWellFormed problem) where
  pub object_slots_below : (v : List ℕ) (o : DomainObject) → Valid problem o → AllOf (Below problem) (slots_in problem v o)
  object_slots_below v o h = subst (AllOf (Below problem)) (sym (slots_in_are problem w v o.domain o.number h.0 h.1)) (go 0 (extent problem w v o.domain o.number) (first_slot problem o.domain o.number) (omega arith) (omega (arith, extent_within problem w v o.domain o.number h.0 h.1)))
    where
      go : (j m x : ℕ) → x ≡ first_slot problem o.domain o.number + j → j + m ≤ width_at problem o.domain → AllOf (Below problem) (range_with_len x m)
      go j zero x e l = tt
      go j (suc m) x e l = (subst (Below problem) (sym e) (object_slot problem o.domain o.number j h.0 h.1 (omega (arith, l))).0, go (j + 1) m (x + 1) (omega (arith, e)) (omega (arith, l)))

  pub objects_slots_below : (v : List ℕ) (os : List DomainObject) → AllOf (Valid problem) os → AllOf (Below problem) (flat_map (slots_in problem v) os)
  objects_slots_below v os h = all_flat (Below problem) (slots_in problem v) os (all_map (Valid problem) (λ o. AllOf (Below problem) (slots_in problem v o)) os (object_slots_below v) h)

  root_below_from : (a m : ℕ) → a + m ≤ parameters problem + 1 → AllOf (Below problem) (range_with_len a m)
  root_below_from a zero l = tt
  root_below_from a (suc m) l = (omega (arith, l, slots_long problem), root_below_from (a + 1) m (omega (arith, l)))

  pub root_below : AllOf (Below problem) (root_slots problem)
  root_below = root_below_from 0 (parameters problem + 1) (omega arith)

  pub walk_below : (v : List ℕ) (k : ℕ) → AllOf (Below problem) (walked problem v k)
  walk_below v k = all_append (Below problem) (root_slots problem) (flat_map (slots_in problem v) (met_within problem v k)) root_below (objects_slots_below v (met_within problem v k) (met_valid problem v k))

module _ (problem : Problem) (w : IsWellFormed problem) (name : ℕ → ℕ → ℕ) (n : IsRenaming (space_of problem) name) where
  abbrev ren : DomainObject → DomainObject
  ren o = renamed_object name o

  abbrev go_on : ℕ → ℕ
  go_on s = on problem w name n s

  one_same : (x y : DomainObject) → Valid problem x → Valid problem y → is_same_object (ren x) (ren y) ≡ is_same_object x y
  one_same x y hx hy = go (cases_Bool (is_same_object x y)) (cases_Bool (is_same_object (ren x) (ren y)))
    where
      go : (is_same_object x y ≡ true) ⊎ (is_same_object x y ≡ false) → (is_same_object (ren x) (ren y) ≡ true) ⊎ (is_same_object (ren x) (ren y) ≡ false) → is_same_object (ren x) (ren y) ≡ is_same_object x y
      go (inl a) (inl b) = b ∙ sym a
      go (inr a) (inr b) = b ∙ sym a
      go (inl a) (inr b) =
          let q : ren x ≡ ren y = ap ren (same_objects x y a) in
          let t : is_same_object (ren x) (ren y) ≡ true = ap (λ (z : DomainObject). is_same_object (ren x) z) (sym q) ∙ same_object (ren x) in
          absurd (cc (t, b))
      go (inr a) (inl b) =
          let q : ren x ≡ ren y = same_objects (ren x) (ren y) b in
          let qd : x.domain ≡ y.domain = ap (λ (z : DomainObject). z.domain) q in
          let qk : x.number ≡ y.number = name_apart problem w name n x.domain x.number y.number hx.1 (subst (λ (d : ℕ). y.number < count_at problem d) (sym qd) hy.1) (ap (λ (z : DomainObject). z.number) q ∙ ap (λ (d : ℕ). name d y.number) (sym qd)) in
          let e : x ≡ y = ap (λ (d : ℕ). object d x.number) qd ∙ ap (λ (k : ℕ). object y.domain k) qk in
          let t : is_same_object x y ≡ true = ap (λ (z : DomainObject). is_same_object x z) (sym e) ∙ same_object x in
          absurd (cc (t, a))

  -- the slots of a renamed object
  range_renamed : (d k j m x y : ℕ) → d < length problem.domains → k < count_at problem d → j + m ≤ width_at problem d → x ≡ first_slot problem d k + j → y ≡ first_slot problem d (name d k) + j → range_with_len y m ≡ map go_on (range_with_len x m)
  range_renamed d k j zero x y a b l e f = refl
  range_renamed d k j (suc m) x y a b l e f =
      let here : y ≡ go_on x = f ∙ (sym (on_spot problem w name n d k j a b (omega (arith, l))) ∙ sym (ap go_on e)) in
      ap (λ (z : ℕ). z ∷ range_with_len (y + 1) m) here ∙ ap (λ (zs : List ℕ). go_on x ∷ zs) (range_renamed d k (j + 1) m (x + 1) (y + 1) a b (omega (arith, l)) (omega (arith, e)) (omega (arith, f)))

  pub length_renamed : (x : Value) → length_in (renamed_value (heap_name problem w name n) x) ≡ length_in x
  length_renamed (Int (pos i)) = refl
  length_renamed (Int (negsuc i)) = refl
  length_renamed (Truth b) = refl
  length_renamed Null = refl
  length_renamed (Reference o) = refl

  root_renamed_from : (a m : ℕ) → a + m ≤ parameters problem + 1 → map go_on (range_with_len a m) ≡ range_with_len a m
  root_renamed_from a zero l = refl
  root_renamed_from a (suc m) l = ap (λ (x : ℕ). x ∷ map go_on (range_with_len (a + 1) m)) (here a (omega (arith, l))) ∙ ap (λ (x : List ℕ). a ∷ x) (root_renamed_from (a + 1) m (omega (arith, l)))
    where
      here : (a : ℕ) → a < parameters problem + 1 → go_on a ≡ a
      here zero l = on_this problem w name n
      here (suc a) l = let e : suc a ≡ a + 1 = omega arith in rw e (on_parameter problem w name n a (omega (arith, l)))

  root_renamed : map go_on (root_slots problem) ≡ root_slots problem
  root_renamed = root_renamed_from 0 (parameters problem + 1) (omega arith)

  module _ (v u : List ℕ) where
    abbrev A : ℕ → Type 0
    A s = AgreeAt problem w name n v u s

    object_renamed : (s : ℕ) → Below problem s → A s → objects_of (choice_at problem u (go_on s)).object ≡ map ren (objects_of (choice_at problem v s).object)
    object_renamed s h a = go (choice_at problem v s).object refl
      where
        go : (x : Option DomainObject) → (choice_at problem v s).object ≡ x → objects_of (choice_at problem u (go_on s)).object ≡ map ren (objects_of x)
        go None e = ap objects_of ((choice_renamed problem w name n v u s h a).none e)
        go (Some o) e = ap objects_of ((choice_renamed problem w name n v u s h a).some o e)

    there_renamed : (ss : List ℕ) → AllOf (Below problem) ss → AllOf A ss → objects_there problem u (map go_on ss) ≡ map ren (objects_there problem v ss)
    there_renamed [] h a = refl
    there_renamed (s ∷ ss) h a =
        ap (λ (x : List DomainObject). x ++ objects_there problem u (map go_on ss)) (object_renamed s h.0 a.0)
        ∙ (ap (λ (x : List DomainObject). map ren (objects_of (choice_at problem v s).object) ++ x) (there_renamed ss h.1 a.1) ∙ sym (map-append ren (objects_of (choice_at problem v s).object) (objects_there problem v ss)))

    objects_renamed : (ss : List ℕ) → AllOf (Below problem) ss → AllOf A ss → objects_at problem u (map go_on ss) ≡ map ren (objects_at problem v ss)
    objects_renamed ss h a = ap (distinct is_same_object) (there_renamed ss h a) ∙ distinct_renamed is_same_object (Valid problem) ren one_same (objects_there problem v ss) (objects_valid problem v ss)

    -- the two walks, and the objects that they met
    abbrev Both : ℕ → Type 0
    Both k = met_within problem u k ≡ map ren (met_within problem v k)

    -- an object's slots: of an array as many as its length
    object_fork : (o : DomainObject) → Valid problem o → SlotForks go_on (Below problem) A (Unit {0}) (slots_in problem v o) (slots_in problem u (ren o))
    object_fork o h =
        let here = slots_in_are problem w v o.domain o.number h.0 h.1 in
        let there = slots_in_are problem w u o.domain (name o.domain o.number) h.0 (name_in problem w name n o.domain o.number h.1) in
        subst (λ (x : List ℕ). SlotForks go_on (Below problem) A (Unit {0}) x (slots_in problem u (ren o))) (sym here)
        (subst (λ (y : List ℕ). SlotForks go_on (Below problem) A (Unit {0}) (range_with_len first (extent problem w v o.domain o.number)) y) (sym there) (go (class_at problem w o.domain) refl))
      where
        first : ℕ
        first = first_slot problem o.domain o.number

        first' : ℕ
        first' = first_slot problem o.domain (name o.domain o.number)

        extent_is : (c : Class) → class_at problem w o.domain ≡ c → extent_of c (width_at problem o.domain) (value_at problem v first) ≤ width_at problem o.domain
        extent_is c e = subst (λ (x : Class). extent_of x (width_at problem o.domain) (value_at problem v first) ≤ width_at problem o.domain) e (extent_within problem w v o.domain o.number h.0 h.1)

        -- a stretch of its slots
        stretch : (j m : ℕ) → j + m ≤ width_at problem o.domain → (x y : ℕ) → x ≡ first + j → y ≡ first' + j → SlotForks go_on (Below problem) A (Unit {0}) (range_with_len x m) (range_with_len y m)
        stretch j m l x y e f =
            subst (λ (z : List ℕ). SlotForks go_on (Below problem) A (Unit {0}) (range_with_len x m) z) (sym (range_renamed o.domain o.number j m x y h.0 h.1 l e f))
            (slots_map go_on A (Below problem) (AllOf A (range_with_len x m)) (Unit {0}) (range_with_len x m) (map go_on (range_with_len x m)) (slots_same go_on A (Below problem) (range_with_len x m) (inside j m x l e)) (λ a. tt))
          where
            inside : (j m x : ℕ) → j + m ≤ width_at problem o.domain → x ≡ first + j → AllOf (Below problem) (range_with_len x m)
            inside j zero x l e = tt
            inside j (suc m) x l e = (subst (Below problem) (sym e) (object_slot problem o.domain o.number j h.0 h.1 (omega (arith, l))).0, inside (j + 1) m (x + 1) (omega (arith, l)) (omega (arith, e)))

        same_length : A first → first < length (slots problem) → go_on first ≡ first' → length_in (value_at problem u first') ≡ length_in (value_at problem v first)
        same_length a b e = ap (λ (x : ℕ). length_in (value_at problem u x)) (sym e) ∙ (ap length_in (choice_renamed problem w name n v u first b a).value ∙ length_renamed (value_at problem v first))

        go : (c : Class) → class_at problem w o.domain ≡ c → SlotForks go_on (Below problem) A (Unit {0}) (range_with_len first (extent_of c (width_at problem o.domain) (value_at problem v first))) (range_with_len first' (extent_of c (width_at problem o.domain) (value_at problem u first')))
        go (Object c) e = stretch 0 (width_at problem o.domain) (omega arith) first first' (omega arith) (omega arith)
        go Set e = stretch 0 (width_at problem o.domain) (omega arith) first first' (omega arith) (omega arith)
        go ListClass e = stretch 0 (width_at problem o.domain) (omega arith) first first' (omega arith) (omega arith)
        go (Array t) e =
            let small : suc (length_in (value_at problem v first)) ≤ width_at problem o.domain = extent_is (Array t) e in
            let at : first ≡ first + 0 = omega arith in
            let moves : go_on first ≡ first' = ap go_on at ∙ (on_spot problem w name n o.domain o.number 0 h.0 h.1 (omega (arith, small)) ∙ omega arith) in
            let below : first < length (slots problem) = subst (Below problem) (sym at) (object_slot problem o.domain o.number 0 h.0 h.1 (omega (arith, small))).0 in (
              sym moves,
              below,
              λ a.
                  subst (λ (m : ℕ). SlotForks go_on (Below problem) A (Unit {0}) (range_with_len (first + 1) (length_in (value_at problem v first))) (range_with_len (first' + 1) m)) (sym (same_length a below moves))
                  (stretch 1 (length_in (value_at problem v first)) (omega (arith, small)) (first + 1) (first' + 1) refl refl),
            )

    objects_fork : (os ps : List DomainObject) (X : Type 0) → AllOf (Valid problem) os → ps ≡ map ren os → X → SlotForks go_on (Below problem) A X (flat_map (slots_in problem v) os) (flat_map (slots_in problem u) ps)
    objects_fork os ps X h e x = subst (λ (y : List DomainObject). SlotForks go_on (Below problem) A X (flat_map (slots_in problem v) os) (flat_map (slots_in problem u) y)) (sym e) (go os h)
      where
        go : (os : List DomainObject) → AllOf (Valid problem) os → SlotForks go_on (Below problem) A X (flat_map (slots_in problem v) os) (flat_map (slots_in problem u) (map ren os))
        go [] h = x
        go (o ∷ os) h = slots_then go_on A (Below problem) (Unit {0}) X (slots_in problem v o) (slots_in problem u (ren o)) (flat_map (slots_in problem v) os) (flat_map (slots_in problem u) (map ren os)) (object_fork o h.0) (λ t. go os h.1)

    pub walked_fork : (k : ℕ) → SlotForks go_on (Below problem) A (Both k) (walked problem v k) (walked problem u k)
    walked_fork zero =
        slots_then go_on A (Below problem) (AllOf A (root_slots problem)) (Both 0) (root_slots problem) (root_slots problem) (flat_map (slots_in problem v) (met_within problem v 0)) (flat_map (slots_in problem u) (met_within problem u 0))
        (subst (λ (x : List ℕ). SlotForks go_on (Below problem) A (AllOf A (root_slots problem)) (root_slots problem) x) root_renamed (slots_same go_on A (Below problem) (root_slots problem) (root_below problem w)))
        (λ a.
        let e : Both 0 = ap (objects_at problem u) (sym root_renamed) ∙ objects_renamed (root_slots problem) (root_below problem w) a in
        objects_fork (met_within problem v 0) (met_within problem u 0) (Both 0) (met_valid problem v 0) e e)
    walked_fork (suc k) =
        let a = adds problem v k in
        let b = adds problem u k in
        let whole = slots_then go_on A (Below problem) (Both k × (walked problem u k ≡ map go_on (walked problem v k)) × AllOf A (walked problem v k)) (Both (suc k)) (walked problem v k) (walked problem u k) (flat_map (slots_in problem v) a.new) (flat_map (slots_in problem u) b.new)
        (slots_known go_on A (Below problem) (Both k) (walked problem v k) (walked problem u k) (walked_fork k))
        (λ r.
        let e : Both (suc k) = ap (objects_at problem u) r.1 ∙ objects_renamed (walked problem v k) (walk_below problem w v k) r.2 in
        let q : map ren (met_within problem v k) ++ b.new ≡ map ren (met_within problem v k) ++ map ren a.new =
        ap (λ (x : List DomainObject). x ++ b.new) (sym r.0) ∙ (sym b.met ∙ (e ∙ (ap (map ren) a.met ∙ map-append ren (met_within problem v k) a.new))) in
        objects_fork a.new b.new (Both (suc k)) (new_valid problem v k) (append_cancel_left (map ren (met_within problem v k)) b.new (map ren a.new) q) e) in
        subst (λ (x : List ℕ). SlotForks go_on (Below problem) A (Both (suc k)) x (walked problem u (suc k))) (sym (walked_more problem v k)) (subst (λ (y : List ℕ). SlotForks go_on (Below problem) A (Both (suc k)) (walked problem v k ++ flat_map (slots_in problem v) a.new) y) (sym (walked_more problem u k)) whole)

    pub walks_fork : SlotForks go_on (Below problem) A (Unit {0}) (walk problem v) (walk problem u)
    unfolding walk
    walks_fork = slots_map go_on A (Below problem) (Both (length (all_objects problem))) (Unit {0}) (walk problem v) (walk problem u) (walked_fork (length (all_objects problem))) (λ r. tt)
