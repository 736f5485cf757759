-- Slots and domains go by whole class domains.
use Rattle.std.proofs.Common.{◌≡◌, ℕ, zero, suc, ◌+◌, ◌-◌, ◌*◌, ◌<◌, ◌≤◌, ◌⊎◌, inl, inr, [], ◌∷◌, length, get_or, Some, None, refl, sym, ap, ◌∙◌, arith, subst}
use Rattle.std.proofs.lemmas.List.{get_or_append_left, get_or-append_right, length-append, length-map, get_or_past}
use Rattle.std.proofs.lemmas.List.FromFn.{length-range_with_len}
use Rattle.std.proofs.lemmas.Bool.{cases_lt, lt-ltb, le-ltb}
use Rattle.kr_mean.specs.Problem.{Problem, ClassDomain, Domain, DomainItem, Plain, Objects, DomainObject, Choice, Slot, no_objects, domain_at, objects_of_domain, object_choice, item_choices, choices_in, choices_at, slots, slot_at}
use Rattle.kr_mean.specs.Places.{SlotPlace}
use Rattle.kr_mean.specs.Space.{space_of, no_choice, item_in, IsSameSpot}
use Rattle.kr_mean.specs.Blocks.{width_in, IsBlock, IsPart, IsSpace}
use Rattle.kr_mean.specs.WellFormed.{IsPlain, ArePlain, IsWellFormed}
use Rattle.kr_laws_pruning.proofs.Numbering.{object, count_at, width_at, domain_get, domain_length, nobody, get_map, first_slot, spotted_at, slot_of, parameter_slot, object_slot, SlotCase, is_this, is_parameter, is_spot, slot_case}
use Rattle.kr_laws_pruning.proofs.Places.{slots_owned_are, column_apart}

pub some_is : {A : Type 0} (a b : A) → Some a ≡ Some b → a ≡ b
some_is a b e = cc

-- ---- blocks

-- an object's block among the choices of a domain: with one object there are all of its class domain, in order
pub record InBlock (problem : Problem) (domain : Domain) (i : ℕ) (o : DomainObject) : Type 0 where
  pub in_domain : o.domain < length problem.domains
  pub in_number : o.number < count_at problem o.domain
  pub room : o.number ≤ i
  pub inside : (k : ℕ) → k < count_at problem o.domain → i - o.number + k < length (choices_in problem domain)
  pub all : (k : ℕ) → k < count_at problem o.domain → get_or (choices_in problem domain) (i - o.number + k) no_choice ≡ object_choice problem (object o.domain k)
  pub items : (k : ℕ) → k < count_at problem o.domain → item_in problem domain (i - o.number + k) ≡ item_in problem domain i

pub objects_long : (problem : Problem) (d : ℕ) → length (item_choices problem (Objects d)) ≡ count_at problem d
objects_long problem d = length-map (objects_of_domain d (domain_at problem d)) (object_choice problem) ∙ domain_length d (domain_at problem d)

pub objects_get : (problem : Problem) (d k : ℕ) → k < count_at problem d → get_or (item_choices problem (Objects d)) k no_choice ≡ object_choice problem (object d k)
objects_get problem d k h = get_map (object_choice problem) (objects_of_domain d (domain_at problem d)) k nobody no_choice (omega (arith, h, domain_length d (domain_at problem d))) ∙ ap (object_choice problem) (domain_get d k (domain_at problem d) h)

counted_in : (problem : Problem) (d k : ℕ) → k < count_at problem d → d < length problem.domains
counted_in problem d k h = go (cases_lt d (length problem.domains))
  where
    go : (d < length problem.domains) ⊎ (length problem.domains ≤ d) → d < length problem.domains
    go (inl lt) = lt
    go (inr le) = absurd (omega (arith, h, ap (λ (x : ClassDomain). x.count) (get_or_past problem.domains d no_objects le)))

-- the entry of an index: the first, or one past it
first_entry : (problem : Problem) (item : DomainItem) (items : Domain) (i : ℕ) → i < length (item_choices problem item) → item_in problem (item ∷ items) i ≡ 0
first_entry problem item items i h = rw (lt-ltb i (length (item_choices problem item)) h) refl

later_entry : (problem : Problem) (item : DomainItem) (items : Domain) (n i : ℕ) → length (item_choices problem item) ≡ n → n ≤ i → item_in problem (item ∷ items) i ≡ suc (item_in problem items (i - n))
later_entry problem item items n i long le =
    let h : length (item_choices problem item) ≤ i = omega (arith, long, le) in
    rw (le-ltb i (length (item_choices problem item)) h) (ap (λ (m : ℕ). suc (item_in problem items (i - m))) long)

-- a block past the first item
shifted : (problem : Problem) (item : DomainItem) (items : Domain) (n i : ℕ) (o : DomainObject) → length (item_choices problem item) ≡ n → n ≤ i → InBlock problem items (i - n) o → InBlock problem (item ∷ items) i o
shifted problem item items n i o long le b = record {
  in_domain = b.in_domain;
  in_number = b.in_number;
  room = omega (arith, b.room, le);
  inside = λ k h. omega (arith, b.inside k h, b.room, le, long, length-append (item_choices problem item) (choices_in problem items));
  all = λ k h.
      let e : i - o.number + k - n ≡ i - n - o.number + k = omega (arith, b.room, le) in
      get_or-append_right (item_choices problem item) (choices_in problem items) n (i - o.number + k) no_choice long (omega (arith, b.room, le)) ∙ (ap (λ (x : ℕ). get_or (choices_in problem items) x no_choice) e ∙ b.all k h);
  items = λ k h.
      let e : i - o.number + k - n ≡ i - n - o.number + k = omega (arith, b.room, le) in
      later_entry problem item items n (i - o.number + k) long (omega (arith, b.room, le)) ∙ (ap (λ (x : ℕ). suc (item_in problem items x)) e ∙ (ap suc (b.items k h) ∙ sym (later_entry problem item items n i long le)));
}

pub block_of : (problem : Problem) (domain : Domain) (i : ℕ) (o : DomainObject) → (get_or (choices_in problem domain) i no_choice).object ≡ Some o → InBlock problem domain i o
block_of problem [] i o e = absurd (cc (e))
block_of problem (Plain v ∷ items) zero o e = absurd (cc (e))
block_of problem (Plain v ∷ items) (suc i) o e =
    let z : suc i - 1 ≡ i = omega arith in
    shifted problem (Plain v) items 1 (suc i) o refl (omega arith) (subst (λ (x : ℕ). InBlock problem items x o) (sym z) (block_of problem items i o e))
block_of problem (Objects d ∷ items) i o e = go (cases_lt i (count_at problem d)) (λ f. block_of problem items (i - count_at problem d) o f)
  where
    n : ℕ
    n = count_at problem d

    first : (k : ℕ) → k < n → get_or (choices_in problem (Objects d ∷ items)) k no_choice ≡ object_choice problem (object d k)
    first k h = get_or_append_left (item_choices problem (Objects d)) (choices_in problem items) no_choice k (omega (arith, h, objects_long problem d)) ∙ objects_get problem d k h

    here : i < n → InBlock problem (Objects d ∷ items) i (object d i)
    here lt = record {
      in_domain = counted_in problem d i lt;
      in_number = lt;
      room = omega arith;
      inside = λ k h. omega (arith, h, objects_long problem d, length-append (item_choices problem (Objects d)) (choices_in problem items));
      all = λ k h. let z : i - i + k ≡ k = omega arith in ap (λ (x : ℕ). get_or (choices_in problem (Objects d ∷ items)) x no_choice) z ∙ first k h;
      items = λ k h.
          let z : i - i + k ≡ k = omega arith in
          ap (item_in problem (Objects d ∷ items)) z ∙ (first_entry problem (Objects d) items k (omega (arith, h, objects_long problem d)) ∙ sym (first_entry problem (Objects d) items i (omega (arith, lt, objects_long problem d))));
    }

    go : (i < n) ⊎ (n ≤ i) → ((get_or (choices_in problem items) (i - n) no_choice).object ≡ Some o → InBlock problem items (i - n) o) → InBlock problem (Objects d ∷ items) i o
    go (inl lt) f = subst (λ (x : DomainObject). InBlock problem (Objects d ∷ items) i x) (some_is (object d i) o (sym (ap (λ (c : Choice). c.object) (first i lt)) ∙ e)) (here lt)
    go (inr le) f = shifted problem (Objects d) items n i o (objects_long problem d) le (f (sym (ap (λ (c : Choice). c.object) (get_or-append_right (item_choices problem (Objects d)) (choices_in problem items) n i no_choice (objects_long problem d) le)) ∙ e))

-- an entry of a domain has an object at one index
one_in_entry : (problem : Problem) (item : DomainItem) (i j : ℕ) (o : DomainObject) → i < length (item_choices problem item) → j < length (item_choices problem item) → (get_or (item_choices problem item) i no_choice).object ≡ Some o → (get_or (item_choices problem item) j no_choice).object ≡ Some o → i ≡ j
one_in_entry problem (Plain v) zero j o h k a b = absurd (cc (a))
one_in_entry problem (Plain v) (suc i) j o h k a b = absurd (omega (arith, h))
one_in_entry problem (Objects d) i j o h k a b =
    let x : Some (object d i) ≡ Some o = sym (ap (λ (c : Choice). c.object) (objects_get problem d i (omega (arith, h, objects_long problem d)))) ∙ a in
    let y : Some (object d j) ≡ Some o = sym (ap (λ (c : Choice). c.object) (objects_get problem d j (omega (arith, k, objects_long problem d)))) ∙ b in
    ap (λ (p : DomainObject). p.number) (some_is (object d i) o x) ∙ sym (ap (λ (p : DomainObject). p.number) (some_is (object d j) o y))

one_index : (problem : Problem) (domain : Domain) (i j : ℕ) (o : DomainObject) → (get_or (choices_in problem domain) i no_choice).object ≡ Some o → (get_or (choices_in problem domain) j no_choice).object ≡ Some o → item_in problem domain i ≡ item_in problem domain j → i ≡ j
one_index problem [] i j o a b e = absurd (cc (a))
one_index problem (item ∷ items) i j o a b e = go (cases_lt i n) (cases_lt j n) (one_index problem items (i - n) (j - n) o)
  where
    n : ℕ
    n = length (item_choices problem item)

    first : (x : ℕ) → x < n → (get_or (choices_in problem (item ∷ items)) x no_choice).object ≡ Some o → (get_or (item_choices problem item) x no_choice).object ≡ Some o
    first x h q = sym (ap (λ (c : Choice). c.object) (get_or_append_left (item_choices problem item) (choices_in problem items) no_choice x h)) ∙ q

    later : (x : ℕ) → n ≤ x → (get_or (choices_in problem (item ∷ items)) x no_choice).object ≡ Some o → (get_or (choices_in problem items) (x - n) no_choice).object ≡ Some o
    later x h q = sym (ap (λ (c : Choice). c.object) (get_or-append_right (item_choices problem item) (choices_in problem items) n x no_choice refl h)) ∙ q

    go : (i < n) ⊎ (n ≤ i) → (j < n) ⊎ (n ≤ j)
        → ((get_or (choices_in problem items) (i - n) no_choice).object ≡ Some o → (get_or (choices_in problem items) (j - n) no_choice).object ≡ Some o → item_in problem items (i - n) ≡ item_in problem items (j - n) → i - n ≡ j - n) → i ≡ j
    go (inl x) (inl y) f = one_in_entry problem item i j o x y (first i x a) (first j y b)
    go (inl x) (inr y) f = absurd (cc (e, first_entry problem item items i x, later_entry problem item items n j refl y))
    go (inr x) (inl y) f = absurd (cc (e, first_entry problem item items j y, later_entry problem item items n i refl x))
    go (inr x) (inr y) f =
        let q : suc (item_in problem items (i - n)) ≡ suc (item_in problem items (j - n)) = sym (later_entry problem item items n i refl x) ∙ (e ∙ later_entry problem item items n j refl y) in
        let r : i - n ≡ j - n = f (later i x a) (later j y b) (omega (arith, q)) in
        omega (arith, r, x, y)

-- a choice that is no object has a plain value
pub plain_choice : (problem : Problem) (domain : Domain) (i : ℕ) → ArePlain domain → (get_or (choices_in problem domain) i no_choice).object ≡ None → IsPlain (get_or (choices_in problem domain) i no_choice).value
plain_choice problem [] i p e = tt
plain_choice problem (Plain v ∷ items) zero p e = p.0
plain_choice problem (Plain v ∷ items) (suc i) p e = plain_choice problem items i p.1 e
plain_choice problem (Objects d ∷ items) i p e = go (cases_lt i (count_at problem d)) (λ f. plain_choice problem items (i - count_at problem d) p f)
  where
    n : ℕ
    n = count_at problem d

    go : (i < n) ⊎ (n ≤ i) → ((get_or (choices_in problem items) (i - n) no_choice).object ≡ None → IsPlain (get_or (choices_in problem items) (i - n) no_choice).value) → IsPlain (get_or (choices_in problem (Objects d ∷ items)) i no_choice).value
    go (inl lt) f =
        let is : get_or (choices_in problem (Objects d ∷ items)) i no_choice ≡ object_choice problem (object d i) = get_or_append_left (item_choices problem (Objects d)) (choices_in problem items) no_choice i (omega (arith, lt, objects_long problem d)) ∙ objects_get problem d i lt in
        absurd (cc (is, e))
    go (inr le) f =
        let is : get_or (choices_in problem (Objects d ∷ items)) i no_choice ≡ get_or (choices_in problem items) (i - n) no_choice = get_or-append_right (item_choices problem (Objects d)) (choices_in problem items) n i no_choice (objects_long problem d) le in
        subst (λ (c : Choice). IsPlain c.value) (sym is) (f (sym (ap (λ (c : Choice). c.object) is) ∙ e))

-- ---- the space

blocks : (problem : Problem) (s i : ℕ) (o : DomainObject) → s < length (slots problem) → i < length (choices_at problem s) → (get_or (choices_at problem s) i no_choice).object ≡ Some o → IsBlock (space_of problem) s i o
unfolding space_of
blocks problem s i o h b e =
    let r = block_of problem (slot_at problem s).domain i o e in
    record { domain = r.in_domain; number = r.in_number; room = r.room; inside = r.inside; all = λ k l. ap (λ (c : Choice). c.object) (r.all k l); items = r.items }

-- how many slots an object has
pub width_is : (problem : Problem) → IsWellFormed problem → (d : ℕ) → d < length problem.domains → 0 < count_at problem d → width_in (space_of problem) d ≡ width_at problem d
unfolding space_of width_in
width_is problem w d h c = ap length (slots_owned_are problem w d 0 h c) ∙ length-range_with_len (first_slot problem d 0) (width_at problem d)

part_of : (problem : Problem) → IsWellFormed problem → (d k j : ℕ) → d < length problem.domains → k < count_at problem d → j < width_at problem d → IsPart (space_of problem) (first_slot problem d k + j) (object d k)
unfolding space_of
part_of problem w d k j h b c = record {
  domain = h;
  number = b;
  room = subst (λ (x : ℕ). k * x ≤ first_slot problem d k + j) (sym wide) (omega arith);
  inside = λ m l. subst (λ (x : ℕ). x < length (slots problem)) (sym (there m)) (object_slot problem d m j h l c).0;
  all = λ m l. ap (λ (x : ℕ). (slot_at problem x).owner) (there m) ∙ ap (λ (x : Slot). x.owner) (object_slot problem d m j h l c).1;
  spots = λ m l.
      subst (λ (x : SlotPlace). IsSameSpot x (slot_at problem (first_slot problem d k + j - k * width_in (space_of problem) d + m * width_in (space_of problem) d)).place) (sym (ap (λ (x : Slot). x.place) (object_slot problem d k j h b c).1))
      (subst (IsSameSpot (slot_of problem d k (spotted_at problem d j)).place) (sym (ap (λ (x : ℕ). (slot_at problem x).place) (there m) ∙ ap (λ (x : Slot). x.place) (object_slot problem d m j h l c).1)) refl);
  sizes = λ m l. ap (λ (x : ℕ). length (choices_at problem x)) (there m) ∙ (ap (λ (x : Slot). length (choices_in problem x.domain)) (object_slot problem d m j h l c).1 ∙ sym (ap (λ (x : Slot). length (choices_in problem x.domain)) (object_slot problem d k j h b c).1));
  objects = λ m i l. ap (λ (x : ℕ). (get_or (choices_at problem x) i no_choice).object) (there m) ∙ (ap (λ (x : Slot). (get_or (choices_in problem x.domain) i no_choice).object) (object_slot problem d m j h l c).1 ∙ sym (ap (λ (x : Slot). (get_or (choices_in problem x.domain) i no_choice).object) (object_slot problem d k j h b c).1));
  items = λ m i l. ap (λ (x : ℕ). item_in problem (slot_at problem x).domain i) (there m) ∙ (ap (λ (x : Slot). item_in problem x.domain i) (object_slot problem d m j h l c).1 ∙ sym (ap (λ (x : Slot). item_in problem x.domain i) (object_slot problem d k j h b c).1));
}
  where
    wide : width_in (space_of problem) d ≡ width_at problem d
    wide = width_is problem w d h (omega (arith, b))

    there : (m : ℕ) → first_slot problem d k + j - k * width_in (space_of problem) d + m * width_in (space_of problem) d ≡ first_slot problem d m + j
    there m = ap (λ (x : ℕ). first_slot problem d k + j - k * x + m * x) wide ∙ (omega arith)

parts : (problem : Problem) → IsWellFormed problem → (s : ℕ) (o : DomainObject) → s < length (slots problem) → (slot_at problem s).owner ≡ Some o → IsPart (space_of problem) s o
parts problem w s o h e = go (slot_case problem s h)
  where
    go : SlotCase problem s → IsPart (space_of problem) s o
    go (is_this z) = absurd (cc (ap (λ (x : ℕ). (slot_at problem x).owner) z, e))
    go (is_parameter i l z) = absurd (cc (ap (λ (x : ℕ). (slot_at problem x).owner) z, ap (λ (x : Slot). x.owner) (parameter_slot problem i l).1, e))
    go (is_spot d k j l b c z) =
        let q : Some (object d k) ≡ Some o = sym (ap (λ (x : ℕ). (slot_at problem x).owner) z ∙ ap (λ (x : Slot). x.owner) (object_slot problem d k j l b c).1) ∙ e in
        subst (λ (x : ℕ). IsPart (space_of problem) x o) (sym z) (subst (λ (x : DomainObject). IsPart (space_of problem) (first_slot problem d k + j) x) (some_is (object d k) o q) (part_of problem w d k j l b c))

-- an object has one slot at a spot
module _ (problem : Problem) (w : IsWellFormed problem) where
  abbrev OneSlot : (s t : ℕ) → Slot → Slot → Type 0
  OneSlot s t a b = a.owner ≡ b.owner → IsSameSpot a.place b.place → s ≡ t

  same_column : (d k j e l i : ℕ) → d < length problem.domains → j < width_at problem d → i < width_at problem e → OneSlot (first_slot problem d k + j) (first_slot problem e l + i) (slot_of problem d k (spotted_at problem d j)) (slot_of problem e l (spotted_at problem e i))
  same_column d k j e l i h c f q p =
      let o : object d k ≡ object e l = some_is (object d k) (object e l) q in
      let qd : d ≡ e = ap (λ (x : DomainObject). x.domain) o in
      let qk : k ≡ l = ap (λ (x : DomainObject). x.number) o in
      let f' : i < width_at problem d = subst (λ (x : ℕ). i < width_at problem x) (sym qd) f in
      let p' : (spotted_at problem d j).spot ≡ (spotted_at problem d i).spot = p ∙ ap (λ (x : ℕ). (spotted_at problem x i).spot) (sym qd) in
      let qj : j ≡ i = column_apart problem w d j i h c f' p' in
      ap (λ (x : ℕ). first_slot problem x k + j) qd ∙ (ap (λ (x : ℕ). first_slot problem e x + j) qk ∙ ap (λ (x : ℕ). first_slot problem e l + x) qj)

  one_slot_by : (s t : ℕ) → SlotCase problem s → SlotCase problem t → OneSlot s t (slot_at problem s) (slot_at problem t)
  one_slot_by s t (is_this x) (is_this y) = λ o p. x ∙ sym y
  one_slot_by s t (is_this x) (is_parameter i b y) = rw (x, y, (parameter_slot problem i b).1) (λ o p. absurd p)
  one_slot_by s t (is_this x) (is_spot e l i b c f y) = rw (x, y, (object_slot problem e l i b c f).1) (λ o p. absurd p)
  one_slot_by s t (is_parameter i b x) (is_this y) = rw (x, y, (parameter_slot problem i b).1) (λ o p. absurd p)
  one_slot_by s t (is_parameter i b x) (is_parameter j c y) = rw (x, y, (parameter_slot problem i b).1, (parameter_slot problem j c).1) (λ o p. ap (λ (m : ℕ). m + 1) p)
  one_slot_by s t (is_parameter i b x) (is_spot e l j c f g y) = rw (x, y, (parameter_slot problem i b).1, (object_slot problem e l j c f g).1) (λ o p. absurd p)
  one_slot_by s t (is_spot d k j a b c x) (is_this y) = rw (x, y, (object_slot problem d k j a b c).1) (λ o p. absurd p)
  one_slot_by s t (is_spot d k j a b c x) (is_parameter i f y) = rw (x, y, (object_slot problem d k j a b c).1, (parameter_slot problem i f).1) (λ o p. absurd p)
  one_slot_by s t (is_spot d k j a b c x) (is_spot e l i f g h y) = rw (x, y, (object_slot problem d k j a b c).1, (object_slot problem e l i f g h).1) (same_column d k j e l i a c h)

pub is_space : (problem : Problem) → IsWellFormed problem → IsSpace (space_of problem)
unfolding space_of
is_space problem w = record {
  filled = w.filled;
  blocks = blocks problem;
  parts = parts problem w;
  one_slot = λ s t hs ht. one_slot_by problem w s t (slot_case problem s hs) (slot_case problem t ht);
  one_index = λ s i j o h hi hj. one_index problem (slot_at problem s).domain i j o;
}
