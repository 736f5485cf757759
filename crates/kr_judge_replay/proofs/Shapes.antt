-- Candidates of one problem are equivalent where they have equal indices at the slots that were read.
use Rattle.std.proofs.Common.{◌≡◌, ℕ, suc, ◌+◌, ◌<◌, ◌≤◌, Bool, true, false, List, [], ◌∷◌, length, get_or, refl, sym, ap, ◌∙◌, subst, arith}
use Rattle.std.specs.Prelude.{nat_lt, ◌||◌, pos, negsuc}
use Rattle.std.proofs.lemmas.Bool.{eq-eqb, ltb-true}
use Rattle.kr_value.specs.declared.value.Value.{Value}
use Rattle.kr_value.specs.declared.value.Value.TheVariants.{Int, Bool as Truth, Null, Ref as Reference}
use Rattle.kr_value.specs.declared.object.Class.{Class}
use Rattle.kr_value.specs.declared.object.Class.TheVariants.{Object, Array, Set, List as Sequence}
use Rattle.kr_value.specs.declared.object.Spot.{Spot}
use Rattle.kr_value.specs.declared.object.Spot.TheVariants.{Field, Length, Element}
use Rattle.kr_value.specs.Heaps.{Heap, HeapObject, object_in, has_spot, has_spot_of, value_of_spot}
use Rattle.kr_mean.specs.Heaps.{heap_of, length_in, value_at}
use Rattle.kr_mean.specs.Places.{SlotPlace, At}
use Rattle.kr_mean.specs.Problem.{Problem, all_objects, choices_at, domain_at, heap_number}
use Rattle.kr_mean.specs.Runs.{contains_number, slots_for}
use Rattle.kr_mean.specs.Space.{no_choice}
use Rattle.kr_mean.specs.WellFormed.{IsWellFormed}
use Rattle.kr_laws_pruning.proofs.Numbering.{object, number_of_object, count_at, width_at, first_slot}
use Rattle.kr_laws_pruning.proofs.Places.{heap_long, heap_class, heap_element, heap_field, heap_length, heap_width, extent_of, extent_within, kind, spot_slots}
use Rattle.kr_run_state.specs.Noting.{is_read}
use Rattle.kr_run_state.specs.Worlds.{StandFor, StandsFor, is_fixed}
use Rattle.kr_judge_replay.specs.Kept.{IsClosed}

pub stand_self : (ps : List SlotPlace) (h : Heap) → StandFor true ps h h
stand_self ps h = record { unwritten = refl; long = refl; each = λ o lt. record { class = refl; fields = λ spot e. refl; told = λ spot r here there. refl } }

-- ---- shapes

by_class : (c : Class) (m n : ℕ) (spot : Spot) → is_fixed spot ≡ true → ((k : ℕ) → c ≡ Object k → m ≡ n) → has_spot_of c m spot ≡ has_spot_of c n spot
by_class (Object k) m n (Field f) e h = ap (λ (x : ℕ). nat_lt f x) (h k refl)
by_class (Object k) m n Length e h = refl
by_class (Object k) m n (Element i) e h = refl
by_class (Array t) m n (Field f) e h = refl
by_class (Array t) m n Length e h = refl
by_class (Array t) m n (Element i) e h = absurd (cc (e))
by_class Set m n spot e h = refl
by_class Sequence m n spot e h = refl

module _ (problem : Problem) (well : IsWellFormed problem) where
  class_same : (u v : List ℕ) (o : ℕ) → o < length (all_objects problem) → (object_in (heap_of problem u) o).class ≡ (object_in (heap_of problem v) o).class
  class_same u v o lt =
      let i = number_of_object problem o lt in
      subst (λ (n : ℕ). (object_in (heap_of problem u) n).class ≡ (object_in (heap_of problem v) n).class) (sym i.is)
      (heap_class problem well u i.domain i.number i.domain_in i.number_in ∙ sym (heap_class problem well v i.domain i.number i.domain_in i.number_in))

  spot_same : (u v : List ℕ) (o : ℕ) (spot : Spot) → o < length (all_objects problem) → is_fixed spot ≡ true → has_spot (object_in (heap_of problem u) o) spot ≡ has_spot (object_in (heap_of problem v) o) spot
  spot_same u v o spot lt fixed =
      let i = number_of_object problem o lt in
      let n = heap_number problem (object i.domain i.number) in
      let class = heap_class problem well u i.domain i.number i.domain_in i.number_in in
      let class' = heap_class problem well v i.domain i.number i.domain_in i.number_in in
      subst (λ (m : ℕ). has_spot (object_in (heap_of problem u) m) spot ≡ has_spot (object_in (heap_of problem v) m) spot) (sym i.is)
      (ap (λ (c : Class). has_spot_of c (length (object_in (heap_of problem u) n).values) spot) class
      ∙ (by_class (domain_at problem i.domain).class (length (object_in (heap_of problem u) n).values) (length (object_in (heap_of problem v) n).values) spot fixed
      (λ k e. heap_width problem well u i.domain i.number k i.domain_in i.number_in e ∙ sym (heap_width problem well v i.domain i.number k i.domain_in i.number_in e))
      ∙ sym (ap (λ (c : Class). has_spot_of c (length (object_in (heap_of problem v) n).values) spot) class')))

  -- candidates of one problem are as many
  pub as_long : (u v : List ℕ) → length (heap_of problem u) ≡ length (heap_of problem v)
  as_long u v = heap_long problem well u ∙ sym (heap_long problem well v)

  there : (u : List ℕ) (o : ℕ) → o < length (heap_of problem u) → o < length (all_objects problem)
  there u o lt = subst (λ (n : ℕ). o < n) (heap_long problem well u) lt

  -- ---- candidates that have the same indices at the slots of places

  -- two vectors have the same indices there
  abbrev pub AgreeOn : List ℕ → List ℕ → List SlotPlace → Type 0
  AgreeOn u v ps = (p : SlotPlace) (s : ℕ) → is_read p ps ≡ true → contains_number (slots_for problem p) s ≡ true → get_or u s 0 ≡ get_or v s 0

  abbrev at : List ℕ → ℕ → ℕ → HeapObject
  at u d k = object_in (heap_of problem u) (heap_number problem (object d k))

  one_slot : (u v : List ℕ) (ps : List SlotPlace) (p : SlotPlace) (s : ℕ) → AgreeOn u v ps → is_read p ps ≡ true → slots_for problem p ≡ s ∷ [] → value_at problem v s ≡ value_at problem u s
  one_slot u v ps p s agree read is =
      let there : contains_number (slots_for problem p) s ≡ true = ap (λ (ss : List ℕ). contains_number ss s) is ∙ ap (λ (b : Bool). b || false) (eq-eqb s s refl) in
      ap (λ (n : ℕ). (get_or (choices_at problem s) n no_choice).value) (sym (agree p s read there))

  -- a place of an object
  slot_of_place : (d k j : ℕ) (c : Class) (spot : Spot) → d < length problem.domains → k < count_at problem d → j < width_at problem d → (domain_at problem d).class ≡ c → kind c j ≡ spot → slots_for problem (At (heap_number problem (object d k)) spot) ≡ (first_slot problem d k + j) ∷ []
  slot_of_place d k j c spot a b l e q =
      ap (λ (x : Spot). slots_for problem (At (heap_number problem (object d k)) x)) (sym q ∙ ap (λ (y : Class). kind y j) (sym e)) ∙ spot_slots problem well d k j a b l

  long_enough : (u : List ℕ) (d k t : ℕ) → d < length problem.domains → k < count_at problem d → (domain_at problem d).class ≡ Array t → suc (length_in (value_at problem u (first_slot problem d k))) ≤ width_at problem d
  long_enough u d k t a b e = subst (λ (c : Class). extent_of c (width_at problem d) (value_at problem u (first_slot problem d k)) ≤ width_at problem d) e (extent_within problem well u d k a b)

  told_at : (u v : List ℕ) (ps : List SlotPlace) → AgreeOn u v ps → (d k : ℕ) → d < length problem.domains → k < count_at problem d → (c : Class) → (domain_at problem d).class ≡ c
      → (spot : Spot) → is_read (At (heap_number problem (object d k)) spot) ps ≡ true → has_spot_of c (length (at u d k).values) spot ≡ true → has_spot_of c (length (at v d k).values) spot ≡ true → value_of_spot (at v d k) spot ≡ value_of_spot (at u d k) spot
  told_at u v ps agree d k a b (Object c) e (Field f) read here other =
      let inside : f < width_at problem d = subst (λ (n : ℕ). f < n) (heap_width problem well u d k c a b e) (ltb-true f (length (at u d k).values) here) in
      heap_field problem well v d k c f a b e inside
      ∙ (one_slot u v ps (At (heap_number problem (object d k)) (Field f)) (first_slot problem d k + f) agree read (slot_of_place d k f (Object c) (Field f) a b inside e refl)
      ∙ sym (heap_field problem well u d k c f a b e inside))
  told_at u v ps agree d k a b (Object c) e Length read here other = absurd (cc (here))
  told_at u v ps agree d k a b (Object c) e (Element i) read here other = absurd (cc (here))
  told_at u v ps agree d k a b (Array t) e (Field f) read here other = absurd (cc (here))
  told_at u v ps agree d k a b (Array t) e Length read here other =
      let inside : 0 < width_at problem d = omega (arith, long_enough u d k t a b e) in
      let first : first_slot problem d k + 0 ≡ first_slot problem d k = omega arith in
      let one = one_slot u v ps (At (heap_number problem (object d k)) Length) (first_slot problem d k + 0) agree read (slot_of_place d k 0 (Array t) Length a b inside e refl) in
      let same : value_at problem v (first_slot problem d k) ≡ value_at problem u (first_slot problem d k) = subst (λ (s : ℕ). value_at problem v s ≡ value_at problem u s) first one in
      ap (λ (n : ℕ). Int (pos n)) (heap_length problem well v d k t a b e ∙ (ap length_in same ∙ sym (heap_length problem well u d k t a b e)))
  told_at u v ps agree d k a b (Array t) e (Element i) read here other =
      let below_u : i < length_in (value_at problem u (first_slot problem d k)) = subst (λ (n : ℕ). i < n) (heap_length problem well u d k t a b e) (ltb-true i (length (at u d k).values) here) in
      let below_v : i < length_in (value_at problem v (first_slot problem d k)) = subst (λ (n : ℕ). i < n) (heap_length problem well v d k t a b e) (ltb-true i (length (at v d k).values) other) in
      let inside : suc i < width_at problem d = omega (arith, below_u, long_enough u d k t a b e) in
      heap_element problem well v d k t i a b e below_v
      ∙ (one_slot u v ps (At (heap_number problem (object d k)) (Element i)) (first_slot problem d k + suc i) agree read (slot_of_place d k (suc i) (Array t) (Element i) a b inside e refl)
      ∙ sym (heap_element problem well u d k t i a b e below_u))
  told_at u v ps agree d k a b Set e spot read here other = absurd (cc (here))
  told_at u v ps agree d k a b Sequence e spot read here other = absurd (cc (here))

  told_in : (u v : List ℕ) (ps : List SlotPlace) → AgreeOn u v ps → (o : ℕ) → o < length (all_objects problem)
      → (spot : Spot) → is_read (At o spot) ps ≡ true → has_spot (object_in (heap_of problem u) o) spot ≡ true → has_spot (object_in (heap_of problem v) o) spot ≡ true
      → value_of_spot (object_in (heap_of problem v) o) spot ≡ value_of_spot (object_in (heap_of problem u) o) spot
  told_in u v ps agree o lt =
      let i = number_of_object problem o lt in
      let d = i.domain in
      let k = i.number in
      subst (λ (n : ℕ). (spot : Spot) → is_read (At n spot) ps ≡ true → has_spot (object_in (heap_of problem u) n) spot ≡ true → has_spot (object_in (heap_of problem v) n) spot ≡ true
      → value_of_spot (object_in (heap_of problem v) n) spot ≡ value_of_spot (object_in (heap_of problem u) n) spot) (sym i.is)
      (λ spot read here other. told_at u v ps agree d k i.domain_in i.number_in (domain_at problem d).class refl spot read
      (subst (λ (c : Class). has_spot_of c (length (at u d k).values) spot ≡ true) (heap_class problem well u d k i.domain_in i.number_in) here)
      (subst (λ (c : Class). has_spot_of c (length (at v d k).values) spot ≡ true) (heap_class problem well v d k i.domain_in i.number_in) other))

  -- they are equivalent
  pub stand_slots : (ps : List SlotPlace) (u v : List ℕ) → AgreeOn u v ps → StandFor true ps (heap_of problem u) (heap_of problem v)
  stand_slots ps u v agree = record {
    unwritten = refl;
    long = as_long v u;
    each = λ o lt. record {
      class = class_same v u o (there u o lt);
      fields = λ spot fixed. spot_same v u o spot (there u o lt) fixed;
      told = told_in u v ps agree o (there u o lt);
    };
  }

  -- an element of an array whose length was read is there in both
  element_there : (u v : List ℕ) (ps : List SlotPlace) (o i : ℕ) (c : Class) → StandsFor ps o (object_in (heap_of problem u) o) (object_in (heap_of problem v) o) → (object_in (heap_of problem u) o).class ≡ c
      → is_read (At o Length) ps ≡ true → has_spot_of c (length (object_in (heap_of problem u) o).values) (Element i) ≡ true → has_spot (object_in (heap_of problem v) o) (Element i) ≡ true
  element_there u v ps o i (Object k) s e read here = absurd (cc (here))
  element_there u v ps o i (Array t) s e read here =
      let n = length (object_in (heap_of problem u) o).values in
      let m = length (object_in (heap_of problem v) o).values in
      let other : (object_in (heap_of problem v) o).class ≡ Array t = s.class ∙ e in
      let lengths = s.told Length read (ap (λ (c : Class). has_spot_of c n Length) e) (ap (λ (c : Class). has_spot_of c m Length) other) in
      let same : m ≡ n = ap number lengths in
      ap (λ (c : Class). has_spot_of c m (Element i)) other ∙ (ap (λ (x : ℕ). nat_lt i x) same ∙ here)
    where
      number : Value → ℕ
      number (Int (pos x)) = x
      number (Int (negsuc x)) = 0
      number (Truth b) = 0
      number Null = 0
      number (Reference x) = 0
  element_there u v ps o i Set s e read here = absurd (cc (here))
  element_there u v ps o i Sequence s e read here = absurd (cc (here))

  has_there : (u v : List ℕ) (ps : List SlotPlace) (o : ℕ) (spot : Spot) → IsClosed ps → StandsFor ps o (object_in (heap_of problem u) o) (object_in (heap_of problem v) o) → is_read (At o spot) ps ≡ true
      → has_spot (object_in (heap_of problem u) o) spot ≡ true → has_spot (object_in (heap_of problem v) o) spot ≡ true
  has_there u v ps o (Field f) closed s read here = s.fields (Field f) refl ∙ here
  has_there u v ps o Length closed s read here = s.fields Length refl ∙ here
  has_there u v ps o (Element i) closed s read here = element_there u v ps o i (object_in (heap_of problem u) o).class s refl (closed o i read) here

  -- and those equivalent to the second are equivalent to the first, too
  pub stand_then : (ps : List SlotPlace) (u v w : List ℕ) → AgreeOn u v ps → IsClosed ps → StandFor true ps (heap_of problem v) (heap_of problem w) → StandFor true ps (heap_of problem u) (heap_of problem w)
  stand_then ps u v w agree closed s = record {
    unwritten = refl;
    long = as_long w u;
    each = λ o lt. record {
      class = class_same w u o (there u o lt);
      fields = λ spot fixed. spot_same w u o spot (there u o lt) fixed;
      told = λ spot read here other.
          let first = (stand_slots ps u v agree).each o lt in
          let middle = has_there u v ps o spot closed first read here in
          (s.each o (subst (λ (n : ℕ). o < n) (as_long u v) lt)).told spot read middle other ∙ first.told spot read here middle;
    };
  }
