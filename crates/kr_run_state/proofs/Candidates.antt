-- Candidates that a run can't distinguish from its own.
use Rattle.std.proofs.Common.{◌≡◌, ℕ, ◌+◌, ◌-◌, ◌<◌, Bool, true, false, List, [], ◌∷◌, ◌++◌, length, Some, None, refl, sym, ap, ◌∙◌, subst, arith}
use Rattle.std.specs.Prelude.{◌||◌, slice_set, Option, if◌then◌else◌, nat_lt}
use Rattle.std.proofs.lemmas.List.{set-append_left, set-append_right, get_or_append_left, get_or-append-add, length-set}
use Rattle.std.proofs.lemmas.Bool.{eq-eqb, lt-ltb, le-ltb, ltb-false, ltb-true}
use Rattle.std.specs.Prelude.{◌&&◌, Result, Ok, Err, ℤ, pos}
use Rattle.kr_value.specs.declared.value.Value.{Value}
use Rattle.kr_value.specs.declared.value.Value.TheVariants.{Int, Ref as Reference, Null}
use Rattle.kr_value.specs.declared.object.Class.TheVariants.{Object, Array, Set, List as Sequence}
use Rattle.kr_value.specs.declared.object.Spot.TheVariants.{Field, Length, Element}
use Rattle.kr_mean.specs.declared.kind.Stop.TheVariants.{Trapped}
use Rattle.kr_mean.specs.Steps.{State, Outcome, load, load_if, element, element_if, element_read, index_within, noted}
use Rattle.kr_mean.specs.declared.kind.Kind.TheVariants.{ArrayIndexOutOfBoundsException}
use Rattle.kr_value.specs.declared.object.Class.{Class}
use Rattle.kr_value.specs.declared.object.Spot.{Spot}
use Rattle.kr_value.specs.Heaps.{Heap, HeapObject, object_in, no_object, has_spot, value_of_spot}
use Rattle.kr_heap.specs.Objects.{found, with_value, with_values}
use Rattle.kr_mean.specs.Places.{SlotPlace, At}
use Rattle.kr_mean.specs.Runs.{is_same_place, is_same_spot}
use Rattle.kr_run_state.specs.Noting.{is_read, with_read, noted_once, noting}
use Rattle.kr_run_state.specs.Worlds.{Others, AreLike, candidates_of, is_fixed, IsArray, Allows, Agrees, Keeps}
use Rattle.kr_run_state.specs.declared.world.World.{World}
use Rattle.kr_run_state.specs.declared.world.Halt.{Halt}
use Rattle.kr_run_state.specs.declared.world.Halt.TheVariants.{Ended, Memory}

-- ---- reads

or_true : (b : Bool) → (b || true) ≡ true
or_true true = refl
or_true false = refl

read_more : (p q : SlotPlace) (seen : List SlotPlace) → is_read q seen ≡ true → is_read q (seen ++ p ∷ []) ≡ true
read_more p q [] h = absurd (cc (h))
read_more p q (r ∷ rs) h = go (is_same_place r q) h (read_more p q rs)
  where
    go : (b : Bool) → (b || is_read q rs) ≡ true → (is_read q rs ≡ true → is_read q (rs ++ p ∷ []) ≡ true) → (b || is_read q (rs ++ p ∷ [])) ≡ true
    go true e more = refl
    go false e more = more e

-- read places stay read
pub read_on : (p q : SlotPlace) (seen : List SlotPlace) → is_read q seen ≡ true → is_read q (with_read seen p) ≡ true
read_on p q seen h = go (is_read p seen)
  where
    go : (b : Bool) → is_read q (if b then seen else seen ++ p ∷ []) ≡ true
    go true = h
    go false = read_more p q seen h

read_last : (p : SlotPlace) (seen : List SlotPlace) → is_same_place p p ≡ true → is_read p (seen ++ p ∷ []) ≡ true
read_last p [] s = ap (λ (b : Bool). b || false) s
read_last p (r ∷ rs) s = ap (λ (b : Bool). is_same_place r p || b) (read_last p rs s) ∙ or_true (is_same_place r p)

-- a place that is read was read
pub read_now : (p : SlotPlace) (seen : List SlotPlace) → is_same_place p p ≡ true → is_read p (with_read seen p) ≡ true
read_now p seen s = go (is_read p seen) refl
  where
    go : (b : Bool) → is_read p seen ≡ b → is_read p (if b then seen else seen ++ p ∷ []) ≡ true
    go true e = e
    go false e = read_last p seen s

same_spot : (s : Spot) → is_same_spot s s ≡ true
same_spot (Field f) = eq-eqb f f refl
same_spot Length = refl
same_spot (Element i) = eq-eqb i i refl

same_at : (o : ℕ) (s : Spot) → is_same_place (At o s) (At o s) ≡ true
same_at o s = ap (λ (b : Bool). b && is_same_spot s s) (eq-eqb o o refl) ∙ same_spot s

-- ---- results of steps

value_or : Option Value → Value
value_or (Some v) = v
value_or None = Null

pub found_value : (r : HeapObject) (spot : Spot) (v : Value) → found r spot ≡ Some v → value_of_spot r spot ≡ v
unfolding value_or
found_value r spot v e = go (has_spot r spot) e
  where
    go : (b : Bool) → (if b then Some (value_of_spot r spot) else None) ≡ Some v → value_of_spot r spot ≡ v
    go true h = ap value_or h
    go false h = absurd (cc (h))

pub load_some : (s : State) (o : ℕ) (spot : Spot) (v : Value) → found (object_in s.heap o) spot ≡ Some v → load (Reference o) spot s ≡ record { said = Ok v; after = s; reads = noted (nat_lt o s.candidates) (At o spot) }
unfolding value_or
load_some s o spot v e = go (has_spot (object_in s.heap o) spot) e
  where
    go : (b : Bool) → (if b then Some (value_of_spot (object_in s.heap o) spot) else None) ≡ Some v → load_if b o spot s ≡ record { said = Ok v; after = s; reads = noted (nat_lt o s.candidates) (At o spot) }
    go true h = ap (λ (u : Value). record { said = Ok u; after = s; reads = noted (nat_lt o s.candidates) (At o spot) }) (ap value_or h)
    go false h = absurd (cc (h))

array_long : (r : HeapObject) → IsArray r.class → has_spot r Length ≡ true
array_long r h = go r.class h
  where
    go : (c : Class) → IsArray c → has_spot (record { class = c; values = r.values }) Length ≡ true
    go (Object c) a = absurd a
    go (Array t) a = refl
    go Set a = absurd a
    go Sequence a = absurd a

pub element_is : (s : State) (o : ℕ) (i : ℤ) (at : Option ℕ) → IsArray (object_in s.heap o).class → index_within i (length (object_in s.heap o).values) ≡ at → element (Reference o) (Int i) s ≡ element_read at o s
element_is s o i at array is =
    ap (λ (b : Bool). element_if b o i s) (array_long (object_in s.heap o) array)
    ∙ ap (λ (k : Option ℕ). element_read k o s) is

long_of : Option Value → ℕ
long_of (Some (Int (pos n))) = n
long_of v = 0

same_long : (r t : HeapObject) → value_of_spot r Length ≡ value_of_spot t Length → length r.values ≡ length t.values
unfolding long_of
same_long r t e = ap long_of (ap (λ (v : Value). Some v) e)

pub found_has : (r : HeapObject) (spot : Spot) (v : Value) → found r spot ≡ Some v → has_spot r spot ≡ true
found_has r spot v e = go (has_spot r spot) e
  where
    go : (b : Bool) → (if b then Some (value_of_spot r spot) else None) ≡ Some v → b ≡ true
    go true h = refl
    go false h = absurd (cc (h))

found_by : (r : HeapObject) (spot : Spot) → has_spot r spot ≡ true → found r spot ≡ Some (value_of_spot r spot)
found_by r spot e = ap (λ (b : Bool). if b then Some (value_of_spot r spot) else None) e

element_has : (r : HeapObject) (k : ℕ) → IsArray r.class → has_spot r (Element k) ≡ nat_lt k (length r.values)
element_has r k h = go r.class h
  where
    go : (c : Class) → IsArray c → has_spot (record { class = c; values = r.values }) (Element k) ≡ nat_lt k (length r.values)
    go (Object c) a = absurd a
    go (Array t) a = refl
    go Set a = absurd a
    go Sequence a = absurd a

module _ (frozen : Bool) (own : Heap) where
  -- candidates that fewer reads allow
  pub allowed_before : (p : SlotPlace) (seen : List SlotPlace) (x : Others) → AreLike frozen (with_read seen p) own x → AreLike frozen seen own x
  allowed_before p seen None a = tt
  allowed_before p seen (Some others) a = record {
    unwritten = a.unwritten;
    long = a.long;
    each = λ o lt. let s = a.each o lt in record { class = s.class; fields = s.fields; told = λ spot is here there. s.told spot (read_on p (At o spot) seen is) here there };
  }

  pub candidates_long : (seen : List SlotPlace) (x : Others) → AreLike frozen seen own x → length (candidates_of own x) ≡ length own
  candidates_long seen None a = refl
  candidates_long seen (Some others) a = a.long

  -- ---- objects

  pub object_made : (seen : List SlotPlace) (made : Heap) (x : Others) (o k : ℕ) → AreLike frozen seen own x → o ≡ length own + k → object_in (candidates_of own x ++ made) o ≡ object_in made k
  object_made seen made x o k a e =
      ap (λ (n : ℕ). object_in (candidates_of own x ++ made) n) (e ∙ ap (λ (n : ℕ). n + k) (sym (candidates_long seen x a)))
      ∙ get_or-append-add (candidates_of own x) made k no_object

  pub object_candidate : (seen : List SlotPlace) (made : Heap) (x : Others) (o : ℕ) → AreLike frozen seen own x → o < length own → object_in (candidates_of own x ++ made) o ≡ object_in (candidates_of own x) o
  object_candidate seen made x o a lt = get_or_append_left (candidates_of own x) made no_object o (subst (λ (n : ℕ). o < n) (sym (candidates_long seen x a)) lt)

  pub class_candidate : (seen : List SlotPlace) (made : Heap) (x : Others) (o : ℕ) → AreLike frozen seen own x → o < length own → (object_in (candidates_of own x ++ made) o).class ≡ (object_in own o).class
  class_candidate seen made x o a lt = ap (λ (r : HeapObject). r.class) (object_candidate seen made x o a lt) ∙ go x a
    where
      go : (y : Others) → AreLike frozen seen own y → (object_in (candidates_of own y) o).class ≡ (object_in own o).class
      go None b = refl
      go (Some others) b = (b.each o lt).class

  -- a place that was read has one value in both
  pub told_candidate : (seen : List SlotPlace) (made : Heap) (x : Others) (o : ℕ) (spot : Spot) → AreLike frozen seen own x → o < length own → is_read (At o spot) seen ≡ true → has_spot (object_in own o) spot ≡ true → has_spot (object_in (candidates_of own x ++ made) o) spot ≡ true → value_of_spot (object_in (candidates_of own x ++ made) o) spot ≡ value_of_spot (object_in own o) spot
  told_candidate seen made x o spot a lt is here there =
      let same = object_candidate seen made x o a lt in
      ap (λ (r : HeapObject). value_of_spot r spot) same ∙ go x a (ap (λ (r : HeapObject). has_spot r spot) (sym same) ∙ there)
    where
      go : (y : Others) → AreLike frozen seen own y → has_spot (object_in (candidates_of own y) o) spot ≡ true → value_of_spot (object_in (candidates_of own y) o) spot ≡ value_of_spot (object_in own o) spot
      go None b h = refl
      go (Some others) b h = (b.each o lt).told spot is here h

  -- whether a candidate has a field, or a length
  pub spot_candidate : (seen : List SlotPlace) (made : Heap) (x : Others) (o : ℕ) (spot : Spot) → AreLike frozen seen own x → o < length own → is_fixed spot ≡ true → has_spot (object_in (candidates_of own x ++ made) o) spot ≡ has_spot (object_in own o) spot
  spot_candidate seen made x o spot a lt is = ap (λ (r : HeapObject). has_spot r spot) (object_candidate seen made x o a lt) ∙ go x a
    where
      go : (y : Others) → AreLike frozen seen own y → has_spot (object_in (candidates_of own y) o) spot ≡ has_spot (object_in own o) spot
      go None b = refl
      go (Some others) b = (b.each o lt).fields spot is

  -- a candidate that may be written is the run's own
  pub own_candidates : (seen : List SlotPlace) (x : Others) → frozen ≡ false → AreLike frozen seen own x → candidates_of own x ≡ own
  own_candidates seen None e a = refl
  own_candidates seen (Some others) e a = absurd (cc (e, a.unwritten))

  -- where an object isn't a candidate that must not be written, it is the run's own
  pub writable : (seen : List SlotPlace) (made : Heap) (x : Others) (o : ℕ) → AreLike frozen seen own x → (o < length own → frozen ≡ false) → object_in (candidates_of own x ++ made) o ≡ object_in (own ++ made) o
  writable seen made x o a free = go (nat_lt o (length own)) refl
    where
      go : (b : Bool) → nat_lt o (length own) ≡ b → object_in (candidates_of own x ++ made) o ≡ object_in (own ++ made) o
      go true e = ap (λ (h : Heap). object_in (h ++ made) o) (own_candidates seen x (free (ltb-true o (length own) e)) a)
      go false e =
          let k = o - length own in
          let is : o ≡ length own + k = omega (arith, ltb-false o (length own) e) in
          object_made seen made x o k a is ∙ sym (object_made seen made None o k tt is)

  pub array_candidate : (seen : List SlotPlace) (made : Heap) (x : Others) (o : ℕ) → AreLike frozen seen own x → o < length own → IsArray (object_in own o).class → IsArray (object_in (candidates_of own x ++ made) o).class
  array_candidate seen made x o a lt h = subst (λ (c : Class). IsArray c) (sym (class_candidate seen made x o a lt)) h

  -- an array whose length was read is as long
  pub long_candidate : (seen : List SlotPlace) (made : Heap) (x : Others) (o : ℕ) → AreLike frozen seen own x → o < length own → is_read (At o Length) seen ≡ true → IsArray (object_in own o).class → length (object_in (candidates_of own x ++ made) o).values ≡ length (object_in own o).values
  long_candidate seen made x o a lt is array =
      let array' = array_candidate seen made x o a lt array in
      same_long (object_in (candidates_of own x ++ made) o) (object_in own o) (told_candidate seen made x o Length a lt is (array_long (object_in own o) array) (array_long (object_in (candidates_of own x ++ made) o) array'))

  -- ---- other values

  pub values_made : (seen : List SlotPlace) (made : Heap) (x : Others) (o k : ℕ) (vs : List Value) → AreLike frozen seen own x → o ≡ length own + k → candidates_of own x ++ with_values made k vs ≡ with_values (candidates_of own x ++ made) o vs
  values_made seen made x o k vs a e =
      let long = candidates_long seen x a in
      let back : o - length own ≡ k = omega (arith, e) in
      ap (λ (r : HeapObject). candidates_of own x ++ slice_set made k (record { class = r.class; values = vs })) (sym (object_made seen made x o k a e))
      ∙ ap (λ (n : ℕ). candidates_of own x ++ slice_set made n (record { class = (object_in (candidates_of own x ++ made) o).class; values = vs })) (sym back)
      ∙ sym (set-append_right (candidates_of own x) made (length own) o (record { class = (object_in (candidates_of own x ++ made) o).class; values = vs }) long (omega (arith, e)))

  pub value_made : (seen : List SlotPlace) (made : Heap) (x : Others) (o k at : ℕ) (v : Value) → AreLike frozen seen own x → o ≡ length own + k → candidates_of own x ++ with_value made k at v ≡ with_value (candidates_of own x ++ made) o at v
  value_made seen made x o k at v a e =
      values_made seen made x o k (slice_set (object_in made k).values at v) a e
      ∙ ap (λ (r : HeapObject). with_values (candidates_of own x ++ made) o (slice_set r.values at v)) (sym (object_made seen made x o k a e))

  pub values_candidate : (made : Heap) (o : ℕ) (vs : List Value) → o < length own → with_values own o vs ++ made ≡ with_values (own ++ made) o vs
  values_candidate made o vs lt =
      let same = get_or_append_left own made no_object o lt in
      sym (set-append_left own made o (record { class = (object_in own o).class; values = vs }) lt)
      ∙ ap (λ (r : HeapObject). slice_set (own ++ made) o (record { class = r.class; values = vs })) (sym same)

  pub value_candidate : (made : Heap) (o at : ℕ) (v : Value) → o < length own → with_value own o at v ++ made ≡ with_value (own ++ made) o at v
  value_candidate made o at v lt =
      let same = get_or_append_left own made no_object o lt in
      values_candidate made o (slice_set (object_in own o).values at v) lt
      ∙ ap (λ (r : HeapObject). with_values (own ++ made) o (slice_set r.values at v)) (sym same)

  -- ---- reading candidates

  pub loads_candidate : (seen new : List SlotPlace) (made : Heap) (x : Others) (o : ℕ) (spot : Spot) (v : Value) (s : State) → s.heap ≡ candidates_of own x ++ made → s.candidates ≡ length own → new ≡ with_read seen (At o spot) → o < length own → is_fixed spot ≡ true → found (object_in own o) spot ≡ Some v → AreLike frozen new own x
      → AreLike frozen seen own x × (noting seen (load (Reference o) spot s) ≡ record { said = Ok v; after = s; reads = new })
  loads_candidate seen new made x o spot v s heap count is lt fixed e a =
      let b : AreLike frozen (with_read seen (At o spot)) own x = subst (λ (ps : List SlotPlace). AreLike frozen ps own x) is a in
      let here = found_has (object_in own o) spot v e in
      let has = spot_candidate (with_read seen (At o spot)) made x o spot b lt fixed ∙ here in
      let value = told_candidate (with_read seen (At o spot)) made x o spot b lt (read_now (At o spot) seen (same_at o spot)) here has ∙ found_value (object_in own o) spot v e in
      let there = ap (λ (h : Heap). found (object_in h o) spot) heap ∙ (found_by (object_in (candidates_of own x ++ made) o) spot has ∙ ap (λ (u : Value). Some u) value) in
      let below : nat_lt o s.candidates ≡ true = lt-ltb o s.candidates (subst (λ (n : ℕ). o < n) (sym count) lt) in (
        allowed_before (At o spot) seen x b,
        ap (λ (q : Outcome Value). noting seen q) (load_some s o spot v there)
            ∙ (ap (λ (c : Bool). record { said = Ok v; after = s; reads = noted_once seen (noted c (At o spot)) }) below
            ∙ ap (λ (ps : List SlotPlace). record { said = Ok v; after = s; reads = ps }) (sym is)),
      )

  -- an element of a candidate, and where there is none
  pub misses_candidate : (seen new : List SlotPlace) (made : Heap) (x : Others) (o : ℕ) (i : ℤ) (s : State) → s.heap ≡ candidates_of own x ++ made → s.candidates ≡ length own → new ≡ with_read seen (At o Length) → o < length own → IsArray (object_in own o).class → index_within i (length (object_in own o).values) ≡ None → AreLike frozen new own x
      → AreLike frozen seen own x × (noting seen (element (Reference o) (Int i) s) ≡ record { said = Err (Trapped ArrayIndexOutOfBoundsException); after = s; reads = new })
  misses_candidate seen new made x o i s heap count is lt array e a =
      let b : AreLike frozen (with_read seen (At o Length)) own x = subst (λ (ps : List SlotPlace). AreLike frozen ps own x) is a in
      let long = ap (λ (h : Heap). length (object_in h o).values) heap ∙ long_candidate (with_read seen (At o Length)) made x o b lt (read_now (At o Length) seen (same_at o Length)) array in
      let array' = subst (λ (h : Heap). IsArray (object_in h o).class) (sym heap) (array_candidate (with_read seen (At o Length)) made x o b lt array) in
      let below : nat_lt o s.candidates ≡ true = lt-ltb o s.candidates (subst (λ (n : ℕ). o < n) (sym count) lt) in (
        allowed_before (At o Length) seen x b,
        ap (λ (q : Outcome Value). noting seen q) (element_is s o i None array' (ap (λ (n : ℕ). index_within i n) long ∙ e))
            ∙ (ap (λ (c : Bool). record { said = Err (Trapped ArrayIndexOutOfBoundsException); after = s; reads = noted_once seen (noted c (At o Length)) }) below
            ∙ ap (λ (ps : List SlotPlace). record { said = Err (Trapped ArrayIndexOutOfBoundsException); after = s; reads = ps }) (sym is)),
      )

  pub reads_candidate : (seen first new : List SlotPlace) (made : Heap) (x : Others) (o k : ℕ) (i : ℤ) (v : Value) (s : State) → s.heap ≡ candidates_of own x ++ made → s.candidates ≡ length own → first ≡ with_read seen (At o Length) → new ≡ with_read first (At o (Element k)) → o < length own → IsArray (object_in own o).class → index_within i (length (object_in own o).values) ≡ Some k
      → found (object_in own o) (Element k) ≡ Some v → AreLike frozen new own x
      → AreLike frozen seen own x × (noting seen (element (Reference o) (Int i) s) ≡ record { said = Ok v; after = s; reads = new })
  reads_candidate seen first new made x o k i v s heap count is on lt array e f a =
      let all : List SlotPlace = with_read (with_read seen (At o Length)) (At o (Element k)) in
      let noted_all : new ≡ all = on ∙ ap (λ (ps : List SlotPlace). with_read ps (At o (Element k))) is in
      let b : AreLike frozen all own x = subst (λ (ps : List SlotPlace). AreLike frozen ps own x) noted_all a in
      let told : is_read (At o Length) all ≡ true = read_on (At o (Element k)) (At o Length) (with_read seen (At o Length)) (read_now (At o Length) seen (same_at o Length)) in
      let long = ap (λ (h : Heap). length (object_in h o).values) heap ∙ long_candidate all made x o b lt told array in
      let array' = subst (λ (h : Heap). IsArray (object_in h o).class) (sym heap) (array_candidate all made x o b lt array) in
      let same = long_candidate all made x o b lt told array in
      let here = found_has (object_in own o) (Element k) v f in
      let has = element_has (object_in (candidates_of own x ++ made) o) k (array_candidate all made x o b lt array) ∙ (ap (λ (n : ℕ). nat_lt k n) same ∙ (sym (element_has (object_in own o) k array) ∙ here)) in
      let value = told_candidate all made x o (Element k) b lt (read_now (At o (Element k)) (with_read seen (At o Length)) (same_at o (Element k))) here has ∙ found_value (object_in own o) (Element k) v f in
      let there = ap (λ (h : Heap). value_of_spot (object_in h o) (Element k)) heap ∙ value in
      let below : nat_lt o s.candidates ≡ true = lt-ltb o s.candidates (subst (λ (n : ℕ). o < n) (sym count) lt) in (
        allowed_before (At o Length) seen x (allowed_before (At o (Element k)) (with_read seen (At o Length)) x b),
        ap (λ (q : Outcome Value). noting seen q) (element_is s o i (Some k) array' (ap (λ (n : ℕ). index_within i n) long ∙ e))
            ∙ (ap (λ (c : Bool). record { said = Ok (value_of_spot (object_in s.heap o) (Element k)); after = s; reads = noted_once seen (noted c (At o Length) ++ noted c (At o (Element k))) }) below
            ∙ (ap (λ (u : Value). record { said = Ok u; after = s; reads = all }) there
            ∙ ap (λ (ps : List SlotPlace). record { said = Ok v; after = s; reads = ps }) (sym noted_all))),
      )

  -- an element of an array that the run has made
  pub reads_made : (seen : List SlotPlace) (made : Heap) (x : Others) (o k j : ℕ) (i : ℤ) (v : Value) (s : State) → s.heap ≡ candidates_of own x ++ made → s.candidates ≡ length own → o ≡ length own + k → IsArray (object_in made k).class → index_within i (length (object_in made k).values) ≡ Some j → found (object_in made k) (Element j) ≡ Some v → AreLike frozen seen own x
      → noting seen (element (Reference o) (Int i) s) ≡ record { said = Ok v; after = s; reads = seen }
  reads_made seen made x o k j i v s heap count is array e f a =
      let object : object_in s.heap o ≡ object_in made k = ap (λ (h : Heap). object_in h o) heap ∙ object_made seen made x o k a is in
      let array' = subst (λ (r : HeapObject). IsArray r.class) (sym object) array in
      let above : nat_lt o s.candidates ≡ false = le-ltb o s.candidates (omega (arith, is, count)) in
      ap (λ (q : Outcome Value). noting seen q) (element_is s o i (Some j) array' (ap (λ (r : HeapObject). index_within i (length r.values)) object ∙ e))
      ∙ (ap (λ (c : Bool). record { said = Ok (value_of_spot (object_in s.heap o) (Element j)); after = s; reads = noted_once seen (noted c (At o Length) ++ noted c (At o (Element j))) }) above
      ∙ ap (λ (u : Value). record { said = Ok u; after = s; reads = seen }) (found_value (object_in s.heap o) (Element j) v (ap (λ (r : HeapObject). found r (Element j)) object ∙ f)))

  -- ---- writing candidates

  pub put_long : (o at : ℕ) (v : Value) → length (with_value own o at v) ≡ length own
  put_long o at v = length-set own o (record { class = (object_in own o).class; values = slice_set (object_in own o).values at v })

  -- another value in a candidate, which is thawed
  pub puts_candidate : (seen : List SlotPlace) (new made : Heap) (x : Others) (o at : ℕ) (v : Value) (s : State) → new ≡ with_value own o at v → o < length own → AreLike false seen new x
      → AreLike frozen seen own x × (record s { heap = with_value (candidates_of own x ++ made) o at v; candidates = length own } ≡ record s { heap = candidates_of new x ++ made; candidates = length new })
  puts_candidate seen new made None o at v s is lt a = (
    tt,
    ap (λ (h : Heap). record s { heap = h; candidates = length own }) (sym (value_candidate made o at v lt) ∙ ap (λ (h : Heap). h ++ made) (sym is))
        ∙ ap (λ (n : ℕ). record s { heap = new ++ made; candidates = n }) (sym (ap length is ∙ put_long o at v)),
  )
  puts_candidate seen new made (Some others) o at v s is lt a = absurd (cc (a.unwritten))

  -- candidates allowed once they may be thawed
  pub allowed_frozen : (still : Bool) (seen : List SlotPlace) (x : Others) → (still ≡ true → frozen ≡ true) → AreLike still seen own x → AreLike frozen seen own x
  allowed_frozen still seen None f a = tt
  allowed_frozen still seen (Some others) f a = record { unwritten = f a.unwritten; long = a.long; each = a.each }

pub kept_same : (w : World) (x : Others) → Allows w x → Keeps w w x
kept_same w x a = record { allowed = a; frozen_before = λ e. e; same = λ e. refl; long = refl }

pub kept_then : (before middle w : World) (x : Others) → Keeps before middle x → Keeps middle w x → Keeps before w x
kept_then before middle w x k l = record {
  allowed = k.allowed;
  frozen_before = λ e. k.frozen_before (l.frozen_before e);
  same = λ e. l.same e ∙ k.same (l.frozen_before e);
  long = l.long ∙ k.long;
}

-- equal by another way, where that is allowed
pub agrees_same : {A : Type 0} (r : Result A Halt) (w before : World) (o o' : Others → Outcome A) → ((x : Others) → Allows before x → o x ≡ o' x) → Agrees r w before o' → Agrees r w before o
agrees_same {A} (Ok v) w before o o' e h = λ x a. let r = h x a in (r.0, ap (λ (q : Outcome A). noting before.reads q) (e x r.0.allowed) ∙ r.1)
agrees_same {A} (Err (Ended end)) w before o o' e h = λ x a. let r = h x a in (r.0, ap (λ (q : Outcome A). noting before.reads q) (e x r.0.allowed) ∙ r.1)
agrees_same (Err (Memory why)) w before o o' e h = tt

-- candidates that may be thawed first
kept_thawed : (still : Bool) (before w : World) (x : Others) → (still ≡ true → before.is_frozen ≡ true) → Keeps (record before { is_frozen = still }) w x → Keeps before w x
kept_thawed still before w x f k = record {
  allowed = allowed_frozen before.is_frozen before.candidates still before.reads x f k.allowed;
  frozen_before = λ e. f (k.frozen_before e);
  same = k.same;
  long = k.long;
}

pub agrees_thawed : {A : Type 0} (r : Result A Halt) (still : Bool) (w before : World) (o : Others → Outcome A) → (still ≡ true → before.is_frozen ≡ true) → Agrees r w (record before { is_frozen = still }) o → Agrees r w before o
agrees_thawed (Ok v) still w before o f h = λ x a. (kept_thawed still before w x f (h x a).0, (h x a).1)
agrees_thawed (Err (Ended end)) still w before o f h = λ x a. (kept_thawed still before w x f (h x a).0, (h x a).1)
agrees_thawed (Err (Memory why)) still w before o f h = tt
