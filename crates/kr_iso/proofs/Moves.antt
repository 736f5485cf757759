-- A renaming by objects and places equals one by arithmetic.
use Rattle.std.proofs.Common.{◌≡◌, ℕ, ◌+◌, ◌-◌, ◌*◌, ◌<◌, List, [], ◌∷◌, Option, Some, None, refl, sym, ap, ◌∙◌, subst, get_or, arith}
use Rattle.std.specs.Prelude.{map}
use Rattle.kr_mean.specs.Places.{SlotPlace, This, Parameter, At}
use Rattle.kr_mean.specs.Problem.{DomainObject}
use Rattle.kr_mean.specs.Space.{Space, IsVector, IsRenaming, IsRenamed, IsRenamedSlot, IsRenamedIndex, IsSameSpot, renamed_object, renamed_owner}
use Rattle.kr_mean.specs.Blocks.{width_in, IsBlock, IsPart, IsSpace, IsMoved, RenamingLaw, on_slot, on_index}
use Rattle.kr_mean.specs.Readings.{AllBelow, AreRenamedSlots, IsReading}

-- ---- equal spots

pub same_self : (p : SlotPlace) → IsSameSpot p p
same_self This = tt
same_self (Parameter i) = refl
same_self (At o x) = refl

pub same_back : (p q : SlotPlace) → IsSameSpot p q → IsSameSpot q p
same_back This This h = tt
same_back This (Parameter j) h = absurd h
same_back This (At o x) h = absurd h
same_back (Parameter i) This h = absurd h
same_back (Parameter i) (Parameter j) h = sym h
same_back (Parameter i) (At o x) h = absurd h
same_back (At o x) This h = absurd h
same_back (At o x) (Parameter j) h = absurd h
same_back (At o x) (At p y) h = sym h

pub same_then : (p q r : SlotPlace) → IsSameSpot p q → IsSameSpot q r → IsSameSpot p r
same_then This This r h k = k
same_then This (Parameter j) r h k = absurd h
same_then This (At o x) r h k = absurd h
same_then (Parameter i) This r h k = absurd h
same_then (Parameter i) (Parameter j) r h k = subst (λ (m : ℕ). IsSameSpot (Parameter m) r) (sym h) k
same_then (Parameter i) (At o x) r h k = absurd h
same_then (At o x) This r h k = absurd h
same_then (At o x) (Parameter j) r h k = absurd h
same_then (At o x) (At p y) This h k = absurd k
same_then (At o x) (At p y) (Parameter j) h k = absurd k
same_then (At o x) (At p y) (At q z) h k = h ∙ k

some_same : (a b : DomainObject) → Some a ≡ Some b → (a.domain ≡ b.domain) × (a.number ≡ b.number)
some_same a b e = let q : a ≡ b = cc in (ap (λ (x : DomainObject). x.domain) q, ap (λ (x : DomainObject). x.number) q)

same_object : (a b : DomainObject) → a.domain ≡ b.domain → a.number ≡ b.number → Some a ≡ Some b
same_object a b d k = ap (λ (x : ℕ). Some (record { domain = x; number = a.number })) d ∙ ap (λ (x : ℕ). Some (record { domain = b.domain; number = x })) k

module _ (S : Space) (is : IsSpace S) (name : ℕ → ℕ → ℕ) (n : IsRenaming S name) where
  -- ---- where a slot goes

  pub record Lands (s : ℕ) : Type 0 where
    pub inside : on_slot S name s < S.slots
    pub slot : IsRenamedSlot S name s (on_slot S name s)
    pub size : S.size (on_slot S name s) ≡ S.size s
    pub objects : (i : ℕ) → S.object_at (on_slot S name s) i ≡ S.object_at s i
    pub items : (i : ℕ) → S.item (on_slot S name s) i ≡ S.item s i

  lands_by : (s : ℕ) → s < S.slots → (x : Option DomainObject) → S.owner s ≡ x → Lands s
  lands_by s h None e =
      let same : on_slot S name s ≡ s = rw e refl in
      record {
        inside = rw same h;
        slot = record {
          owner = ap S.owner same ∙ (e ∙ sym (ap (renamed_owner name) e));
          spot = subst (λ (x : ℕ). IsSameSpot (S.place s) (S.place x)) (sym same) (same_self (S.place s));
        };
        size = ap S.size same;
        objects = λ i. ap (λ (x : ℕ). S.object_at x i) same;
        items = λ i. ap (λ (x : ℕ). S.item x i) same;
      }
  lands_by s h (Some o) e =
      let part : IsPart S s o = is.parts s o h e in
      let k : ℕ = name o.domain o.number in
      let lt : k < S.count o.domain = n.within o.domain o.number part.number in
      let there : on_slot S name s ≡ s - o.number * width_in S o.domain + k * width_in S o.domain = rw e refl in
      record {
        inside = subst (λ (x : ℕ). x < S.slots) (sym there) (part.inside k lt);
        slot = record {
          owner = ap S.owner there ∙ (part.all k lt ∙ sym (ap (renamed_owner name) e));
          spot = subst (λ (x : ℕ). IsSameSpot (S.place s) (S.place x)) (sym there) (part.spots k lt);
        };
        size = ap S.size there ∙ part.sizes k lt;
        objects = λ i. ap (λ (x : ℕ). S.object_at x i) there ∙ part.objects k i lt;
        items = λ i. ap (λ (x : ℕ). S.item x i) there ∙ part.items k i lt;
      }

  pub lands : (s : ℕ) → s < S.slots → Lands s
  lands s h = lands_by s h (S.owner s) refl

  same_owner : (s t : ℕ) → s < S.slots → t < S.slots → (x y : Option DomainObject) → S.owner s ≡ x → S.owner t ≡ y → renamed_owner name x ≡ renamed_owner name y → x ≡ y
  same_owner s t hs ht None None es et e = refl
  same_owner s t hs ht None (Some q) es et e = absurd (cc (e))
  same_owner s t hs ht (Some p) None es et e = absurd (cc (e))
  same_owner s t hs ht (Some p) (Some q) es et e =
      let r = some_same (renamed_object name p) (renamed_object name q) e in
      let d : p.domain ≡ q.domain = r.0 in
      same_object p q d
      (n.apart p.domain p.number q.number (is.parts s p hs es).number (subst (λ (c : ℕ). q.number < S.count c) (sym d) (is.parts t q ht et).number) (r.1 ∙ ap (λ (c : ℕ). name c q.number) (sym d)))

  -- a slot comes from one slot, and goes to one
  pub one_source : (s t r : ℕ) → s < S.slots → t < S.slots → IsRenamedSlot S name s r → IsRenamedSlot S name t r → s ≡ t
  one_source s t r hs ht a b =
      is.one_slot s t hs ht (same_owner s t hs ht (S.owner s) (S.owner t) refl refl (sym a.owner ∙ b.owner)) (same_then (S.place s) (S.place r) (S.place t) a.spot (same_back (S.place t) (S.place r) b.spot))

  pub one_target : (s t : ℕ) → s < S.slots → t < S.slots → IsRenamedSlot S name s t → t ≡ on_slot S name s
  one_target s t hs ht a =
      let l = lands s hs in
      is.one_slot t (on_slot S name s) ht l.inside (a.owner ∙ sym l.slot.owner) (same_then (S.place t) (S.place s) (S.place (on_slot S name s)) (same_back (S.place s) (S.place t) a.spot) l.slot.spot)

  pub slots_apart : (s t : ℕ) → s < S.slots → t < S.slots → on_slot S name s ≡ on_slot S name t → s ≡ t
  slots_apart s t hs ht e = one_source s t (on_slot S name s) hs ht (lands s hs).slot (subst (IsRenamedSlot S name t) (sym e) (lands t ht).slot)

  -- ---- where an index goes

  pub record Turns (s i : ℕ) (x : Option DomainObject) : Type 0 where
    pub within : on_index S name s i < S.size s
    pub renamed : IsRenamedIndex S name x s i (on_slot S name s) (on_index S name s i)

  turns_by : (s i : ℕ) → s < S.slots → i < S.size s → (x : Option DomainObject) → S.object_at s i ≡ x → Turns s i x
  turns_by s i hs hi None e = let same : on_index S name s i ≡ i = rw e refl in record { within = subst (λ (x : ℕ). x < S.size s) (sym same) hi; renamed = same }
  turns_by s i hs hi (Some o) e =
      let b : IsBlock S s i o = is.blocks s i o hs hi e in
      let k : ℕ = name o.domain o.number in
      let lt : k < S.count o.domain = n.within o.domain o.number b.number in
      let at : on_index S name s i ≡ i - o.number + k = rw e (omega arith) in
      let l = lands s hs in
      record {
        within = subst (λ (x : ℕ). x < S.size s) (sym at) (b.inside k lt);
        renamed = (l.objects (on_index S name s i) ∙ (ap (S.object_at s) at ∙ b.all k lt), l.items (on_index S name s i) ∙ (ap (S.item s) at ∙ b.items k lt));
      }

  pub turns : (s i : ℕ) → s < S.slots → i < S.size s → Turns s i (S.object_at s i)
  turns s i hs hi = turns_by s i hs hi (S.object_at s i) refl

  index_by : (s i j : ℕ) → s < S.slots → i < S.size s → j < S.size (on_slot S name s) → (x : Option DomainObject) → S.object_at s i ≡ x → IsRenamedIndex S name x s i (on_slot S name s) j → j ≡ on_index S name s i
  index_by s i j hs hi hj None e r = r ∙ sym (turns_by s i hs hi None e).renamed
  index_by s i j hs hi hj (Some o) e r =
      let l = lands s hs in
      let t : Turns s i (Some o) = turns_by s i hs hi (Some o) e in
      is.one_index (on_slot S name s) j (on_index S name s i) (renamed_object name o) l.inside hj (subst (λ (m : ℕ). on_index S name s i < m) (sym l.size) t.within) r.0 t.renamed.0 (r.1 ∙ sym t.renamed.1)

  pub one_index : (s i j : ℕ) → s < S.slots → i < S.size s → j < S.size (on_slot S name s) → IsRenamedIndex S name (S.object_at s i) s i (on_slot S name s) j → j ≡ on_index S name s i
  one_index s i j hs hi hj r = index_by s i j hs hi hj (S.object_at s i) refl r

  -- ---- vectors

  pub moves : (v w : List ℕ) → IsVector S v → IsRenamed S name v w → IsMoved S name v w
  moves v w iv r = record {
    vector = r.vector;
    values = λ s h.
        let l = lands s h in
        one_index s (get_or v s 0) (get_or w (on_slot S name s) 0) h (iv.within s h) (r.vector.within (on_slot S name s) l.inside) (r.values s (on_slot S name s) h l.inside l.slot);
  }

  pub renames : (v w : List ℕ) → IsVector S v → IsMoved S name v w → IsRenamed S name v w
  renames v w iv m = record {
    vector = m.vector;
    values = λ s t hs ht a.
        subst (λ (x : ℕ). IsRenamedIndex S name (S.object_at s (get_or v s 0)) s (get_or v s 0) x (get_or w x 0)) (sym (one_target s t hs ht a))
        (subst (IsRenamedIndex S name (S.object_at s (get_or v s 0)) s (get_or v s 0) (on_slot S name s)) (sym (m.values s hs)) (turns s (get_or v s 0) hs (iv.within s hs)).renamed);
  }

  -- ---- orders

  pub orders_moved : (ss ts : List ℕ) → AllBelow S.slots ss → AllBelow S.slots ts → AreRenamedSlots S name ss ts → ts ≡ map (on_slot S name) ss
  orders_moved [] [] b c a = refl
  orders_moved [] (t ∷ ts) b c a = absurd a
  orders_moved (s ∷ ss) [] b c a = absurd a
  orders_moved (s ∷ ss) (t ∷ ts) b c a = ap (λ (x : ℕ). x ∷ ts) (one_target s t b.0 c.0 a.0) ∙ ap (λ (l : List ℕ). on_slot S name s ∷ l) (orders_moved ss ts b.1 c.1 a.1)

  pub moved_orders : (ss : List ℕ) → AllBelow S.slots ss → AreRenamedSlots S name ss (map (on_slot S name) ss)
  moved_orders [] b = tt
  moved_orders (s ∷ ss) b = ((lands s b.0).slot, moved_orders ss b.1)

  pub reading_moves : {M : Type 0} (order : List ℕ → List ℕ) (mark : List ℕ → M) → IsReading S order mark → (v w : List ℕ) → IsVector S v → IsRenamed S name v w → order w ≡ map (on_slot S name) (order v)
  reading_moves order mark reading v w iv r = orders_moved (order v) (order w) (reading.below v iv) (reading.below w r.vector) (reading.renames name v w n iv r)

pub renaming : RenamingLaw
renaming S is name n v w iv = record { moves = moves S is name n v w iv; renames = renames S is name n v w iv }
