-- A vector is least exactly where each index along its order is allowed.
use Rattle.std.proofs.Common.{◌≡◌, ℕ, zero, suc, ◌+◌, ◌-◌, ◌*◌, ◌<◌, ◌≤◌, ◌⊎◌, inl, inr, List, [], ◌∷◌, ◌++◌, Option, Some, None, refl, sym, ap, ◌∙◌, subst, get_or, arith}
use Rattle.std.specs.Prelude.{map}
use Rattle.kr_mean.specs.Problem.{DomainObject}
use Rattle.kr_mean.specs.Space.{Space, IsVector, IsRenaming, IsRenamed}
use Rattle.kr_mean.specs.Blocks.{IsBlock, IsSpace, IsMoved, on_slot, on_index}
use Rattle.kr_base.specs.Cuts.{Before}
use Rattle.kr_mean.specs.Readings.{AllBelow, IsReading}
use Rattle.kr_mean.specs.Runs.{key_along}
use Rattle.kr_mean.specs.Choices.{IsUsed, MayStand, AllowedAlong}
use Rattle.kr_mean.specs.Isomorphism.{IsLeast}
use Rattle.kr_iso.specs.Laws.{ChoiceLaw}
use Rattle.kr_iso.specs.Swap.{swap}
use Rattle.kr_iso.proofs.Moves.{moves, renames, reading_moves}
use Rattle.kr_iso.proofs.Swaps.{swap_second, swap_others, swap_renames, swapped, swapped_is}
use Rattle.std.proofs.lemmas.Bool.{cases_eq, cases_lt}

-- the indices that a renaming gives along an order
abbrev pub renamed_along : Space → (ℕ → ℕ → ℕ) → List ℕ → List ℕ → List ℕ
renamed_along S name v order = map (λ s. on_index S name s (get_or v s 0)) order

-- the key of a renamed vector
pub key_renamed : (S : Space) (name : ℕ → ℕ → ℕ) (v w : List ℕ) (order : List ℕ) → AllBelow S.slots order → IsMoved S name v w → key_along w (map (on_slot S name) order) ≡ renamed_along S name v order
key_renamed S name v w [] below r = refl
key_renamed S name v w (s ∷ ss) below r =
    ap (λ (x : ℕ). x ∷ key_along w (map (on_slot S name) ss)) (r.values s below.0) ∙ ap (λ (l : List ℕ). on_index S name s (get_or v s 0) ∷ l) (key_renamed S name v w ss below.1 r)

-- the objects used after one more step
pub split_used : (S : Space) (path : List (ℕ × ℕ)) (p : ℕ × ℕ) (c k : ℕ) → IsUsed S (path ++ p ∷ []) c k → IsUsed S path c k ⊎ (S.object_at p.0 p.1 ≡ Some (record { domain = c; number = k }))
split_used S [] p c k (inl h) = inr h
split_used S [] p c k (inr h) = inl h
split_used S (q ∷ path) p c k (inl h) = inl (inl h)
split_used S (q ∷ path) p c k (inr h) = elim (split_used S path p c k h) [ inl a ↦ inl (inr a) | inr b ↦ inr b ]

pub used_more : (S : Space) (path : List (ℕ × ℕ)) (p : ℕ × ℕ) (c k : ℕ) → IsUsed S path c k → IsUsed S (path ++ p ∷ []) c k
used_more S (q ∷ path) p c k (inl h) = inl h
used_more S (q ∷ path) p c k (inr h) = inr (used_more S path p c k h)
used_more S [] p c k h = absurd h

pub used_last : (S : Space) (path : List (ℕ × ℕ)) (p : ℕ × ℕ) (c k : ℕ) → S.object_at p.0 p.1 ≡ Some (record { domain = c; number = k }) → IsUsed S (path ++ p ∷ []) c k
used_last S [] p c k h = inl h
used_last S (q ∷ path) p c k h = inr (used_last S path p c k h)

-- a renaming leaves the objects on the path alone
abbrev pub Fixes : Space → (ℕ → ℕ → ℕ) → List (ℕ × ℕ) → Type 0
Fixes S name path = (c k : ℕ) → IsUsed S path c k → name c k ≡ k

pub record Kept (S : Space) (name : ℕ → ℕ → ℕ) (path : List (ℕ × ℕ)) (s i : ℕ) : Type 0 where
  pub index : on_index S name s i ≡ i
  pub fixes : Fixes S name (path ++ (s, i) ∷ [])

same_number : (o : DomainObject) (c k : ℕ) (x : Option DomainObject) → x ≡ Some o → x ≡ Some (record { domain = c; number = k }) → (o.domain ≡ c) × (o.number ≡ k)
same_number o c k x e f = let g : o ≡ record { domain = c; number = k } = cc in (ap (λ (q : DomainObject). q.domain) g, ap (λ (q : DomainObject). q.number) g)

pub keeps : (S : Space) (name : ℕ → ℕ → ℕ) (path : List (ℕ × ℕ)) (s i : ℕ) (o : DomainObject) → S.object_at s i ≡ Some o → IsBlock S s i o → Fixes S name path → name o.domain o.number ≡ o.number → Kept S name path s i
keeps S name path s i o e block fixes same = record {
  index = rw e (rw same (let h = block.room in omega arith));
  fixes = λ c k u. elim (split_used S path (s, i) c k u) [ inr f ↦ (let p = same_number o c k _ e f in subst (λ (x : ℕ). name x k ≡ k) p.0 (subst (λ (x : ℕ). name o.domain x ≡ x) p.1 same)) | inl u' ↦ fixes c k u' ];
}

pub keeps_plain : (S : Space) (name : ℕ → ℕ → ℕ) (path : List (ℕ × ℕ)) (s i : ℕ) → S.object_at s i ≡ None → Fixes S name path → Kept S name path s i
keeps_plain S name path s i e fixes = record {
  index = rw e refl;
  fixes = λ c k u. elim (split_used S path (s, i) c k u) [ inr f ↦ absurd (cc) | inl u' ↦ fixes c k u' ];
}

-- where an allowed index goes: not below, and where it stays the path stays too
allowed_goes : (S : Space) (is : IsSpace S) (name : ℕ → ℕ → ℕ) (n : IsRenaming S name) (path : List (ℕ × ℕ)) (s i : ℕ) → s < S.slots → i < S.size s → Fixes S name path → (x : Option DomainObject) → S.object_at s i ≡ x → MayStand S path x → (on_index S name s i < i) ⊎ (on_index S name s i ≡ i) → Kept S name path s i
allowed_goes S is name n path s i hs hi fixes None e may goes = keeps_plain S name path s i e fixes
allowed_goes S is name n path s i hs hi fixes (Some o) e (inl used) goes = keeps S name path s i o e (is.blocks s i o hs hi e) fixes (fixes o.domain o.number used)
allowed_goes S is name n path s i hs hi fixes (Some o) e (inr smaller) goes =
    keeps S name path s i o e block fixes (same (name o.domain o.number) refl (lower goes))
  where
    block : IsBlock S s i o
    block = is.blocks s i o hs hi e

    lower : (on_index S name s i < i) ⊎ (on_index S name s i ≡ i) → name o.domain o.number ≤ o.number
    lower (inl h) = let g : i - o.number * 1 + name o.domain o.number * 1 < i = rw e at h in let r = block.room in omega arith
    lower (inr h) = let g : i - o.number * 1 + name o.domain o.number * 1 ≡ i = rw e at h in let r = block.room in omega arith

    same : (j : ℕ) → name o.domain o.number ≡ j → j ≤ o.number → j ≡ o.number
    same j ej le = go (cases j o.number le)
      where
        cases : (a b : ℕ) → a ≤ b → (a < b) ⊎ (a ≡ b)
        cases a b h = grind arith

        go : (j < o.number) ⊎ (j ≡ o.number) → j ≡ o.number
        go (inr h) = h
        go (inl h) = n.apart o.domain j o.number (let b = block.number in omega arith) block.number (fixes o.domain j (smaller j h) ∙ sym ej)

pub no_smaller : (S : Space) (is : IsSpace S) (name : ℕ → ℕ → ℕ) (n : IsRenaming S name) (v : List ℕ) → IsVector S v → (path : List (ℕ × ℕ)) (order : List ℕ) → AllBelow S.slots order → Fixes S name path → AllowedAlong S v path order → Before (renamed_along S name v order) (key_along v order) → ⊥
no_smaller S is name n v iv path [] below fixes allowed b = b
no_smaller S is name n v iv path (s ∷ ss) below fixes allowed (inl h) =
    let i = get_or v s 0 in
    let k : Kept S name path s i = allowed_goes S is name n path s i below.0 (iv.within s below.0) fixes (S.object_at s i) refl allowed.0 (inl h) in
    absurd (let e = k.index in omega arith)
no_smaller S is name n v iv path (s ∷ ss) below fixes allowed (inr h) =
    let i = get_or v s 0 in
    let k : Kept S name path s i = allowed_goes S is name n path s i below.0 (iv.within s below.0) fixes (S.object_at s i) refl allowed.0 (inr h.0) in
    no_smaller S is name n v iv (path ++ (s, i) ∷ []) ss below.1 k.fixes allowed.1 h.1

pub allowed_is_least : {M : Type 0} (S : Space) (order : List ℕ → List ℕ) (mark : List ℕ → M) → IsSpace S → IsReading S order mark → (v : List ℕ) → IsVector S v → AllowedAlong S v [] (order v) → IsLeast S order v
allowed_is_least S order mark is reading v iv allowed name w n r b =
    let e : key_along w (order w) ≡ renamed_along S name v (order v) = ap (key_along w) (reading_moves S is name n order mark reading v w iv r) ∙ key_renamed S name v w (order v) (reading.below v iv) (moves S is name n v w iv r) in
    no_smaller S is name n v iv [] (order v) (reading.below v iv) (λ c k u. absurd u) allowed (subst (λ (k : List ℕ). Before k (key_along v (order v))) e b)

-- whether an object is a given one
dec_obj : (x : Option DomainObject) (c k : ℕ) → (x ≡ Some (record { domain = c; number = k })) ⊎ (x ≡ Some (record { domain = c; number = k }) → ⊥)
dec_obj None c k = inr (λ e. cc)
dec_obj (Some o) c k = go (cases_eq o.domain c) (cases_eq o.number k)
  where
    go : (o.domain ≡ c) ⊎ (o.domain ≡ c → ⊥) → (o.number ≡ k) ⊎ (o.number ≡ k → ⊥) → (Some o ≡ Some (record { domain = c; number = k })) ⊎ (Some o ≡ Some (record { domain = c; number = k }) → ⊥)
    go (inl p) (inl q) = inl (ap (λ (x : ℕ). Some (record { domain = x; number = o.number })) p ∙ ap (λ (x : ℕ). Some (record { domain = c; number = x })) q)
    go (inr p) q = inr (λ e. p (same_number o c k (Some o) refl e).0)
    go (inl p) (inr q) = inr (λ e. q (same_number o c k (Some o) refl e).1)

dec_used : (S : Space) (path : List (ℕ × ℕ)) (c k : ℕ) → IsUsed S path c k ⊎ (IsUsed S path c k → ⊥)
dec_used S [] c k = inr (λ u. u)
dec_used S (p ∷ path) c k = go (dec_obj (S.object_at p.0 p.1) c k) (dec_used S path c k)
  where
    go : (S.object_at p.0 p.1 ≡ Some (record { domain = c; number = k })) ⊎ (S.object_at p.0 p.1 ≡ Some (record { domain = c; number = k }) → ⊥) → IsUsed S path c k ⊎ (IsUsed S path c k → ⊥) → IsUsed S (p ∷ path) c k ⊎ (IsUsed S (p ∷ path) c k → ⊥)
    go (inl h) u = inl (inl h)
    go (inr h) (inl u) = inl (inr u)
    go (inr h) (inr u) = inr (λ x. elim x [ inl a ↦ h a | inr b ↦ u b ])

-- an unused object that is numbered before another
pub record Unused (S : Space) (path : List (ℕ × ℕ)) (c n : ℕ) : Type 0 where
  pub number : ℕ
  pub before : number < n
  pub unused : IsUsed S path c number → ⊥

first_unused : (S : Space) (path : List (ℕ × ℕ)) (c n : ℕ) → ((k : ℕ) → k < n → IsUsed S path c k) ⊎ Unused S path c n
first_unused S path c zero = inl (λ k h. absurd (omega arith))
first_unused S path c (suc n) = go (first_unused S path c n) (dec_used S path c n)
  where
    go : ((k : ℕ) → k < n → IsUsed S path c k) ⊎ Unused S path c n → IsUsed S path c n ⊎ (IsUsed S path c n → ⊥) → ((k : ℕ) → k < suc n → IsUsed S path c k) ⊎ Unused S path c (suc n)
    go (inr u) d = inr (record { number = u.number; before = (let h = u.before in omega arith); unused = u.unused })
    go (inl all) (inr u) = inr (record { number = n; before = omega arith; unused = u })
    go (inl all) (inl u) = inl (λ k h. elim (cases_lt k n) [ inl lt ↦ all k lt | inr ge ↦ (let e : n ≡ k = omega arith in subst (λ (x : ℕ). IsUsed S path c x) e u) ])

-- an object that isn't allowed, and one before it in its class domain, both unused
pub record Skips (S : Space) (path : List (ℕ × ℕ)) (c k : ℕ) : Type 0 where
  pub skipped : Unused S path c k
  pub unused : IsUsed S path c k → ⊥

dec_may : (S : Space) (path : List (ℕ × ℕ)) (x : Option DomainObject) → MayStand S path x ⊎ ((o : DomainObject) × (x ≡ Some o) × Skips S path o.domain o.number)
dec_may S path None = inl tt
dec_may S path (Some o) = go (dec_used S path o.domain o.number) (first_unused S path o.domain o.number)
  where
    go : IsUsed S path o.domain o.number ⊎ (IsUsed S path o.domain o.number → ⊥) → ((k : ℕ) → k < o.number → IsUsed S path o.domain k) ⊎ Unused S path o.domain o.number → MayStand S path (Some o) ⊎ ((p : DomainObject) × (Some o ≡ Some p) × Skips S path p.domain p.number)
    go (inl u) y = inl (inl u)
    go (inr u) (inl all) = inl (inr all)
    go (inr u) (inr n) = inr (o, refl, record { skipped = n; unused = u })

-- a swap that gives a smaller key
pub record Smaller (S : Space) (v : List ℕ) (path : List (ℕ × ℕ)) (order : List ℕ) : Type 0 where
  pub domain : ℕ
  pub first : ℕ
  pub second : ℕ
  pub apart : first < second
  pub within : second < S.count domain
  pub first_unused : IsUsed S path domain first → ⊥
  pub second_unused : IsUsed S path domain second → ⊥
  pub smaller : Before (renamed_along S (swap domain first second) v order) (key_along v order)

least_choice : (S : Space) (is : IsSpace S) (v : List ℕ) → IsVector S v → (path : List (ℕ × ℕ)) (order : List ℕ) → AllBelow S.slots order → AllowedAlong S v path order ⊎ Smaller S v path order
least_choice S is v iv path [] below = inl tt
least_choice S is v iv path (s ∷ ss) below = go (dec_may S path (S.object_at s (get_or v s 0))) (least_choice S is v iv (path ++ (s, get_or v s 0) ∷ []) ss below.1)
  where
    stays : (x : Option DomainObject) → S.object_at s (get_or v s 0) ≡ x → (m : Smaller S v (path ++ (s, get_or v s 0) ∷ []) ss) → on_index S (swap m.domain m.first m.second) s (get_or v s 0) ≡ get_or v s 0
    stays None e m = rw e refl
    stays (Some o) e m =
        let b : IsBlock S s (get_or v s 0) o = is.blocks s (get_or v s 0) o below.0 (iv.within s below.0) e in
        let same : swap m.domain m.first m.second o.domain o.number ≡ o.number = swap_others m.domain m.first m.second o.domain o.number
        (λ p q. m.first_unused (used_last S path (s, get_or v s 0) m.domain m.first (e ∙ ap (λ (x : ℕ). Some (record { domain = x; number = o.number })) p ∙ ap (λ (x : ℕ). Some (record { domain = m.domain; number = x })) q)))
        (λ p q. m.second_unused (used_last S path (s, get_or v s 0) m.domain m.second (e ∙ ap (λ (x : ℕ). Some (record { domain = x; number = o.number })) p ∙ ap (λ (x : ℕ). Some (record { domain = m.domain; number = x })) q))) in
        rw e (rw same (let h = b.room in omega arith))

    found : (o : DomainObject) → S.object_at s (get_or v s 0) ≡ Some o → (k : Skips S path o.domain o.number) → Smaller S v path (s ∷ ss)
    found o e k =
        let b : IsBlock S s (get_or v s 0) o = is.blocks s (get_or v s 0) o below.0 (iv.within s below.0) e in
        record {
          domain = o.domain;
          first = k.skipped.number;
          second = o.number;
          apart = k.skipped.before;
          within = b.number;
          first_unused = k.skipped.unused;
          second_unused = k.unused;
          smaller = inl (rw e (rw (swap_second o.domain k.skipped.number o.number) (let r = b.room in let a = k.skipped.before in omega arith)));
        }

    go : MayStand S path (S.object_at s (get_or v s 0)) ⊎ ((o : DomainObject) × (S.object_at s (get_or v s 0) ≡ Some o) × Skips S path o.domain o.number) → AllowedAlong S v (path ++ (s, get_or v s 0) ∷ []) ss ⊎ Smaller S v (path ++ (s, get_or v s 0) ∷ []) ss → AllowedAlong S v path (s ∷ ss) ⊎ Smaller S v path (s ∷ ss)
    go (inr x) y = inr (found x.0 x.1 x.2)
    go (inl a) (inl r) = inl (a, r)
    go (inl a) (inr m) = inr (record {
      domain = m.domain;
      first = m.first;
      second = m.second;
      apart = m.apart;
      within = m.within;
      first_unused = λ u. m.first_unused (used_more S path (s, get_or v s 0) m.domain m.first u);
      second_unused = λ u. m.second_unused (used_more S path (s, get_or v s 0) m.domain m.second u);
      smaller = inr (stays (S.object_at s (get_or v s 0)) refl m, m.smaller);
    })

pub least_is_allowed : {M : Type 0} (S : Space) (order : List ℕ → List ℕ) (mark : List ℕ → M) → IsSpace S → IsReading S order mark → (v : List ℕ) → IsVector S v → IsLeast S order v → AllowedAlong S v [] (order v)
least_is_allowed S order mark is reading v iv least = go (least_choice S is v iv [] (order v) (reading.below v iv))
  where
    go : AllowedAlong S v [] (order v) ⊎ Smaller S v [] (order v) → AllowedAlong S v [] (order v)
    go (inl a) = a
    go (inr m) =
        let name : ℕ → ℕ → ℕ = swap m.domain m.first m.second in
        let first_in : m.first < S.count m.domain = (let a = m.apart in let b = m.within in omega arith) in
        let w : List ℕ = swapped S m.domain m.first m.second v in
        let n : IsRenaming S name = swap_renames S m.domain m.first m.second first_in m.within in
        let moved : IsMoved S name v w = swapped_is S is m.domain m.first m.second first_in m.within v iv in
        let r : IsRenamed S name v w = renames S is name n v w iv moved in
        let e : key_along w (order w) ≡ renamed_along S name v (order v) = ap (key_along w) (reading_moves S is name n order mark reading v w iv r) ∙ key_renamed S name v w (order v) (reading.below v iv) moved in
        absurd (least name w n r (subst (λ (k : List ℕ). Before k (key_along v (order v))) (sym e) m.smaller))

pub choice : {M : Type 0} → ChoiceLaw M
choice {M} S order mark is reading v iv = (least_is_allowed S order mark is reading v iv, allowed_is_least S order mark is reading v iv)
