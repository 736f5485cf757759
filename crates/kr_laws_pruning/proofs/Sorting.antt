-- Ascending lists of entries: the result of sorting, which its entries determine.
use Rattle.std.proofs.Common.{◌≡◌, ℕ, ◌⊎◌, inl, inr, List, [], ◌∷◌, refl, sym, ap, ◌∙◌, subst, true, false}
use Rattle.std.proofs.lemmas.Bool.{cases_Bool}
use Rattle.kr_base.specs.declared.entry.Entry.{Entry}
use Rattle.kr_base.specs.Cuts.{Before, is_before}
use Rattle.kr_base.specs.Entries.{AllAfter, Ascends, IsAmong}
use Rattle.kr_mean.specs.Entries.{insert, sorted}
use Rattle.kr_laws_pruning.proofs.Membership.{Has}
use Rattle.kr_laws_pruning.proofs.CutOrder.{before_not_self, before_trans, connected, tested}

pub among_after : {R : Type 0} (k : List ℕ) (e : Entry R) (es : List (Entry R)) → AllAfter k es → IsAmong e es → Before k e.key
among_after k e [] a m = absurd m
among_after k e (f ∷ es) a (inl h) = subst (λ (x : Entry _). Before k x.key) h a.0
among_after k e (f ∷ es) a (inr h) = among_after k e es a.1 h

pub all_after : {R : Type 0} (j k : List ℕ) (es : List (Entry R)) → Before j k → AllAfter k es → AllAfter j es
all_after j k [] b a = tt
all_after j k (e ∷ es) b a = (before_trans j k e.key b a.0, all_after j k es b a.1)

-- ascending lists with the same entries are equal
pub same_entries : {R : Type 0} (es fs : List (Entry R)) → Ascends es → Ascends fs → ((e : Entry R) → IsAmong e es → IsAmong e fs) → ((e : Entry R) → IsAmong e fs → IsAmong e es) → es ≡ fs
same_entries [] [] a b p q = refl
same_entries [] (f ∷ fs) a b p q = absurd (q f (inl refl))
same_entries (e ∷ es) [] a b p q = absurd (p e (inl refl))
same_entries {R} (e ∷ es) (f ∷ fs) a b p q = ap (λ (x : Entry R). x ∷ es) first ∙ ap (λ (l : List (Entry R)). f ∷ l) (same_entries es fs a.1 b.1 (λ x m. down x m (p x (inr m))) (λ x m. up x m (q x (inr m))))
  where
    head : IsAmong e (f ∷ fs) → IsAmong f (e ∷ es) → e ≡ f
    head (inl h) y = sym h
    head (inr h) (inl y) = y
    head (inr h) (inr y) = absurd (before_not_self e.key (before_trans e.key f.key e.key (among_after e.key f es a.0 y) (among_after f.key e fs b.0 h)))

    first : e ≡ f
    first = head (p e (inl refl)) (q f (inl refl))

    down : (x : Entry R) → IsAmong x es → IsAmong x (f ∷ fs) → IsAmong x fs
    down x m (inr h) = h
    down x m (inl h) = absurd (before_not_self e.key (subst (λ (y : Entry R). Before e.key y.key) (sym (first ∙ h)) (among_after e.key x es a.0 m)))

    up : (x : Entry R) → IsAmong x fs → IsAmong x (e ∷ es) → IsAmong x es
    up x m (inr h) = h
    up x m (inl h) = absurd (before_not_self f.key (subst (λ (y : Entry R). Before f.key y.key) (sym (sym first ∙ h)) (among_after f.key x fs b.0 m)))

-- the sorted list
after_insert : {R : Type 0} (k : List ℕ) (e : Entry R) (es : List (Entry R)) → Before k e.key → AllAfter k es → AllAfter k (insert e es)
after_insert k e [] b a = (b, tt)
after_insert {R} k e (f ∷ es) b a = go (tested e.key f.key) (tested f.key e.key) (after_insert k e es b a.1)
  where
    go : (Before e.key f.key × (is_before e.key f.key ≡ true)) ⊎ ((Before e.key f.key → ⊥) × (is_before e.key f.key ≡ false)) → (Before f.key e.key × (is_before f.key e.key ≡ true)) ⊎ ((Before f.key e.key → ⊥) × (is_before f.key e.key ≡ false)) → AllAfter k (insert e es) → AllAfter k (insert e (f ∷ es))
    go (inl x) y r = rw x.1 (b, a)
    go (inr x) (inl y) r = rw (x.1, y.1) (a.0, r)
    go (inr x) (inr y) r = rw (x.1, y.1) a

ascends_insert : {R : Type 0} (e : Entry R) (es : List (Entry R)) → Ascends es → Ascends (insert e es)
ascends_insert e [] a = (tt, tt)
ascends_insert {R} e (f ∷ es) a = go (tested e.key f.key) (tested f.key e.key) (ascends_insert e es a.1)
  where
    go : (Before e.key f.key × (is_before e.key f.key ≡ true)) ⊎ ((Before e.key f.key → ⊥) × (is_before e.key f.key ≡ false)) → (Before f.key e.key × (is_before f.key e.key ≡ true)) ⊎ ((Before f.key e.key → ⊥) × (is_before f.key e.key ≡ false)) → Ascends (insert e es) → Ascends (insert e (f ∷ es))
    go (inl x) y r = rw x.1 ((x.0, all_after e.key f.key es x.0 a.0), a)
    go (inr x) (inl y) r = rw (x.1, y.1) (after_insert f.key e es y.0 a.0, r)
    go (inr x) (inr y) r = rw (x.1, y.1) a

pub ascends_sorted : {R : Type 0} (es : List (Entry R)) → Ascends (sorted es)
ascends_sorted [] = tt
ascends_sorted (e ∷ es) = ascends_insert e (sorted es) (ascends_sorted es)

among_insert : {R : Type 0} (x e : Entry R) (es : List (Entry R)) → IsAmong x (insert e es) → (e ≡ x) ⊎ IsAmong x es
among_insert x e [] (inl h) = inl h
among_insert x e [] (inr h) = absurd h
among_insert {R} x e (f ∷ es) h = go (cases_Bool (is_before e.key f.key)) (cases_Bool (is_before f.key e.key)) h (among_insert x e es)
  where
    pick : (e ≡ x) ⊎ ((f ≡ x) ⊎ IsAmong x es) → (e ≡ x) ⊎ IsAmong x (f ∷ es)
    pick h' = h'

    deep : (f ≡ x) ⊎ IsAmong x (insert e es) → (IsAmong x (insert e es) → (e ≡ x) ⊎ IsAmong x es) → (e ≡ x) ⊎ IsAmong x (f ∷ es)
    deep (inl q) r = inr (inl q)
    deep (inr q) r = elim (r q) [ inl a ↦ inl a | inr b ↦ inr (inr b) ]

    go : (is_before e.key f.key ≡ true) ⊎ (is_before e.key f.key ≡ false) → (is_before f.key e.key ≡ true) ⊎ (is_before f.key e.key ≡ false) → IsAmong x (insert e (f ∷ es)) → (IsAmong x (insert e es) → (e ≡ x) ⊎ IsAmong x es) → (e ≡ x) ⊎ IsAmong x (f ∷ es)
    go (inl t) y k r = pick (rw t at k)
    go (inr t) (inl u) k r = deep (rw (t, u) at k) r
    go (inr t) (inr u) k r = inr (rw (t, u) at k)

pub among_sorted : {R : Type 0} (x : Entry R) (es : List (Entry R)) → IsAmong x (sorted es) → Has x es
among_sorted x [] h = absurd h
among_sorted x (e ∷ es) h = elim (among_insert x e (sorted es) h) [ inl a ↦ inl a | inr b ↦ inr (among_sorted x es b) ]

stays : {R : Type 0} (x e : Entry R) (es : List (Entry R)) → IsAmong x es → IsAmong x (insert e es)
stays x e [] h = absurd h
stays {R} x e (f ∷ es) h = go (cases_Bool (is_before e.key f.key)) (cases_Bool (is_before f.key e.key)) h (stays x e es)
  where
    deep : (f ≡ x) ⊎ IsAmong x es → (IsAmong x es → IsAmong x (insert e es)) → IsAmong x (f ∷ insert e es)
    deep (inl q) r = inl q
    deep (inr q) r = inr (r q)

    go : (is_before e.key f.key ≡ true) ⊎ (is_before e.key f.key ≡ false) → (is_before f.key e.key ≡ true) ⊎ (is_before f.key e.key ≡ false) → IsAmong x (f ∷ es) → (IsAmong x es → IsAmong x (insert e es)) → IsAmong x (insert e (f ∷ es))
    go (inl t) y k r = rw t (inr k)
    go (inr t) (inl u) k r = rw (t, u) (deep k r)
    go (inr t) (inr u) k r = rw (t, u) k

comes : {R : Type 0} (e : Entry R) (es : List (Entry R)) → (f : Entry R) × IsAmong f (insert e es) × (f.key ≡ e.key)
comes e [] = (e, inl refl, refl)
comes {R} e (f ∷ es) = go (tested e.key f.key) (tested f.key e.key) (comes e es)
  where
    go : (Before e.key f.key × (is_before e.key f.key ≡ true)) ⊎ ((Before e.key f.key → ⊥) × (is_before e.key f.key ≡ false)) → (Before f.key e.key × (is_before f.key e.key ≡ true)) ⊎ ((Before f.key e.key → ⊥) × (is_before f.key e.key ≡ false)) → ((g : Entry R) × IsAmong g (insert e es) × (g.key ≡ e.key)) → (g : Entry R) × IsAmong g (insert e (f ∷ es)) × (g.key ≡ e.key)
    go (inl x) y r = (e, rw x.1 (inl refl), refl)
    go (inr x) (inl y) r = (r.0, rw (x.1, y.1) (inr r.1), r.2)
    go (inr x) (inr y) r = (f, rw (x.1, y.1) (inl refl), connected f.key e.key y.0 x.0)

pub sorted_has : {R : Type 0} (x : Entry R) (es : List (Entry R)) → Has x es → (f : Entry R) × IsAmong f (sorted es) × (f.key ≡ x.key)
sorted_has x [] h = absurd h
sorted_has {R} x (e ∷ es) (inl h) = subst (λ (y : Entry R). (f : Entry R) × IsAmong f (sorted (e ∷ es)) × (f.key ≡ y.key)) h (comes e (sorted es))
sorted_has x (e ∷ es) (inr h) = let r = sorted_has x es h in (r.0, stays r.0 e (sorted es) r.1, r.2)
