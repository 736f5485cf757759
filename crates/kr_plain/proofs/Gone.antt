-- Which candidates were tried, and what was kept of them.
use Rattle.std.proofs.Common.{◌≡◌, ℕ, zero, suc, ◌+◌, ◌<◌, ◌≤◌, ◌⊎◌, inl, inr, List, [], ◌∷◌, Bool, true, false, length, get_or, replicate, refl, sym, ap, ◌∙◌, subst, arith}
use Rattle.std.specs.Prelude.{filter, if◌then◌else◌}
use Rattle.kr_base.specs.declared.span.Bound.{Bound}
use Rattle.kr_base.specs.declared.entry.Mark.{Mark}
use Rattle.kr_base.specs.declared.entry.Entry.{Entry}
use Rattle.kr_base.specs.Cuts.{Before, is_before}
use Rattle.kr_base.proofs.Orders.{before_from_test}
use Rattle.kr_mean.specs.Space.{Space, IsVector}
use Rattle.kr_mean.specs.Blocks.{IsSpace}
use Rattle.kr_mean.specs.Entries.{entry_of, insert, sorted, vectors}
use Rattle.kr_laws_pruning.proofs.CutOrder.{tested, connected, before_trans, before_not_self, is_before_yes, is_before_no}
use Rattle.kr_laws_pruning.proofs.Listed.{vectors_have}
use Rattle.kr_laws_pruning.proofs.Membership.{Has}
use Rattle.kr_plain.specs.Plain.{IsKept, Tries, Follows}

-- the entries of those that were tried and kept
pub record Keeps {T : Type 0} (S : Space) (order : List ℕ → List ℕ) (mark : List ℕ → Mark T) (a b : Bound) (gone : List ℕ → Type 0) (found : List (Entry T)) : Type 0 where
  pub entries : List (Entry T)
  pub in_order : found ≡ sorted entries
  pub sound : (e : Entry T) → Has e entries → (v : List ℕ) × IsKept S order a b v × (entry_of order mark v ≡ e)
  pub complete : (v : List ℕ) → gone v → IsKept S order a b v → Has (entry_of order mark v) entries

-- all those before the current one were tried; or all were
abbrev pub Trying : {T : Type 0} → Space → (List ℕ → List ℕ) → (List ℕ → Mark T) → Bound → Bound → Bool → List ℕ → List (Entry T) → Type 0
Trying S order mark a b true v found = IsVector S v × Keeps S order mark a b (λ u. Before u v) found
Trying S order mark a b false v found = Keeps S order mark a b (λ u. Unit {0}) found

-- how many are still to be tried
abbrev pub left_over : Space → Bool → List ℕ → ℕ
left_over S true v = length (filter (λ u. is_before v u) (vectors S)) + 1
left_over S false v = 0

-- ---- the beginning

abbrev pub zeros : ℕ → List ℕ
zeros n = replicate n 0

zeros_length : (n : ℕ) → length (zeros n) ≡ n
zeros_length zero = refl
zeros_length (suc n) = ap suc (zeros_length n)

zero_at : (n s : ℕ) → get_or (zeros n) s 0 ≡ 0
zero_at zero s = refl
zero_at (suc n) zero = refl
zero_at (suc n) (suc s) = zero_at n s

pub none_before : (u : List ℕ) (n : ℕ) → length u ≡ n → Before u (zeros n) → ⊥
none_before [] zero e b = b
none_before [] (suc n) e b = omega (arith, e)
none_before (x ∷ u) zero e b = b
none_before (x ∷ u) (suc n) e (inl h) = omega (arith, h)
none_before (x ∷ u) (suc n) e (inr h) = none_before u n (omega (arith, e)) h.1

pub starts : {T : Type 0} (S : Space) (order : List ℕ → List ℕ) (mark : List ℕ → Mark T) (a b : Bound) (v : List ℕ) → IsSpace S → v ≡ zeros S.slots → Trying S order mark a b true v []
starts S order mark a b v is e = (
  record {
    long = ap length e ∙ zeros_length S.slots;
    within = λ s h. let f = is.filled s h in let z : get_or v s 0 ≡ 0 = ap (λ (l : List ℕ). get_or l s 0) e ∙ zero_at S.slots s in omega (arith, f, z);
  },
  record {
    entries = [];
    in_order = refl;
    sound = λ f h. absurd h;
    complete = λ u h k. absurd (none_before u S.slots k.0.vector.long (subst (λ (l : List ℕ). Before u l) e h));
  },
)

-- ---- one candidate

module _ {T : Type 0} (S : Space) (order : List ℕ → List ℕ) (mark : List ℕ → Mark T) (a b : Bound) (v : List ℕ) where
  -- it was tried too
  pub tried : (old new : List (Entry T)) → Keeps S order mark a b (λ u. Before u v) old → Tries S order mark a b v old new → Keeps S order mark a b (λ u. Before v u → ⊥) new
  tried old new k (inl t) = record {
    entries = entry_of order mark v ∷ k.entries;
    in_order = t.1 ∙ ap (λ (l : List (Entry T)). insert (entry_of order mark v) l) k.in_order;
    sound = sound;
    complete = λ u n kept. complete u n kept (tested u v);
  }
    where
      sound : (e : Entry T) → (entry_of order mark v ≡ e) ⊎ Has e k.entries → (u : List ℕ) × IsKept S order a b u × (entry_of order mark u ≡ e)
      sound e (inl h) = (v, t.0, h)
      sound e (inr h) = k.sound e h

      complete : (u : List ℕ) → (Before v u → ⊥) → IsKept S order a b u → (Before u v × (is_before u v ≡ true)) ⊎ ((Before u v → ⊥) × (is_before u v ≡ false)) → (entry_of order mark v ≡ entry_of order mark u) ⊎ Has (entry_of order mark u) k.entries
      complete u n kept (inl l) = inr (k.complete u l.0 kept)
      complete u n kept (inr m) = inl (ap (λ (w : List ℕ). entry_of order mark w) (sym (connected u v m.0 n)))
  tried old new k (inr t) = record {
    entries = k.entries;
    in_order = t.1 ∙ k.in_order;
    sound = k.sound;
    complete = λ u n kept. complete u n kept (tested u v);
  }
    where
      complete : (u : List ℕ) → (Before v u → ⊥) → IsKept S order a b u → (Before u v × (is_before u v ≡ true)) ⊎ ((Before u v → ⊥) × (is_before u v ≡ false)) → Has (entry_of order mark u) k.entries
      complete u n kept (inl l) = k.complete u l.0 kept
      complete u n kept (inr m) = absurd (t.0 (subst (λ (w : List ℕ). IsKept S order a b w) (connected u v m.0 n) kept))

  -- the next one, or the end
  pub goes : (more : Bool) (w : List ℕ) (found : List (Entry T)) → Keeps S order mark a b (λ u. Before v u → ⊥) found → Follows S v more w → Trying S order mark a b more w found
  goes true w found k f = (
    f.0,
    record {
      entries = k.entries;
      in_order = k.in_order;
      sound = k.sound;
      complete = λ u h kept. k.complete u (λ l. f.2 u kept.0.vector l h) kept;
    },
  )
  goes false w found k f = record {
    entries = k.entries;
    in_order = k.in_order;
    sound = k.sound;
    complete = λ u h kept. k.complete u (f u kept.0.vector) kept;
  }

-- ---- fewer are left

fewer : {A : Type 0} (p q : A → Bool) (xs : List A) → ((x : A) → p x ≡ true → q x ≡ true) → length (filter p xs) ≤ length (filter q xs)
fewer p q [] h = omega arith
fewer {A} p q (x ∷ xs) h = go (p x) (q x) (h x) (fewer p q xs h)
  where
    go : (s t : Bool) → (s ≡ true → t ≡ true) → length (filter p xs) ≤ length (filter q xs) → length (if s then x ∷ filter p xs else filter p xs) ≤ length (if t then x ∷ filter q xs else filter q xs)
    go true true i r = omega (arith, r)
    go true false i r = absurd (let e = i refl in cc)
    go false true i r = omega (arith, r)
    go false false i r = r

less : {A : Type 0} (p q : A → Bool) (xs : List A) (y : A) → ((x : A) → p x ≡ true → q x ≡ true) → Has y xs → p y ≡ false → q y ≡ true → length (filter p xs) < length (filter q xs)
less p q [] y h m fails holds = absurd m
less {A} p q (x ∷ xs) y h (inl e) fails holds =
    let f : p x ≡ false = ap p e ∙ fails in
    let t : q x ≡ true = ap q e ∙ holds in
    let r : length (filter p xs) ≤ length (filter q xs) = fewer p q xs h in
    rw (f, t) (omega (arith, r))
less {A} p q (x ∷ xs) y h (inr m) fails holds = go (p x) (q x) (h x) (less p q xs y h m fails holds)
  where
    go : (s t : Bool) → (s ≡ true → t ≡ true) → length (filter p xs) < length (filter q xs) → length (if s then x ∷ filter p xs else filter p xs) < length (if t then x ∷ filter q xs else filter q xs)
    go true true i r = omega (arith, r)
    go true false i r = absurd (let e = i refl in cc)
    go false true i r = omega (arith, r)
    go false false i r = r

pub fewer_left : (S : Space) (v : List ℕ) (more : Bool) (w : List ℕ) → Follows S v more w → left_over S more w < left_over S true v
fewer_left S v false w f = omega arith
fewer_left S v true w f =
    let l = less (λ u. is_before w u) (λ u. is_before v u) (vectors S) w
    (λ u t. is_before_yes v u (before_trans v w u f.1 (before_from_test w u t)))
    (vectors_have S w f.0) (is_before_no w w (before_not_self w)) (is_before_yes v w f.1) in
    omega (arith, l)
