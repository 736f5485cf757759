-- Checkpoints that are held, and places of which lengths were read.
use Rattle.std.proofs.Common.{◌≡◌, ◌⊎◌, inl, inr, ℕ, zero, suc, ◌+◌, ◌-◌, ◌<◌, ◌≤◌, Bool, true, false, List, [], ◌∷◌, ◌++◌, length, get_or, take, refl, sym, ap, ◌∙◌, subst, arith}
use Rattle.std.specs.Prelude.{IfSome, None, Option, Some, map, slice_set, ◌==◌, ◌||◌}
use Rattle.std.specs.List.{All}
use Rattle.std.proofs.lemmas.List.{get_or-append-add, get_or-set_other, get_or-take, length-append, length-take}
use Rattle.kr_mean.specs.Places.{SlotPlace}
use Rattle.kr_mean.specs.Runs.{contains_number, is_same_place}
use Rattle.kr_code.specs.declared.code.Code.{Code}
use Rattle.kr_space_layout.specs.Bounds.{Bounds}
use Rattle.kr_run_state.specs.declared.world.World.{World}
use Rattle.kr_run_state.specs.Noting.{is_read}
use Rattle.kr_judge.specs.Follows.{place_in}
use Rattle.kr_judge.specs.declared.accesses.Accesses.{Accesses}
use Rattle.kr_judge.proofs.Orders.{same_places}
use Rattle.kr_build.specs.Renewed.{IsSameBut}
use Rattle.kr_judge_replay.specs.Ascending.{Ascend, HadRead}
use Rattle.kr_judge_replay.specs.Going.{Alike, IsHeld, IsLastOf}
use Rattle.kr_judge_replay.specs.Foretelling.{IsForeseen}
use Rattle.kr_judge_replay.specs.declared.check.Check.{Check}
use Rattle.kr_judge_replay.specs.declared.check.Foreseen.{Foreseen}

-- more of the first have all that fewer have
read_within : (ps : List SlotPlace) (m n : ℕ) (p : SlotPlace) → m ≤ n → is_read p (take m ps) ≡ true → is_read p (take n ps) ≡ true
read_within [] zero zero p l h = h
read_within [] zero (suc n) p l h = h
read_within [] (suc m) zero p l h = h
read_within [] (suc m) (suc n) p l h = h
read_within (q ∷ qs) zero n p l h = absurd (cc (h))
read_within (q ∷ qs) (suc m) zero p l h = absurd (omega (arith, l))
read_within (q ∷ qs) (suc m) (suc n) p l h = go (is_same_place q p) h (read_within qs m n p (omega (arith, l)))
  where
    go : (b : Bool) → (b || is_read p (take m qs)) ≡ true → (is_read p (take m qs) ≡ true → is_read p (take n qs) ≡ true) → (b || is_read p (take n qs)) ≡ true
    go true h f = refl
    go false h f = f h

-- where the last one is held all are
pub held_all : (xs : List Check) (n fresh : ℕ) (accesses : Accesses) → Ascend xs → n ≤ length xs → ((other : Check) → 0 < n → IsHeld accesses fresh (get_or xs (n - 1) other)) → All (IsHeld accesses fresh) (take n xs)
held_all xs n fresh accesses ascend few held = λ k d lt f h p s i m.
    let inside : k < n = omega (arith, lt, length-take n xs) in
    let here = subst (λ (x : Check). is_read p (take x.count (map place_in accesses.places.items)) ≡ true) (get_or-take n xs k d inside) i in
    held d (omega (arith, inside)) f h p s (read_within (map place_in accesses.places.items) (get_or xs k d).count (get_or xs (n - 1) d).count p (ascend k (n - 1) d (omega (arith, inside)) (omega (arith, inside, few))) here) m

-- where the last one had read no more than so many places none had
pub few_all : (xs : List Check) (n places : ℕ) → Ascend xs → n ≤ length xs → ((other : Check) → 0 < n → (get_or xs (n - 1) other).count ≤ places) → All (HadRead places) (take n xs)
few_all xs n places ascend few last = λ k d lt.
    let inside : k < n = omega (arith, lt, length-take n xs) in
    let below = ascend k (n - 1) d (omega (arith, inside)) (omega (arith, inside, few)) in
    let is : (get_or (take n xs) k d).count ≡ (get_or xs k d).count = ap (λ (x : Check). x.count) (get_or-take n xs k d inside) in
    omega (arith, is, below, last d (omega (arith, inside)))

most_read : (before : List Check) (x : Check) → Ascend (before ++ x ∷ []) → All (HadRead x.count) (before ++ x ∷ [])
most_read before x ascend = λ k d lt.
    let long = length-append before (x ∷ []) in
    let last = length before + 0 in
    let few : k ≤ last = omega (arith, lt, long) in
    let there : last < length (before ++ x ∷ []) = omega (arith, long) in
    subst (λ (c : Check). (get_or (before ++ x ∷ []) k d).count ≤ c.count) (get_or-append-add before (x ∷ []) 0 d) (ascend k last d few there)

-- the last one had read the most
pub last_most : (checks : List Check) (x : Check) → Ascend checks → IsLastOf x checks → All (HadRead x.count) checks
last_most checks x ascend l = subst (All (HadRead x.count)) (sym l.1) (most_read l.0 x (subst Ascend l.1 ascend))

-- a value known from one is known from the last, where it is that
pub foreseen_last : (checks : List Check) (code : Code) (before after : World) (x : Check) (found : Option Foreseen) → IsLastOf x checks → IfSome found (λ f. IsForeseen code x before after f) → IfSome found (λ f. (c : Check) × IsLastOf c checks × IsForeseen code c before after f)
foreseen_last checks code before after x None last h = tt
foreseen_last checks code before after x (Some f) last h = (x, last, h)

none_of : (P : Check → Type 0) (xs : List Check) → All P (take 0 xs)
none_of P [] = λ k d lt. absurd (omega (arith, lt))
none_of P (x ∷ xs) = λ k d lt. absurd (omega (arith, lt))

pub none_read : (xs : List Check) (places : ℕ) → All (HadRead places) (take 0 xs)
none_read xs places = none_of (HadRead places) xs

pub none_held : (xs : List Check) (fresh : ℕ) (accesses : Accesses) → All (IsHeld accesses fresh) (take 0 xs)
none_held xs fresh accesses = none_of (IsHeld accesses fresh) xs

-- more of the first slots have all that fewer have
pub contains_within : (ss : List ℕ) (m n x : ℕ) → m ≤ n → contains_number (take m ss) x ≡ true → contains_number (take n ss) x ≡ true
contains_within [] zero zero x l h = h
contains_within [] zero (suc n) x l h = h
contains_within [] (suc m) zero x l h = h
contains_within [] (suc m) (suc n) x l h = h
contains_within (t ∷ ts) zero n x l h = absurd (cc (h))
contains_within (t ∷ ts) (suc m) zero x l h = absurd (omega (arith, l))
contains_within (t ∷ ts) (suc m) (suc n) x l h = go (t == x) h (contains_within ts m n x (omega (arith, l)))
  where
    go : (b : Bool) → (b || contains_number (take m ts) x) ≡ true → (contains_number (take m ts) x ≡ true → contains_number (take n ts) x ≡ true) → (b || contains_number (take n ts) x) ≡ true
    go true h f = refl
    go false h f = f h

-- a slot that isn't among the first ones may get another index
pub alike_set : (b : Bounds) (u v : List ℕ) (fresh left slot index : ℕ) (accesses : Accesses) → Alike b u v fresh accesses → left ≤ fresh → contains_number (take left accesses.order) slot ≡ false → (slot ≤ length b.parameters → left ≡ 0) → Alike b u (slice_set v slot index) left accesses
alike_set b u v fresh left slot index accesses a few none root = (
  λ some s l. let apart : s ≡ slot → ⊥ = λ e. omega (arith, some, root (omega (arith, l, e))) in a.0 (omega (arith, some, few)) s l ∙ sym (get_or-set_other v slot s index 0 apart),
  λ s h.
      let apart : s ≡ slot → ⊥ = λ e. let here = subst (λ (x : ℕ). contains_number (take left accesses.order) x ≡ true) e h in cc (here, none) in
      a.1 s (contains_within accesses.order left fresh s few h) ∙ sym (get_or-set_other v slot s index 0 apart),
)

-- one more place
pub read_more : (ps : List SlotPlace) (q p : SlotPlace) → is_read p (ps ++ q ∷ []) ≡ true → (is_read p ps ≡ true) ⊎ (q ≡ p)
read_more [] q p h = go (is_same_place q p) refl h
  where
    go : (b : Bool) → is_same_place q p ≡ b → (b || false) ≡ true → (false ≡ true) ⊎ (q ≡ p)
    go true e h = inr (same_places q p e)
    go false e h = absurd (cc (h))
read_more (r ∷ rs) q p h = go (is_same_place r p) h (read_more rs q p)
  where
    go : (b : Bool) → (b || is_read p (rs ++ q ∷ [])) ≡ true → (is_read p (rs ++ q ∷ []) ≡ true → (is_read p rs ≡ true) ⊎ (q ≡ p)) → ((b || is_read p rs) ≡ true) ⊎ (q ≡ p)
    go true h f = inl refl
    go false h f = f h

-- another index at a slot, which is among those between
pub same_set : (u v : List ℕ) (low high low' high' slot index : ℕ) → IsSameBut u v low high → low' ≤ low → low' ≤ slot → high ≤ high' → slot < high' → IsSameBut u (slice_set v slot index) low' high'
same_set u v low high low' high' slot index f a b c d = λ s l. go s l
  where
    go : (s : ℕ) → (s < low') ⊎ (high' ≤ s) → get_or u s 0 ≡ get_or (slice_set v slot index) s 0
    go s (inl l) = f s (inl (omega (arith, l, a))) ∙ sym (get_or-set_other v slot s index 0 (λ e. omega (arith, e, l, b)))
    go s (inr l) = f s (inr (omega (arith, l, c))) ∙ sym (get_or-set_other v slot s index 0 (λ e. omega (arith, e, l, d)))
