-- A stable sort gives the only ordered list in which ties keep their order, so it equals repeated insertion.
use Rattle.std.proofs.Common.{◌≡◌, refl, sym, ap, ◌∙◌, ℕ, suc, ◌<◌, ◌≤◌, Bool, true, false, not, ◌&&◌, cond, List, [], ◌∷◌, ◌++◌, length, get_or, reverse, arith}
use Rattle.std.specs.Cmp.{IsStrictWeakOrder}
use Rattle.std.specs.List.{filter}
use Rattle.std.specs.List.Sorted.{IsSortedBy, IsStableBy, ties}
use Rattle.std.proofs.lemmas.List.{append-nil, reverse-append}
use Rattle.std.proofs.lemmas.List.Elements.{filter-append}
use Rattle.std.proofs.lemmas.List.Sorted.{sorted_far}

-- an element inserted in order, after its ties
abbrev pub placed_by : {X : Type 0} → (X → X → Bool) → X → List X → List X
placed_by lt f [] = f ∷ []
placed_by lt f (g ∷ gs) = cond (lt f g) (f ∷ g ∷ gs) (g ∷ placed_by lt f gs)

abbrev pub sorted_by : {X : Type 0} → (X → X → Bool) → List X → List X
sorted_by lt [] = []
sorted_by lt (f ∷ fs) = placed_by lt f (sorted_by lt fs)

-- none of these is less than x
abbrev Above : {X : Type 0} → (X → X → Bool) → X → List X → Type 0
Above lt x [] = Unit {0}
Above lt x (y ∷ ys) = (lt y x ≡ false) × Above lt x ys

abbrev Up : {X : Type 0} → (X → X → Bool) → List X → Type 0
Up lt [] = Unit {0}
Up lt (x ∷ xs) = Above lt x xs × Up lt xs

clash : {A : Type 0} (b : Bool) → b ≡ true → b ≡ false → A
clash b h k = absurd (cc (sym h ∙ k))

by_test : {A : Type 0} (b : Bool) → (b ≡ true → A) → (b ≡ false → A) → A
by_test true f g = f refl
by_test false f g = g refl

heads : {X : Type 0} (a b : X) (ps qs : List X) → a ∷ ps ≡ b ∷ qs → a ≡ b
heads a b ps qs h = cc

tails : {X : Type 0} (a b : X) (ps qs : List X) → a ∷ ps ≡ b ∷ qs → ps ≡ qs
tails a b ps qs h = cc

module _ {X : Type 0} (lt : X → X → Bool) (o : IsStrictWeakOrder lt) where
  not_itself : (x : X) → lt x x ≡ false
  not_itself x = by_test (lt x x) (λ h. o.one_way x x h) (λ h. h)

  itself : (x : X) → ties lt x x ≡ true
  itself x = λ i. not (not_itself x i) && not (not_itself x i)

  tie_of : (x y : X) → lt x y ≡ false → lt y x ≡ false → ties lt x y ≡ true
  tie_of x y h k = λ i. not (h i) && not (k i)

  no_tie : (x y : X) → lt x y ≡ true → ties lt x y ≡ false
  no_tie x y h = λ i. not (h i) && not (lt y x)

  tied_right : (a b : Bool) → not a && not b ≡ true → b ≡ false
  tied_right a false h = refl
  tied_right true true h = absurd (cc h)
  tied_right false true h = absurd (cc h)

  -- x ties with f, f is before g, and y isn't before g: so x is before y
  before_all : (x f g y : X) → ties lt x f ≡ true → lt f g ≡ true → lt y g ≡ false → lt x y ≡ true
  before_all x f g y t h k =
      by_test (lt x y) (λ e. e)
      (λ e. clash (lt f g) h (o.chain f y g (o.chain f x y (tied_right (lt x f) (lt f x) t) e) k))

  none_tie : (x f g : X) (ys : List X) → ties lt x f ≡ true → lt f g ≡ true → Above lt g ys → filter (ties lt x) ys ≡ []
  none_tie x f g [] t h a = refl
  none_tie x f g (y ∷ ys) t h a =
      ap (λ b. cond b (y ∷ filter (ties lt x) ys) (filter (ties lt x) ys)) (no_tie x y (before_all x f g y t h a.0))
      ∙ none_tie x f g ys t h a.1

  -- ---- placing

  above_placed : (x f : X) (gs : List X) → lt f x ≡ false → Above lt x gs → Above lt x (placed_by lt f gs)
  above_placed x f [] h a = (h, tt)
  above_placed x f (g ∷ gs) h a = by (lt f g) (above_placed x f gs h a.1)
    where
      by : (b : Bool) → Above lt x (placed_by lt f gs) → Above lt x (cond b (f ∷ g ∷ gs) (g ∷ placed_by lt f gs))
      by true r = (h, (a.0, a.1))
      by false r = (a.0, r)

  above_of_less : (f g : X) (gs : List X) → lt f g ≡ true → Above lt g gs → Above lt f gs
  above_of_less f g [] h a = tt
  above_of_less f g (y ∷ ys) h a = (o.chain y g f a.0 (o.one_way f g h), above_of_less f g ys h a.1)

  up_placed : (f : X) (gs : List X) → Up lt gs → Up lt (placed_by lt f gs)
  up_placed f [] u = (tt, tt)
  up_placed f (g ∷ gs) u = by (lt f g) refl (up_placed f gs u.1)
    where
      by : (b : Bool) → lt f g ≡ b → Up lt (placed_by lt f gs) → Up lt (cond b (f ∷ g ∷ gs) (g ∷ placed_by lt f gs))
      by true e r = ((o.one_way f g e, above_of_less f g gs e u.0), (u.0, u.1))
      by false e r = (above_placed g f gs e u.0, r)

  up_sorted : (fs : List X) → Up lt (sorted_by lt fs)
  up_sorted [] = tt
  up_sorted (f ∷ fs) = up_placed f (sorted_by lt fs) (up_sorted fs)

  ties_placed : (x f : X) (gs : List X) → Up lt gs → filter (ties lt x) (placed_by lt f gs) ≡ filter (ties lt x) gs ++ cond (ties lt x f) (f ∷ []) []
  ties_placed x f [] u = refl
  ties_placed x f (g ∷ gs) u = by (lt f g) refl (ties_placed x f gs u.1)
    where
      front : (b : Bool) (rest : List X) → (b ≡ true → rest ≡ []) → cond b (f ∷ rest) rest ≡ rest ++ cond b (f ∷ []) []
      front true rest h = ap (λ r. f ∷ r) (h refl) ∙ ap (λ r. r ++ f ∷ []) (sym (h refl))
      front false rest h = sym (append-nil rest)

      behind : (b : Bool) (r s : List X) → r ≡ s ++ cond (ties lt x f) (f ∷ []) [] → cond b (g ∷ r) r ≡ cond b (g ∷ s) s ++ cond (ties lt x f) (f ∷ []) []
      behind true r s h = ap (λ q. g ∷ q) h
      behind false r s h = h

      by : (b : Bool) → lt f g ≡ b → filter (ties lt x) (placed_by lt f gs) ≡ filter (ties lt x) gs ++ cond (ties lt x f) (f ∷ []) []
          → filter (ties lt x) (cond b (f ∷ g ∷ gs) (g ∷ placed_by lt f gs)) ≡ filter (ties lt x) (g ∷ gs) ++ cond (ties lt x f) (f ∷ []) []
      by true e r = front (ties lt x f) (filter (ties lt x) (g ∷ gs)) (λ t. none_tie x f g (g ∷ gs) t e (not_itself g, u.0))
      by false e r = behind (ties lt x g) (filter (ties lt x) (placed_by lt f gs)) (filter (ties lt x) gs) r

  ties_sorted : (x : X) (fs : List X) → filter (ties lt x) (sorted_by lt fs) ≡ filter (ties lt x) (reverse fs)
  ties_sorted x [] = refl
  ties_sorted x (f ∷ fs) =
      ties_placed x f (sorted_by lt fs) (up_sorted fs)
      ∙ ap (λ r. r ++ cond (ties lt x f) (f ∷ []) []) (ties_sorted x fs)
      ∙ sym (filter-append (ties lt x) (reverse fs) (f ∷ []))
      ∙ ap (filter (ties lt x)) (sym (reverse-append (f ∷ []) fs))

  -- ---- there is one such list

  not_less : (a b : X) (ps qs : List X) → Up lt (a ∷ ps) → ((x : X) → filter (ties lt x) (a ∷ ps) ≡ filter (ties lt x) (b ∷ qs)) → lt b a ≡ false
  not_less a b ps qs u same =
      by_test (lt b a)
      (λ e. let none : filter (ties lt b) (a ∷ ps) ≡ [] = none_tie b b a (a ∷ ps) (itself b) e (not_itself a, u.0) in
      let some : filter (ties lt b) (b ∷ qs) ≡ b ∷ filter (ties lt b) qs = ap (λ c. cond c (b ∷ filter (ties lt b) qs) (filter (ties lt b) qs)) (itself b) in
      absurd (cc (sym none ∙ same b ∙ some)))
      (λ e. e)

  one : (ps qs : List X) → Up lt ps → Up lt qs → ((x : X) → filter (ties lt x) ps ≡ filter (ties lt x) qs) → ps ≡ qs
  one [] [] u v same = refl
  one [] (b ∷ qs) u v same = absurd (cc (same b ∙ ap (λ c. cond c (b ∷ filter (ties lt b) qs) (filter (ties lt b) qs)) (itself b)))
  one (a ∷ ps) [] u v same = absurd (cc (sym (same a) ∙ ap (λ c. cond c (a ∷ filter (ties lt a) ps) (filter (ties lt a) ps)) (itself a)))
  one (a ∷ ps) (b ∷ qs) u v same =
      let tie : ties lt a b ≡ true = tie_of a b (not_less b a qs ps v (λ x. sym (same x))) (not_less a b ps qs u same) in
      let first : a ≡ b =
      heads a b (filter (ties lt a) ps) (filter (ties lt a) qs)
      (sym (ap (λ c. cond c (a ∷ filter (ties lt a) ps) (filter (ties lt a) ps)) (itself a)) ∙ same a ∙ ap (λ c. cond c (b ∷ filter (ties lt a) qs) (filter (ties lt a) qs)) tie) in
      let rest : (x : X) → filter (ties lt x) ps ≡ filter (ties lt x) qs = λ x. without (ties lt x a) a (filter (ties lt x) ps) (filter (ties lt x) qs) (same x ∙ ap (λ c. cond (ties lt x c) (c ∷ filter (ties lt x) qs) (filter (ties lt x) qs)) (sym first)) in
      (λ i. first i ∷ one ps qs u.1 v.1 rest i)
    where
      without : (t : Bool) (c : X) (r s : List X) → cond t (c ∷ r) r ≡ cond t (c ∷ s) s → r ≡ s
      without true c r s h = tails c c r s h
      without false c r s h = h

  -- ---- what a sort ensures

  above_of : (x : X) (xs : List X) → ((k : ℕ) → k < length xs → lt (get_or xs k x) x ≡ false) → Above lt x xs
  above_of x [] h = tt
  above_of x (y ∷ ys) h = (h 0 (omega arith), above_of x ys (λ k p. h (suc k) (omega arith)))

  up_of : (xs : List X) → ((i j : ℕ) (d : X) → i ≤ j → j < length xs → lt (get_or xs j d) (get_or xs i d) ≡ false) → Up lt xs
  up_of [] h = tt
  up_of (x ∷ xs) h = (above_of x xs (λ k p. h 0 (suc k) x (omega arith) (omega arith)), up_of xs (λ i j d p q. h (suc i) (suc j) d (omega arith) (omega arith)))

  -- sorted from the last to the first it is the list that is made by placing
  pub stable_sort : (xs ys : List X) → IsSortedBy lt ys → IsStableBy lt (reverse xs) ys → ys ≡ sorted_by lt xs
  stable_sort xs ys up stable =
      one ys (sorted_by lt xs) (up_of ys (sorted_far lt o ys up)) (up_sorted xs) (λ x. stable x ∙ sym (ties_sorted x xs))
