-- Lists in which each item is made of those before it.
use Rattle.std.proofs.Common.{◌≡◌, ℕ, zero, suc, ◌+◌, ◌<◌, List, [], ◌∷◌, ◌++◌, length, get_or, Some, refl, sym, ap, ◌∙◌, arith, length-append}
use Rattle.std.specs.Prelude.{slice_get, slice_set, slice_index_or}
use Rattle.std.proofs.lemmas.List.{get_or_append_left}
use Rattle.std.proofs.Math.Seq.{get_or-append_seam}
use Rattle.kr_ast.specs.Grow.{grow}

pub grow_keeps : {A N : Type 0} (f : List A → N → A) (d : A) (xs : List A) (ns : List N) (k : ℕ) → k < length xs → get_or (grow f xs ns) k d ≡ get_or xs k d
unfolding grow
grow_keeps f d xs [] k lt = refl
grow_keeps f d xs (n ∷ ns) k lt =
    grow_keeps f d (xs ++ f xs n ∷ []) ns k (omega (arith, length-append xs (f xs n ∷ []))) ∙ get_or_append_left xs (f xs n ∷ []) d k lt

pub length-grow : {A N : Type 0} (f : List A → N → A) (xs : List A) (ns : List N) → length (grow f xs ns) ≡ length xs + length ns
unfolding grow
length-grow f xs [] = omega arith
length-grow f xs (n ∷ ns) = omega (arith, length-grow f (xs ++ f xs n ∷ []) ns, length-append xs (f xs n ∷ []))

pub grow-append : {A N : Type 0} (f : List A → N → A) (xs : List A) (ns : List N) (n : N) → grow f xs (ns ++ n ∷ []) ≡ grow f xs ns ++ f (grow f xs ns) n ∷ []
unfolding grow
grow-append f xs [] n = refl
grow-append f xs (m ∷ ns) n = grow-append f (xs ++ f xs m ∷ []) ns n

-- two rules that agree on every item make the same list
pub grow_same : {A N : Type 0} (f g : List A → N → A) (ns : List N) → ((i : ℕ) (n : N) → slice_get ns i ≡ Some n → (xs : List A) → f xs n ≡ g xs n) → (xs : List A) → grow f xs ns ≡ grow g xs ns
unfolding grow
grow_same f g [] h xs = refl
grow_same f g (n ∷ ns) h xs =
    ap (λ x. grow f (xs ++ x ∷ []) ns) (h 0 n refl xs) ∙ grow_same f g ns (λ i m is. h (suc i) m is) (xs ++ g xs n ∷ [])

-- a change of an item that the rule doesn't see changes nothing
pub grow-set : {A N : Type 0} (f : List A → N → A) (d : N) (own : N → N) → ((xs : List A) (n : N) → f xs (own n) ≡ f xs n) → (xs : List A) (ns : List N) (c : ℕ) → grow f xs (slice_set ns c (own (slice_index_or ns c d))) ≡ grow f xs ns
unfolding grow
grow-set f d own h xs [] c = refl
grow-set f d own h xs (n ∷ ns) zero = ap (λ x. grow f (xs ++ x ∷ []) ns) (h xs n)
grow-set f d own h xs (n ∷ ns) (suc c) = grow-set f d own h (xs ++ f xs n ∷ []) ns c

-- each item is the rule's result for the whole list, if the rule looks only at earlier items
module _ {A N : Type 0} (f : List A → N → A) (d : A) (P : ℕ → N → Type 0) (near : (i : ℕ) (n : N) (xs ys : List A) → ((k : ℕ) → k < i → get_or xs k d ≡ get_or ys k d) → P i n → f xs n ≡ f ys n) where
  pub grow_stands : (xs : List A) (ns : List N) (i j : ℕ) (n : N) → slice_get ns i ≡ Some n → j ≡ length xs + i → P j n → get_or (grow f xs ns) j d ≡ f (grow f xs ns) n
  unfolding grow
  grow_stands xs [] i j n e is p = cc
  grow_stands xs (x ∷ ns) zero j n e is p =
      let here : x ≡ n = cc in
      let at : j ≡ length xs = omega arith in
      grow_keeps f d (xs ++ f xs x ∷ []) ns j (omega (arith, length-append xs (f xs x ∷ [])))
      ∙ ap (λ k. get_or (xs ++ f xs x ∷ []) k d) at
      ∙ get_or-append_seam xs (f xs x) [] d
      ∙ ap (λ m. f xs m) here
      ∙ near j n xs (grow f xs (x ∷ ns)) (λ k lt. sym (grow_keeps f d xs (x ∷ ns) k (omega arith))) p
  grow_stands xs (x ∷ ns) (suc i) j n e is p =
      grow_stands (xs ++ f xs x ∷ []) ns i j n e (omega (arith, length-append xs (f xs x ∷ []))) p
