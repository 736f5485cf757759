-- The roots in another order.
use Rattle.std.proofs.Common.{◌≡◌, ℕ, ◌+◌, inl, inr, List, [], ◌∷◌, ◌++◌, refl, sym, arith}
use Rattle.kr_ast.specs.declared.node.Entry.{Entry}
use Rattle.kr_ast.specs.Forest.{IsApart, AreFree, IsIn, AreRoots}
use Rattle.kr_parse_reduction.specs.Perm.{Perm, done, keep, flip, onward}

pub perm_refl : (is : List ℕ) → Perm is is
perm_refl [] = done
perm_refl (i ∷ is) = keep i (perm_refl is)

pub perm_append : {is js : List ℕ} (ks : List ℕ) → Perm is js → Perm (is ++ ks) (js ++ ks)
perm_append ks done = perm_refl ks
perm_append ks (keep i p) = keep i (perm_append ks p)
perm_append ks (flip i j is) = flip i j (is ++ ks)
perm_append ks (onward p q) = onward (perm_append ks p) (perm_append ks q)

-- one from the front into the midst
pub perm_into : (i : ℕ) (is js : List ℕ) → Perm (i ∷ (is ++ js)) (is ++ i ∷ js)
perm_into i [] js = perm_refl (i ∷ js)
perm_into i (k ∷ is) js = onward (flip i k (is ++ js)) (keep k (perm_into i is js))

pub reverse_two : (i j : ℕ) → Perm (j ∷ i ∷ []) (i ∷ j ∷ [])
reverse_two i j = flip j i []

pub reverse_three : (i j k : ℕ) → Perm (k ∷ j ∷ i ∷ []) (i ∷ j ∷ k ∷ [])
reverse_three i j k = onward (perm_into k (j ∷ i ∷ []) []) (flip j i (k ∷ []))

pub reverse_four : (i j k l : ℕ) → Perm (l ∷ k ∷ j ∷ i ∷ []) (i ∷ j ∷ k ∷ l ∷ [])
reverse_four i j k l = onward (perm_into l (k ∷ j ∷ i ∷ []) []) (perm_append (l ∷ []) (reverse_three i j k))

pub in_perm : {is js : List ℕ} → Perm is js → (i : ℕ) → IsIn i is → IsIn i js
in_perm done i h = h
in_perm (keep k p) i (inl e) = inl e
in_perm (keep k p) i (inr h) = inr (in_perm p i h)
in_perm (flip k l is) i (inl e) = inr (inl e)
in_perm (flip k l is) i (inr (inl e)) = inl e
in_perm (flip k l is) i (inr (inr h)) = inr (inr h)
in_perm (onward p q) i h = in_perm q i (in_perm p i h)

apart_perm : {is js : List ℕ} → Perm is js → (i : ℕ) → IsApart i is → IsApart i js
apart_perm done i h = h
apart_perm (keep k p) i h = (h.0, apart_perm p i h.1)
apart_perm (flip k l is) i h = (h.1.0, (h.0, h.1.1))
apart_perm (onward p q) i h = apart_perm q i (apart_perm p i h)

free_perm : {is js : List ℕ} (es : List Entry) → Perm is js → AreFree es is → AreFree es js
free_perm es done h = h
free_perm es (keep k p) h = (h.0, h.1, apart_perm p k h.2, free_perm es p h.3)
free_perm es (flip k l is) h =
    (h.3.0, h.3.1, ((λ e. h.2.0 (sym e)), h.3.2), (h.0, h.1, h.2.1, h.3.3))
free_perm es (onward p q) h = free_perm es q (free_perm es p h)

pub roots_perm : {is js : List ℕ} (es : List Entry) → Perm is js → AreRoots es is → AreRoots es js
roots_perm es p h = record { free = free_perm es p h.free; only = λ i e g u. in_perm p i (h.only i e g u) }

pub free_front : (es : List Entry) (is js : List ℕ) → AreFree es (is ++ js) → AreFree es is
free_front es [] js h = tt
free_front es (i ∷ is) js h = (h.0, h.1, apart_front i is js h.2, free_front es is js h.3)
  where
    apart_front : (i : ℕ) (is js : List ℕ) → IsApart i (is ++ js) → IsApart i is
    apart_front i [] js h = tt
    apart_front i (k ∷ is) js h = (h.0, apart_front i is js h.1)

pub free_back : (es : List Entry) (is js : List ℕ) → AreFree es (is ++ js) → AreFree es js
free_back es [] js h = h
free_back es (i ∷ is) js h = free_back es is js h.3

-- a sum over nodes
abbrev pub weigh : (ℕ → ℕ) → List ℕ → ℕ
weigh f [] = 0
weigh f (i ∷ is) = f i + weigh f is

pub weigh_perm : {is js : List ℕ} (f : ℕ → ℕ) → Perm is js → weigh f is ≡ weigh f js
weigh_perm f done = refl
weigh_perm f (keep k p) = omega (arith, weigh_perm f p)
weigh_perm f (flip k l is) = omega arith
weigh_perm f (onward p q) = omega (arith, weigh_perm f p, weigh_perm f q)

pub weigh_append : (f : ℕ → ℕ) (is js : List ℕ) → weigh f (is ++ js) ≡ weigh f is + weigh f js
weigh_append f [] js = omega arith
weigh_append f (i ∷ is) js = omega (arith, weigh_append f is js)
