-- The front of a key that a search keeps as it moves on.
use Rattle.std.proofs.Common.{◌≡◌, ℕ, zero, suc, ◌+◌, ◌-◌, ◌<◌, List, [], ◌∷◌, ◌++◌, ◌≢◌, length, length-set, get_or, get_or-set_other, get_or-set_same, set, below_more, refl, sym, ap, ◌∙◌, subst, arith, append_assoc}
use Rattle.std.proofs.lemmas.List.{length-append, length-map, get_or_append_left}
use Rattle.kr_step.specs.Steps.{indices_of}
use Rattle.kr_step.specs.Keeps.{Follows, Keeps}

-- a key that has each index of a path
pub whole_key : (key : List ℕ) (path : List (ℕ × ℕ)) → length key ≡ length path → ((k : ℕ) → k < length path → get_or key k 0 ≡ (get_or path k (0, 0)).1) → key ≡ indices_of path
whole_key [] [] e s = refl
whole_key [] (p ∷ ps) e s = absurd (omega arith)
whole_key (k ∷ ks) [] e s = absurd (omega arith)
whole_key (k ∷ ks) (p ∷ ps) e s =
    let here : k ≡ p.1 = s 0 (omega arith) in
    let there : ks ≡ indices_of ps = whole_key ks ps (omega arith) (λ j h. s (suc j) (omega arith)) in
    ap (λ (x : ℕ). x ∷ ks) here ∙ ap (λ (l : List ℕ). p.1 ∷ l) there

-- a key that lacks the last index of a path alone
pub last_key : (key : List ℕ) (path : List (ℕ × ℕ)) (n : ℕ) → Keeps key path n → length key ≡ length path → length path - n ≡ 1 → set key n (get_or path n (0, 0)).1 ≡ indices_of path
last_key key path n kept long one =
    let on : n < length key = omega (arith, one, long) in
    let new = set key n (get_or path n (0, 0)).1 in
    whole_key new path (length-set key n (get_or path n (0, 0)).1 ∙ long) (λ k h.
    let less : k < n + 1 = omega (arith, one, h) in
    below_more (λ (j : ℕ). get_or new j 0 ≡ (get_or path j (0, 0)).1) n (λ j under. let other : j ≢ n = omega (arith, under) in get_or-set_other key n j (get_or path n (0, 0)).1 0 other ∙ kept.same j under) (get_or-set_same key n (get_or path n (0, 0)).1 0 on) k less)

-- on from a path that was longer
pub follows_on : (old mid new rest : List (ℕ × ℕ)) → old ≡ mid ++ rest → Follows mid new → Follows old new
follows_on old mid new rest e f = record {
  front = f.front;
  back = f.back ++ rest;
  last = f.last;
  old_is = e ∙ (ap (λ (l : List (ℕ × ℕ)). l ++ rest) f.old_is ∙ append_assoc f.front f.back rest);
  new_is = f.new_is;
}

pub one_less : (old path gone : List (ℕ × ℕ)) (shorter : List (ℕ × ℕ)) (p : ℕ × ℕ) → old ≡ path ++ gone → path ≡ shorter ++ p ∷ [] → old ≡ shorter ++ (p ∷ [] ++ gone)
one_less old path gone shorter p e f = e ∙ (ap (λ (l : List (ℕ × ℕ)). l ++ gone) f ∙ append_assoc shorter (p ∷ []) gone)

indices_long : (path : List (ℕ × ℕ)) → length (indices_of path) ≡ length path
indices_long path = length-map path (λ p. p.1)

in_front : (front rest : List (ℕ × ℕ)) (tail : List ℕ) (k : ℕ) → k < length front → get_or (indices_of (front ++ rest) ++ tail) k 0 ≡ (get_or front k (0, 0)).1
in_front [] rest tail k h = absurd (omega arith)
in_front (p ∷ front) rest tail zero h = refl
in_front (p ∷ front) rest tail (suc k) h = in_front front rest tail k (omega arith)

on_front : (front rest : List (ℕ × ℕ)) (k : ℕ) → k < length front → get_or (front ++ rest) k (0, 0) ≡ get_or front k (0, 0)
on_front front rest k h = get_or_append_left front rest (0, 0) k h

keeps_front : (front back rest : List (ℕ × ℕ)) (tail : List ℕ) → Keeps (indices_of (front ++ back) ++ tail) (front ++ rest) (length front)
keeps_front front back rest tail = record {
  in_cut = omega (arith, length-append (indices_of (front ++ back)) tail, indices_long (front ++ back), length-append front back);
  on_path = omega (arith, length-append front rest);
  same = λ k h. in_front front back tail k h ∙ sym (ap (λ (p : ℕ × ℕ). p.1) (on_front front rest k h));
}

-- a cut that goes on from a path keeps what a search keeps of that path
pub keeps_cut : (cut tail : List ℕ) (old moved new rest : List (ℕ × ℕ)) → cut ≡ indices_of old ++ tail → Follows old moved → new ≡ moved ++ rest → Keeps cut new (length moved - 1)
keeps_cut cut tail old moved new rest e f g =
    let all : length moved ≡ length f.front + length (f.last ∷ []) = ap length f.new_is ∙ length-append f.front (f.last ∷ []) in
    let long : length f.front ≡ length moved - 1 = omega (arith, all) in
    let here : indices_of (f.front ++ f.back) ++ tail ≡ cut = ap (λ (l : List (ℕ × ℕ)). indices_of l ++ tail) (sym f.old_is) ∙ sym e in
    let there : f.front ++ (f.last ∷ [] ++ rest) ≡ new = sym (append_assoc f.front (f.last ∷ []) rest) ∙ (ap (λ (l : List (ℕ × ℕ)). l ++ rest) (sym f.new_is) ∙ sym g) in
    subst (Keeps cut new) long
    (subst (λ (l : List (ℕ × ℕ)). Keeps cut l (length f.front)) there
    (subst (λ (l : List ℕ). Keeps l (f.front ++ (f.last ∷ [] ++ rest)) (length f.front)) here
    (keeps_front f.front f.back (f.last ∷ [] ++ rest) tail)))
