-- Distinct members stay distinct, and are exactly those added and not removed.
use Rattle.std.specs.Prelude.{◌≡◌, Bool, true, false, ◌||◌, ◌&&◌, not, List, [], ◌∷◌, ◌++◌, if◌then◌else◌, refl}
use Rattle.std.proofs.Common.{ap, sym, subst, ◌∙◌}
use Rattle.std.proofs.lemmas.Bool.{eqb-true, eq-eqb}
use Rattle.std.proofs.lemmas.Bool.Decides.{Decides-int_eq}
use Rattle.kr_value.specs.declared.value.Value.{Value}
use Rattle.kr_value.specs.declared.value.Value.TheVariants.{Int, Bool as Truth, Null, Ref as Reference}
use Rattle.kr_mean.specs.Collections.{is_same_value, has_member, without}
use Rattle.kr_coll.specs.Identities.{Differ}
use Rattle.kr_coll.specs.Laws.{SetLaw}

-- ---- identity

pub same_is : (a b : Value) → is_same_value a b ≡ true → a ≡ b
same_is (Reference o) (Reference p) e = ap (λ n. Reference n) (eqb-true o p e)
same_is (Int m) (Int n) e = ap (λ z. Int z) ((Decides-int_eq m n).0 e)
same_is (Truth true) (Truth true) e = refl
same_is (Truth false) (Truth false) e = refl
same_is Null Null e = refl
same_is a b e = absurd (cc (e))

same_self : (a : Value) → is_same_value a a ≡ true
same_self (Reference o) = eq-eqb o o refl
same_self (Int n) = (Decides-int_eq n n).1 refl
same_self (Truth true) = refl
same_self (Truth false) = refl
same_self Null = refl

same_flip_true : (a b : Value) → is_same_value a b ≡ true → is_same_value b a ≡ true
same_flip_true a b e = subst (λ c. is_same_value c a ≡ true) (same_is a b e) (same_self a)

-- unequal in the other order too
same_flip : (a b : Value) → is_same_value a b ≡ false → is_same_value b a ≡ false
same_flip a b e = go (is_same_value b a) refl where
  go : (t : Bool) → is_same_value b a ≡ t → is_same_value b a ≡ false
  go true f = search (sym e ∙ same_flip_true b a f)
  go false f = f

or_false : (a b : Bool) → (a || b) ≡ false → (a ≡ false) × (b ≡ false)
or_false true b e = search e
or_false false b e = (refl, e)

-- ---- adding

or_shift : (a b c : Bool) → a || (b || c) ≡ (a || b) || c
or_shift true b c = refl
or_shift false b c = refl

or_nothing : (a : Bool) → a || false ≡ a
or_nothing true = refl
or_nothing false = refl

member_behind : (xs : List Value) (m n : Value) → has_member n (xs ++ m ∷ []) ≡ (has_member n xs || is_same_value m n)
member_behind [] m n = or_nothing (is_same_value m n)
member_behind (x ∷ xs) m n = ap (λ b. is_same_value x n || b) (member_behind xs m n) ∙ or_shift (is_same_value x n) (has_member n xs) (is_same_value m n)

differ_behind : (xs : List Value) (m : Value) → has_member m xs ≡ false → Differ xs → Differ (xs ++ m ∷ [])
differ_behind [] m e d = (refl, tt)
differ_behind (x ∷ xs) m e d =
    let parts : (is_same_value x m ≡ false) × (has_member m xs ≡ false) = or_false (is_same_value x m) (has_member m xs) e in (
      member_behind xs m x ∙ ap (λ b. b || is_same_value m x) d.0 ∙ same_flip x m parts.0,
      differ_behind xs m parts.1 d.1,
    )

adding_differs : (b : Bool) (xs : List Value) (m : Value) → has_member m xs ≡ b → Differ xs → Differ (if b then xs else xs ++ m ∷ [])
adding_differs true xs m e d = d
adding_differs false xs m e d = differ_behind xs m e d

-- an item that is there already, by the members alone
there_already : (xs : List Value) (m n : Value) → has_member m xs ≡ true → is_same_value m n ≡ true → has_member n xs ≡ true
there_already xs m n e f = subst (λ k. has_member k xs ≡ true) (same_is m n f) e

or_there : (a b : Bool) → (b ≡ true → a ≡ true) → a ≡ (a || b)
or_there true b f = refl
or_there false true f = f refl
or_there false false f = refl

adding_adds : (b : Bool) (xs : List Value) (m n : Value) → has_member m xs ≡ b → has_member n (if b then xs else xs ++ m ∷ []) ≡ (has_member n xs || is_same_value m n)
adding_adds true xs m n e = or_there (has_member n xs) (is_same_value m n) (there_already xs m n e)
adding_adds false xs m n e = member_behind xs m n

-- ---- removing

and_all : (a : Bool) → a && true ≡ a
and_all true = refl
and_all false = refl

gone : (s : Bool) (xs : List Value) (m n : Value) → is_same_value m n ≡ s → has_member m xs ≡ false → has_member n xs ≡ ((s || has_member n xs) && not s)
gone true xs m n e f = subst (λ k. has_member k xs ≡ false) (same_is m n e) f
gone false xs m n e f = sym (and_all (has_member n xs))

first_gone : (xs : List Value) (x m n : Value) → x ≡ m → has_member m xs ≡ false → has_member n xs ≡ ((is_same_value x n || has_member n xs) && not (is_same_value m n))
first_gone xs x m n e f = subst (λ k. has_member n xs ≡ ((is_same_value k n || has_member n xs) && not (is_same_value m n))) (sym e) (gone (is_same_value m n) xs m n refl f)

other_stays : (a b c d : Bool) → (a ≡ true → b ≡ false) → c ≡ (d && not b) → (a || c) ≡ ((a || d) && not b)
other_stays true b c d f g = ap not (sym (f refl))
other_stays false b c d f g = g

other_than : (x m n : Value) → is_same_value x m ≡ false → is_same_value x n ≡ true → is_same_value m n ≡ false
other_than x m n e f = same_flip n m (subst (λ k. is_same_value k m ≡ false) (same_is x n f) e)

-- a later member, by whether the first one is removed
removed_behind : (b : Bool) (x : Value) (xs : List Value) (m n : Value) → is_same_value x m ≡ b → has_member x xs ≡ false
    → has_member n (without m xs) ≡ (has_member n xs && not (is_same_value m n))
    → has_member n (if b then xs else x ∷ without m xs) ≡ ((is_same_value x n || has_member n xs) && not (is_same_value m n))
removed_behind true x xs m n e d h = first_gone xs x m n (same_is x m e) (subst (λ k. has_member k xs ≡ false) (same_is x m e) d)
removed_behind false x xs m n e d h = other_stays (is_same_value x n) (is_same_value m n) (has_member n (without m xs)) (has_member n xs) (other_than x m n e) h

removed_member : (xs : List Value) (m : Value) → Differ xs → (n : Value) → has_member n (without m xs) ≡ (has_member n xs && not (is_same_value m n))
removed_member [] m d n = refl
removed_member (x ∷ xs) m d n = removed_behind (is_same_value x m) x xs m n refl d.0 (removed_member xs m d.1 n)

differ_removed : (b : Bool) (x : Value) (xs : List Value) (m : Value) → has_member x xs ≡ false → Differ xs → Differ (without m xs)
    → Differ (if b then xs else x ∷ without m xs)
differ_removed true x xs m d e h = e
differ_removed false x xs m d e h = (removed_member xs m e x ∙ ap (λ b. b && not (is_same_value m x)) d, h)

removing_differs : (xs : List Value) (m : Value) → Differ xs → Differ (without m xs)
removing_differs [] m d = tt
removing_differs (x ∷ xs) m d = differ_removed (is_same_value x m) x xs m d.0 d.1 (removing_differs xs m d.1)

pub set_law : SetLaw
set_law xs m = record {
  adding_keeps = adding_differs (has_member m xs) xs m refl;
  removing_keeps = removing_differs xs m;
  added = λ n. adding_adds (has_member m xs) xs m n refl;
  removed = removed_member xs m;
}
