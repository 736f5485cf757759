-- Equal types have one number.
use Rattle.std.proofs.Common.{◌≡◌, refl, sym, ap, ◌∙◌, ℕ, zero, suc, ◌+◌, ◌<◌, Bool, true, false, ◌&&◌, List, [], ◌∷◌, length, nat_eq, bytes_eq, Some, arith, rules}
use Rattle.std.specs.Prelude.{slice_get}
use Rattle.std.proofs.lemmas.Slice.Eq.{bytes_eq-Decides}
use Rattle.kr_classes_table.proofs.Widths.{same_width, width_itself}
use Rattle.kr_classes_table.specs.Types.{JavaType, NumberType, BooleanType, NullType, VoidType, ClassType, ArrayType, SetType, ListType, InferredType, UnknownType, AppliedType, is_same}
use Rattle.kr_classes_names.specs.declared.form.TypeForm.{TypeForm}
use Rattle.kr_classes_names.specs.declared.form.TypeForm.TheVariants as forms
use Rattle.kr_classes_names.specs.ListedTypes.{AreApart}
use Rattle.kr_classes_names.specs.Types.{TypeList, AreTypes, IsMadeBelow, type_at, type_in, name_at, count}
use Rattle.kr_classes_names.proofs.Made.{type_made}
use Rattle.kr_classes_names.proofs.Indexes.{same_name}

pub itself : (n : List ℕ) → bytes_eq n n ≡ true
itself n = grind (arith, bytes_eq-Decides n n)

same_number : (m n : ℕ) → nat_eq m n ≡ true → m ≡ n
same_number m n e = grind (arith, rules)

number_itself : (n : ℕ) → nat_eq n n ≡ true
number_itself n = grind (arith, rules)

first_true : (a b : Bool) → a && b ≡ true → a ≡ true
first_true true b e = refl
first_true false b e = absurd (cc)

second_true : (a b : Bool) → a && b ≡ true → b ≡ true
second_true true b e = e
second_true false b e = absurd (cc)

pub equal : (s t : JavaType) → is_same s t ≡ true → s ≡ t
equal (NumberType v) (NumberType w) e = ap NumberType (same_width v w e)
equal (NumberType v) _ e = absurd (cc)
equal BooleanType BooleanType e = refl
equal BooleanType _ e = absurd (cc)
equal NullType NullType e = refl
equal NullType _ e = absurd (cc)
equal VoidType VoidType e = refl
equal VoidType _ e = absurd (cc)
equal InferredType InferredType e = refl
equal InferredType _ e = absurd (cc)
equal (ClassType c) (ClassType d) e = ap ClassType (same_number c d e)
equal (ClassType c) _ e = absurd (cc)
equal (ArrayType s) (ArrayType t) e = ap ArrayType (equal s t e)
equal (ArrayType s) _ e = absurd (cc)
equal (SetType s) (SetType t) e = ap SetType (equal s t e)
equal (SetType s) _ e = absurd (cc)
equal (ListType s) (ListType t) e = ap ListType (equal s t e)
equal (ListType s) _ e = absurd (cc)
equal (UnknownType o n) (UnknownType p m) e =
    ap (λ x. UnknownType x n) (same_name o p (first_true (bytes_eq o p) (bytes_eq n m) e)) ∙ ap (λ x. UnknownType p x) (same_name n m (second_true (bytes_eq o p) (bytes_eq n m) e))
equal (UnknownType o n) _ e = absurd (cc)
equal (AppliedType h s) (AppliedType g t) e = ap (λ x. AppliedType x s) (equal h g (first_true (is_same h g) (is_same s t) e)) ∙ ap (λ x. AppliedType g x) (equal s t (second_true (is_same h g) (is_same s t) e))
equal (AppliedType h s) _ e = absurd (cc)

both_true : (a b : Bool) → a ≡ true → b ≡ true → a && b ≡ true
both_true true b e f = f
both_true false b e f = absurd (cc)

pub same_itself : (t : JavaType) → is_same t t ≡ true
same_itself (ClassType c) = number_itself c
same_itself (ArrayType t) = same_itself t
same_itself (SetType t) = same_itself t
same_itself (ListType t) = same_itself t
same_itself (UnknownType o n) = both_true (bytes_eq o o) (bytes_eq n n) (itself o) (itself n)
same_itself (AppliedType h t) = both_true (is_same h h) (is_same t t) (same_itself h) (same_itself t)
same_itself (NumberType w) = width_itself w
same_itself _ = refl

-- the item at an index
item : {A : Type 0} (d : A) (xs : List A) (i : ℕ) → i < length xs → (x : A) × (slice_get xs i ≡ Some x)
item d [] i l = absurd (omega (arith, l))
item d (x ∷ xs) zero l = (x, refl)
item d (x ∷ xs) (suc i) l = item d xs i (omega (arith, l))

name_got : (xs : List (List ℕ)) (i : ℕ) → i < length xs → slice_get xs i ≡ Some (name_at xs i)
name_got [] i l = absurd (omega (arith, l))
name_got (x ∷ xs) zero l = refl
name_got (x ∷ xs) (suc i) l = name_got xs i (omega (arith, l))

names_differ : (names : List (List ℕ)) → AreApart names → (i j : ℕ) → i < length names → j < length names → name_at names i ≡ name_at names j → i ≡ j
names_differ names a i j k l e = a i j (name_at names j) (name_got names i k ∙ ap Some e) (name_got names j l)

-- types of different forms differ, where those that they are made of do
form_same : (names : List (List ℕ)) → AreApart names → (look : ℕ → JavaType) (i : ℕ) → ((x y : ℕ) → x < i → y < i → look x ≡ look y → x ≡ y)
    → (f g : TypeForm) → IsMadeBelow i (length names) f → IsMadeBelow i (length names) g → type_in names look f ≡ type_in names look g → f ≡ g
form_same names a look i h (forms.Number x) (forms.Number y) v w e = let s : x ≡ y = cc in ap forms.Number s
form_same names a look i h (forms.Number x) _ v w e = absurd (cc)
form_same names a look i h forms.Boolean forms.Boolean v w e = refl
form_same names a look i h forms.Boolean _ v w e = absurd (cc)
form_same names a look i h forms.Null forms.Null v w e = refl
form_same names a look i h forms.Null _ v w e = absurd (cc)
form_same names a look i h forms.Void forms.Void v w e = refl
form_same names a look i h forms.Void _ v w e = absurd (cc)
form_same names a look i h forms.Inferred forms.Inferred v w e = refl
form_same names a look i h forms.Inferred _ v w e = absurd (cc)
form_same names a look i h (forms.Class c) (forms.Class d) v w e = let s : c ≡ d = cc in ap forms.Class s
form_same names a look i h (forms.Class c) _ v w e = absurd (cc)
form_same names a look i h (forms.Array s) (forms.Array t) v w e = let q : look s ≡ look t = cc in ap forms.Array (h s t v w q)
form_same names a look i h (forms.Array s) _ v w e = absurd (cc)
form_same names a look i h (forms.Set s) (forms.Set t) v w e = let q : look s ≡ look t = cc in ap forms.Set (h s t v w q)
form_same names a look i h (forms.Set s) _ v w e = absurd (cc)
form_same names a look i h (forms.List s) (forms.List t) v w e = let q : look s ≡ look t = cc in ap forms.List (h s t v w q)
form_same names a look i h (forms.List s) _ v w e = absurd (cc)
form_same names a look i h (forms.Unknown o n) (forms.Unknown p m) v w e =
    let q : name_at names o ≡ name_at names p = cc in
    let r : name_at names n ≡ name_at names m = cc in
    ap (λ x. forms.Unknown x n) (names_differ names a o p v.0 w.0 q) ∙ ap (λ x. forms.Unknown p x) (names_differ names a n m v.1 w.1 r)
form_same names a look i h (forms.Unknown o n) _ v w e = absurd (cc)
form_same names a look i h (forms.Applied x s) (forms.Applied y t) v w e =
    let q : look x ≡ look y = cc in
    let r : look s ≡ look t = cc in
    ap (λ k. forms.Applied k s) (h x y v.0 w.0 q) ∙ ap (λ k. forms.Applied y k) (h s t v.1 w.1 r)
form_same names a look i h (forms.Applied x s) _ v w e = absurd (cc)

-- below a higher bound
pub weaker : (i j m : ℕ) (f : TypeForm) → i < j + 1 → IsMadeBelow i m f → IsMadeBelow j m f
weaker i j m (forms.Array t) l w = omega (arith, l, w)
weaker i j m (forms.Set t) l w = omega (arith, l, w)
weaker i j m (forms.List t) l w = omega (arith, l, w)
weaker i j m (forms.Unknown o n) l w = w
weaker i j m (forms.Applied h t) l w = (omega (arith, l, w.0), omega (arith, l, w.1))
weaker i j m _ l w = tt

differ : (l : TypeList) (known : List Bool) → AreTypes l known → (n : ℕ) → n < count l + 1 → (a b : ℕ) → a < n → b < n → type_at l a ≡ type_at l b → a ≡ b
differ l known k zero c a b u v e = absurd (omega (arith, u))
differ l known k (suc n) c a b u v e =
    let f = item forms.Void l.forms a (omega (arith, u, c)) in
    let g = item forms.Void l.forms b (omega (arith, v, c)) in
    let m = length l.names in
    k.forms_apart a b g.0
    (f.1 ∙ ap Some (form_same l.names k.names_apart (type_at l) n (differ l known k n (omega (arith, c))) f.0 g.0
    (weaker a n m f.0 (omega (arith, u)) (k.ordered a f.0 f.1)) (weaker b n m g.0 (omega (arith, v)) (k.ordered b g.0 g.1))
    (sym (type_made l k.ordered a f.0 f.1) ∙ e ∙ type_made l k.ordered b g.0 g.1)))
    g.1

other : (l : TypeList) (known : List Bool) → AreTypes l known → (a b : ℕ) → a < count l → b < count l → (q : Bool) → is_same (type_at l a) (type_at l b) ≡ q → nat_eq a b ≡ q
other l known k a b u v true e = ap (λ x. nat_eq x b) (differ l known k (count l) (omega arith) a b u v (equal (type_at l a) (type_at l b) e)) ∙ number_itself b
other l known k a b u v false e = different (nat_eq a b) refl
  where
    different : (q : Bool) → nat_eq a b ≡ q → nat_eq a b ≡ false
    different false f = f
    different true f = let s = same_number a b f in let t : is_same (type_at l a) (type_at l b) ≡ true = ap (λ x. is_same (type_at l x) (type_at l b)) s ∙ same_itself (type_at l b) in absurd (cc)

pub numbers_same : (l : TypeList) (known : List Bool) → AreTypes l known → (a b : ℕ) → a < count l → b < count l → nat_eq a b ≡ is_same (type_at l a) (type_at l b)
numbers_same l known k a b u v = other l known k a b u v (is_same (type_at l a) (type_at l b)) refl
