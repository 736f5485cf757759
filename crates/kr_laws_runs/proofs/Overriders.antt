-- The methods that a call may run: those of the classes of the table.
use Rattle.std.proofs.Common.{◌≡◌, ℕ, zero, suc, ◌+◌, ◌<◌, ◌≤◌, ◌⊎◌, inl, inr, Bool, true, false, List, [], ◌∷◌, ◌++◌, length, Option, Some, None, refl, ap, ◌∙◌, arith, subst}
use Rattle.std.specs.Prelude.{flat_map, find, option_to_list, option_and_then, bytes_eq, if◌then◌else◌}
use Rattle.std.specs.List.{range_with_len}
use Rattle.std.proofs.lemmas.Bool.{cases_lt}
use Rattle.kr_value.specs.declared.object.Class.{Class}
use Rattle.kr_value.specs.declared.object.Class.TheVariants.{Object, Array, Set, List as ListClass}
use Rattle.kr_classes_table.specs.Table as tables
use Rattle.kr_classes_table.specs.Table.{Table, Method, class_at, super_of, line_within, ancestors, own_methods, method_named, is_below}
use Rattle.kr_mean.specs.Program.{Program, overriding}
use Rattle.kr_mean.specs.Code.{overriders}
use Rattle.kr_mean.specs.Purity.{IsOneOf}

pub one_front : {A : Type 0} (x : A) (xs ys : List A) → IsOneOf x xs → IsOneOf x (xs ++ ys)
one_front x [] ys h = absurd h
one_front x (z ∷ xs) ys (inl e) = inl e
one_front x (z ∷ xs) ys (inr h) = inr (one_front x xs ys h)

pub one_back : {A : Type 0} (x : A) (xs ys : List A) → IsOneOf x ys → IsOneOf x (xs ++ ys)
one_back x [] ys h = h
one_back x (z ∷ xs) ys h = inr (one_back x xs ys h)

one_among : {A : Type 0} (x : A) (f : ℕ → List A) (c a n : ℕ) → a ≤ c → c < a + n → IsOneOf x (f c) → IsOneOf x (flat_map f (range_with_len a n))
one_among x f c a zero h k i = absurd (omega (arith, h, k))
one_among x f c a (suc n) h k i = go (cases_lt a c) (λ lt. one_among x f c (a + 1) n (omega (arith, lt)) (omega (arith, k)) i)
  where
    go : (a < c) ⊎ (c ≤ a) → (a < c → IsOneOf x (flat_map f (range_with_len (a + 1) n))) → IsOneOf x (flat_map f (range_with_len a (suc n)))
    go (inl lt) next = one_back x (f a) (flat_map f (range_with_len (a + 1) n)) (next lt)
    go (inr le) next = let e : c ≡ a = omega (arith, h, le) in one_front x (f a) (flat_map f (range_with_len (a + 1) n)) (subst (λ (d : ℕ). IsOneOf x (f d)) e i)

no_class : (cs : List tables.Class) (c : ℕ) → length cs ≤ c → class_at cs c ≡ None
no_class [] c h = refl
no_class (d ∷ ds) zero h = absurd (omega (arith, h))
no_class (d ∷ ds) (suc c) h = no_class ds c (omega (arith, h))

pub no_line : (n : ℕ) (t : Table) → line_within n t None ≡ []
no_line zero t = refl
no_line (suc n) t = refl

-- a number past the table has no methods
no_method : (t : Table) (c : ℕ) (n : List ℕ) → length t.classes ≤ c → method_named t c n ≡ None
no_method t c n h =
    let e = no_class t.classes c h in
    let up : super_of t c ≡ None = ap (option_and_then (λ d. d.super)) e in
    let above : ancestors t c ≡ [] = ap (line_within (length t.classes) t) up ∙ no_line (length t.classes) t in
    let own : own_methods t c ≡ [] = ap (λ (x : Option tables.Class). flat_map (λ d. d.methods) (option_to_list x)) e in
    let all : flat_map (own_methods t) (c ∷ ancestors t c) ≡ [] = ap (λ (x : List ℕ). own_methods t c ++ flat_map (own_methods t) x) above ∙ ap (λ (x : List Method). x ++ []) own in
    ap (find (λ (m : Method). bytes_eq m.name n)) all

pub overrider_in : (program : Program) (m : Method) (class : Class) (n : Method) → overriding program m class ≡ Some n → IsOneOf n (overriders program m)
overrider_in program m (Array t) n e = absurd (cc (e))
overrider_in program m Set n e = absurd (cc (e))
overrider_in program m ListClass n e = absurd (cc (e))
overrider_in program m (Object c) n e = go (cases_lt c (length program.table.classes))
  where
    one : (x : Option Method) → x ≡ Some n → IsOneOf n (option_to_list x)
    one None f = absurd (cc (f))
    one (Some k) f = inl (cc (f))

    none : (b : Bool) → method_named program.table c m.name ≡ None → (if b then method_named program.table c m.name else None) ≡ Some n → IsOneOf n (overriders program m)
    none true f g = absurd (cc (f, g))
    none false f g = absurd (cc (g))

    go : (c < length program.table.classes) ⊎ (length program.table.classes ≤ c) → IsOneOf n (overriders program m)
    go (inl lt) = one_among n (λ d. option_to_list (overriding program m (Object d))) c 0 (length program.table.classes) (omega arith) (omega (arith, lt)) (one (overriding program m (Object c)) e)
    go (inr le) = none (is_below program.table c m.class) (no_method program.table c m.name le) e
