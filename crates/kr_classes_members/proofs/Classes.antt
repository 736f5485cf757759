-- The classes of a table, one after another.
use Rattle.std.proofs.Common.{◌≡◌, refl, sym, ap, ◌∙◌, ℕ, zero, suc, ◌+◌, ◌<◌, List, [], ◌∷◌, ◌++◌, length, map, take, get_or, zero-add, append-nil, subst, arith}
use Rattle.std.specs.Prelude.{Option, Some, None, flat_map, option_map, option_to_list, slice_get}
use Rattle.std.proofs.lemmas.List.{length-map, map-append, take_more, length-take-le}
use Rattle.std.proofs.lemmas.Grind.{flat_map-append}
use Rattle.std.proofs.lemmas.List.Folds.{flat_map-map}
use Rattle.std.proofs.lemmas.Option.{get_or_from_slice_get, slice_get-map, slice_get_within}
use Rattle.kr_ast.specs.Arena.{Arena, tree_in}
use Rattle.kr_ast.specs.Tree.{Tree}
use Rattle.kr_classes_table.specs.Table.{Class, Constructor, Field, Heading, Method, class_at, class_named, classes_from, class_of, constructors_in, fields_in, methods_in, table_of}
use Rattle.kr_classes_members.specs.declared.members.ClassMembers.{ClassMembers}
use Rattle.kr_classes_members.specs.declared.members.Members.{Members}
use Rattle.kr_classes_members.specs.Kept.{AreMembers, IsClass, class_shown}
use Rattle.kr_classes_members.specs.Shown.{headings_in, table_in}

pub classes_append : (all : List Heading) (k : ℕ) (hs gs : List Heading) → classes_from all k (hs ++ gs) ≡ classes_from all k hs ++ classes_from all (k + length hs) gs
classes_append all k [] gs = ap (λ n. classes_from all n gs) (omega arith)
classes_append all k (h ∷ hs) gs =
    let e : k + 1 + length hs ≡ k + length (h ∷ hs) = omega arith in
    ap (λ ds. class_of all k h ∷ ds) (classes_append all (k + 1) hs gs ∙ ap (λ n. classes_from all (k + 1) hs ++ classes_from all n gs) e)

pub classes_in : (files : List Arena) → (table_in files).classes ≡ classes_from (headings_in files) 0 (headings_in files)
unfolding table_of
classes_in files = refl

-- one class more
pub classes_step : {A : Type 0} (all : List Heading) (v : A → Heading) (xs : List A) (i : ℕ) (d : A) → i < length xs → classes_from all 0 (map v (take i xs)) ++ class_of all i (v (get_or xs i d)) ∷ [] ≡ classes_from all 0 (map v (take (i + 1) xs))
classes_step all v xs i d l =
    let x = get_or xs i d in
    let before = map v (take i xs) in
    let n : 0 + length before ≡ i = zero-add _ ∙ length-map (take i xs) v ∙ length-take-le i xs (omega (arith, l)) in
    ap (λ k. classes_from all 0 before ++ class_of all k (v x) ∷ []) (sym n)
    ∙ sym (classes_append all 0 before (v x ∷ []))
    ∙ ap (classes_from all 0) (sym (map-append v (take i xs) (x ∷ [])) ∙ ap (map v) (sym (take_more xs i d l)))

-- the members' declarations, over the nodes of their list
pub of_members : {A : Type 0} (g : Tree → List A) (a : Arena) (xs ys : List ℕ) (ts : List Tree) → xs ≡ ys → map (tree_in a) ys ≡ ts → flat_map (λ n. g (tree_in a n)) xs ≡ flat_map g ts
of_members g a xs ys ts e l = ap (flat_map (λ n. g (tree_in a n))) e ∙ sym (flat_map-map g (tree_in a) ys) ∙ ap (flat_map g) l

pub same_class : (hs : List Heading) (c : ℕ) (h : Heading) (s : Option ℕ) (fs : List Field) (ms : List Method) (ks : List Constructor) → s ≡ class_named hs h.extended → fs ≡ flat_map (fields_in hs c) h.members → ms ≡ flat_map (methods_in hs c) h.members
    → ks ≡ flat_map (constructors_in hs) h.members → record { name = h.name; place = h.place; outer = h.outer; extended = h.extended; super = s; fields = fs; methods = ms; constructors = ks } ≡ class_of hs c h
same_class hs c h s fs ms ks e f g k = cc

class_get : (ds : List Class) (c : ℕ) → class_at ds c ≡ slice_get ds c
class_get [] c = refl
class_get (d ∷ ds) zero = refl
class_get (d ∷ ds) (suc c) = class_get ds c

-- a class of the table is the one that is kept
pub class_kept : (files : List Arena) (m : Members) (c : ℕ) → AreMembers files m → class_at (table_in files).classes c ≡ option_map (class_shown files) (slice_get m.classes.items c)
class_kept files m c h = ap (λ ds. class_at ds c) (sym h.shown) ∙ class_get (map (class_shown files) m.classes.items) c ∙ slice_get-map (class_shown files) m.classes.items c

pub at_class : (files : List Arena) (m : Members) (c : ℕ) (k : ClassMembers) → AreMembers files m → Some k ≡ slice_get m.classes.items c → class_at (table_in files).classes c ≡ Some (class_shown files k)
at_class files m c k h e = class_kept files m c h ∙ ap (option_map (class_shown files)) (sym e)

pub at_none : (files : List Arena) (m : Members) (c : ℕ) → AreMembers files m → None ≡ slice_get m.classes.items c → class_at (table_in files).classes c ≡ None
at_none files m c h e = class_kept files m c h ∙ ap (option_map (class_shown files)) (sym e)

-- the members kept of a class exist
pub kept_stands : (files : List Arena) (m : Members) (c : ℕ) (k : ClassMembers) → AreMembers files m → Some k ≡ slice_get m.classes.items c → IsClass files k
kept_stands files m c k h e =
    let l = slice_get_within m.classes.items c k (sym e) in
    subst (λ (x : ClassMembers). IsClass files x) (get_or_from_slice_get m.classes.items c k k (sym e)) (h.stands c k l)

-- the declarations of one sort of a class of the table
pub declared_by : {A : Type 0} (part : Class → List A) (ds : List Class) (c : ℕ) (d : Class) → class_at ds c ≡ Some d → flat_map part (option_to_list (class_at ds c)) ≡ part d
declared_by part ds c d e = ap (λ o. flat_map part (option_to_list o)) e ∙ append-nil (part d)

pub declares_none : {A : Type 0} (part : Class → List A) (ds : List Class) (c : ℕ) → class_at ds c ≡ None → flat_map part (option_to_list (class_at ds c)) ≡ []
declares_none part ds c e = ap (λ o. flat_map part (option_to_list o)) e

pub flat_flat : {A B C : Type 0} (f : B → List C) (g : A → List B) (xs : List A) → flat_map (λ x. flat_map f (g x)) xs ≡ flat_map f (flat_map g xs)
flat_flat f g [] = refl
flat_flat f g (x ∷ xs) = ap (λ ys. flat_map f (g x) ++ ys) (flat_flat f g xs) ∙ sym (flat_map-append f (g x) (flat_map g xs))
