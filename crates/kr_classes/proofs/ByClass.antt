-- A class rule, class by class.
use Rattle.std.proofs.Common.{◌≡◌, refl, sym, ap, ◌∙◌, ℕ, zero, suc, ◌+◌, ◌<◌, ◌≤◌, List, [], ◌∷◌, ◌++◌, length, map, take, get_or, append-nil, append_assoc, zero-add, arith}
use Rattle.std.specs.Prelude.{Option, Some, flat_map, option_and_then, option_to_list, is_none}
use Rattle.std.proofs.lemmas.List.{length-map, take_more, take_all, length-take-le}
use Rattle.std.proofs.Math.ListN.{get_or-map}
use Rattle.kr_base.specs.declared.place.Place.{Place}
use Rattle.kr_ast.specs.Arena.{Arena, root, tree_in}
use Rattle.kr_classes_table.specs.Table.{Class, Heading, class_at, headings_of, classes_from, class_of, ancestors, is_among}
use Rattle.kr_classes_table.specs.Rules.{Fault, C2, C3, each_class, extended_at, break_if, sooner, least}
use Rattle.kr_classes_table.proofs.Tables.{long}
use Rattle.kr_classes_names.specs.declared.headings.Heading.{Heading as Kept}
use Rattle.kr_classes_names.specs.declared.class_names.Heads.{Heads}
use Rattle.kr_classes_names.specs.Shown.{AreHeads, heading_shown}
use Rattle.kr_ast.specs.Files.{file_at}
use Rattle.kr_classes_members.proofs.Classes.{classes_in}
use Rattle.kr_classes.specs.Faults.{ClassRule, AreSuperclasses, IsFirstIn, IsFirstOf, fault_at, first_of_rule, superclass_at}
use Rattle.kr_classes_members.specs.Shown.{table_in}
use Rattle.kr_classes.proofs.Sooner.{least_append}

pub each_append : (rule : ℕ → Class → List Fault) (k : ℕ) (ds es : List Class) → each_class rule k (ds ++ es) ≡ each_class rule k ds ++ each_class rule (k + length ds) es
each_append rule k [] es = ap (λ n. each_class rule n es) (omega arith)
each_append rule k (d ∷ ds) es =
    let e : k + 1 + length ds ≡ k + length (d ∷ ds) = omega arith in
    ap (λ fs. rule k d ++ fs) (each_append rule (k + 1) ds es ∙ ap (λ n. each_class rule (k + 1) ds ++ each_class rule n es) e)
    ∙ sym (append_assoc (rule k d) (each_class rule (k + 1) ds) (each_class rule (k + length (d ∷ ds)) es))

-- one class more
pub each_more : (rule : ℕ → Class → List Fault) (ds : List Class) (i : ℕ) (d : Class) → i < length ds → each_class rule 0 (take (i + 1) ds) ≡ each_class rule 0 (take i ds) ++ rule i (get_or ds i d)
each_more rule ds i d l =
    let x = get_or ds i d in
    let n : 0 + length (take i ds) ≡ i = zero-add _ ∙ length-take-le i ds (omega (arith, l)) in
    ap (each_class rule 0) (take_more ds i d l)
    ∙ each_append rule 0 (take i ds) (x ∷ [])
    ∙ ap (λ k. each_class rule 0 (take i ds) ++ each_class rule k (x ∷ [])) n
    ∙ ap (λ fs. each_class rule 0 (take i ds) ++ fs) (append-nil (rule i x))

-- a class of the table is that of its heading
pub class_read : (all : List Heading) (k : ℕ) (hs : List Heading) (i : ℕ) (d : Class) (h : Heading) → i < length hs → get_or (classes_from all k hs) i d ≡ class_of all (k + i) (get_or hs i h)
class_read all k [] i d h l = absurd (omega (arith, l))
class_read all k (x ∷ hs) zero d h l = ap (λ n. class_of all n x) (omega arith)
class_read all k (x ∷ hs) (suc i) d h l = class_read all (k + 1) hs i d h (omega (arith, l)) ∙ ap (λ n. class_of all n (get_or hs i h)) (omega arith)

length-map-of : (files : List Arena) (xs : List Kept) → map (heading_shown files) xs ≡ headings_of (map root files) → length (headings_of (map root files)) ≡ length xs
length-map-of files xs s = ap length (sym s) ∙ length-map xs (heading_shown files)

-- the heads kept for the classes of these files
abbrev pub Shows : Heads → List Kept → Type 0
Shows heads xs = (files : List Arena) → AreHeads files heads → map (heading_shown files) xs ≡ headings_of (map root files)

pub same_item : (xs : List Kept) (i : ℕ) (d e : Kept) → i < length xs → get_or xs i d ≡ get_or xs i e
same_item [] i d e l = absurd (omega (arith, l))
same_item (x ∷ xs) zero d e l = refl
same_item (x ∷ xs) (suc i) d e l = same_item xs i d e (omega (arith, l))

-- the class of a heading that the code keeps
pub class_kept : (files : List Arena) (xs : List Kept) (x : Kept) (i : ℕ) (d : Class) → map (heading_shown files) xs ≡ headings_of (map root files) → i < length xs → x ≡ get_or xs i x
    → get_or (table_in files).classes i d ≡ class_of (headings_of (map root files)) (0 + i) (heading_shown files x)
class_kept files xs x i d s l e =
    let hs = headings_of (map root files) in
    let n = length-map-of files xs s in
    ap (λ ds. get_or ds i d) (classes_in files)
    ∙ class_read hs 0 hs i d (heading_shown files x) (omega (arith, l, n))
    ∙ ap (class_of hs (0 + i)) (ap (λ ys. get_or ys i (heading_shown files x)) (sym s) ∙ get_or-map (heading_shown files) xs i x ∙ ap (heading_shown files) (sym e))

-- a rule's first place with one class more
pub more_in : (n : ℕ) (rule : ClassRule) (files : List Arena) (xs : List Kept) (i : ℕ) (d : Class) (first place new : Option Place) → map (heading_shown files) xs ≡ headings_of (map root files) → i < length xs
    → IsFirstIn n rule (table_in files) i first
    → ((r : ℕ) → fault_at r new ≡ sooner (fault_at r first) (fault_at r place))
    → fault_at n place ≡ least (rule (table_in files) i (get_or (table_in files).classes i d))
    → IsFirstIn n rule (table_in files) (i + 1) new
more_in n rule files xs i d first place new s l so e own =
    let t = table_in files in
    let m = length-map-of files xs s in
    let k : length t.classes ≡ length (headings_of (map root files)) = ap length (classes_in files) ∙ long (headings_of (map root files)) 0 (headings_of (map root files)) in
    e n
    ∙ ap (λ o. sooner o (fault_at n place)) so
    ∙ ap (sooner (least (each_class (rule t) 0 (take i t.classes)))) own
    ∙ sym (least_append (each_class (rule t) 0 (take i t.classes)) (rule t i (get_or t.classes i d)))
    ∙ ap least (sym (each_more (rule t) t.classes i d (omega (arith, l, m, k))))

pub more : (n : ℕ) (rule : ClassRule) (heads : Heads) (xs : List Kept) (supers : List (Option ℕ)) (i : ℕ) (d : Class) (first place new : Option Place) → Shows heads xs → i < length xs → IsFirstOf n rule heads supers i first
    → ((r : ℕ) → fault_at r new ≡ sooner (fault_at r first) (fault_at r place))
    → ((files : List Arena) → AreHeads files heads → AreSuperclasses supers (table_in files) → fault_at n place ≡ least (rule (table_in files) i (get_or (table_in files).classes i d)))
    → IsFirstOf n rule heads supers (i + 1) new
more n rule heads xs supers i d first place new s l so e own files h a = more_in n rule files xs i d first place new (s files h) l (so files h a) e (own files h a)

-- all classes
pub all_in : (n : ℕ) (rule : ClassRule) (files : List Arena) (xs : List Kept) (i : ℕ) (first : Option Place) → map (heading_shown files) xs ≡ headings_of (map root files) → length xs ≤ i
    → IsFirstIn n rule (table_in files) i first → fault_at n first ≡ first_of_rule rule (table_in files)
all_in n rule files xs i first s l so =
    let t = table_in files in
    let m = length-map-of files xs s in
    let k : length t.classes ≡ length (headings_of (map root files)) = ap length (classes_in files) ∙ long (headings_of (map root files)) 0 (headings_of (map root files)) in
    so ∙ ap (λ ds. least (each_class (rule t) 0 ds)) (take_all i t.classes (omega (arith, l, m, k)))

pub own_ancestor : (files : List Arena) (xs : List Kept) (x : Kept) (i : ℕ) (d : Class) (place : Option Place) → map (heading_shown files) xs ≡ headings_of (map root files) → i < length xs → x ≡ get_or xs i x
    → fault_at 3 place ≡ least (break_if (is_among i (ancestors (table_in files) i)) 3 x.place) → fault_at 3 place ≡ least (C3 (table_in files) i (get_or (table_in files).classes i d))
own_ancestor files xs x i d place s l e p =
    p ∙ ap (λ q. least (break_if (is_among i (ancestors (table_in files) i)) 3 q)) (sym (ap (λ (c : Class). c.place) (class_kept files xs x i d s l e)))

pub at_index : (ds : List Class) (i : ℕ) (d : Class) → i < length ds → class_at ds i ≡ Some (get_or ds i d)
at_index [] i d l = absurd (omega (arith, l))
at_index (x ∷ ds) zero d l = refl
at_index (x ∷ ds) (suc i) d l = at_index ds i d (omega (arith, l))

pub unknown : (files : List Arena) (xs : List Kept) (supers : List (Option ℕ)) (x : Kept) (i : ℕ) (d : Class) (place ext : Option Place) → map (heading_shown files) xs ≡ headings_of (map root files) → AreSuperclasses supers (table_in files) → i < length xs
    → length supers ≡ length xs → x ≡ get_or xs i x
    → option_to_list ext ≡ extended_at (tree_in (file_at files x.file) x.extended)
    → fault_at 2 place ≡ least (flat_map (break_if (is_none (superclass_at supers i)) 2) (option_to_list ext))
    → fault_at 2 place ≡ least (C2 (table_in files) i (get_or (table_in files).classes i d))
unknown files xs supers x i d place ext f a l n e o p =
    let t = table_in files in
    let c = get_or t.classes i d in
    let same = class_kept files xs x i d f l e in
    let s : superclass_at supers i ≡ c.super = sym (a.each i (omega (arith, l, n))) ∙ ap (option_and_then (λ (k : Class). k.super)) (at_index t.classes i d (omega (arith, l, n, a.count))) in
    p ∙ ap (λ ps. least (flat_map (break_if (is_none (superclass_at supers i)) 2) ps)) (o ∙ sym (ap (λ (k : Class). extended_at k.extended) same))
    ∙ ap (λ k. least (flat_map (break_if (is_none k) 2) (extended_at c.extended))) s
