-- Each class of well typed files, with its members, none of which is broken.
use Rattle.std.proofs.Common.{◌≡◌, refl, sym, ap, ◌∙◌, subst, ℕ, zero, suc, ◌+◌, Bool, true, false, ◌||◌, List, [], ◌∷◌, length, Option, Some, None, arith}
use Rattle.std.specs.Prelude.{map, flat_map, bytes_eq, unwrap_or, if◌then◌else◌}
use Rattle.std.proofs.lemmas.Bool.{or_left}
use Rattle.kr_base.specs.declared.place.Place.{Place}
use Rattle.kr_ast.specs.Tree as trees
use Rattle.kr_ast.specs.Tree.{Tree}
use Rattle.kr_classes_table.specs.Table.{Heading, Table, Class, items, heading_of, with_nested, headings_from, headings_of, number_from, number_of, table_of, class_of, classes_from, class_at}
use Rattle.kr_classes_table.specs.Constants.{values_of}
use Rattle.kr_classes_table.specs.Rules.{Fault, class_fault, break_if, is_name_among, repeated, C1, least, each_class, C2, C3, C4, C5, C6, C7, C8}
use Rattle.kr_classes_table.proofs.Least.{is_least}
use Rattle.kr_types_meaning.specs.Scopes.{Scope, scope_of, in_class, after}
use Rattle.kr_types_meaning.specs.Typing.{judged, judge, class_rule, has_constructor, outside, IsWellTyped}
use Rattle.kr_laws_types.specs.Derivation.{IsMember, IsClass, AreClasses}
use Rattle.kr_laws_runs.proofs.Respects.{AllOf, all_both}
use Rattle.kr_laws_never_stuck.proofs.Declared.{equal_names}
use Rattle.kr_laws_never_stuck.specs.WellTyped.{AreFiles}
use Rattle.kr_base.proofs.ListLemmas.{append_is_nil}
use Rattle.kr_classes_table.proofs.Tables.{first_none, unbroken}

-- ---- members

-- a member leaves its scope
member_scope : (s : Scope) (m : Tree) → IsMember false m → after s m ≡ s
member_scope s (trees.Class p n e ms) h = refl
member_scope s (trees.Field p st fi t ds) h = refl
member_scope s (trees.Method p st n g b) h = refl
member_scope s (trees.Constructor p ps c b) h = refl
member_scope s _ h = absurd h

-- a member of the scope of a class, which isn't broken
abbrev pub IsGoodMember : Scope → Tree → Type 0
IsGoodMember s m = ((judged s m).faults ≡ []) × IsMember false m

pub members_good : (s : Scope) (ms : Tree) → IsMember true ms → (judged s ms).faults ≡ [] → AllOf (IsGoodMember s) (items ms)
unfolding judged
members_good s trees.Nil h f = tt
members_good s (trees.Cons a b) h f =
    let parts = append_is_nil (judged s a).faults (judged (after s a) b).faults f in
    ((parts.0, h.0), members_good s b h.1 (subst (λ (z : Scope). (judged z b).faults ≡ []) (member_scope s a h.0) parts.1))
members_good s _ h f = absurd h

-- ---- headings

module _ (t : Table) where
  abbrev pub around : Scope
  around = outside t

  -- a heading whose class isn't broken
  pub record IsGood (h : Heading) : Type 0 where
    pub tree : Tree
    pub members : h.members ≡ items tree
    pub shape : IsMember true tree
    pub unbroken : (judge h.place (class_rule (has_constructor (in_class h.name around)) (in_class h.name around)) (judged (in_class h.name around) tree).faults).faults ≡ []

  below_good : (p : Place) (v : Rattle.kr_types_meaning.specs.Rules.Judgement) (below : List Fault) → (judge p v below).faults ≡ [] → below ≡ []
  below_good p v below e = Rattle.kr_laws_types.proofs.Typed.below_none p v below e

  class_good : (outer : Option ℕ) (m : Tree) (n : List ℕ) → IsGoodMember (in_class n around) m → AllOf IsGood (heading_of outer m)
  unfolding judged
  class_good outer (trees.Class p n e ms) o h = (record { tree = ms; members = refl; shape = h.1.1; unbroken = h.0 }, tt)
  class_good outer _ n h = tt

  nested_good : (k : ℕ) (ms : List Tree) (n : List ℕ) → AllOf (IsGoodMember (in_class n around)) ms → AllOf IsGood (flat_map (heading_of (Some k)) ms)
  nested_good k [] n h = tt
  nested_good k (m ∷ ms) n h = all_both IsGood (heading_of (Some k) m) (flat_map (heading_of (Some k)) ms) (class_good (Some k) m n h.0) (nested_good k ms n h.1)

  abbrev pub IsGoodClass : Tree → Type 0
  IsGoodClass m = ((judged around m).faults ≡ []) × IsClass m

  own_good : (k : ℕ) (m : Tree) → IsGoodClass m → AllOf IsGood (with_nested k (heading_of None m))
  unfolding judged
  own_good k (trees.Class p n e ms) h =
      let below = below_good p (class_rule (has_constructor (in_class n around)) (in_class n around)) (judged (in_class n around) ms).faults h.0 in
      (record { tree = ms; members = refl; shape = h.1.1; unbroken = h.0 }, nested_good k (items ms) n (members_good (in_class n around) ms h.1.1 below))
  own_good k _ h = absurd h.1

  headings_good : (k : ℕ) (ms : List Tree) → AllOf IsGoodClass ms → AllOf IsGood (headings_from k ms)
  headings_good k [] h = tt
  headings_good k (m ∷ ms) h = let own = with_nested k (heading_of None m) in all_both IsGood own (headings_from (k + length own) ms) (own_good k m h.0) (headings_good (k + length own) ms h.1)

  -- ---- files

  file_good : (file : Tree) → AreClasses file → (judged around file).faults ≡ [] → AllOf IsGoodClass (items file)
  unfolding judged
  file_good trees.Nil h f = tt
  file_good (trees.Cons (trees.Class p n e ms) b) h f = let parts = append_is_nil (judged around (trees.Class p n e ms)).faults (judged around b).faults f in ((parts.0, h.0), file_good b h.1 parts.1)
  file_good (trees.Cons _ b) h f = absurd h.0
  file_good _ h f = absurd h

  files_good : (files : List Tree) → AreFiles files → flat_map (λ file. (judged around file).faults) files ≡ [] → AllOf IsGoodClass (flat_map items files)
  files_good [] h f = tt
  files_good (file ∷ files) h f = let parts = append_is_nil (judged around file).faults (flat_map (λ file. (judged around file).faults) files) f in all_both IsGoodClass (items file) (flat_map items files) (file_good file h.0 parts.0) (files_good files h.1 parts.1)

-- ---- names of classes

abbrev pub heading_at : List Heading → ℕ → Option Heading
heading_at [] c = None
heading_at (h ∷ hs) zero = Some h
heading_at (h ∷ hs) (suc c) = heading_at hs c

pub class_is : (all : List Heading) (k : ℕ) (hs : List Heading) (c : ℕ) (d : Class) → class_at (classes_from all k hs) c ≡ Some d → (h : Heading) × (heading_at hs c ≡ Some h) × (d ≡ class_of all (k + c) h)
class_is all k [] c d e = absurd (cc (e))
class_is all k (x ∷ hs) zero d e = let z : k ≡ k + 0 = omega arith in (x, refl, sym (ap (λ (o : Option Class). elim o as (λ y. Class) [ Some y ↦ y | None ↦ d ]) e) ∙ ap (λ (n : ℕ). class_of all n x) z)
class_is all k (x ∷ hs) (suc c) d e = let r = class_is all (k + 1) hs c d e in let z : k + 1 + c ≡ k + suc c = omega arith in (r.0, r.1, r.2 ∙ ap (λ (n : ℕ). class_of all n r.0) z)

abbrev class_name : Class → List ℕ × Place
class_name d = (d.name, d.place)

unseen : (all : List Heading) (k : ℕ) (seen : List (List ℕ)) (hs : List Heading) (c : ℕ) (h : Heading) → repeated 1 seen (map class_name (classes_from all k hs)) ≡ [] → heading_at hs c ≡ Some h → is_name_among h.name seen ≡ false
unseen all k seen [] c h e q = absurd (cc (q))
unseen all k seen (x ∷ hs) zero h e q =
    let i : x ≡ h = ap (λ (o : Option Heading). elim o as (λ y. Heading) [ Some y ↦ y | None ↦ x ]) q in
    ap (λ (z : Heading). is_name_among z.name seen) (sym i) ∙ unbroken (is_name_among x.name seen) 1 x.place (append_is_nil (break_if (is_name_among x.name seen) 1 x.place) (repeated 1 (x.name ∷ seen) (map class_name (classes_from all (k + 1) hs))) e).0
unseen all k seen (x ∷ hs) (suc c) h e q = later (bytes_eq h.name x.name) (is_name_among h.name seen) (unseen all (k + 1) (x.name ∷ seen) hs c h (append_is_nil (break_if (is_name_among x.name seen) 1 x.place) (repeated 1 (x.name ∷ seen) (map class_name (classes_from all (k + 1) hs))) e).1 q)
  where
    later : (a b : Bool) → (a || b) ≡ false → b ≡ false
    later true b e = absurd (cc (e))
    later false b e = e

-- the number of the name of a class is its own
number_is : (all : List Heading) (j k : ℕ) (seen : List (List ℕ)) (hs : List Heading) (c : ℕ) (h : Heading) → repeated 1 seen (map class_name (classes_from all j hs)) ≡ [] → heading_at hs c ≡ Some h → number_from k hs h.name ≡ Some (k + c)
number_is all j k seen [] c h e q = absurd (cc (q))
number_is all j k seen (x ∷ hs) zero h e q =
    let i : x ≡ h = ap (λ (o : Option Heading). elim o as (λ y. Heading) [ Some y ↦ y | None ↦ x ]) q in
    let z : k ≡ k + 0 = omega arith in
    ap (λ (b : Bool). if b then Some k else number_from (k + 1) hs h.name) (equal_names x.name h.name (ap (λ (y : Heading). y.name) i)) ∙ ap (λ (n : ℕ). Some n) z
number_is all j k seen (x ∷ hs) (suc c) h e q =
    let rest = (append_is_nil (break_if (is_name_among x.name seen) 1 x.place) (repeated 1 (x.name ∷ seen) (map class_name (classes_from all (j + 1) hs))) e).1 in
    go (bytes_eq x.name h.name) refl (unseen all (j + 1) (x.name ∷ seen) hs c h rest q) (number_is all (j + 1) (k + 1) (x.name ∷ seen) hs c h rest q)
  where
    go : (b : Bool) → bytes_eq x.name h.name ≡ b → (bytes_eq h.name x.name || is_name_among h.name seen) ≡ false → number_from (k + 1) hs h.name ≡ Some (k + 1 + c) → (if b then Some k else number_from (k + 1) hs h.name) ≡ Some (k + suc c)
    go true b f r = absurd (cc (f, or_left (bytes_eq h.name x.name) (is_name_among h.name seen) (equal_names h.name x.name (sym (Rattle.kr_laws_never_stuck.proofs.Declared.names_equal x.name h.name b)))))
    go false b f r = let z : k + 1 + c ≡ k + suc c = omega arith in r ∙ ap (λ (n : ℕ). Some n) z

good_at : (t : Table) (hs : List Heading) (c : ℕ) (h : Heading) → AllOf (IsGood t) hs → heading_at hs c ≡ Some h → IsGood t h
good_at t [] c h g q = absurd (cc (q))
good_at t (x ∷ hs) zero h g q = subst (IsGood t) (ap (λ (o : Option Heading). elim o as (λ y. Heading) [ Some y ↦ y | None ↦ x ]) q) g.0
good_at t (x ∷ hs) (suc c) h g q = good_at t hs c h g.1 q

-- ---- classes

-- a class of the table, with its members
pub record IsGoodAt (files : List Tree) (c : ℕ) (d : Class) : Type 0 where
  pub heading : Heading
  pub there : heading_at (headings_of files) c ≡ Some heading
  -- its name means it
  pub number : number_of (headings_of files) heading.name ≡ Some c
  pub is : d ≡ class_of (headings_of files) c heading
  pub tree : Tree
  pub members : heading.members ≡ items tree
  pub all : AllOf (IsGoodMember (scope_of (table_of files) (values_of (table_of files)) c)) (items tree)
  pub rule : (judge heading.place (class_rule (has_constructor (scope_of (table_of files) (values_of (table_of files)) c)) (scope_of (table_of files) (values_of (table_of files)) c)) (judged (scope_of (table_of files) (values_of (table_of files)) c) tree).faults).faults ≡ []

names_apart : (files : List Tree) → class_fault (table_of files) ≡ None → C1 (table_of files) ≡ []
unfolding class_fault
names_apart files e =
    let t = table_of files in
    (is_least (C1 t)).none (first_none (least (C1 t)) (least (each_class (C2 t) 0 t.classes) ∷ least (each_class (C3 t) 0 t.classes) ∷ least (each_class (C4 t) 0 t.classes) ∷ least (each_class (C5 t) 0 t.classes) ∷ least (each_class (C6 t) 0 t.classes) ∷ least (each_class (C7 t) 0 t.classes) ∷ least (each_class (C8 t) 0 t.classes) ∷ []) e)

-- the class at a number is the one that its name means
pub class_good_at : (files : List Tree) → AreFiles files → class_fault (table_of files) ≡ None → IsWellTyped files → (c : ℕ) (d : Class) → class_at (table_of files).classes c ≡ Some d → IsGoodAt files c d
unfolding table_of
class_good_at files shapes faults typed c d q =
    let hs = headings_of files in
    let t = table_of files in
    let r = class_is hs 0 hs c d q in
    let zero_c : 0 + c ≡ c = omega arith in
    let good = good_at t hs c r.0 (headings_good t 0 (flat_map items files) (files_good t files shapes typed)) r.1 in
    let number : number_of hs r.0.name ≡ Some c = number_is hs 0 0 _ hs c r.0 (names_apart files faults) r.1 ∙ ap (λ (n : ℕ). Some n) zero_c in
    let scope : in_class r.0.name (outside t) ≡ scope_of t (values_of t) c = ap (λ (o : Option ℕ). scope_of t (values_of t) (unwrap_or o 0)) number in
    let rule = subst (λ (s : Scope). (judge r.0.place (class_rule (has_constructor s) s) (judged s good.tree).faults).faults ≡ []) scope good.unbroken in
    record {
      heading = r.0;
      there = r.1;
      number = number;
      is = r.2 ∙ ap (λ (n : ℕ). class_of hs n r.0) zero_c;
      tree = good.tree;
      members = good.members;
      all = members_good (scope_of t (values_of t) c) good.tree good.shape (Rattle.kr_laws_types.proofs.Typed.below_none r.0.place (class_rule (has_constructor (scope_of t (values_of t) c)) (scope_of t (values_of t) c)) (judged (scope_of t (values_of t) c) good.tree).faults rule);
      rule = rule;
    }
