-- One class more after those of accepted files.
use Rattle.std.proofs.Common.{◌≡◌, refl, sym, ap, ◌∙◌, subst, ℕ, zero, suc, ◌+◌, Bool, true, false, List, [], ◌∷◌, ◌++◌, length, map, append_assoc, arith, Option, Some, None, if◌then◌else◌}
use Rattle.std.specs.Prelude.{bytes_eq, flat_map, option_and_then, option_to_list, unwrap_or}
use Rattle.std.specs.List.{AllByRecursion}
use Rattle.kr_base.specs.declared.place.Place.{Place}
use Rattle.kr_base.proofs.ListLemmas.{append_is_nil}
use Rattle.kr_ast.specs.Tree as trees
use Rattle.kr_ast.specs.Tree.{Tree}
use Rattle.kr_classes_table.specs.Constants.{Known, values_of, constants_in}
use Rattle.kr_classes_table.specs.Rules.{Fault, break_if, is_name_among, object_methods, repeated, class_fault}
use Rattle.kr_classes_table.specs.Table.{Heading, Table, Class, Method, Constructor, items, heading_of, headings_from, headings_of, number_from, number_of, outer_of, fields_in, methods_in, constructors_in, class_of, classes_from, class_at, super_of, table_of, constructor_parameters}
use Rattle.kr_classes_table.proofs.Headings.{headings_append}
use Rattle.kr_classes_table.proofs.Tables.{long, past}
use Rattle.kr_types_meaning.specs.Scopes.{Scope, scope_of, in_class}
use Rattle.kr_types_meaning.specs.Rules.{ask, fine, is_none_of}
use Rattle.kr_types_meaning.specs.Typing.{judge, class_rule, judged, outside}
use Rattle.kr_types_meaning.proofs.WellTyped.{well_typed_law}
use Rattle.kr_laws_types.specs.Derivation.{AreClasses}
use Rattle.kr_laws_types.proofs.Shapes.{file_shape}
use Rattle.kr_space_meaning.proofs.Each.{each_weaker}
use Rattle.kr_laws_never_stuck.proofs.Declared.{equal_names}
use Rattle.kr_emit_laws.specs.Larger.{AreNames, IsLarger}
use Rattle.kr_emit_laws.specs.OneMore.{IsDerived, AreMethods, method_names, IsAddable, file_of, one_more, new_heading, IsAdded, OneMoreLaw}
use Rattle.kr_emit_laws.proofs.TypingNames.{IsFree, other_way}
use Rattle.kr_emit_laws.proofs.TypingLines.{IsPlain, larger}
use Rattle.kr_emit_laws.proofs.Rules.{at, field_meant_same}
use Rattle.kr_emit_laws.proofs.Members.{Others, file_alike}
use Rattle.kr_emit_laws.proofs.TypingValues.{values_same}
use Rattle.kr_emit_laws.proofs.Headings.{all_good, classes_same}
use Rattle.kr_emit_laws.proofs.Nested.{Outers, file_nests, files_other}
use Rattle.kr_emit_laws.proofs.Unbroken.{AreUnbroken, unbroken, accepted, unbroken_more}
use Rattle.kr_emit_laws.proofs.Acyclic.{is_closed, is_acyclic}

-- ---- lists

items_more : (files : List Tree) (file : Tree) → flat_map items (files ++ file ∷ []) ≡ flat_map items files ++ (items file ++ [])
items_more [] file = refl
items_more (x ∷ files) file = ap (λ z. items x ++ z) (items_more files file) ∙ sym (append_assoc (items x) (flat_map items files) (items file ++ []))

none_more : {A B : Type 0} (f : A → List B) (xs : List A) (y : A) → AllByRecursion (λ x. f x ≡ []) xs → f y ≡ [] → flat_map f (xs ++ y ∷ []) ≡ []
none_more f [] y h e = ap (λ z. z ++ []) e
none_more f (x ∷ xs) y h e = ap (λ z. z ++ flat_map f (xs ++ y ∷ [])) h.0 ∙ none_more f xs y h.1 e

each_none : {A B : Type 0} (f : A → List B) (xs : List A) → flat_map f xs ≡ [] → AllByRecursion (λ x. f x ≡ []) xs
each_none f [] e = tt
each_none f (x ∷ xs) e = let parts = append_is_nil (f x) (flat_map f xs) e in (parts.0, each_none f xs parts.1)

each_both : {A : Type 0} (P Q R : A → Type 0) (xs : List A) → ((x : A) → P x → Q x → R x) → AllByRecursion P xs → AllByRecursion Q xs → AllByRecursion R xs
each_both P Q R [] f h k = tt
each_both P Q R (x ∷ xs) f h k = (f x h.0 k.0, each_both P Q R xs f h.1 k.1)

-- ---- methods alone

no_classes : (k : ℕ) (ms : Tree) → AreMethods ms → flat_map (heading_of (Some k)) (items ms) ≡ []
no_classes k trees.Nil h = refl
no_classes k (trees.Cons (trees.Method p st n (trees.Signature q r ps cs) b) ms) h = no_classes k ms h
no_classes k (trees.Cons (trees.Method p st n _ b) ms) h = absurd h
no_classes k (trees.Cons _ ms) h = absurd h
no_classes k _ h = absurd h

no_fields : (hs : List Heading) (k : ℕ) (ms : Tree) → AreMethods ms → flat_map (fields_in hs k) (items ms) ≡ []
no_fields hs k trees.Nil h = refl
no_fields hs k (trees.Cons (trees.Method p st n (trees.Signature q r ps cs) b) ms) h = no_fields hs k ms h
no_fields hs k (trees.Cons (trees.Method p st n _ b) ms) h = absurd h
no_fields hs k (trees.Cons _ ms) h = absurd h
no_fields hs k _ h = absurd h

no_constructors : (hs : List Heading) (ms : Tree) → AreMethods ms → flat_map (constructors_in hs) (items ms) ≡ []
no_constructors hs trees.Nil h = refl
no_constructors hs (trees.Cons (trees.Method p st n (trees.Signature q r ps cs) b) ms) h = no_constructors hs ms h
no_constructors hs (trees.Cons (trees.Method p st n _ b) ms) h = absurd h
no_constructors hs (trees.Cons _ ms) h = absurd h
no_constructors hs _ h = absurd h

named_by : (hs : List Heading) (k : ℕ) (ms : Tree) → AreMethods ms → map (λ (m : Method). (m.name, m.place)) (flat_map (methods_in hs k) (items ms)) ≡ method_names ms
named_by hs k trees.Nil h = refl
named_by hs k (trees.Cons (trees.Method p st n (trees.Signature q r ps cs) b) ms) h = ap (λ z. (n, p) ∷ z) (named_by hs k ms h)
named_by hs k (trees.Cons (trees.Method p st n _ b) ms) h = absurd h
named_by hs k (trees.Cons _ ms) h = absurd h
named_by hs k _ h = absurd h

each_named : {A B : Type 0} (f : B → List A) (ms : List Method) (name : Method → B) → flat_map (λ m. f (name m)) ms ≡ flat_map f (map name ms)
each_named f [] name = refl
each_named f (m ∷ ms) name = ap (λ z. f (name m) ++ z) (each_named f ms name)

-- ---- headings

classes_more : (all : List Heading) (k : ℕ) (hs : List Heading) (h : Heading) → classes_from all k (hs ++ h ∷ []) ≡ classes_from all k hs ++ class_of all (k + length hs) h ∷ []
classes_more all k [] h = let z : k ≡ k + 0 = omega arith in ap (λ j. class_of all j h ∷ []) z
classes_more all k (x ∷ hs) h = let z : k + 1 + length hs ≡ k + suc (length hs) = omega arith in ap (λ ds. class_of all k x ∷ ds) (classes_more all (k + 1) hs h ∙ ap (λ j. classes_from all (k + 1) hs ++ class_of all j h ∷ []) z)

number_kept : (k : ℕ) (hs gs : List Heading) (n : List ℕ) (c : ℕ) → number_from k hs n ≡ Some c → number_from k (hs ++ gs) n ≡ Some c
number_kept k [] gs n c e = absurd (cc (e))
number_kept k (x ∷ hs) gs n c e = go (bytes_eq x.name n) e (number_kept (k + 1) hs gs n c)
  where
    go : (b : Bool) → (if b then Some k else number_from (k + 1) hs n) ≡ Some c → (number_from (k + 1) hs n ≡ Some c → number_from (k + 1) (hs ++ gs) n ≡ Some c) → (if b then Some k else number_from (k + 1) (hs ++ gs) n) ≡ Some c
    go true e r = e
    go false e r = r e

number_other : (k : ℕ) (hs : List Heading) (h : Heading) (n : List ℕ) → bytes_eq h.name n ≡ false → number_from k (hs ++ h ∷ []) n ≡ number_from k hs n
number_other k [] h n e = ap (λ b. if b then Some k else None) e
number_other k (x ∷ hs) h n e = ap (λ z. if bytes_eq x.name n then Some k else z) (number_other (k + 1) hs h n e)

number_fresh : (k : ℕ) (hs : List Heading) (h : Heading) (n : List ℕ) (j : ℕ) → number_from k hs n ≡ None → number_from k (hs ++ h ∷ []) n ≡ Some j → k + length hs ≡ j
number_fresh k [] h n j e f = go (bytes_eq h.name n) f
  where
    go : (b : Bool) → (if b then Some k else None) ≡ Some j → k + 0 ≡ j
    go true f = let s : k ≡ j = cc (f) in omega (arith, s)
    go false f = absurd (cc (f))
number_fresh k (x ∷ hs) h n j e f = go (bytes_eq x.name n) e f (number_fresh (k + 1) hs h n j)
  where
    go : (b : Bool) → (if b then Some k else number_from (k + 1) hs n) ≡ None → (if b then Some k else number_from (k + 1) (hs ++ h ∷ []) n) ≡ Some j
        → (number_from (k + 1) hs n ≡ None → number_from (k + 1) (hs ++ h ∷ []) n ≡ Some j → k + 1 + length hs ≡ j) → k + suc (length hs) ≡ j
    go true e f r = absurd (cc (e))
    go false e f r = let s = r e f in omega (arith, s)

number_new : (k : ℕ) (hs : List Heading) (h : Heading) (n : List ℕ) → bytes_eq h.name n ≡ true → AllByRecursion (λ g. bytes_eq g.name n ≡ false) hs → number_from k (hs ++ h ∷ []) n ≡ Some (k + length hs)
number_new k [] h n e a = let z : k ≡ k + 0 = omega arith in ap (λ b. if b then Some k else None) e ∙ ap (λ j. Some j) z
number_new k (x ∷ hs) h n e a =
    let z : k + 1 + length hs ≡ k + suc (length hs) = omega arith in
    ap (λ b. if b then Some k else number_from (k + 1) (hs ++ h ∷ []) n) a.0 ∙ (number_new (k + 1) hs h n e a.1 ∙ ap (λ j. Some j) z)

outer_more : (hs : List Heading) (h : Heading) (c : ℕ) → h.outer ≡ None → outer_of (hs ++ h ∷ []) c ≡ outer_of hs c
outer_more [] h zero e = e
outer_more [] h (suc c) e = refl
outer_more (x ∷ hs) h zero e = refl
outer_more (x ∷ hs) h (suc c) e = outer_more hs h c e

-- ---- the whole

abbrev table_with : List Heading → Table
table_with hs = record { headings = hs; classes = classes_from hs 0 hs }

table_is : (files : List Tree) → table_of files ≡ table_with (headings_of files)
unfolding table_of
table_is files = refl

module _ (files : List Tree) (place : Place) (name : List ℕ) (ms : Tree) (derived : AllByRecursion IsDerived files) (add : IsAddable files name ms) where
  abbrev hs : List Heading
  hs = headings_of files

  abbrev h : Heading
  h = new_heading place name ms

  headings_more : headings_of (one_more files place name ms) ≡ headings_of files ++ new_heading place name ms ∷ []
  headings_more =
      let own = flat_map items files in
      ap (headings_from 0) (items_more files (file_of place name ms))
      ∙ (headings_append 0 own (trees.Class place name trees.Nil ms ∷ [])
      ∙ ap (λ z. headings_from 0 own ++ ((new_heading place name ms ∷ z) ++ [])) (no_classes (0 + length (headings_from 0 own)) ms add.methods))

  free : IsFree name
  free = record { named = add.named; set = add.set; list = add.list; throwable = add.throwable }

  names : AreNames hs (hs ++ h ∷ []) name
  names = record { kept = λ n c e. number_kept 0 hs (h ∷ []) n c e; other = λ n e. number_other 0 hs h n e; outer = λ c. outer_more hs h c refl }

  shapes : AllByRecursion AreClasses files
  shapes = each_weaker IsDerived AreClasses files (λ x d. file_shape d.0 x d.1) derived

  nests : AllByRecursion Outers files
  nests = each_weaker IsDerived Outers files (λ x d. file_nests d.0 x d.1) derived

  others : AllByRecursion (Others name) files
  others = files_other name 0 files shapes nests add.new

  abbrev T : Table
  T = table_with hs

  abbrev U : Table
  U = table_with (hs ++ h ∷ [])

  abbrev d : Class
  d = class_of (hs ++ h ∷ []) (0 + length hs) h

  plain : IsPlain d
  plain = record { super = refl; outer = refl; fields = no_fields (hs ++ h ∷ []) (0 + length hs) ms add.methods; constructors = no_constructors (hs ++ h ∷ []) ms add.methods }

  module _ (rules : AreUnbroken T) (typed : flat_map (λ file. (judged (outside T) file).faults) files ≡ []) where
    more : U.classes ≡ T.classes ++ d ∷ []
    more = classes_more (hs ++ h ∷ []) 0 hs h ∙ ap (λ ds. ds ++ d ∷ []) (classes_same T (hs ++ h ∷ []) name free names 0 hs (all_good T (outside T) files shapes typed) rules.C2)

    long_hs : length T.classes ≡ length hs
    long_hs = long hs 0 hs

    g : IsLarger T U name
    g = larger T U d more plain (is_acyclic T rules.C3) (is_closed T refl) name names (λ n k e f. let s = number_fresh 0 hs h n k e f in omega (arith, s, long_hs))

    values : values_of U ≡ values_of T
    values = values_same T U name g (field_meant_same T U name free g (outside T)) (ap (flat_map constants_in) more ∙ no_constants T.classes)
      where
        none : constants_in d ≡ []
        none = ap (flat_map (λ f. option_to_list (Rattle.kr_classes_table.specs.Constants.constant_only f))) plain.fields

        no_constants : (ds : List Class) → flat_map constants_in (ds ++ d ∷ []) ≡ flat_map constants_in ds
        no_constants [] = ap (λ z. z ++ []) none
        no_constants (x ∷ ds) = ap (λ z. constants_in x ++ z) (no_constants ds)

    number : number_of (hs ++ h ∷ []) name ≡ Some (length hs)
    number = let z : 0 + length hs ≡ length hs = omega arith in number_new 0 hs h name (equal_names name name refl) (each_weaker (λ g. bytes_eq name g.name ≡ false) (λ g. bytes_eq g.name name ≡ false) hs (λ g e. other_way name g.name e) add.new) ∙ ap (λ j. Some j) z

    unbroken_all : AreUnbroken U
    unbroken_all =
        unbroken_more T U name free g d more plain (is_acyclic T rules.C3) (is_closed T refl) hs refl add.new add.set add.list (omega (arith, long_hs, add.few)) refl (ap (repeated 5 []) (named_by (hs ++ h ∷ []) (0 + length hs) ms add.methods) ∙ add.apart)
        (each_named (λ (m : List ℕ × Place). break_if (is_name_among m.0 object_methods) 6 m.1) d.methods (λ m. (m.name, m.place))
        ∙ (ap (flat_map (λ (m : List ℕ × Place). break_if (is_name_among m.0 object_methods) 6 m.1)) (named_by (hs ++ h ∷ []) (0 + length hs) ms add.methods) ∙ add.own)) rules

    -- ---- typing

    around : outside U ≡ at U (outside T)
    around = ap (λ (vs : List Known). scope_of U vs 0) values

    old_files : AllByRecursion (λ file. (judged (outside U) file).faults ≡ []) files
    old_files =
        let unbroken_files = each_none (λ file. (judged (outside T) file).faults) files typed in
        each_both (λ file. (judged (outside T) file).faults ≡ []) (λ file. AreClasses file × Others name file) (λ file. (judged (outside U) file).faults ≡ []) files
        (λ x e k. ap (λ (s : Scope). (judged s x).faults) around ∙ (ap (λ z. z.faults) (file_alike T U name free g (outside T) x k.0 k.1 e) ∙ e)) unbroken_files
        (each_both AreClasses (Others name) (λ file. AreClasses file × Others name file) files (λ x a b. (a, b)) shapes others)

    class_number : unwrap_or (number_of (hs ++ h ∷ []) name) 0 ≡ length hs
    class_number = ap (λ (o : Option ℕ). unwrap_or o 0) number

    gone : class_at T.classes (length hs) ≡ None
    gone = past T.classes (length hs) (omega (arith, long_hs))

    no_constructor : flat_map (λ (x : Class). x.constructors) (option_to_list (class_at U.classes (unwrap_or (number_of (hs ++ h ∷ []) name) 0))) ≡ []
    no_constructor =
        ap (λ k. flat_map (λ (x : Class). x.constructors) (option_to_list (class_at U.classes k))) class_number
        ∙ (g.constructors (length hs) ∙ ap (λ o. flat_map (λ (x : Class). x.constructors) (option_to_list o)) gone)

    no_super : super_of U (unwrap_or (number_of (hs ++ h ∷ []) name) 0) ≡ None
    no_super = ap (super_of U) class_number ∙ (g.super (length hs) ∙ ap (option_and_then (λ (x : Class). x.super)) gone)

    new_file : (judged (in_class name (outside U)) ms).faults ≡ [] → (judged (outside U) (file_of place name ms)).faults ≡ []
    unfolding judged
    new_file f =
        let s = in_class name (outside U) in
        let some : List Constructor → Bool = λ xs. elim xs [ [] ↦ false | _ ∷ _ ↦ true ] in
        ap (λ (xs : List Constructor). (judge place (class_rule (some xs) s) (judged s ms).faults).faults ++ []) no_constructor
        ∙ (ap (λ (o : Option ℕ). (judge place (ask (is_none_of (flat_map (constructor_parameters U) (option_to_list o))) 34 fine) (judged s ms).faults).faults ++ []) no_super
        ∙ ap (λ (fs : List Fault). fs ++ []) f)

    all_typed : (judged (in_class name (outside U)) ms).faults ≡ [] → flat_map (λ file. (judged (outside U) file).faults) (one_more files place name ms) ≡ []
    all_typed f = none_more (λ file. (judged (outside U) file).faults) files (file_of place name ms) old_files (new_file f)

    table_more : table_of (one_more files place name ms) ≡ U
    unfolding table_of
    table_more = ap table_with headings_more

    pub added_to : IsAdded files place name ms
    added_to = record {
      headings = headings_more;
      number = ap (λ (xs : List Heading). number_of xs name) headings_more ∙ number;
      classes = ap (λ (v : Table). v.classes) table_more
          ∙ (more
          ∙ (ap (λ (v : Table). v.classes ++ class_of (hs ++ h ∷ []) (0 + length hs) h ∷ []) (sym (table_is files))
          ∙ (ap (λ (xs : List Heading). (table_of files).classes ++ class_of xs (0 + length hs) h ∷ []) (sym headings_more)
          ∙ ap (λ (k : ℕ). (table_of files).classes ++ class_of (headings_of (one_more files place name ms)) k h ∷ []) (let z : 0 + length hs ≡ length hs = omega arith in z))));
      larger = subst (λ (v : Table). IsLarger (table_of files) v name) (sym table_more) (subst (λ (v : Table). IsLarger v U name) (sym (table_is files)) g);
      values = ap values_of table_more ∙ (values ∙ ap values_of (sym (table_is files)));
      classed = ap class_fault table_more ∙ accepted U unbroken_all;
      typed = λ f. (well_typed_law (one_more files place name ms)).1
          (ap (λ (v : Table). flat_map (λ file. (judged (outside v) file).faults) (one_more files place name ms)) table_more ∙ all_typed (ap (λ (v : Table). (judged (in_class name (outside v)) ms).faults) (sym table_more) ∙ f));
    }

pub added : OneMoreLaw
added files place name ms derived classes types add =
    added_to files place name ms derived add (subst AreUnbroken (table_is files) (unbroken (table_of files) classes))
    (ap (λ (v : Table). flat_map (λ file. (judged (outside v) file).faults) files) (sym (table_is files)) ∙ (well_typed_law files).0 types)
