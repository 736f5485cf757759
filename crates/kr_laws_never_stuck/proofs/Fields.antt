-- Fields of accepted files: no two are at one place, and each is the one that its key means.
use Rattle.std.proofs.Common.{◌≡◌, ℕ, zero, suc, ◌≤◌, ◌⊎◌, inl, inr, Bool, true, false, ◌||◌, List, [], ◌∷◌, Option, Some, None, refl, sym, ap, ◌∙◌, subst, arith}
use Rattle.std.specs.Prelude.{map, flat_map, find, reverse, bytes_eq, codes, nat_eq, option_to_list, option_map, unwrap_or, slice_get, drop, if◌then◌else◌}
use Rattle.std.specs.List.{AllByRecursion}
use Rattle.std.proofs.lemmas.Bool.{eq-eqb}
use Rattle.std.proofs.lemmas.List.{append-nil}
use Rattle.kr_base.specs.declared.place.Place.{Place}
use Rattle.kr_ast.specs.Tree.{Tree}
use Rattle.kr_classes_table.specs.Table.{Heading, Table, Class, Field, headings_of, table_of, class_at, own_fields, is_instance, line_of, ancestors, fields_of, number_of}
use Rattle.kr_classes_table.specs.Constants.{is_at_place}
use Rattle.kr_classes_table.specs.Rules.{class_fault, break_if, is_name_among, repeated}
use Rattle.kr_types_meaning.specs.Typing.{IsWellTyped}
use Rattle.kr_mean.specs.Purity.{IsOneOf}
use Rattle.kr_space_meaning.specs.Bounds.{class_name}
use Rattle.kr_laws_never_stuck.specs.Apart as apart
use Rattle.kr_laws_never_stuck.specs.Apart.{one_at, all_fields, fields_at}
use Rattle.kr_lex.specs.Cursors.{one_if}
use Rattle.kr_laws_never_stuck.proofs.Unbroken.{unbroken}
use Rattle.kr_laws_never_stuck.proofs.Declared.{one_split, one_part, no_more, own_field, names_equal, equal_names}
use Rattle.kr_laws_never_stuck.specs.WellTyped.{AreApart, AreFiles}
use Rattle.kr_laws_never_stuck.proofs.Files.{heading_at, class_good_at}
use Rattle.kr_laws_never_stuck.specs.Keys.{IsKeyed}
use Rattle.kr_laws_runs.proofs.Overriders.{one_front, one_back}
use Rattle.kr_base.proofs.ListLemmas.{append_is_nil}
use Rattle.kr_classes_table.proofs.Tables.{unbroken as not_broken}

-- ---- places

same_self : (p : Place) → is_at_place p p ≡ true
same_self p = ap (λ (b : Bool). all b (nat_eq p.line p.line) (nat_eq p.col p.col)) (eq-eqb p.file p.file refl) ∙ (ap (λ (b : Bool). all true b (nat_eq p.col p.col)) (eq-eqb p.line p.line refl) ∙ ap (all true true) (eq-eqb p.col p.col refl))
  where
    all : Bool → Bool → Bool → Bool
    all a b c = Rattle.std.specs.Prelude.◌&&◌ (Rattle.std.specs.Prelude.◌&&◌ a b) c

some_at : (p : Place) (fs : List Field) (g : Field) → IsOneOf g fs → one_at p g.place ≡ 1 → 1 ≤ fields_at p fs
some_at p [] g i e = absurd i
some_at p (x ∷ fs) g (inl i) e = let same = ap (λ (z : Field). one_at p z.place) i in omega (arith, same, e)
some_at p (x ∷ fs) g (inr i) e = omega (arith, some_at p fs g i e)

one_each : (fs : List Field) (f g : Field) → fields_at g.place fs ≤ 1 → one_at g.place f.place ≡ 1 → one_at g.place g.place ≡ 1 → IsOneOf f fs → IsOneOf g fs → f ≡ g
one_each [] f g few at_f at_g i j = absurd i
one_each (x ∷ fs) f g few at_f at_g (inl i) (inl j) = sym i ∙ j
one_each (x ∷ fs) f g few at_f at_g (inl i) (inr j) = let same = ap (λ (z : Field). one_at g.place z.place) i in absurd (omega (arith, few, same, at_f, some_at g.place fs g j at_g))
one_each (x ∷ fs) f g few at_f at_g (inr i) (inl j) = let same = ap (λ (z : Field). one_at g.place z.place) j in absurd (omega (arith, few, same, at_g, some_at g.place fs f i at_f))
one_each (x ∷ fs) f g few at_f at_g (inr i) (inr j) = one_each fs f g (omega (arith, few)) at_f at_g i j

in_classes : (ds : List Class) (c : ℕ) (f : Field) → IsOneOf f (flat_map (λ d. d.fields) (option_to_list (class_at ds c))) → IsOneOf f (flat_map (λ d. d.fields) ds)
in_classes [] c f i = absurd i
in_classes (d ∷ ds) zero f i = one_front f d.fields (flat_map (λ d. d.fields) ds) (no_more f d.fields i)
in_classes (d ∷ ds) (suc c) f i = one_back f d.fields (flat_map (λ d. d.fields) ds) (in_classes ds c f i)

pub fields_apart : (table : Table) → apart.AreApart table → AreApart table
fields_apart table h c d f g i j e = one_each (all_fields table) f g (h.places g.place) (ap one_if e) (ap one_if (same_self g.place)) (in_classes table.classes c f i) (in_classes table.classes d g j)

-- ---- keys

all_named : (fs : List Field) (f : Field) → AllByRecursion (λ g. bytes_eq g.name (codes "*") ≡ false) fs → IsOneOf f fs → bytes_eq f.name (codes "*") ≡ false
all_named [] f h i = absurd i
all_named (x ∷ fs) f h (inl i) = subst (λ (g : Field). bytes_eq g.name (codes "*") ≡ false) i h.0
all_named (x ∷ fs) f h (inr i) = all_named fs f h.1 i

instance_of : (f : Field) (fs : List Field) → IsOneOf f (flat_map is_instance fs) → IsOneOf f fs × (f.is_static ≡ false)
instance_of f [] h = absurd h
instance_of f (x ∷ fs) h = go (one_split f (is_instance x) (flat_map is_instance fs) h) (instance_of f fs)
  where
    one : (b : Bool) → x.is_static ≡ b → IsOneOf f (if b then [] else x ∷ []) → IsOneOf f (x ∷ fs) × (f.is_static ≡ false)
    one true q h = absurd h
    one false q (inl i) = (inl i, ap (λ (z : Field). z.is_static) (sym i) ∙ q)
    one false q (inr i) = absurd i

    go : IsOneOf f (is_instance x) ⊎ IsOneOf f (flat_map is_instance fs) → (IsOneOf f (flat_map is_instance fs) → IsOneOf f fs × (f.is_static ≡ false)) → IsOneOf f (x ∷ fs) × (f.is_static ≡ false)
    go (inl i) r = one x.is_static refl i
    go (inr i) r = let y = r i in (inr y.0, y.1)

abbrev named_at : Field → List ℕ × Place
named_at f = (f.name, f.place)

-- a name that isn't repeated isn't one of those before it
unseen : (seen : List (List ℕ)) (fs : List Field) (f : Field) → repeated 4 seen (map named_at fs) ≡ [] → IsOneOf f fs → is_name_among f.name seen ≡ false
unseen seen [] f e h = absurd h
unseen seen (x ∷ fs) f e (inl i) = ap (λ (g : Field). is_name_among g.name seen) (sym i) ∙ not_broken (is_name_among x.name seen) 4 x.place (append_is_nil (break_if (is_name_among x.name seen) 4 x.place) (repeated 4 (x.name ∷ seen) (map named_at fs)) e).0
unseen seen (x ∷ fs) f e (inr i) = later (bytes_eq f.name x.name) (is_name_among f.name seen) (unseen (x.name ∷ seen) fs f (append_is_nil (break_if (is_name_among x.name seen) 4 x.place) (repeated 4 (x.name ∷ seen) (map named_at fs)) e).1 i)
  where
    later : (a b : Bool) → (a || b) ≡ false → b ≡ false
    later true b e = absurd (cc (e))
    later false b e = e

-- the field of a name among those of a class
own_found : (seen : List (List ℕ)) (fs : List Field) (f : Field) → repeated 4 seen (map named_at fs) ≡ [] → IsOneOf f fs → find (λ g. bytes_eq g.name f.name) fs ≡ Some f
own_found seen [] f e h = absurd h
own_found seen (x ∷ fs) f e (inl i) = ap (λ (b : Bool). if b then Some x else find (λ g. bytes_eq g.name f.name) fs) (equal_names x.name f.name (ap (λ (g : Field). g.name) i)) ∙ ap (λ (g : Field). Some g) i
own_found seen (x ∷ fs) f e (inr i) =
    let rest = (append_is_nil (break_if (is_name_among x.name seen) 4 x.place) (repeated 4 (x.name ∷ seen) (map named_at fs)) e).1 in
    go (bytes_eq x.name f.name) refl (unseen (x.name ∷ seen) fs f rest i) (own_found (x.name ∷ seen) fs f rest i)
  where
    go : (b : Bool) → bytes_eq x.name f.name ≡ b → (bytes_eq f.name x.name || is_name_among f.name seen) ≡ false → find (λ g. bytes_eq g.name f.name) fs ≡ Some f → (if b then Some x else find (λ g. bytes_eq g.name f.name) fs) ≡ Some f
    go false q u r = r
    go true q u r = absurd (cc (ap (λ (b : Bool). b || is_name_among f.name seen) (equal_names f.name x.name (sym (names_equal x.name f.name q))), u))

heading_there : (hs : List Heading) (c : ℕ) (h : Heading) → heading_at hs c ≡ Some h → slice_get hs c ≡ Some h
heading_there [] c h e = absurd (cc (e))
heading_there (x ∷ hs) zero h e = e
heading_there (x ∷ hs) (suc c) h e = heading_there hs c h e

module _ (files : List Tree) (shapes : AreFiles files) (faults : class_fault (table_of files) ≡ None) (typed : IsWellTyped files) (named : apart.AreApart (table_of files)) where
  abbrev t : Table
  t = table_of files

  class_known : (c : ℕ) (d : Class) → class_at t.classes c ≡ Some d → number_of t.headings (class_name t c) ≡ Some c
  unfolding table_of
  class_known c d q =
      let g = class_good_at files shapes faults typed c d q in
      ap (λ (o : Option Heading). number_of (headings_of files) (unwrap_or (option_map (λ h. h.name) o) [])) (heading_there (headings_of files) c g.heading g.there) ∙ g.number

  own_keyed : (c : ℕ) (f : Field) → IsOneOf f (own_fields t c) → f.is_static ≡ false → IsKeyed t f
  own_keyed c f i instance = go (class_at t.classes c) refl i
    where
      class : f.class ≡ c
      class = own_field files c f i

      found : (d : Class) → class_at t.classes c ≡ Some d → IsOneOf f d.fields → find (λ g. bytes_eq g.name f.name) (own_fields t c) ≡ Some f
      found d q j =
          let above = map (λ (g : Field). g.name) (flat_map (own_fields t) (ancestors t c)) in
          let four = (append_is_nil (repeated 4 above (map named_at d.fields)) (flat_map (λ k. break_if true 4 k.place) (drop 1 d.constructors)) ((unbroken t faults).C4 c d q)).0 in
          ap (λ (o : Option Class). find (λ g. bytes_eq g.name f.name) (flat_map (λ d. d.fields) (option_to_list o))) q
          ∙ (ap (find (λ g. bytes_eq g.name f.name)) (append-nil d.fields) ∙ own_found above d.fields f four j)

      go : (o : Option Class) → class_at t.classes c ≡ o → IsOneOf f (flat_map (λ d. d.fields) (option_to_list o)) → IsKeyed t f
      go None q j = absurd j
      go (Some d) q j = record {
        instance = instance;
        class = subst (λ (k : ℕ). number_of t.headings (class_name t k) ≡ Some k) (sym class) (class_known c d q);
        found = subst (λ (k : ℕ). find (λ g. bytes_eq g.name f.name) (own_fields t k) ≡ Some f) (sym class) (found d q (no_more f d.fields j));
        no_elements = all_named (all_fields t) f named.names (in_classes t.classes c f i);
      }

  pub field_keyed : (c : ℕ) (f : Field) → IsOneOf f (fields_of t c) → IsKeyed t f
  field_keyed c f i =
      let one = instance_of f (flat_map (own_fields t) (reverse (line_of t c))) i in
      let part = one_part f (own_fields t) (reverse (line_of t c)) one.0 in
      own_keyed part.0 f part.2 one.1
