-- The values that a document gives are of the types that their keys require.
use Rattle.std.proofs.Common.{◌≡◌, ℕ, suc, ◌+◌, ◌<◌, ◌≤◌, ℤ, pos, negsuc, Bool, true, false, not, ◌||◌, cond, List, [], ◌∷◌, ◌++◌, length, map, Option, Some, None, refl, sym, ap, ◌∙◌, subst, arith}
use Rattle.std.specs.Prelude.{◌&&◌, unwrap_or}
use Rattle.std.specs.Int.Signed.{le_z}
use Rattle.std.specs.List.{AllByRecursion, list_any}
use Rattle.std.proofs.lemmas.Bool.{and_parts}
use Rattle.kr_classes_table.specs.Numbers.{Width, Bits32, is_within}
use Rattle.kr_classes_table.specs.Types.{JavaType, NumberType, BooleanType, ClassType, is_same}
use Rattle.kr_classes_table.specs.Table.{Table, is_assignable}
use Rattle.kr_value.specs.declared.value.Value.TheVariants.{Int, Bool as Truth, Null}
use Rattle.kr_mean.specs.Problem.{Problem, DomainItem, Domain, Plain, Objects, domain_at}
use Rattle.kr_space_layout.specs.Items.{integers}
use Rattle.kr_fin.specs.declared.document.ArrayBound.{ArrayBound}
use Rattle.kr_fin.specs.declared.document.NamedDomain.{NamedDomain}
use Rattle.kr_fin.specs.declared.document.Item.{Item as FinItem}
use Rattle.kr_fin.specs.declared.document.Item.TheVariants.{Number, Range, Truth as FinTruth, Name}
use Rattle.kr_space_meaning.specs.Names.{Meant, NoReference, Unknown, meant}
use Rattle.kr_space_meaning.specs.Names as names
use Rattle.kr_space_meaning.specs.Bounds.{Setting, all_of, bound_number, given, object_number, width_for, meant_values, item_values, values_with, values_of, lengths_in, lengths_of, greatest, values_given}
use Rattle.kr_space_meaning.specs.Faults.{meant_fits, number_fits, fits, is_unfit}
use Rattle.kr_space_meaning.specs.Limits.{IsSmall, AreLengths}
use Rattle.kr_space_meaning.proofs.Each.{each_of_both}
use Rattle.kr_laws_safety.specs.Fits.{IsWithin}
use Rattle.kr_laws_safety.specs.Domains.{class_type, IsDomainOf}
use Rattle.kr_laws_safety.proofs.Heaps.{same_type}
use Rattle.kr_laws_never_stuck.proofs.Integers.{within_is, range_within, none_between, IsShort, is_short, range_short}

-- ---- lengths

abbrev AtMost : DomainItem → Type 0
AtMost (Plain (Int z)) = IsShort z
AtMost i = Unit {0}

short_integers : (zs : List ℤ) → AllByRecursion IsShort zs → AllByRecursion AtMost (map (λ z. Plain (Int z)) zs)
short_integers [] h = tt
short_integers (z ∷ zs) h = (h.0, short_integers zs h.1)

short_item : (setting : Setting) (item : FinItem) → AreLengths item → AllByRecursion AtMost (item_values setting Bits32 item)
short_item setting (Number z) h = (is_short z h, tt)
short_item setting (Range from to) h = short_integers (integers from to) (range_short from to h.0 h.1)
short_item setting (FinTruth b) h = absurd h
short_item setting (Name n) h = absurd h

short_items : (setting : Setting) (items : List FinItem) → AllByRecursion AreLengths items → AllByRecursion AtMost (values_with setting Bits32 items)
short_items setting [] h = tt
short_items setting (i ∷ is) h = each_of_both AtMost (item_values setting Bits32 i) (values_with setting Bits32 is) (short_item setting i h.0) (short_items setting is h.1)

greatest_short : (items : Domain) → AllByRecursion AtMost items → greatest (lengths_in items) ≤ 64
greatest_short [] h = omega arith
greatest_short (Plain (Int (pos n)) ∷ items) h = omega (arith, h.0, greatest_short items h.1)
greatest_short (Plain (Int (negsuc n)) ∷ items) h = greatest_short items h.1
greatest_short (Plain (Truth b) ∷ items) h = greatest_short items h.1
greatest_short (Plain Null ∷ items) h = greatest_short items h.1
greatest_short (Plain (Rattle.kr_value.specs.declared.value.Value.TheVariants.Ref o) ∷ items) h = greatest_short items h.1
greatest_short (Objects d ∷ items) h = greatest_short items h.1

pub lengths_short : (setting : Setting) (items : List FinItem) → AllByRecursion AreLengths items → greatest (lengths_of setting items) ≤ 64
lengths_short setting items h = greatest_short (values_with setting Bits32 items) (short_items setting items h)

-- ---- values

-- bounded array types have domains of their types
abbrev pub AreArrays : Problem → ℕ → List (JavaType × ArrayBound) → Type 0
AreArrays problem d [] = Unit {0}
AreArrays problem d (a ∷ more) = ((d < length problem.domains) × (class_type problem.program (domain_at problem d).class ≡ a.0)) × AreArrays problem (d + 1) more

pub record HasDomains (problem : Problem) (setting : Setting) : Type 0 where
  pub table : problem.program.table ≡ setting.table
  pub objects : (name : List ℕ) (c d : ℕ) → object_number 0 setting.objects name c ≡ Some d → (d < length problem.domains) × (class_type problem.program (domain_at problem d).class ≡ ClassType c)
  pub arrays : AreArrays problem (length setting.objects) setting.arrays

module _ (problem : Problem) (setting : Setting) (has : HasDomains problem setting) where
  both : (t : JavaType) (xs ys : Domain) → IsDomainOf problem t xs → IsDomainOf problem t ys → IsDomainOf problem t (xs ++ ys)
  both t [] ys h k = k
  both t (x ∷ xs) ys h k = (h.0, both t xs ys h.1 k)

  integers_of : (t : JavaType) (w : Width) (zs : List ℤ) → t ≡ NumberType w → AllByRecursion (IsWithin w) zs → IsDomainOf problem t (map (λ z. Plain (Int z)) zs)
  integers_of t w [] e h = tt
  integers_of t w (z ∷ zs) e h = ((w, e, h.0), integers_of t w zs e h.1)

  -- a number that fits is of a width
  number_of : (t : JavaType) (z : ℤ) → number_fits t z ≡ true → (w : Width) × (t ≡ NumberType w) × IsWithin w z
  number_of (NumberType w) z e = (w, refl, within_is w z e)
  number_of _ z e = absurd (cc (e))

  ends_of : (t : JavaType) (from to : ℤ) → (number_fits t from && number_fits t to) ≡ true → (w : Width) × (t ≡ NumberType w) × IsWithin w from × IsWithin w to
  ends_of (NumberType w) from to e = let r = and_parts (is_within w from) (is_within w to) e in (w, refl, within_is w from r.0, within_is w to r.1)
  ends_of _ from to e = absurd (cc (e))

  objects_of : (t u : JavaType) (d : ℕ) → d < length problem.domains → class_type problem.program (domain_at problem d).class ≡ u → is_assignable setting.table u t ≡ true → IsDomainOf problem t (Objects d ∷ [])
  objects_of t u d l c a = ((l, ap (λ (x : Table). is_assignable x (class_type problem.program (domain_at problem d).class) t) has.table ∙ (ap (λ (x : JavaType). is_assignable setting.table x t) c ∙ a)), tt)

  named_of : (t : JavaType) (name : List ℕ) (c : ℕ) → is_assignable setting.table (ClassType c) t ≡ true → IsDomainOf problem t (all_of (object_number 0 setting.objects name c))
  named_of t name c a = go (object_number 0 setting.objects name c) refl
    where
      go : (o : Option ℕ) → object_number 0 setting.objects name c ≡ o → IsDomainOf problem t (all_of o)
      go None e = tt
      go (Some d) e = let h = has.objects name c d e in objects_of t (ClassType c) d h.0 h.1 a

  arrays_of : (t u : JavaType) (d : ℕ) (bounds : List (JavaType × ArrayBound)) → AreArrays problem d bounds → is_assignable setting.table u t ≡ true → IsDomainOf problem t (all_of (bound_number d bounds u))
  arrays_of t u d [] h a = tt
  arrays_of t u d (x ∷ bounds) h a = go (is_same x.0 u) refl (arrays_of t u (d + 1) bounds h.1 a)
    where
      go : (b : Bool) → is_same x.0 u ≡ b → IsDomainOf problem t (all_of (bound_number (d + 1) bounds u)) → IsDomainOf problem t (all_of (cond b (Some d) (bound_number (d + 1) bounds u)))
      go true e r = objects_of t u d h.0.0 (h.0.1 ∙ same_type x.0 u e) a
      go false e r = r

  meant_of : (t : JavaType) (name : List ℕ) (m : Meant) → meant_fits setting.table t m ≡ true → IsDomainOf problem t (meant_values setting name m)
  meant_of t name NoReference e = (e, tt)
  meant_of t name (names.Objects c) e = named_of t name c e
  meant_of t name (names.Arrays u) e = arrays_of t u (length setting.objects) setting.arrays has.arrays e
  meant_of t name Unknown e = tt

  item_of : (t : JavaType) (item : FinItem) → fits setting.table setting.document t item ≡ true → IsSmall item → IsDomainOf problem t (item_values setting (width_for (Some t)) item)
  unfolding width_for
  item_of t (Number z) e s = (number_of t z e, tt)
  item_of t (Range from to) e s = go (le_z from to) refl e
    where
      go : (b : Bool) → le_z from to ≡ b → (not b || (number_fits t from && number_fits t to)) ≡ true → IsDomainOf problem t (map (λ z. Plain (Int z)) (integers from to))
      go true q e = let r = ends_of t from to e in integers_of t r.0 (integers from to) r.1 (range_within r.0 from to r.2 r.3)
      go false q e = subst (λ (zs : List ℤ). IsDomainOf problem t (map (λ z. Plain (Int z)) zs)) (sym (none_between from to q)) tt
  item_of t (FinTruth b) e s = (same_type t BooleanType e, tt)
  item_of t (Name n) e s = meant_of t n (meant setting.table.headings setting.document n) e

  all_fit : (t : JavaType) (items : List FinItem) → list_any (λ i. not (fits setting.table setting.document t i)) items ≡ false → AllByRecursion IsSmall items → IsDomainOf problem t (values_of setting (Some t) items)
  all_fit t [] e s = tt
  all_fit t (i ∷ is) e s = go (fits setting.table setting.document t i) refl e (all_fit t is)
    where
      go : (b : Bool) → fits setting.table setting.document t i ≡ b → (not b || list_any (λ i. not (fits setting.table setting.document t i)) is) ≡ false → (list_any (λ i. not (fits setting.table setting.document t i)) is ≡ false → AllByRecursion IsSmall is → IsDomainOf problem t (values_of setting (Some t) is))
          → IsDomainOf problem t (item_values setting (width_for (Some t)) i ++ values_of setting (Some t) is)
      go true q e r = both t (item_values setting (width_for (Some t)) i) (values_of setting (Some t) is) (item_of t i q s.0) (r e s.1)
      go false q e r = absurd (cc (e))

  -- the value given for a key, if there is one, is of the type that the key requires
  pub given_of : (asked : List ℕ → Option JavaType) (domains : List NamedDomain) (key : List ℕ) (t : JavaType)
      → ((items : List FinItem) → given domains key ≡ Some items → (asked key ≡ Some t) × (is_unfit setting.table setting.document (asked key) items ≡ false) × AllByRecursion IsSmall items) → IsDomainOf problem t (values_given setting asked domains key)
  given_of asked domains key t h = go (given domains key) refl
    where
      go : (o : Option (List FinItem)) → given domains key ≡ o → IsDomainOf problem t (values_of setting (asked key) (unwrap_or o []))
      go None e = tt
      go (Some items) e =
          let x = h items e in
          subst (λ (o : Option JavaType). IsDomainOf problem t (values_of setting o items)) (sym x.0)
          (all_fit t items (subst (λ (o : Option JavaType). is_unfit setting.table setting.document o items ≡ false) x.0 x.1) x.2)
