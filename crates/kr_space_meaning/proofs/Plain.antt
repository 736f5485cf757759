-- Values of domains: no plain one is a reference, lengths are natural numbers.
use Rattle.std.proofs.Common.{◌≡◌, ℕ, zero, suc, ◌+◌, ◌≤◌, ℤ, pos, negsuc, Bool, List, [], ◌∷◌, ◌++◌, length, map, Option, Some, None, refl, ap, arith}
use Rattle.std.specs.Prelude.{unwrap_or}
use Rattle.kr_classes_table.specs.Types.{JavaType}
use Rattle.kr_classes_table.specs.Numbers.{Width}
use Rattle.kr_classes_table.specs.Operators.{number}
use Rattle.kr_value.specs.declared.value.Value.TheVariants.{Int, Bool as Truth, Null, Ref as Reference}
use Rattle.kr_mean.specs.Problem.{Domain, Plain, Objects}
use Rattle.kr_mean.specs.WellFormed.{ArePlain, AreLengths, AreElements, AreFields}
use Rattle.kr_classes_table.specs.Table.{Field}
use Rattle.kr_fin.specs.declared.document.NamedDomain.{NamedDomain}
use Rattle.kr_fin.specs.declared.document.Item.{Item as FinItem}
use Rattle.kr_fin.specs.declared.document.Item.TheVariants.{Number, Range, Truth as FinTruth, Name}
use Rattle.kr_space_meaning.specs.Names.{Meant, NoReference, Unknown, meant}
use Rattle.kr_space_meaning.specs.Names as names
use Rattle.kr_space_layout.specs.Items.{integers}
use Rattle.kr_space_meaning.specs.Bounds.{Setting, all_of, bound_number, meant_values, object_number, given, width_for, item_values, values_with, values_given, lengths_in, greatest, element_spots, field_spots}

plain_both : (xs ys : Domain) → ArePlain xs → ArePlain ys → ArePlain (xs ++ ys)
plain_both [] ys a b = b
plain_both (Plain v ∷ xs) ys a b = (a.0, plain_both xs ys a.1 b)
plain_both (Objects d ∷ xs) ys a b = plain_both xs ys a b

plain_numbers : (w : Width) (zs : List ℤ) → ArePlain (map (λ z. Plain (number w z)) zs)
plain_numbers w [] = tt
plain_numbers w (z ∷ zs) = (tt, plain_numbers w zs)

plain_all : (o : Option ℕ) → ArePlain (all_of o)
plain_all None = tt
plain_all (Some d) = tt

plain_meant : (setting : Setting) (name : List ℕ) (m : Meant) → ArePlain (meant_values setting name m)
plain_meant setting name NoReference = (tt, tt)
plain_meant setting name (names.Objects c) = plain_all (object_number 0 setting.objects name c)
plain_meant setting name (names.Arrays t) = plain_all (bound_number (length setting.objects) setting.arrays t)
plain_meant setting name Unknown = tt

plain_item : (setting : Setting) (w : Width) (item : FinItem) → ArePlain (item_values setting w item)
plain_item setting w (Number z) = (tt, tt)
plain_item setting w (Range from to) = plain_numbers w (integers from to)
plain_item setting w (FinTruth b) = (tt, tt)
plain_item setting w (Name name) = plain_meant setting name (meant setting.table.headings setting.document name)

plain_values : (setting : Setting) (w : Width) (items : List FinItem) → ArePlain (values_with setting w items)
plain_values setting w [] = tt
plain_values setting w (item ∷ items) = plain_both (item_values setting w item) (values_with setting w items) (plain_item setting w item) (plain_values setting w items)

pub plain_given : (setting : Setting) (asked : List ℕ → Option JavaType) (domains : List NamedDomain) (key : List ℕ) → ArePlain (values_given setting asked domains key)
plain_given setting asked domains key = plain_values setting (width_for (asked key)) (unwrap_or (given domains key) [])

pub plain_lengths : (items : Domain) → ArePlain (lengths_in items)
plain_lengths [] = tt
plain_lengths (Plain (Int (pos n)) ∷ items) = (tt, plain_lengths items)
plain_lengths (Plain (Int (negsuc n)) ∷ items) = plain_lengths items
plain_lengths (Plain (Truth b) ∷ items) = plain_lengths items
plain_lengths (Plain Null ∷ items) = plain_lengths items
plain_lengths (Plain (Reference o) ∷ items) = plain_lengths items
plain_lengths (Objects d ∷ items) = plain_lengths items

pub lengths_upto : (m : ℕ) (items : Domain) → greatest (lengths_in items) ≤ m → AreLengths m (lengths_in items)
lengths_upto m [] h = tt
lengths_upto m (Plain (Int (pos n)) ∷ items) h = (omega arith, lengths_upto m items (omega arith))
lengths_upto m (Plain (Int (negsuc n)) ∷ items) h = lengths_upto m items h
lengths_upto m (Plain (Truth b) ∷ items) h = lengths_upto m items h
lengths_upto m (Plain Null ∷ items) h = lengths_upto m items h
lengths_upto m (Plain (Reference o) ∷ items) h = lengths_upto m items h
lengths_upto m (Objects d ∷ items) h = lengths_upto m items h

pub length-element_spots : (k n : ℕ) (domain : Domain) → length (element_spots k n domain) ≡ n
length-element_spots k zero domain = refl
length-element_spots k (suc n) domain = ap suc (length-element_spots (k + 1) n domain)

pub elements_in_order : (k n : ℕ) (domain : Domain) → AreElements k (element_spots k n domain)
elements_in_order k zero domain = tt
elements_in_order k (suc n) domain = (refl, elements_in_order (k + 1) n domain)

pub fields_in_order : (setting : Setting) (k : ℕ) (fs : List Field) → AreFields k (field_spots setting k fs)
fields_in_order setting k [] = tt
fields_in_order setting k (f ∷ fs) = (refl, fields_in_order setting (k + 1) fs)
