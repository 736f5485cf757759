-- Properties of a document beside a program are kept as types are added.
use Rattle.std.proofs.Common.{◌≡◌, ℕ, ◌+◌, ◌<◌, true, List, length, drop, map, get_or, Option, All, fold, ap, sym, ◌∙◌, arith}
use Rattle.std.specs.Prelude.{ℤ, pos, negsuc, nat_le, flat_map}
use Rattle.std.proofs.lemmas.Bool.{and_parts, leb-true, le-leb}
use Rattle.std.proofs.lemmas.List.{drop_more}
use Rattle.std.proofs.lemmas.List.Sums.{fold-append}
use Rattle.std.proofs.lemmas.List.Elements.{recursion_from_All}
use Rattle.kr_classes_table.specs.Types.{JavaType}
use Rattle.kr_classes_table.specs.Numbers.{Width, Bits32}
use Rattle.kr_classes_names.specs.Types.{TypeList, Extends}
use Rattle.kr_space_names.proofs.Growing.{node_types_kept}
use Rattle.kr_mean.specs.Problem.{Problem, Choice, Domain, choices_in}
use Rattle.kr_fin.specs.declared.document.Item.{Item as FinItem}
use Rattle.kr_fin.specs.declared.document.Item.TheVariants.{Number, Range, Truth, Name}
use Rattle.kr_space_layout.specs.declared.item.DomainEntry.{DomainEntry}
use Rattle.kr_space_layout.specs.declared.stretch.Block.{Block}
use Rattle.kr_space_layout.specs.Items.{domain_of}
use Rattle.kr_space_layout.specs.Stretches.{all_choices, stretch_of}
use Rattle.kr_space_meaning.specs.Bounds.{Setting, lengths_of, values_of, values_with, width_for}
use Rattle.kr_space_meaning.specs.Faults.{number_faults}
use Rattle.kr_space_meaning.specs.Limits.{AreLengths, IsLong, IsLength, IsSmall}
use Rattle.kr_space_meaning.specs.Order.{Fault, lesser}
use Rattle.kr_space_rules.proofs.Bounded.{bounds_kept}
use Rattle.kr_space.specs.declared.bounded.Bounded.{Bounded}
use Rattle.kr_space.specs.Bounded.{IsBounded, setting_in}
use Rattle.kr_space.specs.Sizes.{AreBlocks}
use Rattle.kr_space.proofs.LengthLists.{lengths_are}

pub bounded_kept : (a b : TypeList) (d : Bounded) → Extends a b → IsBounded a d → IsBounded b d
bounded_kept a b d e k = record {
  classes = k.classes;
  typed = node_types_kept d.classes.now.trees.now a b d.classes.now.numbers.now e k.typed;
  few = k.few;
  objects = k.objects;
  bounds = bounds_kept a b d.document.now.arrays d.bounds.now (setting_in d).arrays e k.bounds;
  blocks = k.blocks;
  numbered = k.numbered;
}

-- the faults of entries are those of the domain that they are
pub numbers_same : (problem : Problem) (blocks : List Block) (entries : List DomainEntry) (values : Domain) (item : List ℕ) (old new : Option Fault) → AreBlocks problem blocks → domain_of entries ≡ values
    → new ≡ fold lesser old (number_faults item (all_choices (map (stretch_of blocks) entries))) → new ≡ fold lesser old (number_faults item (choices_in problem values))
numbers_same problem blocks entries values item old new b d n =
    n ∙ ap (λ (cs : List Choice). fold lesser old (number_faults item cs)) (sym (b entries) ∙ ap (choices_in problem) d)

pub lengths_values : (setting : Setting) (items : List FinItem) → All AreLengths items → values_with setting Bits32 items ≡ lengths_of setting items
lengths_values setting items h = sym (lengths_are setting items (recursion_from_All AreLengths items h))

small_natural : (n : ℕ) → nat_le n 64 ≡ true → nat_le n 9223372036854775807 ≡ true
small_natural n h = let le = leb-true n 64 h in le-leb n 9223372036854775807 (omega (arith, le))

-- a length has 64 bits
small_number : (z : ℤ) → IsLength z → IsLong z
small_number (negsuc n) h = absurd (cc (h))
small_number (pos n) h = small_natural n (and_parts (nat_le 0 n) (nat_le n 64) h).1

small_length : (item : FinItem) → AreLengths item → IsSmall item
small_length (Number z) h = small_number z h
small_length (Range from to) h = (small_number from h.0, small_number to h.1)
small_length (Truth b) h = absurd h
small_length (Name name) h = absurd h

pub lengths_small : (items : List FinItem) → All AreLengths items → All IsSmall items
lengths_small items h = λ k d l. small_length (get_or items k d) (h k d l)

-- of lengths the values are the lengths
pub lengths_noted : (problem : Problem) (setting : Setting) (item : List ℕ) (items : List FinItem) (old new : Option Fault) → All AreLengths items
    → new ≡ fold lesser old (number_faults item (choices_in problem (values_with setting Bits32 items))) → new ≡ fold lesser old (number_faults item (choices_in problem (lengths_of setting items)))
lengths_noted problem setting item items old new h n = n ∙ ap (λ (d : Domain). fold lesser old (number_faults item (choices_in problem d))) (lengths_values setting items h)

-- numbers have the width of the type that is required
pub width_noted : (problem : Problem) (setting : Setting) (t : Option JavaType) (w : Width) (item : List ℕ) (items : List FinItem) (old new : Option Fault) → w ≡ width_for t
    → new ≡ fold lesser old (number_faults item (choices_in problem (values_with setting w items))) → new ≡ fold lesser old (number_faults item (choices_in problem (values_of setting t items)))
width_noted problem setting t w item items old new e n = n ∙ ap (λ (v : Width). fold lesser old (number_faults item (choices_in problem (values_with setting v items)))) e

-- the faults of one item more of a list
pub noted_more : {A : Type 0} (f : A → List Fault) (xs : List A) (i : ℕ) (x : A) (old new : Option Fault) → i < length xs → x ≡ get_or xs i x → new ≡ fold lesser old (f x)
    → fold lesser old (flat_map f (drop i xs)) ≡ fold lesser new (flat_map f (drop (i + 1) xs))
noted_more f xs i x old new h e n =
    ap (λ (ys : List _). fold lesser old (flat_map f ys)) (drop_more xs i x h)
    ∙ (fold-append lesser old (f (get_or xs i x)) (flat_map f (drop (i + 1) xs))
    ∙ ap (λ (a : Option Fault). fold lesser a (flat_map f (drop (i + 1) xs))) (ap (λ (y : _). fold lesser old (f y)) (sym e) ∙ sym n))
