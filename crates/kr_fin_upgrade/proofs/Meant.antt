-- A domain's name, where it is no class's, stands for nothing.
use Rattle.std.proofs.Common.{◌≡◌, ℕ, zero, suc, ◌+◌, Bool, true, false, not, List, [], ◌∷◌, length, codes, Option, Some, None, refl, ap, ◌∙◌, subst}
use Rattle.std.specs.Prelude.{bytes_eq, nat_eq, option_map, if◌then◌else◌}
use Rattle.std.specs.List.{ends_with}
use Rattle.std.proofs.lemmas.Bool.{and_parts}
use Rattle.std.proofs.lemmas.Slice.Eq.{bytes_eq-Decides}
use Rattle.kr_classes_table.specs.Types.{JavaType, int_type, long_type, BooleanType, ClassType, SetType, ListType, is_element}
use Rattle.kr_classes_table.specs.Table.{Heading, number_from, number_of}
use Rattle.kr_fin.specs.Identifiers.{is_identifier}
use Rattle.kr_fin.specs.Shapes.{is_domain_name}
use Rattle.kr_space_meaning.specs.Names.{ArrayOf, SetOf, ListOf, Word, array_or_none, array_type, inside, is_of, of_elements, type_of, type_within, word_type, written}
use Rattle.kr_fin_upgrade.specs.Laws.{AreDomainNames}
use Rattle.kr_fin_upgrade.proofs.Identifiers.{no_brackets}

-- ---- array types

no_collection : (collection : JavaType → JavaType) → ((t : JavaType) → array_or_none (Some (collection t)) ≡ None) → (o : Option JavaType) → array_or_none (of_elements collection o) ≡ None
no_collection collection none None = refl
no_collection collection none (Some t) = go (is_element t)
  where
    go : (b : Bool) → array_or_none (if b then Some (collection t) else None) ≡ None
    go true = none t
    go false = refl

no_word : (hs : List Heading) (text : List ℕ) → array_or_none (word_type hs text) ≡ None
no_word hs text = go (bytes_eq text (codes "int")) (bytes_eq text (codes "long")) (bytes_eq text (codes "boolean")) (number_of hs text)
  where
    go : (a l b : Bool) (o : Option ℕ) → array_or_none (if a then Some int_type else if l then Some long_type else if b then Some BooleanType else option_map ClassType o) ≡ None
    go true l b o = refl
    go false true b o = refl
    go false false true o = refl
    go false false false None = refl
    go false false false (Some c) = refl

no_array_written : (hs : List Heading) (inner : List ℕ → Option JavaType) (text : List ℕ) → ends_with nat_eq text (codes "[]") ≡ false → array_or_none (type_of hs inner (written text)) ≡ None
no_array_written hs inner text e =
    ap (λ (b : Bool). array_or_none (type_of hs inner (if b then ArrayOf (inside 0 2 text) else if is_of (codes "HashSet<") text then SetOf (inside 8 1 text) else if is_of (codes "LinkedList<") text then ListOf (inside 11 1 text) else Word text))) e
    ∙ go (is_of (codes "HashSet<") text) (is_of (codes "LinkedList<") text)
  where
    go : (a b : Bool) → array_or_none (type_of hs inner (if a then SetOf (inside 8 1 text) else if b then ListOf (inside 11 1 text) else Word text)) ≡ None
    go true b = no_collection SetType (λ t. refl) (inner (inside 8 1 text))
    go false true = no_collection ListType (λ t. refl) (inner (inside 11 1 text))
    go false false = no_word hs text

within : (n : ℕ) (hs : List Heading) (text : List ℕ) → ends_with nat_eq text (codes "[]") ≡ false → array_or_none (type_within n hs text) ≡ None
within zero hs text e = refl
within (suc n) hs text e = no_array_written hs (type_within n hs) text e

pub no_array : (hs : List Heading) (name : List ℕ) → is_domain_name name ≡ true → array_type hs name ≡ None
unfolding array_type
no_array hs name h = within (length name) hs name (no_brackets name h)

-- ---- classes

named_from : (k : ℕ) (hs : List Heading) (name : List ℕ) (c : ℕ) → AreDomainNames hs → number_from k hs name ≡ Some c → is_domain_name name ≡ true
named_from k [] name c h e = absurd (cc (e))
named_from k (x ∷ xs) name c h e = go (bytes_eq x.name name) refl e (named_from (k + 1) xs name c h.1)
  where
    go : (b : Bool) → bytes_eq x.name name ≡ b → (if b then Some k else number_from (k + 1) xs name) ≡ Some c → (number_from (k + 1) xs name ≡ Some c → is_domain_name name ≡ true) → is_domain_name name ≡ true
    go true is e rest = subst (λ (n : List ℕ). is_domain_name n ≡ true) ((bytes_eq-Decides x.name name).0 is) h.0
    go false is e rest = rest e

-- a class's name may be a domain's
pub class_is_named : (hs : List Heading) (name : List ℕ) (c : ℕ) → AreDomainNames hs → number_of hs name ≡ Some c → is_domain_name name ≡ true
class_is_named hs name c h e = named_from 0 hs name c h e

-- what may be no domain's name is no class's
pub no_class : (hs : List Heading) (name : List ℕ) → AreDomainNames hs → is_domain_name name ≡ false → number_of hs name ≡ None
no_class hs name h e = go (number_of hs name) refl
  where
    go : (o : Option ℕ) → number_of hs name ≡ o → o ≡ None
    go None is = refl
    go (Some c) is = let yes = class_is_named hs name c h is in absurd (cc (e, yes))

-- a domain's name isn't null
pub not_null : (name : List ℕ) → is_domain_name name ≡ true → bytes_eq name (codes "null") ≡ false
not_null name h = go (bytes_eq name (codes "null")) (and_parts (is_identifier name) (not (bytes_eq name (codes "null"))) h).1
  where
    go : (b : Bool) → not b ≡ true → b ≡ false
    go true e = absurd (cc (e))
    go false e = refl
