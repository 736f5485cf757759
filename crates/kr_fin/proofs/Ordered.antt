-- The lists of a document have the order of the keys of its table.
use Rattle.std.proofs.Common.{◌≡◌, ℕ, List, [], ◌∷◌, map, Less, nat_cmp, refl, sym, ap, subst}
use Rattle.std.specs.Prelude.{string_bytes}
use Rattle.std.specs.String.{string_cmp}
use Rattle.std.specs.List.{AllByRecursion}
use Rattle.std.specs.List.Sorted.{IsStrictlySortedBy}
use Rattle.std.specs.Map.{keys_of}
use Rattle.std.specs.Cmp.Lexicographic.{slice_cmp}
use Rattle.toml.proofs.Views.{Entry}
use Rattle.toml.specs.View.{members_view}
use Rattle.kr_fin.specs.Ascending.{AreAscending, AreBounds, AreCounts, AreDomains}
use Rattle.kr_fin.specs.Document.{bounds_of, counts_of, domains_of, object_domains_of}

-- the keys of entries, as bytes
abbrev names : List Entry → List (List ℕ)
names es = map (λ e. string_bytes e.0) es

before_all : (k : List ℕ) (es : List Entry) → AllByRecursion (λ y. slice_cmp nat_cmp k (string_bytes y) ≡ Less) (keys_of es) → AllByRecursion (λ l. slice_cmp nat_cmp k l ≡ Less) (names es)
before_all k [] h = tt
before_all k (e ∷ es) h = (h.0, before_all k es h.1)

names_ascend : (es : List Entry) → IsStrictlySortedBy string_cmp (keys_of es) → AreAscending (names es)
unfolding IsStrictlySortedBy
names_ascend [] h = tt
names_ascend (e ∷ es) h = (before_all (string_bytes e.0) es h.0, names_ascend es h.1)

pub none_ascend : AreAscending []
unfolding IsStrictlySortedBy
none_ascend = tt

names_of_counts : (es : List Entry) → names es ≡ map (λ c. c.name) (counts_of (members_view es))
names_of_counts [] = refl
names_of_counts (e ∷ es) = ap (λ ks. string_bytes e.0 ∷ ks) (names_of_counts es)

names_of_objects : (es : List Entry) → names es ≡ map (λ c. c.name) (object_domains_of (members_view es))
names_of_objects [] = refl
names_of_objects (e ∷ es) = ap (λ ks. string_bytes e.0 ∷ ks) (names_of_objects es)

names_of_bounds : (es : List Entry) → names es ≡ map (λ b. b.name) (bounds_of (members_view es))
names_of_bounds [] = refl
names_of_bounds (e ∷ es) = ap (λ ks. string_bytes e.0 ∷ ks) (names_of_bounds es)

keys_of_domains : (es : List Entry) → names es ≡ map (λ d. d.key) (domains_of (members_view es))
keys_of_domains [] = refl
keys_of_domains (e ∷ es) = ap (λ ks. string_bytes e.0 ∷ ks) (keys_of_domains es)

pub counts_ascend : (es : List Entry) → IsStrictlySortedBy string_cmp (keys_of es) → AreCounts (counts_of (members_view es))
counts_ascend es h = subst AreAscending (names_of_counts es) (names_ascend es h)

pub objects_ascend : (es : List Entry) → IsStrictlySortedBy string_cmp (keys_of es) → AreCounts (object_domains_of (members_view es))
objects_ascend es h = subst AreAscending (names_of_objects es) (names_ascend es h)

pub bounds_ascend : (es : List Entry) → IsStrictlySortedBy string_cmp (keys_of es) → AreBounds (bounds_of (members_view es))
bounds_ascend es h = subst AreAscending (names_of_bounds es) (names_ascend es h)

pub domains_ascend : (es : List Entry) → IsStrictlySortedBy string_cmp (keys_of es) → AreDomains (domains_of (members_view es))
domains_ascend es h = subst AreAscending (keys_of_domains es) (names_ascend es h)
