-- The number of a class by its name.
use Rattle.std.proofs.Common.{◌≡◌, refl, sym, ap, ◌∙◌, ℕ, zero, suc, ◌+◌, ◌<◌, true, false, List, [], ◌∷◌, length, map, get_or, bytes_eq, if◌then◌else◌, arith}
use Rattle.std.specs.Prelude.{Option, Some, None, option_and_then, nat_eq}
use Rattle.std.specs.List.{position_from}
use Rattle.std.proofs.Math.ListN.{get_or-map}
use Rattle.std.proofs.lemmas.Slice.Eq.{bytes_eq-Decides}
use Rattle.kr_base.specs.declared.place.Place.{Place}
use Rattle.kr_ast.specs.Arena.{Arena}
use Rattle.kr_ast.specs.Tree as trees
use Rattle.kr_classes_table.specs.Table.{Heading, number_from, number_of, outer_of, is_number, class_named}
use Rattle.kr_classes_table.proofs.Tables.{bounded_from}
use Rattle.kr_classes_names.specs.declared.headings.Heading.{Heading as Kept}
use Rattle.kr_classes_names.specs.Shown.{heading_shown}

pub turned : (m n : List ℕ) → bytes_eq m n ≡ bytes_eq n m
turned m n = grind (arith, bytes_eq-Decides m n, bytes_eq-Decides n m)

pub number_position : (k : ℕ) (hs : List Heading) (n : List ℕ) → position_from (bytes_eq n) k (map (λ h. h.name) hs) ≡ number_from k hs n
number_position k [] n = refl
number_position k (h ∷ hs) n =
    ap (λ r. if bytes_eq n h.name then Some k else r) (number_position (k + 1) hs n) ∙ ap (λ b. if b then Some k else number_from (k + 1) hs n) (turned n h.name)

pub outer_at : (hs : List Heading) (c : ℕ) (d : Heading) → c < length hs → outer_of hs c ≡ (get_or hs c d).outer
outer_at [] c d l = absurd (omega (arith, l))
outer_at (h ∷ hs) zero d l = refl
outer_at (h ∷ hs) (suc c) d l = outer_at hs c d (omega (arith, l))

-- a class by outer class and name
pub qualified : (hs : List Heading) (p : Place) (o n : List ℕ) (c d : ℕ) (outer : Option ℕ) → Some c ≡ number_of hs n → Some d ≡ number_of hs o → outer_of hs c ≡ outer
    → class_named hs (trees.QualifiedType p o n) ≡ (if is_number outer (Some d) then Some c else None)
qualified hs p o n c d outer e f g =
    ap (λ r. option_and_then (λ k. if is_number (outer_of hs k) (number_of hs o) then Some k else None) r) (sym e)
    ∙ ap (λ r. if is_number (outer_of hs c) r then Some c else None) (sym f)
    ∙ ap (λ r. if is_number r (Some d) then Some c else None) g

pub outer_kept : (files : List Arena) (hs : List Heading) (headings : List Kept) (h : Kept) (c : ℕ) → map (heading_shown files) headings ≡ hs → c < length hs → h ≡ get_or headings c h → outer_of hs c ≡ h.outer
outer_kept files hs headings h c e l g =
    outer_at hs c (heading_shown files h) l
    ∙ ap (λ xs. (get_or xs c (heading_shown files h)).outer) (sym e)
    ∙ ap (λ x. x.outer) (get_or-map (heading_shown files) headings c h)
    ∙ ap (λ x. x.outer) (sym g)

pub is_self : (a b : ℕ) → a ≡ b → nat_eq a b ≡ true
is_self a b e = grind (arith, e)

pub is_other : (a b : ℕ) → (a ≡ b → ⊥) → nat_eq a b ≡ false
is_other a b e = grind (arith, e)

pub some_below : (hs : List Heading) (n : List ℕ) (c : ℕ) → Some c ≡ number_of hs n → c < length hs
some_below hs n c e = let b = bounded_from 0 hs n c (sym e) in omega (arith, b)
