-- The nodes of each member of a class are among those of the files.
use Rattle.std.proofs.Common.{◌≡◌, ℕ, zero, suc, ◌+◌, ◌≤◌, List, [], ◌∷◌, ◌++◌, length, Option, Some, None, sym, ap, ◌∙◌, subst, arith, append_assoc}
use Rattle.std.specs.Prelude.{flat_map}
use Rattle.std.proofs.lemmas.List.{append-nil}
use Rattle.kr_base.specs.declared.place.Place.{Place}
use Rattle.kr_ast.specs.Tree as trees
use Rattle.kr_ast.specs.Tree.{Tree}
use Rattle.kr_classes_table.specs.Nodes.{nodes}
use Rattle.kr_classes_table.specs.Table.{Heading, items, heading_of, with_nested, headings_from, headings_of}
use Rattle.kr_laws_runs.proofs.Respects.{AllOf, all_front, all_back, all_both}
use Rattle.kr_laws_never_stuck.specs.Apart.{nodes_at}
use Rattle.kr_laws_never_stuck.proofs.Files.{heading_at}

-- a sublist of another
pub record IsPart (whole part : List Tree) : Type 0 where
  pub before : List Tree
  pub behind : List Tree
  pub is : whole ≡ before ++ (part ++ behind)

self : (whole : List Tree) → IsPart whole whole
self whole = record { before = []; behind = []; is = sym (append-nil whole) }

left : (whole xs ys : List Tree) → IsPart whole (xs ++ ys) → IsPart whole xs
left whole xs ys p = record { before = p.before; behind = ys ++ p.behind; is = p.is ∙ ap (λ (zs : List Tree). p.before ++ zs) (append_assoc xs ys p.behind) }

right : (whole xs ys : List Tree) → IsPart whole (xs ++ ys) → IsPart whole ys
right whole xs ys p = record {
  before = p.before ++ xs;
  behind = p.behind;
  is = p.is ∙ (ap (λ (zs : List Tree). p.before ++ zs) (append_assoc xs ys p.behind) ∙ sym (append_assoc p.before xs (ys ++ p.behind)));
}

tail : (whole : List Tree) (x : Tree) (xs : List Tree) → IsPart whole (x ∷ xs) → IsPart whole xs
tail whole x xs p = right whole (x ∷ []) xs p

pub part_all : (P : Tree → Type 0) (whole part : List Tree) → IsPart whole part → AllOf P whole → AllOf P part
part_all P whole part p h = all_front P part p.behind (all_back P p.before (part ++ p.behind) (subst (AllOf P) p.is h))

pub nodes_append : (p : Place) (xs ys : List Tree) → nodes_at p (xs ++ ys) ≡ nodes_at p xs + nodes_at p ys
nodes_append p [] ys = omega arith
nodes_append p (x ∷ xs) ys = omega (arith, nodes_append p xs ys)

pub part_less : (q : Place) (whole part : List Tree) → IsPart whole part → nodes_at q part ≤ nodes_at q whole
part_less q whole part p = omega (arith, ap (nodes_at q) p.is, nodes_append q p.before (part ++ p.behind), nodes_append q part p.behind)

module _ (whole : List Tree) where
  abbrev pub IsIn : Tree → Type 0
  IsIn t = IsPart whole (nodes t)

  items_in : (ms : Tree) → IsIn ms → AllOf IsIn (items ms)
  items_in (trees.Cons a b) p = (left whole (nodes a) (nodes b) p, items_in b (right whole (nodes a) (nodes b) p))
  items_in _ p = tt

  abbrev pub HasMembers : Heading → Type 0
  HasMembers h = AllOf IsIn h.members

  heading_in : (outer : Option ℕ) (m : Tree) → IsIn m → AllOf HasMembers (heading_of outer m)
  heading_in outer (trees.Class p n e ms) i = (items_in ms (right whole (nodes e) (nodes ms) (tail whole (trees.Class p n e ms) (nodes e ++ nodes ms) i)), tt)
  heading_in outer _ i = tt

  nested_in : (k : ℕ) (ms : List Tree) → AllOf IsIn ms → AllOf HasMembers (flat_map (heading_of (Some k)) ms)
  nested_in k [] h = tt
  nested_in k (m ∷ ms) h = all_both HasMembers (heading_of (Some k) m) (flat_map (heading_of (Some k)) ms) (heading_in (Some k) m h.0) (nested_in k ms h.1)

  with_nested_in : (k : ℕ) (m : Tree) → IsIn m → AllOf HasMembers (with_nested k (heading_of None m))
  with_nested_in k (trees.Class p n e ms) i = let all = items_in ms (right whole (nodes e) (nodes ms) (tail whole (trees.Class p n e ms) (nodes e ++ nodes ms) i)) in (all, nested_in k (items ms) all)
  with_nested_in k _ i = tt

  headings_in : (k : ℕ) (ms : List Tree) → AllOf IsIn ms → AllOf HasMembers (headings_from k ms)
  headings_in k [] h = tt
  headings_in k (m ∷ ms) h = let own = with_nested k (heading_of None m) in all_both HasMembers own (headings_from (k + length own) ms) (with_nested_in k m h.0) (headings_in (k + length own) ms h.1)

  classes_in : (files : List Tree) → IsPart whole (flat_map nodes files) → AllOf IsIn (flat_map items files)
  classes_in [] p = tt
  classes_in (file ∷ files) p = all_both IsIn (items file) (flat_map items files) (items_in file (left whole (nodes file) (flat_map nodes files) p)) (classes_in files (right whole (nodes file) (flat_map nodes files) p))

  heading_found : (hs : List Heading) (c : ℕ) (h : Heading) → AllOf HasMembers hs → heading_at hs c ≡ Some h → HasMembers h
  heading_found [] c h g q = absurd (cc (q))
  heading_found (x ∷ hs) zero h g q = subst HasMembers (ap (λ (o : Option Heading). elim o as (λ y. Heading) [ Some y ↦ y | None ↦ x ]) q) g.0
  heading_found (x ∷ hs) (suc c) h g q = heading_found hs c h g.1 q

-- the members of the class at a number
pub members_in : (files : List Tree) (c : ℕ) (h : Heading) → heading_at (headings_of files) c ≡ Some h → AllOf (IsIn (flat_map nodes files)) h.members
members_in files c h q = let whole = flat_map nodes files in heading_found whole (headings_of files) c h (headings_in whole 0 (flat_map items files) (classes_in whole files (self whole))) q
