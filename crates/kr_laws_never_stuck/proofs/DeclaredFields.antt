-- The fields of a table are among the declarators of its files.
use Rattle.std.proofs.Common.{◌≡◌, ℕ, ◌+◌, ◌≤◌, Bool, List, [], ◌∷◌, ◌++◌, length, Some, None, arith}
use Rattle.std.specs.Prelude.{flat_map}
use Rattle.kr_base.specs.declared.place.Place.{Place}
use Rattle.kr_ast.specs.Tree as trees
use Rattle.kr_ast.specs.Tree.{Tree}
use Rattle.kr_classes_table.specs.Nodes.{nodes}
use Rattle.kr_classes_table.specs.Table.{Heading, Field, items, heading_of, with_nested, headings_from, headings_of, declared_in, fields_in, classes_from, table_of}
use Rattle.kr_laws_never_stuck.specs.Apart.{all_fields}
use Rattle.kr_laws_never_stuck.proofs.Weights as weights

module _ (declared : Place → List ℕ → ℕ) (held : Place → ℕ) where
  abbrev W : Tree → ℕ
  W t = weights.W declared held t

  two : (a b : Tree) → weights.weight declared held (nodes a ++ nodes b) ≡ W a + W b
  two a b = weights.append declared held (nodes a) (nodes b)

  -- the weight of fields
  abbrev pub F : List Field → ℕ
  F [] = 0
  F (f ∷ fs) = declared f.place f.name + F fs

  append : (fs gs : List Field) → F (fs ++ gs) ≡ F fs + F gs
  append [] gs = omega arith
  append (f ∷ fs) gs = omega (arith, append fs gs)

  -- ---- members

  declarators : (hs : List Heading) (c : ℕ) (st fi : Bool) (type ds : Tree) → F (flat_map (declared_in hs c st fi type) (items ds)) ≤ W ds
  declarators hs c st fi type (trees.Cons (trees.Declarator p n e) b) = omega (arith, declarators hs c st fi type b, two (trees.Declarator p n e) b)
  declarators hs c st fi type (trees.Cons a b) = omega (arith, declarators hs c st fi type b, two a b)
  declarators hs c st fi type _ = omega arith

  -- the weight of the declarators of a member that is a field
  abbrev own : Tree → ℕ
  own (trees.Field p st fi type ds) = W ds
  own m = 0

  abbrev all : List Tree → ℕ
  all [] = 0
  all (m ∷ ms) = own m + all ms

  of_member : (hs : List Heading) (c : ℕ) (m : Tree) → F (fields_in hs c m) ≤ own m
  of_member hs c (trees.Field p st fi type ds) = declarators hs c st fi type ds
  of_member hs c _ = omega arith

  of_members : (hs : List Heading) (c : ℕ) (ms : List Tree) → F (flat_map (fields_in hs c) ms) ≤ all ms
  of_members hs c [] = omega arith
  of_members hs c (m ∷ ms) = omega (arith, append (fields_in hs c m) (flat_map (fields_in hs c) ms), of_member hs c m, of_members hs c ms)

  own_less : (m : Tree) → own m ≤ W m
  own_less (trees.Field p st fi type ds) = omega (arith, two type ds)
  own_less _ = omega arith

  all_less : (ms : Tree) → all (items ms) ≤ W ms
  all_less (trees.Cons m b) = omega (arith, own_less m, all_less b, two m b)
  all_less _ = omega arith

  -- ---- classes

  abbrev H : List Heading → ℕ
  H [] = 0
  H (h ∷ hs) = all h.members + H hs

  headings : (hs gs : List Heading) → H (hs ++ gs) ≡ H hs + H gs
  headings [] gs = omega arith
  headings (h ∷ hs) gs = omega (arith, headings hs gs)

  of_classes : (whole : List Heading) (c : ℕ) (hs : List Heading) → F (flat_map (λ d. d.fields) (classes_from whole c hs)) ≤ H hs
  of_classes whole c [] = omega arith
  of_classes whole c (h ∷ hs) =
      omega (arith, append (flat_map (fields_in whole c) h.members) (flat_map (λ d. d.fields) (classes_from whole (c + 1) hs)), of_members whole c h.members, of_classes whole (c + 1) hs)

  -- a member is a field, or a nested class
  of_nested : (k : ℕ) (m : Tree) → own m + H (heading_of (Some k) m) ≤ W m
  of_nested k (trees.Field p st fi type ds) = omega (arith, two type ds)
  of_nested k (trees.Class p n e ms) = omega (arith, all_less ms, two e ms)
  of_nested k _ = omega arith

  with_all_nested : (k : ℕ) (ms : Tree) → all (items ms) + H (flat_map (heading_of (Some k)) (items ms)) ≤ W ms
  with_all_nested k (trees.Cons m b) = omega (arith, of_nested k m, with_all_nested k b, two m b, headings (heading_of (Some k) m) (flat_map (heading_of (Some k)) (items b)))
  with_all_nested k _ = omega arith

  of_class : (k : ℕ) (t : Tree) → H (with_nested k (heading_of None t)) ≤ W t
  of_class k (trees.Class p n e ms) = omega (arith, with_all_nested k ms, two e ms)
  of_class k _ = omega arith

  abbrev Ws : List Tree → ℕ
  Ws [] = 0
  Ws (t ∷ ts) = W t + Ws ts

  trees_append : (ts us : List Tree) → Ws (ts ++ us) ≡ Ws ts + Ws us
  trees_append [] us = omega arith
  trees_append (t ∷ ts) us = omega (arith, trees_append ts us)

  of_headings : (k : ℕ) (ts : List Tree) → H (headings_from k ts) ≤ Ws ts
  of_headings k [] = omega arith
  of_headings k (t ∷ ts) =
      let mine = with_nested k (heading_of None t) in
      omega (arith, headings mine (headings_from (k + length mine) ts), of_class k t, of_headings (k + length mine) ts)

  -- ---- files

  of_file : (file : Tree) → Ws (items file) ≤ W file
  of_file (trees.Cons t b) = omega (arith, of_file b, two t b)
  of_file _ = omega arith

  of_files : (files : List Tree) → Ws (flat_map items files) ≤ weights.weight declared held (flat_map nodes files)
  of_files [] = omega arith
  of_files (file ∷ files) = omega (arith, trees_append (items file) (flat_map items files), of_file file, of_files files, weights.append declared held (nodes file) (flat_map nodes files))

  pub fields_less : (files : List Tree) → F (all_fields (table_of files)) ≤ weights.weight declared held (flat_map nodes files)
  unfolding table_of
  fields_less files = omega (arith, of_classes (headings_of files) 0 (headings_of files), of_headings 0 (flat_map items files), of_files files)
