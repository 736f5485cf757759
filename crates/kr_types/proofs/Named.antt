-- Classes that types and superclasses name are there.
use Rattle.std.proofs.Common.{◌≡◌, refl, ap, ℕ, zero, suc, ◌+◌, ◌<◌, Bool, true, false, cond, List, [], ◌∷◌, length, arith, bytes_eq, codes, Option, Some, None}
use Rattle.std.specs.Prelude.{All, option_and_then}
use Rattle.std.proofs.lemmas.List.Elements.{All-cons, All-nil}
use Rattle.kr_base.specs.declared.place.Place.{Place}
use Rattle.kr_ast.specs.Tree as trees
use Rattle.kr_ast.specs.Tree.{Tree}
use Rattle.kr_ast.specs.declared.node.Primitive.{Primitive}
use Rattle.kr_ast.specs.declared.node.Primitive.TheVariants.{Int, Long, Boolean, Void}
use Rattle.kr_classes_table.specs.Types.{JavaType, NumberType, BooleanType, NullType, VoidType, ClassType, ArrayType, SetType, ListType, InferredType, UnknownType, AppliedType}
use Rattle.kr_classes_table.specs.Table.{Heading, applied, class_at, class_named, class_or, classes_from, is_number, line_of, line_within, number_of, outer_of, super_of, table_of, type_named}
use Rattle.kr_classes_table.proofs.Tables.{long, bounded_from}

kept : (t : ℕ → Bool) (o : Option ℕ) (c : ℕ) → option_and_then (λ d. cond (t d) (Some d) None) o ≡ Some c → o ≡ Some c
kept t None c e = absurd (cc (e))
kept t (Some d) c e = go (t d) e
  where
    go : (b : Bool) → cond b (Some d) None ≡ Some c → Some d ≡ Some c
    go true h = h
    go false h = absurd (cc (h))

class_below : (hs : List Heading) (t : Tree) (c : ℕ) → class_named hs t ≡ Some c → c < length hs
class_below hs (trees.NamedType p n) c e = let b = bounded_from 0 hs n c e in omega (arith, b)
class_below hs (trees.QualifiedType p o n) c e = let b = bounded_from 0 hs n c (kept (λ d. is_number (outer_of hs d) (number_of hs o)) (number_of hs n) c e) in omega (arith, b)
class_below hs _ c e = absurd (cc (e))

not_applied : (h t : JavaType) (c : ℕ) → applied h t ≡ ClassType c → ⊥
not_applied (UnknownType [] n) t c e = go (bytes_eq n (codes "HashSet")) (bytes_eq n (codes "LinkedList")) e
  where
    go : (b d : Bool) → cond b (SetType t) (cond d (ListType t) (AppliedType (UnknownType [] n) t)) ≡ ClassType c → ⊥
    go true d f = cc (f)
    go false true f = cc (f)
    go false false f = cc (f)
not_applied (UnknownType (x ∷ xs) n) t c e = cc (e)
not_applied (NumberType w) t c e = cc (e)
not_applied BooleanType t c e = cc (e)
not_applied NullType t c e = cc (e)
not_applied VoidType t c e = cc (e)
not_applied (ClassType d) t c e = cc (e)
not_applied (ArrayType u) t c e = cc (e)
not_applied (SetType u) t c e = cc (e)
not_applied (ListType u) t c e = cc (e)
not_applied InferredType t c e = cc (e)
not_applied (AppliedType a b) t c e = cc (e)

or_class : (o : Option ℕ) (a b : List ℕ) (c : ℕ) → class_or o (UnknownType a b) ≡ ClassType c → o ≡ Some c
or_class None a b c e = absurd (cc (e))
or_class (Some d) a b c e = let f : d ≡ c = cc (e) in ap (λ i. Some i) f

primitive_no_class : (hs : List Heading) (p : Place) (k : Primitive) (c : ℕ) → type_named hs (trees.PrimitiveType p k) ≡ ClassType c → ⊥
primitive_no_class hs p Int c e = cc (e)
primitive_no_class hs p Long c e = cc (e)
primitive_no_class hs p Boolean c e = cc (e)
primitive_no_class hs p Void c e = cc (e)

type_below : (hs : List Heading) (t : Tree) (c : ℕ) → type_named hs t ≡ ClassType c → c < length hs
type_below hs (trees.PrimitiveType p k) c e = absurd (primitive_no_class hs p k c e)
type_below hs (trees.NamedType p n) c e = class_below hs (trees.NamedType p n) c (or_class (class_named hs (trees.NamedType p n)) [] n c e)
type_below hs (trees.QualifiedType p o n) c e = class_below hs (trees.QualifiedType p o n) c (or_class (class_named hs (trees.QualifiedType p o n)) o n c e)
type_below hs (trees.GenericType p h a) c e = absurd (not_applied (type_named hs h) (type_named hs a) c e)
type_below hs (trees.DiamondType p h) c e = absurd (not_applied (type_named hs h) InferredType c e)
type_below hs (trees.ArrayType p u) c e = absurd (cc (e))
type_below hs _ c e = absurd (cc (e))

-- a superclass is there
super_in : (all : List Heading) (k : ℕ) (hs : List Heading) (c d : ℕ) → option_and_then (λ x. x.super) (class_at (classes_from all k hs) c) ≡ Some d → d < length all
super_in all k [] c d e = absurd (cc (e))
super_in all k (h ∷ hs) zero d e = class_below all h.extended d e
super_in all k (h ∷ hs) (suc c) d e = super_in all (k + 1) hs c d e

module _ (files : List Tree) where
  abbrev pub IsThere : ℕ → Type 0
  IsThere c = c < length (table_of files).classes

  -- a class that a type names is there
  pub named_there : (t : Tree) (c : ℕ) → type_named (table_of files).headings t ≡ ClassType c → IsThere c
  unfolding table_of
  named_there t c e = let hs = (table_of files).headings in omega (arith, type_below hs t c e, long hs 0 hs)

  super_there : (c d : ℕ) → super_of (table_of files) c ≡ Some d → IsThere d
  unfolding table_of
  super_there c d e = let hs = (table_of files).headings in omega (arith, super_in hs 0 hs c d e, long hs 0 hs)

  within_there : (n : ℕ) (o : Option ℕ) → ((c : ℕ) → o ≡ Some c → IsThere c) → All IsThere (line_within n (table_of files) o)
  within_there zero o h = All-nil IsThere
  within_there (suc n) None h = All-nil IsThere
  within_there (suc n) (Some c) h = All-cons IsThere c _ (h c refl) (within_there n (super_of (table_of files) c) (super_there c))

  -- a class and its ancestors exist
  pub line_there : (c : ℕ) → IsThere c → All IsThere (line_of (table_of files) c)
  line_there c h = All-cons IsThere c _ h (within_there _ (super_of (table_of files) c) (super_there c))
