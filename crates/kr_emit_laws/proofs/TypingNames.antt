-- Types that are known mean the same where one name more means a class.
use Rattle.std.proofs.Common.{◌≡◌, refl, sym, ap, ◌∙◌, ℕ, Bool, true, false, ◌&&◌, List, [], ◌∷◌, Option, Some, None}
use Rattle.std.specs.Prelude.{bytes_eq, codes, option_and_then, if◌then◌else◌}
use Rattle.kr_base.specs.declared.place.Place.{Place}
use Rattle.kr_ast.specs.declared.node.Primitive.TheVariants as primitives
use Rattle.kr_ast.specs.Tree as trees
use Rattle.kr_ast.specs.Tree.{Tree}
use Rattle.kr_classes_table.specs.Types.{JavaType, ArrayType, SetType, ListType, InferredType, UnknownType, AppliedType, is_known, is_element}
use Rattle.kr_classes_table.specs.Table.{Heading, number_of, outer_of, is_number, class_named, class_or, applied, type_named}
use Rattle.kr_laws_never_stuck.proofs.Declared.{equal_names, names_equal}
use Rattle.kr_emit_laws.specs.Larger.{AreNames}

pub other_way : (m n : List ℕ) → bytes_eq m n ≡ false → bytes_eq n m ≡ false
other_way m n e = go (bytes_eq n m) refl
  where
    go : (b : Bool) → bytes_eq n m ≡ b → b ≡ false
    go true q = absurd (cc (e, ap (bytes_eq m) (names_equal n m q) ∙ equal_names m m refl))
    go false q = refl

-- the name is none of those that have a meaning of their own
pub record IsFree (name : List ℕ) : Type 0 where
  pub named : bytes_eq name [] ≡ false
  pub set : bytes_eq name (codes "HashSet") ≡ false
  pub list : bytes_eq name (codes "LinkedList") ≡ false
  pub throwable : bytes_eq name (codes "Throwable") ≡ false

-- ---- an argument

either_known : (b c : Bool) (n : List ℕ) (t : JavaType) → is_known t ≡ false → is_known (if b then SetType t else if c then ListType t else AppliedType (UnknownType [] n) t) ≡ false
either_known true c n t e = ap (λ x. x && is_element t) e
either_known false true n t e = ap (λ x. x && is_element t) e
either_known false false n t e = refl

-- an argument of a known type is known
unknown_argument : (h t : JavaType) → is_known t ≡ false → is_known (applied h t) ≡ false
unknown_argument (UnknownType [] n) t e = either_known (bytes_eq n (codes "HashSet")) (bytes_eq n (codes "LinkedList")) n t e
unknown_argument (UnknownType (o ∷ os) n) t e = refl
unknown_argument h t e = refl

pub argument_known : (h t : JavaType) → is_known (applied h t) ≡ true → is_known t ≡ true
argument_known h t e = go (is_known t) refl
  where
    go : (b : Bool) → is_known t ≡ b → b ≡ true
    go true q = refl
    go false q = absurd (cc (unknown_argument h t q, e))

-- what takes an argument is a collection's name
pub record IsCollection (h : JavaType) : Type 0 where
  pub name : List ℕ
  pub is : h ≡ UnknownType [] name
  pub other : (w : List ℕ) → IsFree w → bytes_eq w name ≡ false

pub taker : (h t : JavaType) → is_known (applied h t) ≡ true → IsCollection h
taker (UnknownType [] n) t e = go (bytes_eq n (codes "HashSet")) refl (bytes_eq n (codes "LinkedList")) refl e
  where
    go : (b : Bool) → bytes_eq n (codes "HashSet") ≡ b → (c : Bool) → bytes_eq n (codes "LinkedList") ≡ c → is_known (if b then SetType t else if c then ListType t else AppliedType (UnknownType [] n) t) ≡ true → IsCollection (UnknownType [] n)
    go true p c q e = record { name = n; is = refl; other = λ w f. ap (bytes_eq w) (names_equal n (codes "HashSet") p) ∙ f.set }
    go false p true q e = record { name = n; is = refl; other = λ w f. ap (bytes_eq w) (names_equal n (codes "LinkedList") q) ∙ f.list }
    go false p false q e = absurd (cc (e))
taker (UnknownType (o ∷ os) n) t e = absurd (cc (e))
taker h t e = absurd (cc (e))

module _ (hs more : List Heading) (w : List ℕ) (free : IsFree w) (names : AreNames hs more w) where
  test_kept : (o : List ℕ) (x y : Option ℕ) → (y ≡ number_of hs o) → is_number x y ≡ true → is_number x (number_of more o) ≡ true
  test_kept o (Some a) (Some b) e h = ap (λ z. is_number (Some a) z) (names.kept o b (sym e)) ∙ h
  test_kept o (Some a) None e h = absurd (cc (h))
  test_kept o None y e h = absurd (cc (h))

  one_kept : (o : List ℕ) (c d : ℕ) → (if is_number (outer_of hs c) (number_of hs o) then Some c else None) ≡ Some d → (if is_number (outer_of more c) (number_of more o) then Some c else None) ≡ Some d
  one_kept o c d e = go (is_number (outer_of hs c) (number_of hs o)) refl e
    where
      go : (b : Bool) → is_number (outer_of hs c) (number_of hs o) ≡ b → (if b then Some c else None) ≡ Some d → (if is_number (outer_of more c) (number_of more o) then Some c else None) ≡ Some d
      go true q e = ap (λ z. if is_number z (number_of more o) then Some c else None) (names.outer c) ∙ (ap (λ z. if z then Some c else None) (test_kept o (outer_of hs c) (number_of hs o) refl q) ∙ e)
      go false q e = absurd (cc (e))

  -- a class that a name means
  pub class_kept : (t : Tree) (d : ℕ) → class_named hs t ≡ Some d → class_named more t ≡ Some d
  class_kept (trees.NamedType p n) d e = names.kept n d e
  class_kept (trees.QualifiedType p o n) d e = go (number_of hs n) refl e
    where
      go : (x : Option ℕ) → number_of hs n ≡ x → option_and_then (λ c. if is_number (outer_of hs c) (number_of hs o) then Some c else None) x ≡ Some d → option_and_then (λ c. if is_number (outer_of more c) (number_of more o) then Some c else None) (number_of more n) ≡ Some d
      go None q e = absurd (cc (e))
      go (Some c) q e = ap (λ z. option_and_then (λ c. if is_number (outer_of more c) (number_of more o) then Some c else None) z) (names.kept n c q) ∙ one_kept o c d e
  class_kept t d e = absurd (cc (e))

  -- a name that isn't the new one
  qualified_same : (o n : List ℕ) → bytes_eq w o ≡ false → bytes_eq w n ≡ false → (x : Option ℕ) → option_and_then (λ c. if is_number (outer_of more c) (number_of more o) then Some c else None) x ≡ option_and_then (λ c. if is_number (outer_of hs c) (number_of hs o) then Some c else None) x
  qualified_same o n f g None = refl
  qualified_same o n f g (Some c) = ap (λ z. if is_number z (number_of more o) then Some c else None) (names.outer c) ∙ ap (λ z. if is_number (outer_of hs c) z then Some c else None) (names.other o f)

  pub class_same : (p : Place) (o n : List ℕ) → bytes_eq w o ≡ false → bytes_eq w n ≡ false → class_named more (trees.QualifiedType p o n) ≡ class_named hs (trees.QualifiedType p o n)
  class_same p o n f g = ap (λ z. option_and_then (λ c. if is_number (outer_of more c) (number_of more o) then Some c else None) z) (names.other n g) ∙ qualified_same o n f g (number_of hs n)

  -- ---- heads of types

  no_type : (h t : JavaType) (n : List ℕ) → applied h t ≡ UnknownType [] n → ⊥
  no_type (UnknownType [] m) t n e = go (bytes_eq m (codes "HashSet")) (bytes_eq m (codes "LinkedList")) e
    where
      go : (b c : Bool) → (if b then SetType t else if c then ListType t else AppliedType (UnknownType [] m) t) ≡ UnknownType [] n → ⊥
      go true c e = cc (e)
      go false true e = cc (e)
      go false false e = cc (e)
  no_type (UnknownType (o ∷ os) m) t n e = cc (e)
  no_type h t n e = cc (e)

  pub head_same : (h : Tree) (n : List ℕ) → bytes_eq w n ≡ false → type_named hs h ≡ UnknownType [] n → type_named more h ≡ UnknownType [] n
  head_same (trees.PrimitiveType p primitives.Int) n f e = absurd (cc (e))
  head_same (trees.PrimitiveType p primitives.Long) n f e = absurd (cc (e))
  head_same (trees.PrimitiveType p primitives.Boolean) n f e = absurd (cc (e))
  head_same (trees.PrimitiveType p primitives.Void) n f e = absurd (cc (e))
  head_same (trees.NamedType p m) n f e = go (number_of hs m) refl e
    where
      go : (x : Option ℕ) → number_of hs m ≡ x → class_or x (UnknownType [] m) ≡ UnknownType [] n → class_or (number_of more m) (UnknownType [] m) ≡ UnknownType [] n
      go (Some c) q e = absurd (cc (e))
      go None q e = let s : m ≡ n = cc (e) in ap (λ z. class_or z (UnknownType [] m)) (names.other m (ap (bytes_eq w) s ∙ f) ∙ q) ∙ e
  head_same (trees.QualifiedType p o m) n f e = go (class_named hs (trees.QualifiedType p o m)) refl e
    where
      go : (x : Option ℕ) → class_named hs (trees.QualifiedType p o m) ≡ x → class_or x (UnknownType o m) ≡ UnknownType [] n → class_or (class_named more (trees.QualifiedType p o m)) (UnknownType o m) ≡ UnknownType [] n
      go (Some c) q e = absurd (cc (e))
      go None q e =
          let s : m ≡ n = cc (e) in
          let r : o ≡ [] = cc (e) in
          ap (λ z. class_or z (UnknownType o m)) (class_same p o m (ap (bytes_eq w) r ∙ free.named) (ap (bytes_eq w) s ∙ f) ∙ q) ∙ e
  head_same (trees.GenericType p h a) n f e = absurd (no_type (type_named hs h) (type_named hs a) n e)
  head_same (trees.DiamondType p h) n f e = absurd (no_type (type_named hs h) InferredType n e)
  head_same (trees.ArrayType p a) n f e = absurd (cc (e))
  head_same h n f e = absurd (cc (e))

  -- the head of a known type
  pub taker_same : (h : Tree) (t : JavaType) → is_known (applied (type_named hs h) t) ≡ true → type_named more h ≡ type_named hs h
  taker_same h t e = let k = taker (type_named hs h) t e in head_same h k.name (k.other w free) k.is ∙ sym k.is

  -- ---- known types

  class_type : (x y : Option ℕ) (t : JavaType) → is_known t ≡ false → ((c : ℕ) → x ≡ Some c → y ≡ Some c) → is_known (class_or x t) ≡ true → class_or y t ≡ class_or x t
  class_type None y t u f e = absurd (cc (u, e))
  class_type (Some c) y t u f e = ap (λ z. class_or z t) (f c refl)

  pub known_same : (t : Tree) → is_known (type_named hs t) ≡ true → type_named more t ≡ type_named hs t
  known_same (trees.PrimitiveType p primitives.Int) e = refl
  known_same (trees.PrimitiveType p primitives.Long) e = refl
  known_same (trees.PrimitiveType p primitives.Boolean) e = refl
  known_same (trees.PrimitiveType p primitives.Void) e = refl
  known_same (trees.NamedType p n) e = class_type (number_of hs n) (number_of more n) (UnknownType [] n) refl (names.kept n) e
  known_same (trees.QualifiedType p o n) e = class_type (class_named hs (trees.QualifiedType p o n)) (class_named more (trees.QualifiedType p o n)) (UnknownType o n) refl (class_kept (trees.QualifiedType p o n)) e
  known_same (trees.GenericType p h a) e =
      ap (λ z. applied z (type_named more a)) (taker_same h (type_named hs a) e) ∙ ap (λ z. applied (type_named hs h) z) (known_same a (argument_known (type_named hs h) (type_named hs a) e))
  known_same (trees.DiamondType p h) e = ap (λ z. applied z InferredType) (taker_same h InferredType e)
  known_same (trees.ArrayType p a) e = ap ArrayType (known_same a e)
  known_same t e = refl
