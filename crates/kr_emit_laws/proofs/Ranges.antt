-- The classes of headings, and of the types that they mean, have numbers below the headings' number.
use Rattle.std.proofs.Common.{◌≡◌, ℕ, zero, suc, ◌+◌, ◌<◌, ◌≤◌, Bool, true, false, List, [], ◌∷◌, ◌++◌, length, refl, subst, arith, length-append}
use Rattle.std.specs.Prelude.{Option, Some, None, codes, flat_map, bytes_eq, option_and_then, if◌then◌else◌}
use Rattle.std.specs.List.{AllByRecursion}
use Rattle.std.specs.Option.{option_map}
use Rattle.kr_ast.specs.Tree as trees
use Rattle.kr_ast.specs.Tree.{Tree}
use Rattle.kr_ast.specs.declared.node.Primitive.TheVariants.{Int, Long, Boolean, Void}
use Rattle.kr_classes_table.specs.Arrays.{arrays_in, arrays_named, array_types_of, is_listed, once}
use Rattle.kr_classes_table.specs.Nodes.{nodes}
use Rattle.kr_classes_table.specs.Table.{Heading, applied, class_named, class_or, heading_of, headings_from, headings_of, is_number, items, number_from, number_of, outer_of, type_named, with_nested}
use Rattle.kr_classes_table.specs.Types.{JavaType, NumberType, BooleanType, NullType, VoidType, ClassType, ArrayType, SetType, ListType, InferredType, UnknownType, AppliedType, is_element, int_type, long_type}
use Rattle.kr_fin.specs.declared.document.ArrayBound.{ArrayBound}
use Rattle.kr_space_meaning.specs.Bounds.{bounded, typed_bound}
use Rattle.kr_space_meaning.specs.Names.{Written, ArrayOf, SetOf, ListOf, Word, array_or_none, array_type, of_elements, type_of, type_within, word_type, written}
use Rattle.kr_space_meaning.proofs.Each.{each_flat, each_of_both, each_weaker, each_always}

-- ---- classes by name

number_below : (k : ℕ) (hs : List Heading) (n : List ℕ) (c : ℕ) → number_from k hs n ≡ Some c → c < k + length hs
number_below k [] n c e = absurd (cc e)
number_below k (h ∷ hs) n c e = go (bytes_eq h.name n) e (number_below (k + 1) hs n c)
  where
    go : (b : Bool) → (if b then Some k else number_from (k + 1) hs n) ≡ Some c → (number_from (k + 1) hs n ≡ Some c → c < k + 1 + length hs) → c < k + length (h ∷ hs)
    go true q f = let same : k ≡ c = cc in omega (arith, same)
    go false q f = omega (arith, f q)

pub number_of_below : (hs : List Heading) (n : List ℕ) (c : ℕ) → number_of hs n ≡ Some c → c < length hs
number_of_below hs n c e = omega (arith, number_below 0 hs n c e)

qualified_below : (hs : List Heading) (o n : List ℕ) (c : ℕ) → option_and_then (λ (d : ℕ). if is_number (outer_of hs d) (number_of hs o) then Some d else None) (number_of hs n) ≡ Some c → c < length hs
qualified_below hs o n c e = go (number_of hs n) refl e
  where
    test : (b : Bool) (d : ℕ) → (if b then Some d else None) ≡ Some c → d ≡ c
    test true d q = cc
    test false d q = absurd (cc q)

    go : (x : Option ℕ) → number_of hs n ≡ x → option_and_then (λ (d : ℕ). if is_number (outer_of hs d) (number_of hs o) then Some d else None) x ≡ Some c → c < length hs
    go None is q = absurd (cc q)
    go (Some d) is q = let same : d ≡ c = test (is_number (outer_of hs d) (number_of hs o)) d q in omega (arith, same, number_of_below hs n d is)

-- ---- types

-- the classes of a type have numbers below this one
abbrev pub InRange : ℕ → JavaType → Type 0
InRange n (ClassType c) = c < n
InRange n (ArrayType t) = InRange n t
InRange n (SetType t) = InRange n t
InRange n (ListType t) = InRange n t
InRange n _ = Unit {0}

class_range : (hs : List Heading) (x : Option ℕ) (o n : List ℕ) → ((c : ℕ) → x ≡ Some c → c < length hs) → InRange (length hs) (class_or x (UnknownType o n))
class_range hs None o n h = tt
class_range hs (Some c) o n h = h c refl

applied_range : (m : ℕ) (h t : JavaType) → InRange m t → InRange m (applied h t)
applied_range m (UnknownType [] n) t i = go (bytes_eq n (codes "HashSet")) (bytes_eq n (codes "LinkedList"))
  where
    go : (a b : Bool) → InRange m (if a then SetType t else if b then ListType t else AppliedType (UnknownType [] n) t)
    go true b = i
    go false true = i
    go false false = tt
applied_range m (UnknownType (x ∷ xs) n) t i = tt
applied_range m (NumberType w) t i = tt
applied_range m BooleanType t i = tt
applied_range m NullType t i = tt
applied_range m VoidType t i = tt
applied_range m (ClassType c) t i = tt
applied_range m (ArrayType u) t i = tt
applied_range m (SetType u) t i = tt
applied_range m (ListType u) t i = tt
applied_range m InferredType t i = tt
applied_range m (AppliedType g u) t i = tt

type_range : (hs : List Heading) (t : Tree) → InRange (length hs) (type_named hs t)
type_range hs (trees.PrimitiveType p Int) = tt
type_range hs (trees.PrimitiveType p Long) = tt
type_range hs (trees.PrimitiveType p Boolean) = tt
type_range hs (trees.PrimitiveType p Void) = tt
type_range hs (trees.NamedType p n) = class_range hs (number_of hs n) [] n (number_of_below hs n)
type_range hs (trees.QualifiedType p o n) = class_range hs (class_named hs (trees.QualifiedType p o n)) o n (qualified_below hs o n)
type_range hs (trees.GenericType p h a) = applied_range (length hs) (type_named hs h) (type_named hs a) (type_range hs a)
type_range hs (trees.DiamondType p h) = applied_range (length hs) (type_named hs h) InferredType tt
type_range hs (trees.ArrayType p e) = type_range hs e
type_range hs _ = tt

arrays_range : (m : ℕ) (t : JavaType) → InRange m t → AllByRecursion (InRange m) (arrays_in t)
arrays_range m (ArrayType t) i = each_of_both (InRange m) (arrays_in t) (ArrayType t ∷ []) (arrays_range m t i) (i, tt)
arrays_range m (SetType t) i = arrays_range m t i
arrays_range m (ListType t) i = arrays_range m t i
arrays_range m _ i = tt

named_range : (hs : List Heading) (t : Tree) → AllByRecursion (InRange (length hs)) (arrays_named hs t)
named_range hs (trees.ArrayType p e) = arrays_range (length hs) (type_named hs (trees.ArrayType p e)) (type_range hs (trees.ArrayType p e))
named_range hs (trees.ArrayCreation p t n) = arrays_range (length hs) (ArrayType (type_named hs t)) (type_range hs t)
named_range hs _ = tt

once_each : (P : JavaType → Type 0) (seen ts : List JavaType) → AllByRecursion P ts → AllByRecursion P (once seen ts)
once_each P seen [] h = tt
once_each P seen (t ∷ ts) h = go (is_listed t seen) (once_each P seen ts h.1) (once_each P (t ∷ seen) ts h.1)
  where
    go : (b : Bool) → AllByRecursion P (once seen ts) → AllByRecursion P (once (t ∷ seen) ts) → AllByRecursion P (if b then once seen ts else t ∷ once (t ∷ seen) ts)
    go true a c = a
    go false a c = (h.0, c)

files_range : (files : List Tree) → AllByRecursion (InRange (length (headings_of files))) (array_types_of files)
files_range files =
    let hs = headings_of files in
    once_each (InRange (length hs)) [] (flat_map (arrays_named hs) (flat_map nodes files))
    (each_flat (InRange (length hs)) (arrays_named hs) (flat_map nodes files) (each_always (λ t. AllByRecursion (InRange (length hs)) (arrays_named hs t)) (flat_map nodes files) (named_range hs)))

-- ---- types in a finitization

MayRange : ℕ → Option JavaType → Type 0
MayRange m x = (t : JavaType) → x ≡ Some t → InRange m t

word_range : (hs : List Heading) (text : List ℕ) → MayRange (length hs) (word_type hs text)
unfolding MayRange
word_range hs text = go (bytes_eq text (codes "int")) (bytes_eq text (codes "long")) (bytes_eq text (codes "boolean"))
  where
    mapped : (x : Option ℕ) → number_of hs text ≡ x → (t : JavaType) → option_map ClassType x ≡ Some t → InRange (length hs) t
    mapped None is t e = absurd (cc e)
    mapped (Some c) is t e = let same : ClassType c ≡ t = cc in subst (InRange (length hs)) same (number_of_below hs text c is)

    go : (a b c : Bool) (t : JavaType) → (if a then Some int_type else if b then Some long_type else if c then Some BooleanType else option_map ClassType (number_of hs text)) ≡ Some t → InRange (length hs) t
    go true b c t e = let same : int_type ≡ t = cc in subst (InRange (length hs)) same tt
    go false true c t e = let same : long_type ≡ t = cc in subst (InRange (length hs)) same tt
    go false false true t e = let same : BooleanType ≡ t = cc in subst (InRange (length hs)) same tt
    go false false false t e = mapped (number_of hs text) refl t e

elements_range : (m : ℕ) (collection : JavaType → JavaType) → ((t : JavaType) → InRange m t → InRange m (collection t)) → (x : Option JavaType) → MayRange m x → MayRange m (of_elements collection x)
unfolding MayRange
elements_range m collection keep None h t e = absurd (cc e)
elements_range m collection keep (Some u) h t e = go (is_element u) e
  where
    go : (b : Bool) → (if b then Some (collection u) else None) ≡ Some t → InRange m t
    go true q = let same : collection u ≡ t = cc in subst (InRange m) same (keep u (h u refl))
    go false q = absurd (cc q)

array_of_range : (m : ℕ) (x : Option JavaType) → MayRange m x → MayRange m (option_map ArrayType x)
unfolding MayRange
array_of_range m None h t e = absurd (cc e)
array_of_range m (Some u) h t e = let same : ArrayType u ≡ t = cc in subst (InRange m) same (h u refl)

within_range : (n : ℕ) (hs : List Heading) (text : List ℕ) → MayRange (length hs) (type_within n hs text)
unfolding MayRange
within_range zero hs text = λ t e. absurd (cc e)
within_range (suc n) hs text = go (written text) (within_range n hs)
  where
    go : (w : Written) → ((text : List ℕ) → MayRange (length hs) (type_within n hs text)) → MayRange (length hs) (type_of hs (type_within n hs) w)
    go (ArrayOf inner) f = array_of_range (length hs) (type_within n hs inner) (f inner)
    go (SetOf inner) f = elements_range (length hs) SetType (λ t i. i) (type_within n hs inner) (f inner)
    go (ListOf inner) f = elements_range (length hs) ListType (λ t i. i) (type_within n hs inner) (f inner)
    go (Word inner) f = word_range hs inner

array_range : (hs : List Heading) (text : List ℕ) (t : JavaType) → array_type hs text ≡ Some t → InRange (length hs) t
unfolding array_type MayRange
array_range hs text t e = go (type_within (length text) hs text) refl e
  where
    go : (x : Option JavaType) → type_within (length text) hs text ≡ x → array_or_none x ≡ Some t → InRange (length hs) t
    go (Some (ArrayType u)) is q = let same : ArrayType u ≡ t = cc in subst (InRange (length hs)) same (within_range (length text) hs text (ArrayType u) is)
    go x is q = absurd (cc q)

bound_range : (hs : List Heading) (b : ArrayBound) → AllByRecursion (λ (a : JavaType × ArrayBound). AllByRecursion (InRange (length hs)) (arrays_in a.0)) (typed_bound (array_type hs b.name) b)
bound_range hs b = go (array_type hs b.name) (array_range hs b.name)
  where
    go : (x : Option JavaType) → ((t : JavaType) → x ≡ Some t → InRange (length hs) t) → AllByRecursion (λ (a : JavaType × ArrayBound). AllByRecursion (InRange (length hs)) (arrays_in a.0)) (typed_bound x b)
    go None f = tt
    go (Some t) f = (arrays_range (length hs) t (f t refl), tt)

-- the array types of a problem
pub types_range : (files : List Tree) (bounds : List ArrayBound)
    → AllByRecursion (InRange (length (headings_of files))) (once [] (array_types_of files ++ flat_map (λ (a : JavaType × ArrayBound). arrays_in a.0) (bounded (headings_of files) bounds)))
types_range files bounds =
    let hs = headings_of files in
    let m = length hs in
    let all : List (JavaType × ArrayBound) = bounded hs bounds in
    once_each (InRange m) [] (array_types_of files ++ flat_map (λ (a : JavaType × ArrayBound). arrays_in a.0) all)
    (each_of_both (InRange m) (array_types_of files) (flat_map (λ (a : JavaType × ArrayBound). arrays_in a.0) all) (files_range files)
    (each_flat (InRange m) (λ (a : JavaType × ArrayBound). arrays_in a.0) all
    (each_flat (λ (a : JavaType × ArrayBound). AllByRecursion (InRange m) (arrays_in a.0)) (λ (b : ArrayBound). typed_bound (array_type hs b.name) b) bounds
    (each_always (λ b. AllByRecursion (λ (a : JavaType × ArrayBound). AllByRecursion (InRange m) (arrays_in a.0)) (typed_bound (array_type hs b.name) b)) bounds (bound_range hs)))))

-- ---- outer classes

abbrev pub IsBelow : ℕ → Option ℕ → Type 0
IsBelow n None = Unit {0}
IsBelow n (Some c) = c < n

below_more : (m n : ℕ) (x : Option ℕ) → m ≤ n → IsBelow m x → IsBelow n x
below_more m n None l h = tt
below_more m n (Some c) l h = omega (arith, h, l)

nested_below : (k n : ℕ) (ms : List Tree) → k < n → AllByRecursion (λ (h : Heading). IsBelow n h.outer) (flat_map (heading_of (Some k)) ms)
nested_below k n [] l = tt
nested_below k n (m ∷ ms) l = each_of_both (λ (h : Heading). IsBelow n h.outer) (heading_of (Some k) m) (flat_map (heading_of (Some k)) ms) (one m) (nested_below k n ms l)
  where
    one : (m : Tree) → AllByRecursion (λ (h : Heading). IsBelow n h.outer) (heading_of (Some k) m)
    one (trees.Class p c e b) = (l, tt)
    one _ = tt

own_below : (k : ℕ) (t : Tree) → AllByRecursion (λ (h : Heading). IsBelow (k + length (with_nested k (heading_of None t))) h.outer) (with_nested k (heading_of None t))
own_below k (trees.Class p n e b) = (tt, nested_below k (k + length (with_nested k (heading_of None (trees.Class p n e b)))) (items b) (omega arith))
own_below k _ = tt

outer_from : (k : ℕ) (ts : List Tree) → AllByRecursion (λ (h : Heading). IsBelow (k + length (headings_from k ts)) h.outer) (headings_from k ts)
outer_from k [] = tt
outer_from k (t ∷ ts) =
    let own = with_nested k (heading_of None t) in
    let rest = headings_from (k + length own) ts in
    let n = k + length (own ++ rest) in
    each_of_both (λ (h : Heading). IsBelow n h.outer) own rest
    (each_weaker (λ (h : Heading). IsBelow (k + length own) h.outer) (λ (h : Heading). IsBelow n h.outer) own (λ h b. below_more (k + length own) n h.outer (omega (arith, length-append own rest)) b) (own_below k t))
    (each_weaker (λ (h : Heading). IsBelow (k + length own + length rest) h.outer) (λ (h : Heading). IsBelow n h.outer) rest
    (λ h b. below_more (k + length own + length rest) n h.outer (omega (arith, length-append own rest)) b) (outer_from (k + length own) ts))

pub outer_below : (files : List Tree) → AllByRecursion (λ (h : Heading). IsBelow (length (headings_of files)) h.outer) (headings_of files)
outer_below files =
    let ts = flat_map items files in
    each_weaker (λ (h : Heading). IsBelow (0 + length (headings_from 0 ts)) h.outer) (λ (h : Heading). IsBelow (length (headings_of files)) h.outer) (headings_of files)
    (λ h b. below_more (0 + length (headings_from 0 ts)) (length (headings_of files)) h.outer (omega arith) b) (outer_from 0 ts)
