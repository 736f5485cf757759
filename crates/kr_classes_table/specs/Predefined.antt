-- To be believed: the classes that a program has without declaring them, as a file would declare them. Their tree comes
-- before those of the files.
use Rattle.std.specs.Prelude.{ℕ, ◌+◌, Bool, true, false, ◌||◌, List, [], ◌∷◌, map, length, bytes_eq, codes}
use Rattle.kr_base.specs.declared.place.Place.{Place}
use Rattle.kr_ast.specs.Tree as trees
use Rattle.kr_ast.specs.Tree.{Tree, Nil, Cons}

-- a class and the name of the class that it extends, if any
pub record Predefined : Type 0 where
  pub name : List ℕ
  pub extended : List ℕ

abbrev below : List ℕ → List ℕ → Predefined
below extended name = record { name = name; extended = extended }

abbrev pub predefined_classes : List Predefined
predefined_classes =
    below [] (codes "Throwable")
    ∷ below (codes "Throwable") (codes "Exception")
    ∷ below (codes "Exception") (codes "RuntimeException")
    ∷ below (codes "RuntimeException") (codes "NullPointerException")
    ∷ below (codes "RuntimeException") (codes "ArithmeticException")
    ∷ below (codes "RuntimeException") (codes "IndexOutOfBoundsException")
    ∷ below (codes "RuntimeException") (codes "NegativeArraySizeException")
    ∷ below (codes "RuntimeException") (codes "ClassCastException")
    ∷ below (codes "RuntimeException") (codes "NoSuchElementException")
    ∷ below (codes "RuntimeException") (codes "IllegalStateException")
    ∷ below (codes "RuntimeException") (codes "IllegalArgumentException")
    ∷ below (codes "RuntimeException") (codes "UnsupportedOperationException")
    ∷ below (codes "IndexOutOfBoundsException") (codes "ArrayIndexOutOfBoundsException")
    ∷ []

-- how many there are
abbrev pub PREDEFINED : ℕ
PREDEFINED = 13

-- before the first line of the first file
abbrev pub start_of : ℕ → Place
start_of k = record { file = 0; line = 0; col = k }

abbrev pub extended_tree : Place → List ℕ → Tree
extended_tree p [] = Nil
extended_tree p (b ∷ bs) = trees.NamedType p (b ∷ bs)

-- a class without members
abbrev pub class_tree : ℕ → Predefined → Tree
class_tree k c = trees.Class (start_of k) c.name (extended_tree (start_of k) c.extended) Nil

-- classes, numbered from k on, in front of a list
abbrev pub listed_before : ℕ → List Predefined → Tree → Tree
listed_before k [] rest = rest
listed_before k (c ∷ cs) rest = Cons (class_tree k c) (listed_before (k + 1) cs rest)

-- their tree
unfoldable pub predefined : Tree
predefined = listed_before 0 predefined_classes Nil

-- the trees of a program: the predefined classes, and its files
abbrev pub with_predefined : List Tree → List Tree
with_predefined files = predefined ∷ files

abbrev pub is_name_of : List ℕ → List Predefined → Bool
is_name_of n [] = false
is_name_of n (c ∷ cs) = bytes_eq n c.name || is_name_of n cs

abbrev pub is_predefined : List ℕ → Bool
is_predefined n = is_name_of n predefined_classes
