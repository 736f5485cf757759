-- Between crates: one file more, of one class that has nothing but methods, after those of a program that is accepted.
use Rattle.std.specs.Prelude.{◌≡◌, ◌≤◌, ℕ, false, List, [], ◌∷◌, ◌++◌, length, flat_map, bytes_eq, codes, Some, None}
use Rattle.std.specs.List.{AllByRecursion}
use Rattle.kr_base.specs.declared.place.Place.{Place}
use Rattle.kr_lex.specs.Lexemes.{Lexeme}
use Rattle.kr_ast.specs.Tree as trees
use Rattle.kr_ast.specs.Tree.{Tree}
use Rattle.kr_parse_grammar.specs.Grammar.{Derives}
use Rattle.kr_classes_table.specs.Constants.{values_of}
use Rattle.kr_classes_table.specs.Rules.{break_if, is_name_among, object_methods, repeated, class_fault}
use Rattle.kr_classes_table.specs.Table.{Heading, class_of, headings_of, number_of, table_of, items}
use Rattle.kr_types_meaning.specs.Scopes.{in_class}
use Rattle.kr_types_meaning.specs.Typing.{judged, outside, type_fault}
use Rattle.kr_emit_meaning.specs.Buildable.{MOST_CLASSES}
use Rattle.kr_emit_laws.specs.Larger.{IsLarger}

-- the tree of a file that some tokens spell
abbrev pub IsDerived : Tree → Type 0
IsDerived file = (tokens : List Lexeme) × Derives tokens file

-- members that are methods
abbrev pub AreMethods : Tree → Type 0
AreMethods trees.Nil = Unit {0}
AreMethods (trees.Cons (trees.Method p st n (trees.Signature q r ps cs) b) ms) = AreMethods ms
AreMethods t = ⊥

abbrev pub method_names : Tree → List (List ℕ × Place)
method_names (trees.Cons (trees.Method p st n e b) ms) = (n, p) ∷ method_names ms
method_names t = []

-- a class of a new name with methods of several names, where there is a number left for it
pub record IsAddable (files : List Tree) (name : List ℕ) (members : Tree) : Type 0 where
  pub methods : AreMethods members
  pub apart : repeated 5 [] (method_names members) ≡ []
  pub own : flat_map (λ (m : List ℕ × Place). break_if (is_name_among m.0 object_methods) 6 m.1) (method_names members) ≡ []
  pub named : bytes_eq name [] ≡ false
  pub set : bytes_eq name (codes "HashSet") ≡ false
  pub list : bytes_eq name (codes "LinkedList") ≡ false
  pub throwable : bytes_eq name (codes "Throwable") ≡ false
  pub new : AllByRecursion (λ h. bytes_eq name h.name ≡ false) (headings_of files)
  pub few : length (headings_of files) ≤ MOST_CLASSES

abbrev pub file_of : Place → List ℕ → Tree → Tree
file_of place name members = trees.Cons (trees.Class place name trees.Nil members) trees.Nil

abbrev pub one_more : List Tree → Place → List ℕ → Tree → List Tree
one_more files place name members = files ++ file_of place name members ∷ []

abbrev pub new_heading : Place → List ℕ → Tree → Heading
new_heading place name members = record { name = name; place = place; outer = None; extended = trees.Nil; members = items members }

-- The class comes last, no class rule is broken, and no typing rule where none is in its members.
pub record IsAdded (files : List Tree) (place : Place) (name : List ℕ) (members : Tree) : Type 0 where
  pub headings : headings_of (one_more files place name members) ≡ headings_of files ++ new_heading place name members ∷ []
  pub number : number_of (headings_of (one_more files place name members)) name ≡ Some (length (headings_of files))
  pub classes : (table_of (one_more files place name members)).classes ≡ (table_of files).classes ++ class_of (headings_of (one_more files place name members)) (length (headings_of files)) (new_heading place name members) ∷ []
  pub larger : IsLarger (table_of files) (table_of (one_more files place name members)) name
  pub values : values_of (table_of (one_more files place name members)) ≡ values_of (table_of files)
  pub classed : class_fault (table_of (one_more files place name members)) ≡ None
  pub typed : (judged (in_class name (outside (table_of (one_more files place name members)))) members).faults ≡ [] → type_fault (one_more files place name members) ≡ None

abbrev pub OneMoreLaw : Type 0
OneMoreLaw = (files : List Tree) (place : Place) (name : List ℕ) (members : Tree) → AllByRecursion IsDerived files → class_fault (table_of files) ≡ None → type_fault files ≡ None → IsAddable files name members → IsAdded files place name members
