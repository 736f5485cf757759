-- Between crates: programs with the predefined classes, worked by hand.
use Rattle.std.specs.Prelude.{◌≡◌, ℕ, zero, suc, ◌+◌, List, [], ◌∷◌, length, map, Option, Some, None, codes}
use Rattle.kr_base.specs.declared.place.Place.{Place}
use Rattle.kr_ast.specs.Tree as trees
use Rattle.kr_ast.specs.Tree.{Tree, Nil, Cons}
use Rattle.kr_classes_table.specs.Predefined.{PREDEFINED, predefined, predefined_classes, with_predefined}
use Rattle.kr_classes_table.specs.Table.{Table, table_of, ancestors, items, number_of, is_below}
use Rattle.kr_classes_table.specs.Rules.{Fault, class_fault}

abbrev at : ℕ → ℕ → Place
at line col = record { file = 0; line = line; col = col }

abbrev plain : ℕ → List ℕ → Tree
plain line name = trees.Class (at line 7) name Nil Nil

abbrev heir : ℕ → List ℕ → List ℕ → Tree
heir line name above = trees.Class (at line 7) name (trees.NamedType (at line 20) above) Nil

abbrev listed : List Tree → Tree
listed [] = Nil
listed (t ∷ ts) = Cons t (listed ts)

-- classes of different names, one a line
abbrev classes_on : ℕ → ℕ → List Tree
classes_on line zero = []
classes_on line (suc n) = plain line (line ∷ []) ∷ classes_on (line + 1) n

-- the class table of a program of one file
abbrev program : List Tree → Table
program classes = table_of (with_predefined (listed classes ∷ []))

abbrev fault : List Tree → Option Fault
fault classes = class_fault (program classes)

abbrev broken : ℕ → ℕ → ℕ → Option Fault
broken rule line col = Some (record { place = at line col; rule = rule })

pub record PredefinedRows : Type 0 where
  pub count : length predefined_classes ≡ PREDEFINED
  pub none_broken : fault [] ≡ None
  -- each has a number of its own, in order
  pub first : number_of (program []).headings (codes "Throwable") ≡ Some 0
  pub last : number_of (program []).headings (codes "ArrayIndexOutOfBoundsException") ≡ Some 12
  pub own : number_of (program (plain 1 (codes "A") ∷ [])).headings (codes "A") ≡ Some 13
  -- ArrayIndexOutOfBoundsException, by IndexOutOfBoundsException
  pub above_last : ancestors (program []) 12 ≡ 5 ∷ 2 ∷ 1 ∷ 0 ∷ []
  pub above_arithmetic : ancestors (program []) 4 ≡ 2 ∷ 1 ∷ 0 ∷ []
  pub above_root : ancestors (program []) 0 ≡ []
  -- a class of the file may extend one
  pub extended : fault (heir 1 (codes "Full") (codes "RuntimeException") ∷ []) ≡ None
  pub above_extended : ancestors (program (heir 1 (codes "Full") (codes "RuntimeException") ∷ [])) 13 ≡ 2 ∷ 1 ∷ 0 ∷ []
  pub unknown : fault (heir 1 (codes "Full") (codes "Error") ∷ []) ≡ broken 2 1 20
  -- and none may have its name
  pub same_name : fault (plain 1 (codes "A") ∷ plain 2 (codes "Throwable") ∷ []) ≡ broken 1 2 7
  -- they don't count
  pub most : fault (classes_on 1 64) ≡ None
  pub too_many : fault (classes_on 1 66) ≡ broken 8 65 7
