-- Between crates: classes of one `int` field whose `repOk` compares it with a number: their trees and their problems, and the
-- entries of these.
use Rattle.std.specs.Prelude.{◌≡◌, ℕ, ◌+◌, ◌<◌, ◌≤◌, ℤ, pos, false, true, List, [], ◌∷◌, length, map, Option, Some, None, if◌then◌else◌, codes}
use Rattle.kr_base.specs.declared.place.Place.{Place}
use Rattle.kr_base.specs.declared.entry.Mark.TheVariants.{Valid, Invalid}
use Rattle.kr_base.specs.declared.entry.Entry.{Entry}
use Rattle.kr_ast.specs.declared.node.Primitive.TheVariants.{Int as IntType, Boolean}
use Rattle.kr_ast.specs.declared.node.BinaryOperator.{BinaryOperator}
use Rattle.kr_ast.specs.Tree as trees
use Rattle.kr_ast.specs.Tree.{Tree, Nil, Cons}
use Rattle.kr_mean.specs.Program.{program_of}
use Rattle.kr_mean.specs.Problem.{Problem, Domain, Plain}
use Rattle.kr_classes_table.specs.Table.{Table, Class, class_at}
use Rattle.kr_mean.specs.Operators.{is_comparison, holds_of}
use Rattle.kr_mean.specs.Space.{space_of, IsVector}
use Rattle.kr_mean.specs.Runs.{IsStuck}
use Rattle.kr_mean.specs.Entries.{all_entries}
use Rattle.kr_mean.specs.Purity.{IsPure}
use Rattle.kr_laws_pruning.specs.Laws.{IsLawful}
use Rattle.kr_mean.specs.declared.mode.Mode.TheVariants.{List as Listing}
use Rattle.kr_mean.specs.declared.row.Row.{Row}
use Rattle.kr_value.specs.declared.object.Class.TheVariants.{Object}
use Rattle.kr_value.specs.declared.object.Spot.TheVariants.{Field}
use Rattle.kr_value.specs.declared.value.Value.TheVariants.{Int, Ref as Reference}

-- the places of the nodes of such a class
pub record Places : Type 0 where
  pub class : Place
  pub field : Place
  pub type : Place
  pub declarator : Place
  pub method : Place
  pub signature : Place
  pub result : Place
  pub return : Place
  pub comparison : Place
  pub variable : Place
  pub number : Place

abbrev pub one : Tree → Tree
one t = Cons t Nil

abbrev pub field_tree : Places → List ℕ → Tree
field_tree at field_name = trees.Field at.field false false (trees.PrimitiveType at.type IntType) (one (trees.Declarator at.declarator field_name Nil))

abbrev pub rep_ok_tree : Places → List ℕ → BinaryOperator → ℕ → Tree
rep_ok_tree at field_name test n =
    trees.Method at.method false (codes "repOk") (trees.Signature at.signature (trees.PrimitiveType at.result Boolean) Nil Nil)
    (one (trees.Return at.return (trees.Binary at.comparison test (trees.Variable at.variable field_name) (trees.Number at.number n))))

-- `class C { int f; boolean repOk() { return f OP n; } }`
abbrev pub one_field_tree : Places → List ℕ → List ℕ → BinaryOperator → ℕ → Tree
one_field_tree at class_name field_name test n = one (trees.Class at.class class_name Nil (Cons (field_tree at field_name) (one (rep_ok_tree at field_name test n))))

abbrev pub int_domain : List ℤ → Domain
int_domain values = map (λ z. Plain (Int z)) values

abbrev pub name_in : Option Class → List ℕ
name_in None = []
name_in (Some d) = d.name

-- the name of a class by its number
abbrev pub class_name_of : Table → ℕ → List ℕ
class_name_of table c = name_in (class_at table.classes c)

-- one object of a file's first class, whose first field has these values
abbrev pub one_object : Tree → List ℤ → ℕ → Problem
one_object file values fuel = record {
  program = program_of (file ∷ []);
  root = 0;
  mode = Listing;
  parameters = [];
  fuel = fuel;
  domains = record { name = class_name_of (program_of (file ∷ [])).table 0; class = Object 0; count = 1; spots = record { spot = Field 0; domain = int_domain values } ∷ [] } ∷ [];
}

abbrev pub one_field : Places → List ℕ → List ℕ → BinaryOperator → ℕ → List ℤ → ℕ → Problem
one_field at class_name field_name test n values fuel = one_object (one_field_tree at class_name field_name test n) values fuel

abbrev pub one_field_row : ℕ → ℤ → Row
one_field_row i z = record { key = 0 ∷ i ∷ []; structure = (0, Reference 0) ∷ (1, Int z) ∷ []; verdict = None }

abbrev pub one_field_entry : BinaryOperator → ℕ → ℕ → ℤ → Entry Row
one_field_entry test n i z = record { key = 0 ∷ i ∷ []; mark = if holds_of test (Int z) (Int (pos n)) then Valid (one_field_row i z) else Invalid }

-- one entry for each value, from an index on
abbrev pub one_field_entries : BinaryOperator → ℕ → ℕ → List ℤ → List (Entry Row)
one_field_entries test n i [] = []
one_field_entries test n i (z ∷ zs) = one_field_entry test n i z ∷ one_field_entries test n (i + 1) zs

-- A run costs six units: the premises hold, and each value has its entry. No run is stuck.
pub record IsOneField (problem : Problem) (entries : List (Entry Row)) : Type 0 where
  pub never_stuck : (v : List ℕ) → IsVector (space_of problem) v → IsStuck problem v → ⊥
  pub pure : IsPure problem
  pub lawful : IsLawful problem
  pub listed : all_entries problem ≡ entries

abbrev pub OneFieldLaw : Type 0
OneFieldLaw = (at : Places) (class_name field_name : List ℕ) (test : BinaryOperator) (n : ℕ) (values : List ℤ) (fuel : ℕ) → is_comparison test ≡ true → n ≤ 2147483647 → 6 ≤ fuel → 0 < length values
    → IsOneField (one_field at class_name field_name test n values fuel) (one_field_entries test n 0 values)
