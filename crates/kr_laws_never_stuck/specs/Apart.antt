-- Between crates: declarators, fields and `\old`s have places of their own.
use Rattle.std.specs.Prelude.{◌≡◌, ◌≤◌, ◌+◌, ℕ, false, List, [], ◌∷◌, flat_map, bytes_eq, codes}
use Rattle.std.specs.List.{AllByRecursion}
use Rattle.kr_base.specs.declared.place.Place.{Place}
use Rattle.kr_lex.specs.Cursors.{one_if}
use Rattle.kr_ast.specs.Tree as trees
use Rattle.kr_ast.specs.Tree.{Tree}
use Rattle.kr_classes_table.specs.Nodes.{nodes}
use Rattle.kr_classes_table.specs.Table.{Table, Field, table_of}
use Rattle.kr_classes_table.specs.Constants.{is_at_place}
use Rattle.kr_laws_never_stuck.specs.Grown.{AreProgram}

-- 1 for a place that is this one
abbrev pub one_at : Place → Place → ℕ
one_at p q = one_if (is_at_place q p)

-- 1 for a declarator or an `\old` at this place
abbrev pub node_at : Place → Tree → ℕ
node_at p (trees.Declarator q n e) = one_at p q
node_at p (trees.Old q e) = one_at p q
node_at p t = 0

-- how many of them are at a place
abbrev pub nodes_at : Place → List Tree → ℕ
nodes_at p [] = 0
nodes_at p (t ∷ ts) = node_at p t + nodes_at p ts

abbrev pub ApartLaw : Type 0
ApartLaw = (sources : List (List ℕ)) (files : List Tree) → AreProgram sources files → (p : Place) → nodes_at p (flat_map nodes files) ≤ 1

-- ---- fields

abbrev pub all_fields : Table → List Field
all_fields table = flat_map (λ d. d.fields) table.classes

abbrev pub fields_at : Place → List Field → ℕ
fields_at p [] = 0
fields_at p (f ∷ fs) = one_at p f.place + fields_at p fs

-- no two fields are at one place, and none is named `*`, as a finitization names an array's elements
pub record AreApart (table : Table) : Type 0 where
  pub places : (p : Place) → fields_at p (all_fields table) ≤ 1
  pub names : AllByRecursion (λ f. bytes_eq f.name (codes "*") ≡ false) (all_fields table)

abbrev pub FieldsLaw : Type 0
FieldsLaw = (sources : List (List ℕ)) (files : List Tree) → AreProgram sources files → AreApart (table_of files)
