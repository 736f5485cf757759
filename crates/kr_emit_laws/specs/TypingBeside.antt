-- Between crates: builders beside the sources of their problem.
use Rattle.std.specs.Prelude.{◌≡◌, ◌≤◌, ◌^◌, ℕ, List, [], ◌∷◌, ◌++◌, length, None}
use Rattle.std.specs.List.{AllByRecursion}
use Rattle.kr_base.specs.declared.place.Place.{Place}
use Rattle.kr_ast.specs.Tree.{Tree}
use Rattle.kr_classes_table.specs.Rules.{class_fault}
use Rattle.kr_classes_table.specs.Table.{Table, table_of}
use Rattle.kr_mean.specs.Problem.{Problem}
use Rattle.kr_types_meaning.specs.Typing.{type_fault}
use Rattle.kr_emit_meaning.specs.Buildable.{build_fault, builders_name}
use Rattle.kr_emit_laws.specs.BuilderTree.{file_tree}
use Rattle.kr_emit_laws.specs.Syntax.{Builder}
use Rattle.kr_emit_laws.specs.Fitting.{BuilderFits}
use Rattle.kr_emit_laws.specs.Larger.{IsLarger}
use Rattle.kr_emit_laws.specs.OneMore.{IsDerived}

abbrev pub with_file : List Tree → (List ℕ → Place) → List Builder → List Tree
with_file files place builders = files ++ file_tree place builders ∷ []

-- Of accepted files, for whose problem builders can be written: no class rule is broken, and no typing rule where the lines fit.
pub record AreBeside (files : List Tree) (place : List ℕ → Place) (builders : List Builder) : Type 0 where
  pub classed : class_fault (table_of (with_file files place builders)) ≡ None
  pub typed : AllByRecursion (BuilderFits (table_of (with_file files place builders))) builders → type_fault (with_file files place builders) ≡ None

abbrev pub BesideLaw : Type 0
BesideLaw = (files : List Tree) (problem : Problem) (place : List ℕ → Place) (builders : List Builder) → AllByRecursion IsDerived files → class_fault (table_of files) ≡ None → type_fault files ≡ None → problem.program.table ≡ table_of files → build_fault problem ≡ None
    → length builders ≤ 2 ^ 63 → AreBeside files place builders

abbrev pub FitLaw : Type 0
FitLaw = (table larger : Table) (b : Builder) → IsLarger table larger builders_name → BuilderFits table b → BuilderFits larger b
