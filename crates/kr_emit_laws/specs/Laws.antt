-- To be believed: the builders of a listing, read back beside its sources.
use Rattle.std.specs.Prelude.{◌≡◌, ℕ, ◌<◌, ◌^◌, List, [], ◌∷◌, ◌++◌, length, Some, None, slice_get}
use Rattle.kr_ast.specs.Tree.{Tree}
use Rattle.kr_base.specs.declared.span.Span.{Span}
use Rattle.kr_classes_table.specs.Rules.{class_fault}
use Rattle.kr_classes_table.specs.Table.{headings_of, table_of}
use Rattle.kr_emit_meaning.specs.Buildable.{build_fault}
use Rattle.kr_emit_meaning.specs.Emitted.{emitted}
use Rattle.kr_emit_laws.specs.Accepted.{rows_listed}
use Rattle.kr_laws_never_stuck.specs.Accepted.{IsAccepted}
use Rattle.kr_lex.specs.Lexemes.{Lexemes}
use Rattle.kr_lex.specs.Spells.{AreTokens}
use Rattle.kr_mean.specs.Problem.{Problem}
use Rattle.kr_mean.specs.Program.{program_of}
use Rattle.kr_mean.specs.declared.mode.Mode.TheVariants.{List as Listing}
use Rattle.kr_mean.specs.declared.row.Row.{Row}
use Rattle.kr_parse.specs.Refusals.{IsParsed}
use Rattle.kr_report.specs.Reports.{bytes_of}
use Rattle.kr_types_meaning.specs.Typing.{type_fault}
use Rattle.kr_emit_laws.specs.Built.{Builds}

-- the sources' trees, and that of the builders after them
abbrev pub with_builders : List Tree → Tree → List Tree
with_builders files tree = files ++ tree ∷ []

-- The text has tokens and a tree; beside the sources it breaks no rule; and the method of each row builds its structure.
pub record AreBuilders (files : List Tree) (file : ℕ) (problem : Problem) (rows : List Row) (text : List ℕ) : Type 0 where
  pub tokens : Lexemes
  pub lexed : AreTokens file text tokens
  pub tree : Tree
  pub parsed : IsParsed tokens tree
  pub classed : class_fault (table_of (with_builders files tree)) ≡ None
  pub typed : type_fault (with_builders files tree) ≡ None
  pub built : (n : ℕ) (row : Row) → slice_get rows n ≡ Some row → Builds (program_of (with_builders files tree)) (length (headings_of files)) n problem row.structure

-- Of sources and a finitization that are accepted, for whose problem builders can be written, in a text that a file's numbers can count.
abbrev pub BuildersLaw : Type 0
BuildersLaw = (sources : List (List ℕ)) (bytes : List ℕ) (problem : Problem) (limit : ℕ) (span : Span)
    → (accepted : IsAccepted sources bytes Listing problem) → build_fault problem ≡ None → length (bytes_of (emitted problem limit span)) < 2 ^ 30
    → AreBuilders accepted.files (length sources) problem (rows_listed problem limit span) (bytes_of (emitted problem limit span))
