-- Between crates: builders beside their sources.
use Rattle.std.specs.Prelude.{◌≡◌, ℕ, ◌<◌, ◌≤◌, ◌^◌, List, [], length, codes, ◌++◌, Some, None, slice_get}
use Rattle.kr_ast.specs.Tree.{Tree}
use Rattle.kr_base.specs.declared.place.Place.{Place}
use Rattle.kr_classes_table.specs.Table.{headings_of}
use Rattle.kr_emit_meaning.specs.Buildable.{build_fault, builders_name}
use Rattle.kr_emit_meaning.specs.Builders.{objects_in}
use Rattle.kr_emit_laws.specs.BuilderTree.{builder_tree, methods_tree}
use Rattle.kr_emit_laws.specs.Pieces as pieces
use Rattle.kr_emit_laws.specs.Pieces.{after_pieces}
use Rattle.kr_emit_laws.specs.Syntax.{builders_of}
use Rattle.kr_emit_laws.specs.OneMore.{IsAdded}
use Rattle.kr_laws_never_stuck.specs.Accepted.{IsAccepted}
use Rattle.kr_mean.specs.Entries.{structure_of}
use Rattle.kr_mean.specs.Problem.{Problem}
use Rattle.kr_mean.specs.Program.{program_of}
use Rattle.kr_mean.specs.Space.{IsVector, space_of}
use Rattle.kr_mean.specs.declared.mode.Mode.TheVariants.{List as Listing}
use Rattle.kr_mean.specs.declared.row.Row.{Row}
use Rattle.kr_emit_laws.specs.Built.{Builds}
use Rattle.kr_emit_laws.specs.Laws.{with_builders}

-- the methods of the rows' builders
abbrev pub members_of : (List ℕ → Place) → Problem → List Row → Tree
members_of at problem rows = methods_tree at (after_pieces [] (pieces.class_head [])) 0 (builders_of problem rows)

-- the class of the builders comes after those of the files, and breaks no class rule
abbrev pub AreAdded : List Tree → (List ℕ → Place) → Problem → List Row → Type 0
AreAdded files at problem rows = IsAdded files (at (codes "class" ++ codes " ")) builders_name (members_of at problem rows)

-- Of sources and a finitization that are accepted, for whose problem builders can be written, beside the class of the builders of some rows: the
-- builder of a row with a vector's structure builds it.
abbrev pub RunLaw : Type 0
RunLaw = (sources : List (List ℕ)) (bytes : List ℕ) (problem : Problem) (accepted : IsAccepted sources bytes Listing problem) (rows : List Row) (at : List ℕ → Place) → build_fault problem ≡ None → length rows ≤ 2 ^ 63
    → (n : ℕ) (row : Row) (v : List ℕ) → slice_get rows n ≡ Some row → row.structure ≡ structure_of problem v → IsVector (space_of problem) v → length (objects_in row.structure) < 2 ^ 64
    → Builds (program_of (with_builders accepted.files (builder_tree at problem rows))) (length (headings_of accepted.files)) n problem row.structure
