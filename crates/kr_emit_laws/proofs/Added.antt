-- The class of the builders can be added to accepted files.
use Rattle.std.proofs.Common.{◌≡◌, ℕ, ◌+◌, ◌≤◌, List, [], ◌∷◌, ◌++◌, length, sym, subst, ap, ◌∙◌}
use Rattle.std.specs.Prelude.{codes, None}
use Rattle.std.specs.List.{AllByRecursion}
use Rattle.kr_base.specs.declared.place.Place.{Place}
use Rattle.kr_ast.specs.Tree.{Tree}
use Rattle.kr_classes_table.specs.Table.{Table}
use Rattle.kr_emit_meaning.specs.Buildable.{build_fault, builders_name}
use Rattle.kr_emit_laws.specs.Pieces as pieces
use Rattle.kr_emit_laws.specs.Pieces.{after_pieces}
use Rattle.kr_emit_laws.specs.Syntax.{builders_of}
use Rattle.kr_emit_laws.proofs.TextNames.{headings_are}
use Rattle.kr_emit_laws.proofs.TypingAdded.{added}
use Rattle.kr_emit_laws.proofs.TypingBeside.{addable}
use Rattle.kr_emit_laws.specs.OneMore.{IsDerived}
use Rattle.kr_emit_laws.proofs.PredefinedDerived.{predefined_derived}
use Rattle.kr_laws_never_stuck.specs.Grown.{AreGrown, AreProgram}
use Rattle.kr_laws_never_stuck.specs.Accepted.{IsAccepted}
use Rattle.kr_mean.specs.Problem.{Problem}
use Rattle.kr_mean.specs.declared.mode.Mode.{Mode}
use Rattle.kr_mean.specs.declared.row.Row.{Row}
use Rattle.kr_emit_laws.proofs.Accepted.{IsSuited}
use Rattle.kr_emit_laws.specs.Beside.{AreAdded, members_of}

all_derived : (n : ℕ) (sources : List (List ℕ)) (files : List Tree) → AreGrown n sources files → AllByRecursion IsDerived files
all_derived n [] [] g = tt
all_derived n (bytes ∷ sources) (file ∷ files) g = ((g.0.tokens, g.0.derived), all_derived (n + 1) sources files g.1)
all_derived n _ _ g = absurd g

all_of_program : (sources : List (List ℕ)) (files : List Tree) → AreProgram sources files → AllByRecursion IsDerived files
all_of_program sources [] g = absurd g
all_of_program sources (tree ∷ files) g = (subst IsDerived (sym g.0) predefined_derived, all_derived 0 sources files g.1)

pub are_added : (sources : List (List ℕ)) (bytes : List ℕ) (mode : Mode) (problem : Problem) (accepted : IsAccepted sources bytes mode problem) → IsSuited accepted.files problem → build_fault problem ≡ None → (rows : List Row) (at : List ℕ → Place)
    → length (builders_of problem rows) ≤ 9223372036854775808 → AreAdded accepted.files at problem rows
are_added sources bytes mode problem accepted suited buildable rows at few =
    added accepted.files (at (codes "class" ++ codes " ")) builders_name (members_of at problem rows) (all_of_program sources accepted.files accepted.read) accepted.classes accepted.types
    (addable accepted.files problem at (after_pieces [] (pieces.class_head [])) (builders_of problem rows) (ap (λ (t : Table). t.headings) suited.table ∙ headings_are accepted.files) buildable few)
