-- The builders of an accepted listing.
use Rattle.std.proofs.Common.{◌≡◌, ℕ, zero, suc, ◌<◌, ◌≤◌, ◌^◌, List, [], ◌∷◌, length, Some, None, refl, sym, arith, subst}
use Rattle.std.specs.Prelude.{slice_get}
use Rattle.std.specs.List.{AllByRecursion}
use Rattle.std.proofs.lemmas.List.{length-map}
use Rattle.kr_base.specs.Entries.{entries_in}
use Rattle.kr_base.specs.declared.place.Place.{Place}
use Rattle.kr_base.specs.declared.span.Bound.TheVariants.{At}
use Rattle.kr_base.specs.declared.span.Span.{Span}
use Rattle.kr_classes_table.specs.Table.{headings_of, table_of}
use Rattle.kr_emit_meaning.specs.Buildable.{build_fault, builders_name}
use Rattle.kr_emit_meaning.specs.Builders.{objects_in}
use Rattle.kr_emit_meaning.specs.Emitted.{emitted}
use Rattle.kr_emit_laws.proofs.TextAccepted.{read_back}
use Rattle.kr_emit_laws.proofs.Counts.{few_builders, few_lines, few_objects}
use Rattle.kr_emit_laws.proofs.Listings.{emitted_is}
use Rattle.kr_emit_laws.proofs.Rows.{IsRowOf, rows_are}
use Rattle.kr_emit_laws.proofs.Sized.{lengths}
use Rattle.kr_emit_laws.specs.Accepted.{HasBuilderTree, rows_listed}
use Rattle.kr_emit_laws.specs.BuilderTree.{builder_tree}
use Rattle.kr_emit_laws.specs.TextLaws.{HasLengths, IsCode}
use Rattle.kr_emit_laws.specs.Pieces as pieces
use Rattle.kr_emit_laws.specs.Pieces.{after_pieces, code, text_of}
use Rattle.kr_emit_laws.specs.Syntax.{Builder, builder_of, builders_of}
use Rattle.kr_laws_never_stuck.specs.Accepted.{IsAccepted}
use Rattle.kr_lex.specs.Places.{place_after}
use Rattle.kr_mean.specs.Entries.{all_entries, structure_of}
use Rattle.kr_mean.specs.Problem.{Problem}
use Rattle.kr_mean.specs.Program.{program_of}
use Rattle.kr_mean.specs.Space.{IsVector, space_of}
use Rattle.kr_mean.specs.WellFormed.{IsWellFormed}
use Rattle.kr_mean.specs.declared.mode.Mode.TheVariants.{List as Listing}
use Rattle.kr_mean.specs.declared.row.Row.{Row}
use Rattle.kr_report.specs.Reports.{bytes_of}
use Rattle.kr_emit_laws.proofs.TypingBodies.{methods_law}
use Rattle.kr_emit_laws.specs.Fitting.{BuilderFits}
use Rattle.kr_space_meaning.proofs.Each.{each_weaker}
use Rattle.kr_types_meaning.specs.Scopes.{in_class}
use Rattle.kr_types_meaning.specs.Typing.{outside, type_fault}
use Rattle.kr_emit_laws.proofs.Accepted.{IsSuited, suited}
use Rattle.kr_emit_laws.proofs.Added.{are_added}
use Rattle.kr_emit_laws.proofs.Fitting.{all_fit, builder_fits}
use Rattle.kr_emit_laws.proofs.Joined.{beside, row_builds}
use Rattle.kr_emit_laws.specs.Beside.{AreAdded, RunLaw}
use Rattle.kr_emit_laws.specs.Built.{Builds}
use Rattle.kr_emit_laws.specs.Laws.{AreBuilders, BuildersLaw, with_builders}

inside : (rows : List Row) (n : ℕ) (row : Row) → slice_get rows n ≡ Some row → n < length rows
inside [] n row e = absurd (cc (e))
inside (r ∷ rows) zero row e = omega arith
inside (r ∷ rows) (suc n) row e = omega (arith, inside rows n row e)

pub runs : RunLaw
runs sources bytes problem accepted rows at buildable few n row v there is iv few_objects =
    let sound : IsSuited accepted.files problem = suited sources bytes Listing problem accepted in
    let added : AreAdded accepted.files at problem rows = are_added sources bytes Listing problem accepted sound buildable rows at (omega (arith, few, length-map rows (builder_of problem))) in
    row_builds accepted.files problem rows at sound accepted.classes buildable added n row v there is iv (omega (arith, few, inside rows n row there)) few_objects

-- ---- the rows of a text

-- one of the rows, and the lines of its builder
row_at : (problem : Problem) (most : ℕ) (rows : List Row) (n : ℕ) (row : Row) → AllByRecursion (IsRowOf problem) rows → AllByRecursion (λ (b : Builder). length b.lines ≤ most) (builders_of problem rows) → slice_get rows n ≡ Some row
    → IsRowOf problem row × (length (builder_of problem row).lines ≤ most)
row_at problem most [] n row rs ls e = absurd (cc (e))
row_at problem most (r ∷ rows) zero row rs ls e = let same : r ≡ row = cc (e) in (subst (IsRowOf problem) same rs.0, subst (λ (x : Row). length (builder_of problem x).lines ≤ most) same ls.0)
row_at problem most (r ∷ rows) (suc n) row rs ls e = row_at problem most rows n row rs.1 ls.1 e

row_lengths : (problem : Problem) → IsWellFormed problem → (row : Row) → IsRowOf problem row → HasLengths problem row.structure
row_lengths problem w row r = subst (HasLengths problem) (sym r.structure) (lengths problem w r.vector r.within)

module _ (sources : List (List ℕ)) (bytes : List ℕ) (problem : Problem) (limit : ℕ) (span : Span) (accepted : IsAccepted sources bytes Listing problem) (buildable : build_fault problem ≡ None) (short : length (bytes_of (emitted problem limit span)) < 2 ^ 30) where
  abbrev rows : List Row
  rows = rows_listed problem limit span

  abbrev text : List ℕ
  text = bytes_of (emitted problem limit span)

  abbrev at : List ℕ → Place
  at = place_after (length sources)

  sound : IsSuited accepted.files problem
  sound = suited sources bytes Listing problem accepted

  sized : AllByRecursion (λ (row : Row). HasLengths problem row.structure) rows
  sized = each_weaker (IsRowOf problem) (λ (row : Row). HasLengths problem row.structure) rows (row_lengths problem sound.formed) (rows_are problem limit span)

  code_is : IsCode problem rows text
  code_is = emitted_is problem limit (entries_in (At span.after) span.upto (all_entries problem)) sized

  rows_short : length (text_of (code (builders_of problem rows) code_is.last)) < 2 ^ 30
  rows_short = subst (λ (t : List ℕ). length t < 2 ^ 30) code_is.spelled short

  rows_few : length rows ≤ 2 ^ 63
  rows_few = omega (arith, few_builders (builders_of problem rows) code_is.last, rows_short, length-map rows (builder_of problem))

  added : AreAdded accepted.files at problem rows
  added = are_added sources bytes Listing problem accepted sound buildable rows at (omega (arith, rows_few, length-map rows (builder_of problem)))

  -- what is known of a row of the text
  record IsShort (row : Row) : Type 0 where
    vector : List ℕ
    within : IsVector (space_of problem) vector
    structure : row.structure ≡ structure_of problem vector
    lines : length (builder_of problem row).lines ≤ 2 ^ 63
    objects : length (objects_in row.structure) < 2 ^ 64

  row_short : (n : ℕ) (row : Row) → slice_get rows n ≡ Some row → IsShort row
  row_short n row there =
      let most : ℕ = length (text_of (code (builders_of problem rows) code_is.last)) in
      let r = row_at problem most rows n row (rows_are problem limit span) (few_lines (builders_of problem rows) code_is.last) there in
      record {
        vector = r.0.vector;
        within = r.0.within;
        structure = r.0.structure;
        lines = omega (arith, r.1, rows_short);
        objects = omega (arith, r.1, few_objects problem sound.formed row.structure (objects_in row.structure), rows_short);
      }

  built : (n : ℕ) (row : Row) → slice_get rows n ≡ Some row → Builds (program_of (with_builders accepted.files (builder_tree at problem rows))) (length (headings_of accepted.files)) n problem row.structure
  built n row there = let r = row_short n row there in runs sources bytes problem accepted rows at buildable rows_few n row r.vector there r.structure r.within r.objects

  fits : AllByRecursion (BuilderFits (table_of (with_builders accepted.files (builder_tree at problem rows)))) (builders_of problem rows)
  fits =
      all_fit problem (table_of (with_builders accepted.files (builder_tree at problem rows))) rows (λ n row there.
      let r = row_short n row there in
      builder_fits accepted.files problem rows at (beside accepted.files problem rows at sound accepted.classes buildable added) n row r.vector there r.structure r.within (omega (arith, rows_few, inside rows n row there)) r.objects r.lines)

  typed : type_fault (with_builders accepted.files (builder_tree at problem rows)) ≡ None
  typed = added.typed (methods_law at (after_pieces [] (pieces.class_head [])) 0 (in_class builders_name (outside (table_of (with_builders accepted.files (builder_tree at problem rows))))) (builders_of problem rows) refl refl fits)

  whole : AreBuilders accepted.files (length sources) problem rows text
  whole =
      let r : HasBuilderTree (length sources) problem rows text = read_back sources bytes problem limit span accepted buildable short in
      record {
        tokens = r.tokens;
        lexed = r.lexed;
        tree = builder_tree at problem rows;
        parsed = r.parsed;
        classed = added.classed;
        typed = typed;
        built = built;
      }

pub builders : BuildersLaw
builders sources bytes problem limit span accepted buildable short = whole sources bytes problem limit span accepted buildable short
