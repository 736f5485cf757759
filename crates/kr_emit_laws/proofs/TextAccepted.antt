-- The text of an accepted listing's builders has tokens and their tree.
use Rattle.std.proofs.Common.{◌≡◌, ℕ, ◌^◌, ◌<◌, ◌≤◌, List, [], ◌∷◌, length, sym, subst, arith}
use Rattle.std.specs.Prelude.{None}
use Rattle.std.specs.List.{AllByRecursion}
use Rattle.kr_ast.specs.Tree.{Tree}
use Rattle.kr_base.specs.Entries.{entries_in}
use Rattle.kr_base.specs.declared.span.Bound.TheVariants.{At}
use Rattle.kr_classes_table.specs.Rules.{class_fault}
use Rattle.kr_classes_table.specs.Table.{table_of}
use Rattle.kr_emit_laws.specs.Accepted.{rows_listed}
use Rattle.kr_emit_laws.specs.Accepted.{HasBuilderTree, ReadLaw}
use Rattle.kr_emit_laws.proofs.Counts.{few_builders, few_lines, few_objects}
use Rattle.kr_emit_laws.proofs.TextNames.{problem_named}
use Rattle.kr_emit_laws.proofs.Rows.{IsRowOf, rows_are}
use Rattle.kr_emit_meaning.specs.Buildable.{build_fault}
use Rattle.kr_emit_meaning.specs.Builders.{objects_in}
use Rattle.kr_emit_meaning.specs.Emitted.{emitted}
use Rattle.kr_emit_laws.specs.TextLaws.{HasLengths, IsCode, code_tokens}
use Rattle.kr_emit_laws.specs.Pieces.{code, text_of}
use Rattle.kr_emit_laws.specs.Printable.{IsPrintable}
use Rattle.kr_emit_laws.specs.Syntax.{Builder, builders_of}
use Rattle.kr_emit_laws.specs.Writable.{HasNames, IsWritable}
use Rattle.kr_emit_laws.proofs.Listings.{emitted_is}
use Rattle.kr_emit_laws.proofs.Read.{read}
use Rattle.kr_emit_laws.proofs.Sized.{lengths}
use Rattle.kr_emit_laws.proofs.Writable.{printable}
use Rattle.kr_emit_laws.proofs.Written.{writable}
use Rattle.kr_laws_never_stuck.proofs.Accepted.{posed, program_files}
use Rattle.kr_laws_never_stuck.specs.Grown.{AreProgram}
use Rattle.kr_laws_never_stuck.specs.Keys.{HasKeys}
use Rattle.kr_laws_never_stuck.proofs.Apart as places
use Rattle.kr_laws_never_stuck.proofs.Documents.{read_pairs}
use Rattle.kr_laws_never_stuck.proofs.Fields.{field_keyed}
use Rattle.kr_laws_never_stuck.proofs.Parameters.{parameter_found}
use Rattle.kr_laws_never_stuck.proofs.Typed.{domains_typed}
use Rattle.kr_laws_safety.specs.Domains.{HaveDomainsTypes}
use Rattle.kr_mean.specs.Entries.{all_entries}
use Rattle.kr_mean.specs.Problem.{Problem}
use Rattle.kr_mean.specs.WellFormed.{IsWellFormed}
use Rattle.kr_mean.specs.declared.mode.Mode.TheVariants.{List as Listing}
use Rattle.kr_mean.specs.declared.row.Row.{Row}
use Rattle.kr_report.specs.Reports.{bytes_of}
use Rattle.kr_shard_laws.proofs.SourceNames.{named}
use Rattle.kr_space.proofs.ReadLimits.{read_limits}
use Rattle.kr_space_meaning.specs.Bounds.{problem_of}
use Rattle.kr_space_meaning.proofs.Each.{each_weaker}
use Rattle.kr_space_meaning.proofs.WellFormed.{well_formed}
use Rattle.kr_types_meaning.specs.Typing.{IsWellTyped}
use Rattle.kr_types_meaning.proofs.WellTyped.{well_typed_law}
use Rattle.kr_laws_never_stuck.specs.Accepted.{IsAccepted}

-- ---- an accepted problem

-- it is well formed, its domains have values of their types, and it can be written
record IsSound (problem : Problem) : Type 0 where
  formed : IsWellFormed problem
  writable : IsWritable problem

keys : (sources : List (List ℕ)) (files : List Tree) → AreProgram sources files → class_fault (table_of files) ≡ None → IsWellTyped files → HasKeys (table_of files)
keys sources files grown faults types =
    let shapes = program_files sources files grown in
    record { fields = field_keyed files shapes faults types (places.fields_apart sources files grown); parameters = parameter_found files shapes faults types }

sound : (sources : List (List ℕ)) (bytes : List ℕ) (problem : Problem) → IsAccepted sources bytes Listing problem → build_fault problem ≡ None → IsSound problem
sound sources bytes problem h fault =
    let p = posed h.files h.document Listing problem h.posed in
    let mine = problem_of h.files h.document Listing in
    let types = (well_typed_law h.files).0 h.types in
    let formed : IsWellFormed mine = well_formed h.files h.document Listing p.unbroken in
    let domains : HaveDomainsTypes mine = domains_typed h.files h.document Listing (keys sources h.files h.read h.classes types) (read_pairs bytes h.document h.stated) (read_limits bytes h.document h.stated) p.unbroken in
    let names : HasNames mine = problem_named h.files h.document Listing (named sources h.files h.read) (subst (λ (x : Problem). build_fault x ≡ None) (sym p.is) fault) in
    subst IsSound p.is (record { formed = formed; writable = writable mine formed domains names })

-- ---- its rows

module _ (problem : Problem) (s : IsSound problem) where
  row_lengths : (row : Row) → IsRowOf problem row → HasLengths problem row.structure
  row_lengths row r = subst (HasLengths problem) (sym r.structure) (lengths problem s.formed r.vector r.within)

  -- rows whose builders have no more lines than a number with few digits
  rows_printable : (most : ℕ) (rows : List Row) → most < 2 ^ 30 → AllByRecursion (IsRowOf problem) rows → AllByRecursion (λ (b : Builder). length b.lines ≤ most) (builders_of problem rows) → AllByRecursion IsPrintable (builders_of problem rows)
  rows_printable most [] l rs ls = tt
  rows_printable most (row ∷ rows) l rs ls =
      let objects = objects_in row.structure in
      let few : length objects < 10 ^ 64 = omega (arith, l, ls.0, few_objects problem s.formed row.structure objects) in
      (printable problem row rs.0.vector s.writable rs.0.structure few, rows_printable most rows l rs.1 ls.1)

  read_text : (file : ℕ) (rows : List Row) (text : List ℕ) → AllByRecursion (IsRowOf problem) rows → length text < 2 ^ 30 → IsCode problem rows text → HasBuilderTree file problem rows text
  read_text file rows text rs l c =
      let builders = builders_of problem rows in
      let short : length (text_of (code builders c.last)) < 2 ^ 30 = subst (λ (t : List ℕ). length t < 2 ^ 30) c.spelled l in
      let few : length builders < 10 ^ 64 = omega (arith, few_builders builders c.last, short) in
      let all = rows_printable (length (text_of (code builders c.last))) rows short rs (few_lines builders c.last) in
      let r = read file builders c.last few all c.comment in
      subst (HasBuilderTree file problem rows) (sym c.spelled) (record { tokens = code_tokens file builders c.last; lexed = r.lexed; parsed = r.parsed })

pub read_back : ReadLaw
read_back sources bytes problem limit span h fault short =
    let s = sound sources bytes problem h fault in
    let rows = rows_listed problem limit span in
    let rs : AllByRecursion (IsRowOf problem) rows = rows_are problem limit span in
    let sized : AllByRecursion (λ (row : Row). HasLengths problem row.structure) rows = each_weaker (IsRowOf problem) (λ (row : Row). HasLengths problem row.structure) rows (row_lengths problem s) rs in
    read_text problem s (length sources) rows (bytes_of (emitted problem limit span)) rs short (emitted_is problem limit (entries_in (At span.after) span.upto (all_entries problem)) sized)
