-- To be believed: the text of a listing's builders, read back.
use Rattle.std.specs.Prelude.{◌≡◌, ℕ, ◌<◌, ◌^◌, List, None, length, take}
use Rattle.kr_base.specs.Entries.{entries_in}
use Rattle.kr_base.specs.declared.span.Bound.TheVariants.{At}
use Rattle.kr_base.specs.declared.span.Span.{Span}
use Rattle.kr_emit_meaning.specs.Buildable.{build_fault}
use Rattle.kr_emit_meaning.specs.Emitted.{emitted}
use Rattle.kr_emit_laws.specs.BuilderTree.{builder_tree}
use Rattle.kr_laws_never_stuck.specs.Accepted.{IsAccepted}
use Rattle.kr_lex.specs.Lexemes.{Lexemes}
use Rattle.kr_lex.specs.Places.{place_after}
use Rattle.kr_lex.specs.Spells.{AreTokens}
use Rattle.kr_mean.specs.Entries.{all_entries}
use Rattle.kr_mean.specs.Problem.{Problem}
use Rattle.kr_mean.specs.declared.mode.Mode.TheVariants.{List as Listing}
use Rattle.kr_mean.specs.declared.row.Row.{Row}
use Rattle.kr_parse.specs.Refusals.{IsParsed}
use Rattle.kr_report.specs.Reports.{bytes_of, rows_in}

-- the rows of a listing
abbrev pub rows_listed : Problem → ℕ → Span → List Row
rows_listed problem limit span = take limit (rows_in (entries_in (At span.after) span.upto (all_entries problem)))

-- As a file of this number the text has tokens and a tree, that of the rows' builders.
pub record HasBuilderTree (file : ℕ) (problem : Problem) (rows : List Row) (text : List ℕ) : Type 0 where
  pub tokens : Lexemes
  pub lexed : AreTokens file text tokens
  pub parsed : IsParsed tokens (builder_tree (place_after file) problem rows)

-- Of sources and a finitization that are accepted, for whose problem builders can be written, in a text that a file's numbers can count.
abbrev pub ReadLaw : Type 0
ReadLaw = (sources : List (List ℕ)) (bytes : List ℕ) (problem : Problem) (limit : ℕ) (span : Span)
    → IsAccepted sources bytes Listing problem → build_fault problem ≡ None → length (bytes_of (emitted problem limit span)) < 2 ^ 30
    → HasBuilderTree (length sources) problem (rows_listed problem limit span) (bytes_of (emitted problem limit span))
