-- Between crates: what holds of the text of builders.
use Rattle.std.specs.Prelude.{◌≡◌, ℕ, List, [], ◌∷◌, ℤ, length, take}
use Rattle.std.specs.List.{AllByRecursion}
use Rattle.kr_lex.specs.Lexemes.{Lexemes}
use Rattle.kr_lex.specs.Places.{place_after}
use Rattle.kr_lex.specs.Spells.{AreTokens}
use Rattle.kr_base.specs.declared.entry.Entry.{Entry}
use Rattle.kr_mean.specs.Problem.{Problem}
use Rattle.kr_mean.specs.declared.row.Row.{Row}
use Rattle.kr_parse.specs.Refusals.{IsParsed}
use Rattle.kr_value.specs.declared.object.Class.{Class}
use Rattle.kr_value.specs.declared.object.Class.TheVariants.{Array}
use Rattle.kr_value.specs.declared.value.Value.{Value}
use Rattle.kr_report.specs.Reports.{Answer, bytes_of, rows_in}
use Rattle.kr_emit_meaning.specs.Builders.{builder_text, class_of_object, objects_in}
use Rattle.kr_emit_meaning.specs.Emitted.{builders_answer, class_line}
use Rattle.kr_emit_laws.specs.BuilderTree.{file_tree}
use Rattle.kr_emit_laws.specs.Pieces.{code, method, text_of, tokens_of}
use Rattle.kr_emit_laws.specs.Printable.{ArePrintable, IsComment, IsNumbered}
use Rattle.kr_emit_laws.specs.Syntax.{Builder, builder_of, builders_of, lengths_of}

-- the tokens of code
abbrev pub code_tokens : ℕ → List Builder → List ℕ → Lexemes
code_tokens file builders last = record { list = tokens_of (place_after file) [] (code builders last); end = place_after file (text_of (code builders last)) }

-- The text of builders that can be written has these tokens, and they this tree.
pub record IsRead (file : ℕ) (builders : List Builder) (last : List ℕ) : Type 0 where
  pub lexed : AreTokens file (text_of (code builders last)) (code_tokens file builders last)
  pub parsed : IsParsed (code_tokens file builders last) (file_tree (place_after file) builders)

abbrev pub PrintedLaw : Type 0
PrintedLaw = (file : ℕ) (builders : List Builder) (last : List ℕ) → IsNumbered (length builders) → ArePrintable builders → IsComment last → IsRead file builders last

-- ---- the builder of a row

abbrev pub HasLength : Problem → List (ℕ × Value) → ℕ → Class → Type 0
HasLength problem structure o (Array k) = (length : ℤ) × (lengths_of problem structure o ≡ length ∷ [])
HasLength problem structure o _ = Unit {0}

-- each array of a structure has one length
abbrev pub HasLengths : Problem → List (ℕ × Value) → Type 0
HasLengths problem structure = AllByRecursion (λ o. HasLength problem structure o (class_of_object problem o)) (objects_in structure)

-- the text of a row's builder is that of its lines
abbrev pub TextLaw : Type 0
TextLaw = (problem : Problem) (row : Row) (n : ℕ) → HasLengths problem row.structure → builder_text problem row n ≡ text_of (method n (builder_of problem row) [])

-- ---- the builders of a listing

-- A text is code of the rows' builders, with a last line as a comment.
pub record IsCode (problem : Problem) (rows : List Row) (text : List ℕ) : Type 0 where
  pub last : List ℕ
  pub comment : IsComment last
  pub spelled : text ≡ text_of (code (builders_of problem rows) last)

-- all that is written, from the class's first line on
abbrev pub class_bytes : Answer → List ℕ
class_bytes builders = bytes_of (record builders { rows = class_line ∷ builders.rows })

abbrev pub EmittedLaw : Type 0
EmittedLaw = (problem : Problem) (limit : ℕ) (es : List (Entry Row)) → AllByRecursion (λ (row : Row). HasLengths problem row.structure) (take limit (rows_in es))
    → IsCode problem (take limit (rows_in es)) (class_bytes (builders_answer problem limit es))
