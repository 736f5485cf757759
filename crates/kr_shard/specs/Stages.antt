-- Between crates: what the reading of a shard answers, and how far it has come.
use Rattle.std.specs.Prelude.{◌≡◌, ℕ, ◌≤◌, List, [], ◌∷◌, ◌++◌, drop, flat_map, length, map, take, Result, Ok, Err}
use Rattle.kr_base.specs.declared.span.Span.{Span}
use Rattle.kr_text.specs.Splitting.{ended, lines_in, unended}
use Rattle.kr_shard.specs.Shards.{KeyedLine, ending_in, for_ok, last_key, row_bytes, rows_in, shard_of}
use Rattle.kr_shard.specs.declared.shard.Shard.{Shard}
use Rattle.kr_shard.specs.declared.shard.ShardRefusal.{ShardRefusal}
use Rattle.kr_shard.specs.declared.shard.ShardRefusal.TheVariants.{Malformed, NoMemory}
use Rattle.kr_shard.specs.declared.reading.Front.{Front}
use Rattle.kr_shard.specs.declared.reading.Body.{Body}
use Rattle.kr_shard.specs.declared.words.Ending.{Ending}

-- what is wanted of a text, or its first malformed line; or out of memory, which is always allowed
abbrev pub Answers : {A : Type 0} → Result A ℕ → Result A ShardRefusal → Type 0
Answers wanted (Ok a) = wanted ≡ Ok a
Answers {A} wanted (Err (Malformed line)) = wanted ≡ Err line
Answers wanted (Err (NoMemory _)) = Unit {0}

-- the shard of a text
abbrev pub ReadsShard : List ℕ → Result Shard ShardRefusal → Type 0
ReadsShard text r = Answers (shard_of text) r

-- what comes after a first line: the rows, and the ending
abbrev pub body_with : List KeyedLine → Ending → Body
body_with rows ending = record { rows = record { bytes = row_bytes rows; count = length rows }; ending = ending }

abbrev pub body_of : Span → List KeyedLine → List (List ℕ) → List ℕ → Result Body ℕ
body_of span rows lines rest = for_ok (body_with rows) (ending_in span.upto (last_key span.after rows) (length rows) (drop (length rows) lines) rest)

abbrev pub ReadsBody : Span → List ℕ → Result Body ShardRefusal → Type 0
ReadsBody span text r = Answers (body_of span (rows_in span.upto (lines_in text) span.after) (lines_in text) (unended text)) r

abbrev pub line_of : KeyedLine → List ℕ
line_of row = row.line

-- the rows at the front of a text: how many, the last one's key, and their length
pub record IsFront (span : Span) (text : List ℕ) (front : Front) : Type 0 where
  pub rows : List KeyedLine
  pub are : rows_in span.upto (lines_in text) span.after ≡ rows
  pub count : front.count ≡ length rows
  pub last : front.last ≡ last_key span.after rows
  pub within : front.len ≤ length text
  pub bytes : take front.len text ≡ row_bytes rows
  pub lines : lines_in text ≡ map line_of rows ++ lines_in (drop front.len text)

-- rows were read, and a text is left
pub record IsAt (span : Span) (text rest : List ℕ) (count : ℕ) (last : List ℕ) : Type 0 where
  pub rows : List KeyedLine
  pub text_is : text ≡ row_bytes rows ++ rest
  pub lines : lines_in text ≡ map line_of rows ++ lines_in rest
  pub are : rows_in span.upto (lines_in text) span.after ≡ rows ++ rows_in span.upto (lines_in rest) last
  pub last_is : last ≡ last_key span.after rows
  pub count_is : count ≡ length rows
