-- To be believed: which bytes are a shard's text, and the first of its lines that makes them none.
use Rattle.std.specs.Prelude.{ℕ, ◌+◌, ◌^◌, List, [], ◌∷◌, ◌&&◌, codes, decimal, drop, flat_map, length, nat_le, nat_lt, Option, Some, None, option_and_then, option_map, Result, Ok, Err, if◌then◌else◌}
use Rattle.std.specs.List.{after_first, before_first}
use Rattle.std.specs.Str.{bytes_eq}
use Rattle.kr_base.specs.declared.span.Bound.{Bound}
use Rattle.kr_base.specs.declared.span.Bound.TheVariants.{At}
use Rattle.kr_base.specs.declared.span.Span.{Span}
use Rattle.kr_base.specs.Bounds.{less}
use Rattle.kr_base.specs.Entries.{is_within}
use Rattle.kr_base.specs.Parsing.{cut_of}
use Rattle.kr_shard.specs.ReadRows.{RowLines}
use Rattle.kr_text.specs.Splitting.{after_front, bound_of, ended, is_empty, is_space, lines_in, number_of, unended}
use Rattle.kr_shard.specs.declared.shard.Shard.{Shard}
use Rattle.kr_shard.specs.declared.words.Ending.{Ending}

-- ---- the first line, `shard FROM TO`

-- `start`, or a cut
abbrev pub from_of : List ℕ → Option (List ℕ)
from_of word = if bytes_eq word (codes "start") then Some [] else cut_of word

-- the first is below the second
abbrev pub span_between : Option (List ℕ) → Option Bound → Option Span
span_between (Some after) (Some upto) = if less (At after) upto then Some (record { after = after; upto = upto }) else None
span_between _ _ = None

abbrev pub span_in : List ℕ → Option Span
span_in words = span_between (from_of (before_first is_space words)) (bound_of (after_first is_space words))

abbrev pub span_of : List ℕ → Option Span
span_of line = option_and_then span_in (after_front (codes "shard ") line)

-- ---- rows, `KEY REST`

-- a text that is a key above a cut and not above a bound
abbrev pub key_in : Bound → List ℕ → List ℕ → Option (List ℕ)
key_in upto last text = option_and_then (λ key. if is_within (At last) upto key then Some key else None) (cut_of text)

-- The key of a row after a cut and not above a bound. The rest isn't empty, and isn't looked at.
abbrev pub row_key : Bound → List ℕ → List ℕ → Option (List ℕ)
row_key upto last line = if is_empty (after_first is_space line) then None else key_in upto last (before_first is_space line)

pub record KeyedLine : Type 0 where
  pub key : List ℕ
  pub line : List ℕ

abbrev pub and_rows : Option (List ℕ) → List ℕ → (List ℕ → List KeyedLine) → List KeyedLine
and_rows None line later = []
and_rows (Some key) line later = record { key = key; line = line } ∷ later key

-- the rows at the front of these lines: their keys ascend, above a cut and not above a bound
abbrev pub rows_in : Bound → List (List ℕ) → List ℕ → List KeyedLine
rows_in upto [] last = []
rows_in upto (line ∷ lines) last = and_rows (row_key upto last line) line (rows_in upto lines)

-- the last row's key, or the cut that they are above
abbrev pub last_key : List ℕ → List KeyedLine → List ℕ
last_key after [] = after
last_key after (row ∷ rows) = last_key row.key rows

abbrev pub row_bytes : List KeyedLine → List ℕ
row_bytes rows = flat_map (λ (row : KeyedLine). ended row.line) rows

-- ---- the last line

abbrev pub tried_of : ℕ → List ℕ → Option Ending
tried_of count text = option_and_then (λ tried. if nat_le count tried then Some (record { tried = tried; spent = None }) else None) (number_of text)

-- `valid V tried T`, V the number of rows and not above T
abbrev pub whole_ending : ℕ → List ℕ → Option Ending
whole_ending count line = option_and_then (λ rest. option_and_then (tried_of count) (after_front (codes " tried ") rest)) (option_and_then (after_front (decimal count)) (after_front (codes "valid ") line))

abbrev pub spent_at : Option (List ℕ) → Option Ending
spent_at key = option_map (λ key. record { tried = 0; spent = Some key }) key

-- or `spent KEY`, above the last row's key and not above the bound
abbrev pub ending_by : Option (List ℕ) → Bound → List ℕ → ℕ → List ℕ → Option Ending
ending_by (Some text) upto last count line = spent_at (key_in upto last text)
ending_by None upto last count line = whole_ending count line

abbrev pub ending_of : Bound → List ℕ → ℕ → List ℕ → Option Ending
ending_of upto last count line = ending_by (after_front (codes "spent ") line) upto last count line

-- ---- the text

-- after the last line there is nothing
abbrev pub if_last : List (List ℕ) → List ℕ → ℕ → Ending → Result Ending ℕ
if_last [] [] count ending = Ok ending
if_last [] (b ∷ rest) count ending = Err (count + 3)
if_last (line ∷ lines) rest count ending = Err (count + 3)

abbrev pub ended_by : Option Ending → List (List ℕ) → List ℕ → ℕ → Result Ending ℕ
ended_by None lines rest count = Err (count + 2)
ended_by (Some ending) lines rest count = if_last lines rest count ending

-- how these lines end a shard of so many rows, and of this last key
abbrev pub ending_in : Bound → List ℕ → ℕ → List (List ℕ) → List ℕ → Result Ending ℕ
ending_in upto last count [] rest = Err (count + 2)
ending_in upto last count (line ∷ lines) rest = ended_by (ending_of upto last count line) lines rest count

-- a value changed, and a failure as it is
abbrev pub for_ok : {A B : Type 0} → (A → B) → Result A ℕ → Result B ℕ
for_ok f (Ok a) = Ok (f a)
for_ok f (Err line) = Err line

abbrev pub shard_with : Span → List KeyedLine → Ending → Shard
shard_with span rows ending = record { span = span; rows = record { bytes = row_bytes rows; count = length rows }; tried = ending.tried; spent = ending.spent }

abbrev pub with_rows : Span → List KeyedLine → List (List ℕ) → List ℕ → Result Shard ℕ
with_rows span rows lines rest = for_ok (shard_with span rows) (ending_in span.upto (last_key span.after rows) (length rows) (drop (length rows) lines) rest)

abbrev pub with_span : Option Span → List (List ℕ) → List ℕ → Result Shard ℕ
with_span None lines rest = Err 1
with_span (Some span) lines rest = with_rows span (rows_in span.upto lines span.after) lines rest

abbrev pub with_lines : List (List ℕ) → List ℕ → Result Shard ℕ
with_lines [] rest = Err 1
with_lines (line ∷ lines) rest = with_span (span_of line) lines rest

-- The shard whose text this is. Else the number of the first line through which the text begins no shard's; a line that
-- doesn't end, or is missing, counts.
unfoldable pub shard_of : List ℕ → Result Shard ℕ
shard_of text = with_lines (lines_in text) (unended text)
