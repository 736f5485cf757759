-- Between crates: builders with their numbers, as lines that are written.
use Rattle.std.specs.Prelude.{◌≡◌, ◌≤◌, ℕ, ◌+◌, false, List, [], ◌∷◌, ◌++◌, length, decimal, Option, Some, None}
use Rattle.kr_base.specs.declared.entry.Entry.{Entry}
use Rattle.kr_base.specs.declared.entry.Mark.{Mark}
use Rattle.kr_base.specs.declared.entry.Mark.TheVariants.{Valid, Invalid, Spent}
use Rattle.kr_report_streaming.specs.Writers.{WritesLines}
use Rattle.kr_report_streaming.specs.declared.row_line.RowLine.{RowLine}
use Rattle.kr_survey.specs.Scans.{row_of}
use Rattle.kr_survey.specs.declared.taker.Room.{Room}
use Rattle.kr_survey.specs.declared.taker.Room.TheVariants.{More, Full}
use Rattle.kr_emit.specs.declared.making.Builder.{Builder}
use Rattle.kr_emit.specs.declared.writer.BuilderWriter.{BuilderWriter}

abbrev pub text_at : ℕ → Builder → List ℕ
text_at n b = b.front ++ decimal n ++ b.rest

abbrev pub line_at : ℕ → Builder → RowLine
line_at n b = record { key = b.key; text = text_at n b; failing = false }

-- numbered from a number on
abbrev pub numbered : ℕ → List Builder → List RowLine
numbered n [] = []
numbered n (b ∷ bs) = line_at n b ∷ numbered (n + 1) bs

-- how many were written, while there is room; the limit has 32 bits
abbrev pub HasCounted : List Builder → BuilderWriter → Option Room → Type 0
HasCounted bs w None = Unit {0}
HasCounted bs w (Some More) = (w.count ≡ length bs) × (w.lines.limit ≤ 4294967295)
HasCounted bs w (Some Full) = Unit {0}

-- the builders were handed over, and written as lines
abbrev pub WritesBuilders : {K : Type 0} → (K → Option (List ℕ)) → (K → ℕ) → BuilderWriter → K → List Builder → BuilderWriter → K → Option Room → Type 0
WritesBuilders taken faults a from bs b out room = WritesLines taken faults a.lines from (numbered 0 bs) b.lines out room × HasCounted bs b room

-- entries with their builders as lines
abbrev pub mark_at : ℕ → Mark Builder → Mark RowLine
mark_at n (Valid b) = Valid (line_at n b)
mark_at n Invalid = Invalid
mark_at n Spent = Spent

abbrev pub entries_numbered : ℕ → List (Entry Builder) → List (Entry RowLine)
entries_numbered n [] = []
entries_numbered n (e ∷ es) = record { key = e.key; mark = mark_at n e.mark } ∷ entries_numbered (n + length (row_of e.mark)) es
