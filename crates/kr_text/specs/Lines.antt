-- Between crates: the bytes of a line, its count of faults, and the last cause.
use Rattle.std.specs.Prelude.{ℕ, List, Option}
use Rattle.kr_base.specs.declared.memory.NoMemory.{NoMemory}
use Rattle.kr_text.specs.declared.line.Line.{Line}

abbrev pub line_bytes : Line → List ℕ
line_bytes line = line.bytes.items

abbrev pub line_faults : Line → ℕ
line_faults line = line.faults

abbrev pub line_refused : Line → Option NoMemory
line_refused line = line.refused
