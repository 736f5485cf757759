-- Between crates: the line that ends a call, and the status of a call without failing rows that ends with it.
use Rattle.std.specs.Prelude.{ℕ, List}
use Rattle.kr_report.specs.Texts.{listed_text, tested_text, more_text, spent_text, checked_text, counted_text}
use Rattle.kr_report.specs.declared.lines.Summary.{Summary}
use Rattle.kr_report.specs.declared.lines.Summary.TheVariants as ends

abbrev pub summary_line : Summary → List ℕ
summary_line (ends.List valid tried) = listed_text valid tried
summary_line (ends.Test valid failing tried) = tested_text valid failing tried
summary_line (ends.More key) = more_text key
summary_line (ends.Spent key) = spent_text key
summary_line (ends.Check classes slots) = checked_text classes slots
summary_line (ends.Demo nodes valid) = counted_text nodes valid

-- 5 where an entry is spent
abbrev pub summary_status : Summary → ℕ
summary_status (ends.Spent key) = 5
summary_status (ends.List valid tried) = 0
summary_status (ends.Test valid failing tried) = 0
summary_status (ends.More key) = 0
summary_status (ends.Check classes slots) = 0
summary_status (ends.Demo nodes valid) = 0
