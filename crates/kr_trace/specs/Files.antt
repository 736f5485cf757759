-- To be believed: what is said of a file that is checked as a traced listing.
use Rattle.std.specs.Prelude.{ℕ, List, ◌++◌, codes, decimal, Option, Ok, Err}
use Rattle.std.specs.Option.{option_map}
use Rattle.kr_base.specs.declared.span.Span.{Span}
pub use Rattle.kr_io.specs.Held.{Held}
use Rattle.kr_trace.specs.Checked.{Checked, checked}
use Rattle.kr_trace.specs.Codes.{rule_code}

-- `run ok events E`, or `bad trace LINE RULE`
abbrev pub said_of : Checked ℕ → List ℕ
said_of (Ok events) = codes "run ok events " ++ decimal events ++ codes "\n"
said_of (Err fault) = codes "bad trace " ++ decimal fault.line ++ codes " " ++ rule_code fault.rule ++ codes "\n"

abbrev pub status_for : Checked ℕ → ℕ
status_for (Ok events) = 0
status_for (Err fault) = 10

-- what a file's text is checked to be; none where its bytes aren't known
abbrev pub checked_file : Held → List ℕ → Span → ℕ → Option (Checked ℕ)
checked_file held name span workers = option_map (checked span workers) (held name)
