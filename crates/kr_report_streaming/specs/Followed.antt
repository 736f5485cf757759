-- To be believed: an answer with more after its last line, or before it.
use Rattle.std.specs.Prelude.{ℕ, List, ◌++◌}
use Rattle.kr_report.specs.Reports.{Answer}

abbrev pub followed_by : List ℕ → Answer → Answer
followed_by text answer = record { status = answer.status; rows = answer.rows; last = answer.last ++ text }

-- with more before it
abbrev pub led_by : List ℕ → Answer → Answer
led_by text answer = record { status = answer.status; rows = answer.rows; last = text ++ answer.last }
