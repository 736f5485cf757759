-- To be believed: how a listing ends: what was written by then.
use Rattle.std.specs.Prelude.{◌≡◌, ℕ, ◌<◌, ◌⊎◌, List, ◌++◌, take, Option}
use Rattle.kr_base.specs.Told.{Added, Stopped}
use Rattle.kr_report.specs.Texts.{memory_text}
use Rattle.kr_report.specs.Reports.{Answer, lines, bytes_of}

-- rows of the answer, from the first one on
abbrev pub front_of : Answer → ℕ → List ℕ
front_of answer n = lines (take n answer.rows)

-- a text that the writing of an answer may have begun
abbrev pub MayBegin : Answer → List ℕ → Type 0
MayBegin answer text = (text ≡ bytes_of answer) ⊎ ((n : ℕ) × (text ≡ front_of answer n ++ memory_text))

-- All was written, and the status is the answer's; or a fault came after a front; or out of memory, after some rows.
pub record EndsListing {K : Type 0} (taken : K → Option (List ℕ)) (faults : K → ℕ) (answer : Answer) (out out' : K) (status : ℕ) : Type 0 where
  pub known : (status ≡ 0) ⊎ (status ≡ 1) ⊎ (status ≡ 5) ⊎ (status ≡ 7) ⊎ (status ≡ 8)
  pub whole : status < 6 → (status ≡ answer.status) × Added taken faults out out' (bytes_of answer)
  pub fault : status ≡ 7 → (text : List ℕ) × MayBegin answer text × Stopped taken faults out out' text
  pub memory : status ≡ 8 → (n : ℕ) × Added taken faults out out' (front_of answer n ++ memory_text)

-- The report broke off in its rows: at a fault, or out of memory.
pub record BreaksOff {K : Type 0} (taken : K → Option (List ℕ)) (faults : K → ℕ) (answer : Answer) (out out' : K) (status : ℕ) : Type 0 where
  pub known : (status ≡ 7) ⊎ (status ≡ 8)
  pub fault : status ≡ 7 → (n : ℕ) × Stopped taken faults out out' (front_of answer n ++ memory_text)
  pub memory : status ≡ 8 → (n : ℕ) × Added taken faults out out' (front_of answer n ++ memory_text)
