-- To be believed: the lines with which files of shards are refused.
use Rattle.std.specs.Prelude.{ℕ, List, ◌++◌, codes, decimal}
use Rattle.kr_base.specs.Cuts.{cut_text}

-- more bytes than are taken
abbrev pub long_text : List ℕ → List ℕ
long_text name = name ++ codes ": M1\n"

-- no shard's text up to a line
abbrev pub malformed_text : List ℕ → ℕ → List ℕ
malformed_text name line = name ++ codes ":" ++ decimal line ++ codes ": M2\n"

-- it begins before the one before it ends
abbrev pub overlap_text : List ℕ → List ℕ
overlap_text name = name ++ codes ": M3\n"

-- `gap TO FROM`: between where one ends and the next begins
abbrev pub gap_text : List ℕ → List ℕ → List ℕ
gap_text to from = ((codes "gap " ++ cut_text to) ++ (codes " " ++ cut_text from)) ++ codes "\n"
