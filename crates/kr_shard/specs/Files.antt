-- To be believed: what files of shards give: they are read in order, and each is checked before the next is read.
use Rattle.std.specs.Prelude.{◌≡◌, ℕ, ◌≤◌, ◌⊎◌, List, [], ◌∷◌, length, nat_le, Option, Some, None, IfSome, option_and_then, option_map, Result, Ok, Err, slice_index_or, if◌then◌else◌}
use Rattle.kr_report.specs.Reports.{Answer, line_answer}
use Rattle.kr_report.specs.Texts.{memory_text}
use Rattle.kr_shard.specs.Shards.{shard_of}
use Rattle.kr_shard.specs.declared.shard.Shard.{Shard}
use Rattle.kr_shard.specs.Merging.{first_fault, in_order, numbered}
use Rattle.kr_shard.specs.Answers.{joined_answer}
use Rattle.kr_shard.specs.declared.merging.MergeRefusal.{MergeRefusal}
use Rattle.kr_shard.specs.declared.merging.MergeRefusal.TheVariants.{Overlap, Gap, NoMemory}
use Rattle.kr_shard.specs.Faults.{gap_text, long_text, malformed_text, overlap_text}
use Rattle.kr_io.specs.Held.{Held}

-- the most bytes of a file that are taken
abbrev pub MOST_BYTES : ℕ
MOST_BYTES = 16777216

-- ---- one file

abbrev pub refused_as : List ℕ → Result Shard ℕ → Result Shard (List ℕ)
refused_as name (Ok shard) = Ok shard
refused_as name (Err line) = Err (malformed_text name line)

-- the shard of a file's bytes, or the line that refuses the file
abbrev pub judged : List ℕ → List ℕ → Result Shard (List ℕ)
judged name bytes = if nat_le (length bytes) MOST_BYTES then refused_as name (shard_of bytes) else Err (long_text name)

-- ---- files in order

abbrev pub and_shard : Shard → Result (List Shard) (List ℕ) → Result (List Shard) (List ℕ)
and_shard shard (Ok shards) = Ok (shard ∷ shards)
and_shard shard (Err line) = Err line

abbrev pub and_later : Result Shard (List ℕ) → Option (Result (List Shard) (List ℕ)) → Option (Result (List Shard) (List ℕ))
and_later (Ok shard) later = option_map (and_shard shard) later
and_later (Err line) later = Some (Err line)

-- the shards of files, or the line that refuses the first which is none; nothing where the bytes of one that is read aren't known
abbrev pub shards_in : Held → List (List ℕ) → Option (Result (List Shard) (List ℕ))
shards_in held [] = Some (Ok [])
shards_in held (name ∷ names) = option_and_then (λ bytes. and_later (judged name bytes) (shards_in held names)) (held name)

-- ---- together

-- Being out of memory is no fault of shards.
abbrev pub fault_line : List (List ℕ) → MergeRefusal → List ℕ
fault_line names (Overlap number) = overlap_text (slice_index_or names number [])
fault_line names (Gap to from) = gap_text to from
fault_line names (NoMemory why) = memory_text

abbrev pub unless_fault : List (List ℕ) → Option MergeRefusal → Answer → Answer
unless_fault names None answer = answer
unless_fault names (Some fault) answer = line_answer 9 (fault_line names fault)

-- shards in order: the first pair that doesn't adjoin; else what they are together
abbrev pub joined_of : List (List ℕ) → List Shard → Answer
joined_of names shards = let ordered = in_order (numbered 0 shards) in unless_fault names (first_fault ordered) (joined_answer ordered)

abbrev pub answer_by : List (List ℕ) → Result (List Shard) (List ℕ) → Answer
answer_by names (Ok shards) = joined_of names shards
answer_by names (Err line) = line_answer 9 line

-- The answer to files of shards: status 9 and the line of the first file that isn't one, or of the first pair that doesn't
-- adjoin; else the one listing.
abbrev pub MergesFiles : Held → List (List ℕ) → Answer → Type 0
MergesFiles held names answer = option_map (answer_by names) (shards_in held names) ≡ Some answer

-- they have at most one
abbrev pub OneMerge : Type 0
OneMerge = (held : Held) (names : List (List ℕ)) (one other : Answer) → MergesFiles held names one → MergesFiles held names other → one ≡ other

-- ---- which files are read

-- these bytes are a shard's text, as it is taken
abbrev pub IsShardText : List ℕ → Type 0
IsShardText bytes = (length bytes ≤ MOST_BYTES) × ((shard : Shard) × (shard_of bytes ≡ Ok shard))

-- The file is one of these, and those before it are shards' texts, as far as their bytes are known.
abbrev pub ReadsShards : Held → List (List ℕ) → List ℕ → Type 0
ReadsShards held [] file = ⊥
ReadsShards held (name ∷ names) file = (name ≡ file) ⊎ (IfSome (held name) IsShardText × ReadsShards held names file)
