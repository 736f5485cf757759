-- Between crates: what the work on files of shards finds, before anything is written.
use Rattle.std.specs.Prelude.{◌≡◌, ℕ, ◌<◌, ◌≤◌, List, [], ◌∷◌, length, map, Option, Some, None, IfSome, IsSome, Result, Ok, Err, Vec, slice_index_or}
use Rattle.std.specs.List.{sum_by}
use Rattle.std.specs.declared.alloc.Global.{Global}
use Rattle.kr_base.specs.Causes.{Rose}
use Rattle.kr_report.specs.Reports.{Answer, line_answer}
use Rattle.kr_report.specs.Texts.{listed_text, spent_text}
use Rattle.kr_shard.specs.ReadRows.{RowLines}
use Rattle.kr_shard.specs.Shards.{shard_of}
use Rattle.kr_shard.specs.declared.shard.Shard.{Shard}
use Rattle.kr_shard.specs.declared.merging.Merged.{Merged}
use Rattle.kr_shard.specs.Faults.{gap_text, long_text, malformed_text, overlap_text}
use Rattle.kr_shard.specs.Files.{MOST_BYTES, MergesFiles, ReadsShards, joined_of, shards_in}
use Rattle.kr_io.specs.Held.{Held}
use Rattle.kr_shard.specs.declared.faults.FileFault.{FileFault}
use Rattle.kr_shard.specs.declared.faults.FileFault.TheVariants.{Long, Malformed, Overlap, Gap}
use Rattle.kr_shard.specs.declared.faults.MergeStop.{MergeStop}
use Rattle.kr_shard.specs.declared.faults.MergeStop.TheVariants.{Read, Refused, Memory}

-- ---- What is written

-- the line that says what is wrong
abbrev pub fault_text : List (List ℕ) → FileFault → List ℕ
fault_text names (Long file) = long_text (slice_index_or names file [])
fault_text names (Malformed file line) = malformed_text (slice_index_or names file []) line
fault_text names (Overlap file) = overlap_text (slice_index_or names file [])
fault_text names (Gap to from) = gap_text to from

abbrev pub bytes_in : RowLines → List ℕ
bytes_in rows = rows.bytes

abbrev pub count_in : RowLines → ℕ
count_in rows = rows.count

abbrev pub merged_by : List RowLines → ℕ → Option (List ℕ) → Answer
merged_by rows tried None = record { status = 0; rows = map bytes_in rows; last = listed_text (sum_by count_in rows) tried }
merged_by rows tried (Some key) = record { status = 5; rows = map bytes_in rows; last = spent_text key }

-- the report of shards that were put together
abbrev pub merged_answer : Merged → Answer
merged_answer merged = merged_by merged.rows merged.tried merged.spent

-- ---- What is read

-- a count stays, unless a read failed
abbrev pub CountStays : {X : Type 0} → ℕ → ℕ → Result X MergeStop → Type 0
CountStays before now (Ok x) = now ≡ before
CountStays before now (Err (Refused fault)) = now ≡ before
CountStays before now (Err (Memory why)) = now ≡ before
CountStays before now (Err (Read file)) = Unit {0}

-- bytes are a shard's text
abbrev pub IsShard : Shard → List ℕ → Type 0
IsShard shard bytes = (length bytes ≤ MOST_BYTES) × (shard_of bytes ≡ Ok shard)

-- what is judged of the bytes of a file
abbrev pub Judges : ℕ → List ℕ → Result Shard MergeStop → Type 0
Judges file bytes (Ok shard) = IsShard shard bytes
Judges file bytes (Err (Refused (Long n))) = (n ≡ file) × (MOST_BYTES < length bytes)
Judges file bytes (Err (Refused (Malformed n line))) = (n ≡ file) × (length bytes ≤ MOST_BYTES) × (shard_of bytes ≡ Err line)
Judges file bytes (Err (Refused (Overlap n))) = ⊥
Judges file bytes (Err (Refused (Gap to from))) = ⊥
Judges file bytes (Err (Memory why)) = Unit {0}
Judges file bytes (Err (Read n)) = ⊥

-- one read of a file: what is judged of its bytes, as far as they are known
abbrev pub HasRead : {F : Type 0} → (F → Held) → (F → ℕ) → (F → Option (List ℕ)) → ℕ → List ℕ → F → F → Result Shard MergeStop → Type 0
HasRead held faults last file name files files' (Ok shard) = IfSome (held files name) (λ bytes. Judges file bytes (Ok shard))
HasRead held faults last file name files files' (Err (Refused fault)) = IfSome (held files name) (λ bytes. Judges file bytes (Err (Refused fault)))
HasRead held faults last file name files files' (Err (Memory why)) = Unit {0}
HasRead held faults last file name files files' (Err (Read n)) = (n ≡ file) × (last files' ≡ Some name) × Rose (faults files) (faults files')

-- the shards of files, as far as bytes are known
abbrev pub AreShards : Held → List (List ℕ) → List Shard → Type 0
AreShards held [] [] = Unit {0}
AreShards held [] (shard ∷ shards) = ⊥
AreShards held (name ∷ names) [] = ⊥
AreShards held (name ∷ names) (shard ∷ shards) = IfSome (held name) (IsShard shard) × AreShards held names shards

-- the bytes of all files that are read are known
abbrev pub AllTold : Held → List (List ℕ) → Type 0
AllTold held names = (file : List ℕ) → ReadsShards held names file → IsSome (held file)

-- The read of the file of a number failed and was counted.
pub record FailsToRead {F : Type 0} (held : F → Held) (faults : F → ℕ) (last : F → Option (List ℕ)) (names : List (List ℕ)) (files files' : F) (file : ℕ) : Type 0 where
  pub read : ReadsShards (held files) names (slice_index_or names file [])
  pub named : last files' ≡ Some (slice_index_or names file [])
  pub cause : Rose (faults files) (faults files')

abbrev pub HasReadAll : {F : Type 0} → (F → Held) → (F → ℕ) → (F → Option (List ℕ)) → List (List ℕ) → F → F → Result (Vec Shard Global) MergeStop → Type 0
HasReadAll held faults last names files files' (Ok shards) = AreShards (held files) names shards.items
HasReadAll held faults last names files files' (Err (Refused fault)) = AllTold (held files) names → shards_in (held files) names ≡ Some (Err (fault_text names fault))
HasReadAll held faults last names files files' (Err (Memory why)) = Unit {0}
HasReadAll held faults last names files files' (Err (Read file)) = FailsToRead held faults last names files files' file

-- ---- What is found

-- what shards give together
abbrev pub JoinsShards : List Shard → Result Merged MergeStop → Type 0
JoinsShards shards (Ok merged) = (names : List (List ℕ)) → joined_of names shards ≡ merged_answer merged
JoinsShards shards (Err (Refused fault)) = (names : List (List ℕ)) → joined_of names shards ≡ line_answer 9 (fault_text names fault)
JoinsShards shards (Err (Memory why)) = Unit {0}
JoinsShards shards (Err (Read file)) = ⊥

-- the result of files, where their bytes are known; or a read fault; or out of memory, which is always allowed
abbrev pub FindsMerged : {F : Type 0} → (F → Held) → (F → ℕ) → (F → Option (List ℕ)) → List (List ℕ) → F → F → Result Merged MergeStop → Type 0
FindsMerged held faults last names files files' (Ok merged) = AllTold (held files) names → MergesFiles (held files) names (merged_answer merged)
FindsMerged held faults last names files files' (Err (Refused fault)) = AllTold (held files) names → MergesFiles (held files) names (line_answer 9 (fault_text names fault))
FindsMerged held faults last names files files' (Err (Memory why)) = Unit {0}
FindsMerged held faults last names files files' (Err (Read file)) = FailsToRead held faults last names files files' file
