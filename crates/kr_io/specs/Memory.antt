-- Between crates: the state and the counts of files and sinks in memory.
use Rattle.std.specs.Prelude.{◌≡◌, ℕ, ◌+◌, ◌-◌, ◌^◌, ◌==◌, min, length, List, Bool, not, ◌||◌, ◌&&◌, Option, option_map, string_bytes}
use Rattle.std.specs.List.{list_any}
use Rattle.std.specs.Option.{is_none}
use Rattle.kr_io.specs.declared.memory.MemFiles.{MemFiles}
use Rattle.kr_io.specs.declared.sinks.MemSink.{MemSink}
use Rattle.kr_io.specs.Held.{held_by}

-- the number of the next call; it stops at 2^32 - 1
abbrev pub next_call : ℕ → ℕ
next_call calls = min (calls + 1) (2 ^ 32 - 1)

-- whether the next call is listed
abbrev pub is_next_listed : List ℕ → ℕ → Bool
is_next_listed failing calls = list_any (λ number. number == next_call calls) failing

abbrev pub files_held : MemFiles → List ℕ → Option (List ℕ)
files_held files name = held_by files.files.items name

abbrev pub files_faults : MemFiles → ℕ
files_faults files = files.faults

abbrev pub files_last : MemFiles → Option (List ℕ)
files_last files = option_map string_bytes files.last

-- the numbers of the calls that fail
abbrev pub files_failing : MemFiles → List ℕ
files_failing files = files.failing.items

abbrev pub files_calls : MemFiles → ℕ
files_calls files = files.calls

-- whether the next read of this name fails: its number is listed, or no file has the name
abbrev pub read_fails : MemFiles → List ℕ → Bool
read_fails files name = is_next_listed (files_failing files) (files_calls files) || is_none (files_held files name)

abbrev pub sink_bytes : MemSink → List ℕ
sink_bytes sink = sink.bytes.items

abbrev pub sink_faults : MemSink → ℕ
sink_faults sink = sink.faults

abbrev pub sink_capacity : MemSink → ℕ
sink_capacity sink = sink.capacity

abbrev pub sink_step : MemSink → ℕ
sink_step sink = sink.step

-- the numbers of the calls that fail
abbrev pub sink_failing : MemSink → List ℕ
sink_failing sink = sink.failing.items

abbrev pub sink_calls : MemSink → ℕ
sink_calls sink = sink.calls

-- the capacity in bytes
abbrev pub sink_room : MemSink → ℕ
sink_room sink = sink_capacity sink - length (sink_bytes sink)

-- whether the next put of this piece fails: its number is listed, or the sink is full and the piece isn't empty
abbrev pub put_fails : MemSink → List ℕ → Bool
put_fails sink piece = is_next_listed (sink_failing sink) (sink_calls sink) || (sink_room sink == 0 && not (length piece == 0))

-- a put keeps the sink's parameters
pub record IsMadeAlike (old new : MemSink) : Type 0 where
  pub capacity : sink_capacity new ≡ sink_capacity old
  pub step : sink_step new ≡ sink_step old
  pub failing : sink_failing new ≡ sink_failing old
