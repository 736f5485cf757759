-- Between crates: the counts of the real files and the real output.
use Rattle.std.specs.Prelude.{◌≡◌, ◌≤◌, ℕ, List, Option, Some, Result, OnOk, IsErrOf, Vec, option_map, string_bytes}
use Rattle.std.specs.declared.alloc.Global.{Global}
use Rattle.kr_base.specs.declared.memory.NoMemory.{NoMemory}
use Rattle.kr_base.specs.Causes.{Rose}
use Rattle.kr_io.specs.declared.files.ReadRefusal.{ReadRefusal}
use Rattle.kr_io.specs.declared.files.ReadRefusal.TheVariants.{Failed, NoMemory as Lacking}
use Rattle.kr_io.specs.declared.disk.DiskFiles.{DiskFiles}
use Rattle.kr_io.specs.declared.output.StdSink.{StdSink}

abbrev pub disk_faults : {R S T : Type 0} → DiskFiles R S T → ℕ
disk_faults files = files.faults

abbrev pub disk_last : {R S T : Type 0} → DiskFiles R S T → Option (List ℕ)
disk_last files = option_map string_bytes files.last

abbrev pub output_faults : {W : Type 0} → StdSink W → ℕ
output_faults sink = sink.faults

-- a failed read is counted, and its name is the last one then; else both stay
pub record Notes (before after : ℕ) (last_before last_after : Option (List ℕ)) (name : List ℕ) (result : Result (Vec ℕ Global) ReadRefusal) : Type 0 where
  pub later : before ≤ after
  pub ok_faults : OnOk result (after ≡ before)
  pub ok_last : OnOk result (last_after ≡ last_before)
  pub memory_faults : (why : NoMemory) → IsErrOf result (Lacking why) → after ≡ before
  pub memory_last : (why : NoMemory) → IsErrOf result (Lacking why) → last_after ≡ last_before
  pub failed_last : IsErrOf result Failed → last_after ≡ Some name
  pub cause : IsErrOf result Failed → Rose before after
