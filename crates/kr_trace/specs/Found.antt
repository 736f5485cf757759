-- Between crates: what is found of a file, before anything is written.
use Rattle.std.specs.Prelude.{◌≡◌, ℕ, List, Option, Some, IfSome, Result, Ok, Err}
use Rattle.kr_base.specs.Causes.{Rose}
use Rattle.kr_base.specs.declared.span.Span.{Span}
use Rattle.kr_trace.specs.Checked.{Checked, checked}
use Rattle.kr_trace.specs.Files.{Held}
use Rattle.kr_trace.specs.declared.files.TraceStop.{TraceStop}
use Rattle.kr_trace.specs.declared.files.TraceStop.TheVariants.{Read, Memory}

-- what bytes are checked to be; or out of memory, which is always allowed
abbrev pub Tells : Checked ℕ → Result (Checked ℕ) TraceStop → Type 0
Tells wanted (Ok found) = wanted ≡ found
Tells wanted (Err Read) = ⊥
Tells wanted (Err (Memory why)) = Unit {0}

-- what the file is checked to be, where its bytes are known; or its read failed and was counted
abbrev pub FindsChecked : {F : Type 0} → (F → Held) → (F → ℕ) → (F → Option (List ℕ)) → List ℕ → Span → ℕ → F → F → Result (Checked ℕ) TraceStop → Type 0
FindsChecked held faults last name span workers files files' (Ok found) = IfSome (held files name) (λ text. checked span workers text ≡ found)
FindsChecked held faults last name span workers files files' (Err Read) = (last files' ≡ Some name) × Rose (faults files) (faults files')
FindsChecked held faults last name span workers files files' (Err (Memory why)) = Unit {0}

-- a count stays, unless a read failed
abbrev pub CountStays : {X : Type 0} → ℕ → ℕ → Result X TraceStop → Type 0
CountStays before now (Ok x) = now ≡ before
CountStays before now (Err Read) = Unit {0}
CountStays before now (Err (Memory why)) = now ≡ before
