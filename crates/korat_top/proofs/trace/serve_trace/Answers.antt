use Rattle.std.proofs.Common.{ap, ◌∙◌, sym, subst, arith, inl, inr, refl, ℕ, ◌≡◌, List}
use Rattle.std.specs.Prelude.{Some, None, Result, Ok, Err, Option, IfSome, IsSome}
use Rattle.std.specs.Option.{option_map}
use Rattle.kr_args.specs.declared.forms.Command.TheVariants as commands
use Rattle.kr_report.specs.Reports.{bytes_of}
use Rattle.kr_report.specs.Texts.{memory_text, read_fault_text}
use Rattle.kr_trace.specs.Checked.{Checked, checked}
use Rattle.kr_trace.specs.Files.{checked_file}
use Rattle.korat_top.specs.Answer.{checked_answer, traced}
use Rattle.korat_top.specs.Ends.{IsGiven, seen}
use Rattle.korat_top.proofs.Calls.{writes_seen, put_answer, put_read_fault, put_memory}
use Rattle.korat_top.proofs.trace.serve_trace.Goals as goal

known : {A : Type 0} (told : Option (List ℕ)) (f : List ℕ → A) (found : A) → IsSome told → IfSome told (λ text. f text ≡ found) → option_map f told ≡ Some found
known None f found s h = absurd (cc (s))
known (Some text) f found s h = ap Some h

is_low : (found : Checked ℕ) → IsGiven (checked_answer found).status
is_low (Ok events) = inl (omega arith)
is_low (Err fault) = inr (inr refl)

no_usage : (found : Checked ℕ) → (checked_answer found).status ≡ 2 → ⊥
no_usage (Ok events) e = omega (arith, e)
no_usage (Err fault) e = omega (arith, e)

pub returns-in-Ok : goal.returns-in-Ok
returns-in-Ok g c =
    let span = c.args.span.now in
    let found = c.in-Ok.checked in
    let command = commands.Trace c.args.file.now span.after span.upto c.args.workers in
    let before = seen g.F.Files.held g.F.Files.faults g.F.Files.last g.K.Sink.taken g.K.Sink.faults c.args.files.now c.args.out.now in
    let after = seen g.F.Files.held g.F.Files.faults g.F.Files.last g.K.Sink.taken g.K.Sink.faults c.find_checked.new.files c.put_checked.new.out in
    let written = writes_seen g.F.Files.held g.F.Files.faults g.F.Files.last g.K.Sink.taken g.K.Sink.faults c.args.files.now c.find_checked.new.files c.args.out.now c.put_checked.new.out (bytes_of (checked_answer found)) c.put_checked.result c.put_checked.ensures in
    let is = rw c.as_str.ensures at c.in-Ok.ensures.found in
    put_answer before after c.once_written.result command (checked_answer found) c.put_checked.result
    (λ told. traced found (known (g.F.Files.held c.args.files.now c.args.file.now) (checked span c.args.workers) found (told c.args.file.now refl) is)) (no_usage found) (is_low found) c.in-Ok.ensures.count written
    (rw c.status_for.ensures at c.once_written.ensures)

pub returns-in-Err-Read : goal.returns-in-Err-Read
returns-in-Err-Read g c =
    let span = c.args.span.now in
    let name = c.args.file.now in
    let command = commands.Trace name span.after span.upto c.args.workers in
    let failed = rw (c.in-Err-Read.field-0-is, c.as_str.ensures) at c.in-Err-Read.ensures.found in
    let put = rw c.as_str-in-Err-Read.ensures at c.put_read_fault.ensures in
    let before = seen g.F.Files.held g.F.Files.faults g.F.Files.last g.K.Sink.taken g.K.Sink.faults c.args.files.now c.args.out.now in
    let after = seen g.F.Files.held g.F.Files.faults g.F.Files.last g.K.Sink.taken g.K.Sink.faults c.find_checked.new.files c.put_read_fault.new.out in
    let written = writes_seen g.F.Files.held g.F.Files.faults g.F.Files.last g.K.Sink.taken g.K.Sink.faults c.args.files.now c.find_checked.new.files c.args.out.now c.put_read_fault.new.out (read_fault_text name) c.put_read_fault.result put in
    put_read_fault before after c.once_written-in-Err-Read.result command name c.put_read_fault.result refl failed.0 failed.1 written c.once_written-in-Err-Read.ensures

pub returns-in-Err-Memory : goal.returns-in-Err-Memory
returns-in-Err-Memory g c =
    let span = c.args.span.now in
    let count = rw c.in-Err-Memory.field-0-is at c.in-Err-Memory.ensures.count in
    let before = seen g.F.Files.held g.F.Files.faults g.F.Files.last g.K.Sink.taken g.K.Sink.faults c.args.files.now c.args.out.now in
    let after = seen g.F.Files.held g.F.Files.faults g.F.Files.last g.K.Sink.taken g.K.Sink.faults c.find_checked.new.files c.put_out_of_memory.new.out in
    let written = writes_seen g.F.Files.held g.F.Files.faults g.F.Files.last g.K.Sink.taken g.K.Sink.faults c.args.files.now c.find_checked.new.files c.args.out.now c.put_out_of_memory.new.out memory_text c.put_out_of_memory.result c.put_out_of_memory.ensures in
    put_memory before after c.once_written-in-Err-Memory.result (Some (commands.Trace c.args.file.now span.after span.upto c.args.workers)) c.put_out_of_memory.result count written c.once_written-in-Err-Memory.ensures
