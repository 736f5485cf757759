use Rattle.std.proofs.Common.{◌≡◌, sym, subst}
use Rattle.kr_report.specs.Texts.{memory_text, read_fault_text}
use Rattle.korat_top_files.specs.Refusals.{line_of, name_of, refusal_of, status_of_file}
use Rattle.korat_top_files.specs.declared.refusal.Stop.{Stop}
use Rattle.korat_top.specs.Stops.{PutsText, stop_file, stop_status, stop_text}
use Rattle.korat_top.proofs.Stopping.{puts_text}
use Rattle.korat_top.proofs.stop.put_stop.Goals as goal

pub returns-in-Refused : goal.returns-in-Refused
returns-in-Refused g c = λ inputs named.
    let refusal = refusal_of c.in-Refused.refusal in
    let name = subst (λ (s : Stop). c.args.name.now ≡ name_of inputs (stop_file s)) c.in-Refused.is named in
    let put = rw name at c.put_refused.ensures in
    let ended = rw (c.status_of.ensures, c.file.ensures) at c.once_written.ensures in
    subst (λ (s : Stop). PutsText g.K.Sink.taken g.K.Sink.faults (stop_text inputs s) (stop_status s) c.args.out.now c.put_refused.new.out c.once_written.result) (sym c.in-Refused.is)
    (puts_text g.K.Sink.taken g.K.Sink.faults c.args.out.now c.put_refused.new.out (line_of inputs refusal) (status_of_file refusal.file) c.once_written.result c.put_refused.result put ended)

pub returns-in-Read : goal.returns-in-Read
returns-in-Read g c = λ inputs named.
    let name = subst (λ (s : Stop). c.args.name.now ≡ name_of inputs (stop_file s)) c.in-Read.is named in
    let put = rw name at c.put_read_fault.ensures in
    subst (λ (s : Stop). PutsText g.K.Sink.taken g.K.Sink.faults (stop_text inputs s) (stop_status s) c.args.out.now c.put_read_fault.new.out c.once_written-in-Read.result) (sym c.in-Read.is)
    (puts_text g.K.Sink.taken g.K.Sink.faults c.args.out.now c.put_read_fault.new.out (read_fault_text (name_of inputs c.in-Read.field-0)) 6 c.once_written-in-Read.result c.put_read_fault.result put c.once_written-in-Read.ensures)

pub returns-in-Memory : goal.returns-in-Memory
returns-in-Memory g c = λ inputs named.
    subst (λ (s : Stop). PutsText g.K.Sink.taken g.K.Sink.faults (stop_text inputs s) (stop_status s) c.args.out.now c.put_out_of_memory.new.out c.once_written-in-Memory.result) (sym c.in-Memory.is)
    (puts_text g.K.Sink.taken g.K.Sink.faults c.args.out.now c.put_out_of_memory.new.out memory_text 8 c.once_written-in-Memory.result c.put_out_of_memory.result c.put_out_of_memory.ensures c.once_written-in-Memory.ensures)
