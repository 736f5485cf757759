use Rattle.std.proofs.Common.{Some, List, ℕ, inl, inr, refl, arith, []}
use Rattle.std.specs.Prelude.{slice_index_or}
use Rattle.kr_args.specs.declared.forms.Command.TheVariants as commands
use Rattle.kr_report.specs.Reports.{bytes_of, line_answer}
use Rattle.kr_report.specs.Texts.{memory_text, read_fault_text}
use Rattle.kr_shard.specs.Found.{fault_text, merged_answer}
use Rattle.korat_top.specs.Answer.{merged}
use Rattle.korat_top.specs.Ends.{seen}
use Rattle.korat_top.proofs.Calls.{writes_seen, put_answer, put_read_fault, put_memory}
use Rattle.korat_top.proofs.Sharding.{merged_low, merged_no_usage}
use Rattle.korat_top.proofs.merge.serve_merge.Goals as goal

pub returns-in-Ok : goal.returns-in-Ok
returns-in-Ok g c =
    let command = commands.Merge c.args.names.now in
    let own = c.in-Ok.merged in
    let answer = merged_answer c.in-Ok.merged in
    let before = seen g.F.Files.held g.F.Files.faults g.F.Files.last g.K.Sink.taken g.K.Sink.faults c.args.files.now c.args.out.now in
    let after = seen g.F.Files.held g.F.Files.faults g.F.Files.last g.K.Sink.taken g.K.Sink.faults c.find_merged.new.files c.put_merged.new.out in
    let written = writes_seen g.F.Files.held g.F.Files.faults g.F.Files.last g.K.Sink.taken g.K.Sink.faults c.args.files.now c.find_merged.new.files c.args.out.now c.put_merged.new.out (bytes_of answer) c.put_merged.result c.put_merged.ensures in
    put_answer before after c.once_written.result command answer c.put_merged.result
    (λ told. merged answer (c.in-Ok.ensures.found told)) (merged_no_usage own) (merged_low own) c.in-Ok.ensures.count written
    (rw c.status_of-status.ensures.status at c.once_written.ensures)

pub returns-in-Err-Read : goal.returns-in-Err-Read
returns-in-Err-Read g c =
    let command = commands.Merge c.args.names.now in
    let name : List ℕ = slice_index_or c.args.names.now c.in-Err-Read.number [] in
    let failed = rw c.in-Err-Read.field-0-is at c.in-Err-Read.ensures.found in
    let put = rw c.name_at.ensures at c.put_read_fault.ensures in
    let before = seen g.F.Files.held g.F.Files.faults g.F.Files.last g.K.Sink.taken g.K.Sink.faults c.args.files.now c.args.out.now in
    let after = seen g.F.Files.held g.F.Files.faults g.F.Files.last g.K.Sink.taken g.K.Sink.faults c.find_merged.new.files c.put_read_fault.new.out in
    let written = writes_seen g.F.Files.held g.F.Files.faults g.F.Files.last g.K.Sink.taken g.K.Sink.faults c.args.files.now c.find_merged.new.files c.args.out.now c.put_read_fault.new.out (read_fault_text name) c.put_read_fault.result put in
    put_read_fault before after c.once_written-in-Err-Read.result command name c.put_read_fault.result failed.read failed.named failed.cause written c.once_written-in-Err-Read.ensures

pub returns-in-Err-Memory : goal.returns-in-Err-Memory
returns-in-Err-Memory g c =
    let count = rw c.in-Err-Memory.field-0-is at c.in-Err-Memory.ensures.count in
    let before = seen g.F.Files.held g.F.Files.faults g.F.Files.last g.K.Sink.taken g.K.Sink.faults c.args.files.now c.args.out.now in
    let after = seen g.F.Files.held g.F.Files.faults g.F.Files.last g.K.Sink.taken g.K.Sink.faults c.find_merged.new.files c.put_out_of_memory.new.out in
    let written = writes_seen g.F.Files.held g.F.Files.faults g.F.Files.last g.K.Sink.taken g.K.Sink.faults c.args.files.now c.find_merged.new.files c.args.out.now c.put_out_of_memory.new.out memory_text c.put_out_of_memory.result c.put_out_of_memory.ensures in
    put_memory before after c.once_written-in-Err-Memory.result (Some (commands.Merge c.args.names.now)) c.put_out_of_memory.result count written c.once_written-in-Err-Memory.ensures

pub returns-in-Err-Refused : goal.returns-in-Err-Refused
returns-in-Err-Refused g c =
    let command = commands.Merge c.args.names.now in
    let text = fault_text c.args.names.now c.in-Err-Refused.fault in
    let found = rw c.in-Err-Refused.field-0-is at c.in-Err-Refused.ensures.found in
    let before = seen g.F.Files.held g.F.Files.faults g.F.Files.last g.K.Sink.taken g.K.Sink.faults c.args.files.now c.args.out.now in
    let after = seen g.F.Files.held g.F.Files.faults g.F.Files.last g.K.Sink.taken g.K.Sink.faults c.find_merged.new.files c.put_fault.new.out in
    let written = writes_seen g.F.Files.held g.F.Files.faults g.F.Files.last g.K.Sink.taken g.K.Sink.faults c.args.files.now c.find_merged.new.files c.args.out.now c.put_fault.new.out text c.put_fault.result c.put_fault.ensures in
    put_answer before after c.once_written-in-Err-Refused.result command (line_answer 9 text) c.put_fault.result
    (λ told. merged (line_answer 9 text) (found told)) (λ e. omega (arith, e)) (inr (inl refl)) (rw c.in-Err-Refused.field-0-is at c.in-Err-Refused.ensures.count) written c.once_written-in-Err-Refused.ensures
