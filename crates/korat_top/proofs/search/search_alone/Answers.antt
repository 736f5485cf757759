use Rattle.std.proofs.Common.{Some, ap, ◌∙◌, subst}
use Rattle.kr_args.specs.declared.forms.Command.TheVariants as commands
use Rattle.kr_base.specs.Told.{Writes}
use Rattle.kr_space_problem.specs.Posed.{posed}
use Rattle.kr_report.specs.Texts.{memory_text}
use Rattle.korat_top_files.specs.Refusals.{name_of}
use Rattle.korat_top.specs.Answer.{searched_inputs}
use Rattle.korat_top.specs.Ends.{seen}
use Rattle.korat_top.proofs.Calls.{end_search, put_memory, writes_seen}
use Rattle.korat_top.proofs.Stopping.{stop_ends}
use Rattle.korat_top.proofs.search.search_alone.Goals as goal

pub returns-in-Ok-report_alone : goal.returns-in-Ok-report_alone
returns-in-Ok-report_alone g c =
    end_search g.F.Files.held g.F.Files.faults g.F.Files.last g.K.Sink.taken g.K.Sink.faults c.args.files.now c.find.new.files c.args.out.now c.report_alone.new.out c.in-Ok-report_alone.status
    c.args.search.now (posed c.in-Ok.found) c.in-Ok.ensures.found c.in-Ok.ensures.count c.in-Ok-report_alone.ensures.ends

pub returns-in-Err-report_alone : goal.returns-in-Err-report_alone
returns-in-Err-report_alone g c =
    let before = seen g.F.Files.held g.F.Files.faults g.F.Files.last g.K.Sink.taken g.K.Sink.faults c.args.files.now c.args.out.now in
    let after = seen g.F.Files.held g.F.Files.faults g.F.Files.last g.K.Sink.taken g.K.Sink.faults c.find.new.files c.put_out_of_memory.new.out in
    let put = subst (λ (old : g.row.K.Denot). Writes g.K.Sink.taken g.K.Sink.faults old c.put_out_of_memory.new.out memory_text c.put_out_of_memory.result) c.in-Err-report_alone.ensures.nothing c.put_out_of_memory.ensures in
    let written = writes_seen g.F.Files.held g.F.Files.faults g.F.Files.last g.K.Sink.taken g.K.Sink.faults c.args.files.now c.find.new.files c.args.out.now c.put_out_of_memory.new.out memory_text c.put_out_of_memory.result put in
    put_memory before after c.once_written.result (Some (commands.Search c.args.search.now)) c.put_out_of_memory.result c.in-Ok.ensures.count written c.once_written.ensures

pub returns-in-Err : goal.returns-in-Err
returns-in-Err g c =
    let inputs = searched_inputs c.args.search.now in
    let put = c.put_stop.ensures inputs (c.searched_name.ensures ∙ ap (name_of inputs) c.file_of.ensures) in
    stop_ends g.F.Files.held g.F.Files.faults g.F.Files.last g.K.Sink.taken g.K.Sink.faults (commands.Search c.args.search.now) c.args.files.now c.find.new.files
    c.args.out.now c.put_stop.new.out c.put_stop.result c.in-Err.stop c.in-Err.ensures.found c.in-Err.ensures.count put
