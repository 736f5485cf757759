use Rattle.std.proofs.Common.{List, ℕ, ap, refl, ◌∙◌, Some, subst}
use Rattle.std.specs.Prelude.{Ok, Err}
use Rattle.kr_args.specs.declared.forms.Command.TheVariants as commands
use Rattle.kr_mean.specs.declared.mode.Mode.TheVariants.{List as Listing}
use Rattle.kr_space_problem.specs.Posed.{posed}
use Rattle.korat_top_files.specs.Found.{FindsIn}
use Rattle.korat_top_files.specs.Refusals.{files_of, name_of}
use Rattle.korat_top_reports.specs.Reports.{counts_of}
use Rattle.korat_top.specs.Answer.{counted}
use Rattle.korat_top.proofs.Answered.{check_found}
use Rattle.korat_top.proofs.Calls.{end_listing, line_front}
use Rattle.korat_top.proofs.Stopping.{stop_ends}
use Rattle.korat_top.proofs.check.serve_check.Goals as goal

pub returns-in-Ok : goal.returns-in-Ok
returns-in-Ok g c =
    let held = g.F.Files.held in
    let faults = g.F.Files.faults in
    let last = g.F.Files.last in
    let fin = c.args.fin.now in
    let sources = c.args.sources.now in
    let problem = posed c.in-Ok.found in
    let files = c.args.files.now in
    let read = subst (λ (name : List ℕ). FindsIn held faults last Listing (files_of name sources) files c.find_files.new.files (Ok c.in-Ok.found)) c.as_str.ensures c.in-Ok.ensures.found in
    let found = check_found held faults last fin sources files c.find_files.new.files (Ok c.in-Ok.found) read in
    end_listing held faults last g.K.Sink.taken g.K.Sink.faults files c.find_files.new.files c.args.out.now c.count.new.out c.count.result
    (commands.Check fin sources) (counts_of problem) (λ told. counted problem (found told)) (λ told n. line_front (held files) (Some (commands.Check fin sources)) (counts_of problem) n refl) c.in-Ok.ensures.count c.count.ensures

pub returns-in-Err : goal.returns-in-Err
returns-in-Err g c =
    let held = g.F.Files.held in
    let faults = g.F.Files.faults in
    let last = g.F.Files.last in
    let fin = c.args.fin.now in
    let sources = c.args.sources.now in
    let inputs = files_of fin sources in
    let read = subst (λ (name : List ℕ). FindsIn held faults last Listing (files_of name sources) c.args.files.now c.find_files.new.files (Err c.in-Err.stop)) c.as_str.ensures c.in-Err.ensures.found in
    let found = check_found held faults last fin sources c.args.files.now c.find_files.new.files (Err c.in-Err.stop) read in
    let put = c.put_stop.ensures inputs (c.file_name.ensures ∙ ap (name_of inputs) c.file_of.ensures) in
    stop_ends held faults last g.K.Sink.taken g.K.Sink.faults (commands.Check fin sources) c.args.files.now c.find_files.new.files
    c.args.out.now c.put_stop.new.out c.put_stop.result c.in-Err.stop found c.in-Err.ensures.count put
