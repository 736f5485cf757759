use Rattle.std.proofs.Common.{List, ℕ, [], ap, ◌∙◌, arith, inl, string_bytes, subst}
use Rattle.std.specs.Prelude.{Err}
use Rattle.kr_args.specs.declared.forms.Command.TheVariants as commands
use Rattle.kr_report.specs.Reports.{line_answer}
use Rattle.korat_top_files.specs.Refusals.{files_of, name_of}
use Rattle.korat_top_files.specs.Upgrades.{FindsUpgrade}
use Rattle.korat_top.specs.Answer.{upgraded}
use Rattle.korat_top.specs.Ends.{seen}
use Rattle.korat_top.proofs.Answered.{upgrade_found}
use Rattle.korat_top.proofs.Calls.{put_answer, writes_seen}
use Rattle.korat_top.proofs.Stopping.{stop_ends}
use Rattle.korat_top.proofs.upgrade.serve_upgrade.Goals as goal

pub returns-in-Ok : goal.returns-in-Ok
returns-in-Ok g c =
    let held = g.F.Files.held in
    let fin = c.args.fin.now in
    let command = commands.Upgrade fin in
    let text = string_bytes c.in-Ok.text in
    let before = seen held g.F.Files.faults g.F.Files.last g.K.Sink.taken g.K.Sink.faults c.args.files.now c.args.out.now in
    let after = seen held g.F.Files.faults g.F.Files.last g.K.Sink.taken g.K.Sink.faults c.find_upgrade.new.files c.put_all.new.out in
    let found = rw c.as_str.ensures at c.in-Ok.ensures.found in
    let put = rw c.as_bytes.ensures.value at c.put_all.ensures in
    let written = writes_seen held g.F.Files.faults g.F.Files.last g.K.Sink.taken g.K.Sink.faults c.args.files.now c.find_upgrade.new.files c.args.out.now c.put_all.new.out text c.put_all.result put in
    put_answer before after c.once_written.result command (line_answer 0 text) c.put_all.result
    (λ told. upgraded text (found told)) (λ e. omega (arith, e)) (inl (omega arith)) c.in-Ok.ensures.count written c.once_written.ensures

pub returns-in-Err : goal.returns-in-Err
returns-in-Err g c =
    let held = g.F.Files.held in
    let faults = g.F.Files.faults in
    let last = g.F.Files.last in
    let fin = c.args.fin.now in
    let found = upgrade_found held faults last fin c.args.files.now c.find_upgrade.new.files c.in-Err.stop
    (subst (λ (name : List ℕ). FindsUpgrade held faults last name c.args.files.now c.find_upgrade.new.files (Err c.in-Err.stop)) c.as_str.ensures c.in-Err.ensures.found) in
    let inputs = files_of fin [] in
    let put = c.put_stop.ensures inputs (c.alone_name.ensures ∙ ap (name_of inputs) c.file_of.ensures) in
    stop_ends held faults last g.K.Sink.taken g.K.Sink.faults (commands.Upgrade fin) c.args.files.now c.find_upgrade.new.files
    c.args.out.now c.put_stop.new.out c.put_stop.result c.in-Err.stop found c.in-Err.ensures.count put
