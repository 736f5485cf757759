use Rattle.std.proofs.Common.{◌≡◌, sym, subst, Option, Some}
use Rattle.kr_args.specs.declared.forms.Command.{Command}
use Rattle.kr_args.specs.declared.forms.Command.TheVariants as commands
use Rattle.korat_top.specs.Answer.{asked_of}
use Rattle.korat_top.specs.Ends.{EndsFor, seen}
use Rattle.korat_top.proofs.Calls.{complete}
use Rattle.korat_top.proofs.top.run.Goals as goal

pub returns-in-Shared : goal.returns-in-Shared
returns-in-Shared g c =
    let words = c.args.words.now in
    let status = c.run_shared.result in
    let left = c.in-Shared.ensures.left in
    let see = seen g.F.Files.held g.F.Files.faults g.F.Files.last g.K.Sink.taken g.K.Sink.faults in
    let before = see c.args.files.now c.args.out.now in
    let after = see c.run_shared.new.files c.run_shared.new.out in
    let read = subst (λ (files : g.row.F.Denot). EndsFor (Some (commands.Search c.in-Shared.search)) (see files c.run_alone.new.out) after status) left.2 c.run_shared.ensures in
    let written = subst (λ (out : g.row.K.Denot). EndsFor (Some (commands.Search c.in-Shared.search)) (see c.args.files.now out) after status) left.3 read in
    let ends = subst (λ (a : Option Command). EndsFor a before after status) (sym left.0) written in
    record { headline = ends; complete = complete (asked_of words) before after status ends }
