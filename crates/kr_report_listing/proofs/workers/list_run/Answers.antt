use Rattle.std.proofs.Common.{◌≡◌, List, ap, refl, ◌∙◌, sym, subst}
use Rattle.std.specs.Prelude.{Some}
use Rattle.kr_core.specs.declared.event.Event.{Event}
use Rattle.kr_mean.specs.Entries.{all_entries}
use Rattle.kr_mean.specs.Problem.{Problem}
use Rattle.kr_pool.proofs.Handed.{logged_ends}
use Rattle.kr_report.specs.Endings.{EndsListing}
use Rattle.kr_space_layout.specs.declared.layout.Layout.{Layout}
use Rattle.kr_space_problem.specs.Posed.{posed}
use Rattle.kr_survey.specs.Mapping.{entries_by}
use Rattle.kr_report_listing.proofs.Listings.{lines_in}
use Rattle.kr_report_listing.proofs.Logs.{breaks_off, ends_logged}
use Rattle.kr_report_streaming.specs.Followed.{followed_by}
use Rattle.kr_report_streaming.specs.Lines.{entries_answer, line_of}
use Rattle.kr_report_streaming.specs.Traces.{trace_text}
use Rattle.kr_report_streaming.specs.Writers.{WritesLines}
use Rattle.kr_report_streaming.proofs.Fresh.{fresh_writer}
use Rattle.kr_report_listing.proofs.workers.list_run.Goals as goal

pub share_run-requires-clause-fresh : goal.share_run-requires-clause-fresh
share_run-requires-clause-fresh g c κs within = let w = c.new-writer.ensures in fresh_writer g.K.Sink.taken g.K.Sink.faults c.new-writer.result c.args.out.now w.valid w.failing w.last

pub share_run-requires-clause-survey : goal.share_run-requires-clause-survey
share_run-requires-clause-survey g c κs within =
    let is = c.lines_of-lines.ensures in
    let P = posed c.args.prepared.now.problem in
    ap (λ (X : Problem). entries_by (line_of X) (all_entries (posed c.lines_of-lines.result.survey))) (ap posed is.making)
    ∙ (ap (λ (X : Problem). entries_by (line_of P) (all_entries X)) (ap posed is.survey) ∙ sym c.requires.run.all_is)

pub share_run-requires-clause-limit : goal.share_run-requires-clause-limit
share_run-requires-clause-limit g c κs within = c.requires.run.wanted_is ∙ ap Some (sym c.new-writer.ensures.limit)

pub share_run-requires-clause-span : goal.share_run-requires-clause-span
share_run-requires-clause-span g c κs within = sym c.requires.run.span_is

pub share_run-requires-clause-cuts : goal.share_run-requires-clause-cuts
share_run-requires-clause-cuts g c κs within = sym c.requires.run.cuts_are

pub returns-in-Ok : goal.returns-in-Ok
returns-in-Ok g c =
    let taken = g.K.Sink.taken in
    let faults = g.K.Sink.faults in
    let run = c.requires.run in
    let P = posed c.args.prepared.now.problem in
    let w = c.new-writer.result in
    let mode = c.mode-mode.ensures ∙ ap (λ (l : Layout). l.mode) c.layout.ensures.same in
    let all = lines_in P P c.args.span in
    let shares = rw (run.all_is, run.span_is, c.requires.parts.1) at c.in-Ok.ensures.shares in
    let log = rw (run.all_is, run.span_is, run.cuts_are, run.wanted_is, c.requires.parts.1) at c.in-Ok.ensures.log in
    let window = rw (run.span_is, run.cuts_are, run.kept_is) at c.in-Ok.ensures.window in
    let ends = logged_ends (WritesLines taken faults) all c.args.workers c.in-Ok.log w c.args.out.now c.share_run.new.taker c.share_run.new.out c.in-Ok.end shares in
    let put = subst (λ (l : List Event). EndsListing taken faults (followed_by (trace_text l) (entries_answer c.mode-mode.result.now w.limit all)) c.args.out.now c.close.new.out c.close.result) c.events.ensures
    (c.close.ensures.ends w c.args.out.now all ends) in
    ends_logged taken faults P P P c.args.limit c.args.span c.args.workers c.args.window c.mode-mode.result.now w c.share_run.new.taker c.args.out.now c.share_run.new.out refl refl mode c.new-writer.ensures.limit c.lines_law.ensures
    c.in-Ok.end c.in-Ok.log c.close.new.out c.close.result shares log window put

pub returns-in-Err : goal.returns-in-Err
returns-in-Err g c =
    let taken = g.K.Sink.taken in
    let faults = g.K.Sink.faults in
    let run = c.requires.run in
    let P = posed c.args.prepared.now.problem in
    let w = c.new-writer.result in
    let mode = c.mode-mode.ensures ∙ ap (λ (l : Layout). l.mode) c.layout.ensures.same in
    let all = lines_in P P c.args.span in
    let shares = rw (run.all_is, run.span_is) at c.in-Err.ensures.shares in
    breaks_off taken faults P P P c.args.limit c.args.span c.args.workers c.args.window c.mode-mode.result.now w c.share_run.new.taker c.args.out.now c.share_run.new.out refl refl mode c.new-writer.ensures.limit c.lines_law.ensures
    c.close-in-Err.new.out c.close-in-Err.result (c.close-in-Err.ensures.halted w c.args.out.now all shares)
