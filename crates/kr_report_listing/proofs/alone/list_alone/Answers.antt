use Rattle.std.proofs.Common.{ap, ◌∙◌}
use Rattle.kr_space_layout.specs.declared.layout.Layout.{Layout}
use Rattle.kr_space_problem.specs.Posed.{posed}
use Rattle.kr_report_listing.proofs.Listings.{ends_listed, lines_in}
use Rattle.kr_report_listing.proofs.Searched.{late, runs_listed}
use Rattle.kr_report_streaming.proofs.Fresh.{fresh_writer}
use Rattle.kr_report_listing.proofs.alone.list_alone.Goals as goal

pub walk-put-requires : goal.walk-put-requires
walk-put-requires g c = let w = c.new-writer.ensures in fresh_writer g.K.Sink.taken g.K.Sink.faults c.new-writer.result c.args.out.now w.valid w.failing w.last

pub returns-clause-ends : goal.returns-clause-ends
returns-clause-ends g c =
    let lines = c.lines_of-lines.result in
    let is = c.lines_of-lines.ensures in
    let w = c.new-writer.result in
    ends_listed g.K.Sink.taken g.K.Sink.faults (posed c.args.prepared.now.problem) (posed lines.making) (posed lines.survey) c.args.limit w.limit c.args.span c.mode-mode.result.now c.args.out.now c.close.new.out c.close.result (ap posed is.making)
    (ap posed is.survey) (c.mode-mode.ensures ∙ ap (λ (l : Layout). l.mode) c.layout.ensures.same) c.new-writer.ensures.limit c.lines_law.ensures
    (c.close.ensures.ends w c.args.out.now (lines_in (posed lines.making) (posed lines.survey) c.args.span) c.walk-put.ensures.hands)

pub returns-clause-runs : goal.returns-clause-runs
returns-clause-runs g c = λ few.
    let taken = g.K.Sink.taken in
    let faults = g.K.Sink.faults in
    let lines = c.lines_of-lines.result in
    let w = c.new-writer.result in
    let u = c.walk-put.new.taker in
    let es = lines_in (posed lines.making) (posed lines.survey) c.args.span in
    let behind = late taken faults c.mode-mode.result.now es w u c.args.out.now c.walk-put.new.out c.close.new.out c.walk-put.result c.close.result c.walk-put.ensures.hands c.close.ensures.halted in
    runs_listed taken faults (posed c.args.prepared.now.problem) (posed lines.making) (posed lines.survey) c.args.limit c.args.span w u c.args.out.now c.walk-put.new.out c.walk-put.result c.args.runs.now c.walk-put.new.runs c.close.result
    (ap posed c.lines_of-lines.ensures.survey) c.new-writer.ensures.limit behind few c.walk-put.ensures.hands c.walk-put.ensures.runs c.walk-put.ensures.full
