use Rattle.std.proofs.Common.{◌≡◌, ap, ◌∙◌}
use Rattle.kr_judge_prepared.specs.Preparing.{Ready}
use Rattle.kr_mean.specs.Entries.{all_entries}
use Rattle.kr_space_problem.specs.declared.problem.Problem.{Problem}
use Rattle.kr_space_problem.specs.Posed.{posed}
use Rattle.kr_survey.specs.declared.taker.Room.TheVariants.{More}
use Rattle.kr_scan.proofs.Walking.{full_listed, listed, runs_listed}
use Rattle.kr_scan.proofs.handing.walk.Goals as goal

pub returns-in-Err-seek-clause-hands : goal.returns-in-Err-seek-clause-hands
returns-in-Err-seek-clause-hands g c = (0, More, c.requires)

pub returns-clause-hands : goal.returns-clause-hands
returns-clause-hands g c =
    let same : c.in-Ok.maker.problem ≡ c.args.survey.now.survey = ap (λ (r : Ready). r.problem) c.in-Ok.ensures ∙ c.scan.view_is in
    listed g.T.Taker.takes (g.M.Making.made_of c.args.survey.now.making) (all_entries (posed c.args.survey.now.survey)) (all_entries (posed c.in-Ok.maker.problem)) c.args.span c.of-found.result.cut c.of-found.result.upto
    c.args.taker.now c.hand_over.new.taker c.args.out.now c.hand_over.new.out c.hand_over.result (ap (λ (p : Problem). all_entries (posed p)) same) (c.of-found.ensures.cut ∙ c.in-Ok-seek.ensures.cut) c.of-found.ensures.upto c.hand_over.ensures.hands

pub returns-clause-runs : goal.returns-clause-runs
returns-clause-runs g c =
    let same : c.in-Ok.maker.problem ≡ c.args.survey.now.survey = ap (λ (r : Ready). r.problem) c.in-Ok.ensures ∙ c.scan.view_is in
    runs_listed (all_entries (posed c.args.survey.now.survey)) (all_entries (posed c.in-Ok.maker.problem)) c.args.span c.of-found.result.cut c.of-found.result.upto c.hand_over.result c.args.runs.now c.seek.new.runs c.hand_over.new.runs
    (ap (λ (p : Problem). all_entries (posed p)) same) (c.of-found.ensures.cut ∙ c.in-Ok-seek.ensures.cut) c.of-found.ensures.upto c.in-Ok-seek.ensures.runs c.hand_over.ensures.runs

pub returns-clause-full : goal.returns-clause-full
returns-clause-full g c =
    let same : c.in-Ok.maker.problem ≡ c.args.survey.now.survey = ap (λ (r : Ready). r.problem) c.in-Ok.ensures ∙ c.scan.view_is in
    full_listed g.T.Taker.takes (g.M.Making.made_of c.args.survey.now.making) (all_entries (posed c.args.survey.now.survey)) (all_entries (posed c.in-Ok.maker.problem)) c.args.span c.of-found.result.cut c.of-found.result.upto
    c.args.taker.now c.args.out.now c.hand_over.result c.args.runs.now c.seek.new.runs c.hand_over.new.runs (ap (λ (p : Problem). all_entries (posed p)) same) (c.of-found.ensures.cut ∙ c.in-Ok-seek.ensures.cut) c.of-found.ensures.upto c.in-Ok-seek.ensures.runs c.hand_over.ensures.full
