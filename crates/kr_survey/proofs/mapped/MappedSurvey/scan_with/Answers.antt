use Rattle.kr_survey.proofs.Mapping.{runs_made, scan_made}
use Rattle.kr_survey.proofs.mapped.MappedSurvey.scan_with.Goals as goal

pub returns-in-Ok-clause-part : goal.returns-in-Ok-clause-part
returns-in-Ok-clause-part g c =
    scan_made (g.M.Making.made_of c.args.self.now.making) (g.S.Survey.all c.args.self.now.survey) c.args.after.now c.args.upto.now c.args.most c.in-Ok.part c.make_part.result c.in-Ok.ensures.part c.make_part.ensures

pub returns-in-Ok-clause-runs : goal.returns-in-Ok-clause-runs
returns-in-Ok-clause-runs g c = runs_made (g.M.Making.made_of c.args.self.now.making) c.in-Ok.part c.make_part.result c.args.runs.now c.scan_with.new.runs c.args.after.now c.in-Ok.ensures.runs c.make_part.ensures
