use Rattle.kr_survey.proofs.Mapping.{ascends_by}
use Rattle.kr_survey.proofs.mapped.MappedSurvey.ascends.Goals as goal

pub returns : goal.returns
returns g c = ascends_by (g.M.Making.made_of c.args.self.now.making) (g.S.Survey.all c.args.self.now.survey) c.ascends.ensures
