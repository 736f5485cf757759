use Rattle.std.proofs.Common.{◌∙◌, ap}
use Rattle.kr_types_meaning.specs.Rules.{ask, fine}
use Rattle.kr_types_judging.proofs.throws.throw_rule.Goals as goal

pub returns-clause-within : goal.returns-clause-within
returns-clause-within c = c.fine_if.ensures.within c.args.classes.now.types.now

pub returns-clause-says : goal.returns-clause-says
returns-clause-says c = λ s e. c.fine_if.ensures.says c.args.classes.now.types.now ∙ ap (λ b. ask b 41 fine) (c.may_be_thrown.ensures s e)
