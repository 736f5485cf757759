use Rattle.std.proofs.Common.{◌∙◌, ap}
use Rattle.kr_types_meaning.specs.Rules.{ask, fine}
use Rattle.kr_types_meaning.specs.Scopes.{super_parameters}
use Rattle.kr_types_expressions.proofs.Single.{nothing_fits}
use Rattle.kr_types_expressions.proofs.creations.implied_rule.Goals as goal

pub returns-clause-within : goal.returns-clause-within
returns-clause-within c = c.fine_if.ensures.within c.args.classes.now.types.now

pub returns-clause-says : goal.returns-clause-says
returns-clause-says c = λ s e single k. c.fine_if.ensures.says c.args.classes.now.types.now ∙ ap (λ b. ask b 34 fine) (c.fits_above-fits.ensures s e single k ∙ nothing_fits s (super_parameters s))
