use Rattle.std.proofs.Common.{sym, ◌∙◌}
use Rattle.kr_space.proofs.Named.{given_none, given_some}
use Rattle.kr_space.proofs.keys.is_absent.Goals as goal

pub returns-in-None : goal.returns-in-None
returns-in-None c = given_none c.args.domains.now c.args.index.now c.args.key.now c.requires (sym c.find.ensures ∙ c.in-None.is)

pub returns-in-Some : goal.returns-in-Some
returns-in-Some c = given_some c.args.domains.now c.args.index.now c.args.key.now _ c.requires (sym c.find.ensures ∙ c.in-Some.is)
