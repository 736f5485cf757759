use Rattle.std.proofs.Common.{sym, ◌∙◌}
use Rattle.kr_run_lookahead.proofs.Lefts.{literal_is}
use Rattle.kr_run_lookahead.proofs.leaving.literal_at.Goals as goal

pub returns-in-Literal : goal.returns-in-Literal
returns-in-Literal c = λ d s n i f. literal_is c.args.code.now d c.args.node n c.in-Literal.value s i (sym c.in-Some.ensures ∙ c.in-Literal.is) f
