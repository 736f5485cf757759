use Rattle.std.proofs.Common.{sym, subst}
use Rattle.kr_fin.proofs.Ordered.{none_ascend}
use Rattle.kr_fin.specs.Ascending.{AreDomains}
use Rattle.kr_fin.proofs.reading.domains_in.Goals as goal

pub returns-in-None-clause-ordered : goal.returns-in-None-clause-ordered
returns-in-None-clause-ordered c = subst AreDomains (sym c.new.ensures) none_ascend
