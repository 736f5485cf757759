use Rattle.std.proofs.Common.{ap, ◌∙◌, ◌+◌, List, ℕ, get_or}
use Rattle.kr_code_lowering.specs.Origins.{number_of}
use Rattle.kr_code_lowering.proofs.site.Site.code_number.Goals as goal

pub returns : goal.returns
unfolding number_of
returns c = c.at.ensures ∙ ap (λ (ns : List ℕ). get_or ns (c.args.self.first + c.args.node) 0) c.requires.all
