use Rattle.std.proofs.Common.{ap, ◌∙◌, length}
use Rattle.kr_ast.specs.Arena.{Arena, root}
use Rattle.kr_parse_trees.proofs.Growing.{one_root}
use Rattle.kr_parse_trees.proofs.builder.Builder.finish.Goals as goal

pub finish-requires : goal.finish-requires
finish-requires c =
    let o = c.requires.one in
    (one_root c.args.self.forest c.args.self.values o.0 o.1 o.2 c.requires.built o.3).0

pub returns : goal.returns
returns c =
    λ p f t e.
    let r = one_root c.args.self.forest c.args.self.values p f t c.requires.built e in
    (ap root c.finish.ensures ∙ r.1, ap (λ (a : Arena). length a.entries) c.finish.ensures ∙ r.2)
