use Rattle.std.proofs.Common.{ap, ◌∙◌}
use Rattle.kr_ast.specs.Arena.{Arena, trees}
use Rattle.kr_ast.proofs.Texts.{trees-append}
use Rattle.kr_ast.proofs.forest.Forest.add_name.Goals as goal

pub returns-clause-trees : goal.returns-clause-trees
returns-clause-trees c =
    ap (λ t. trees t c.self.inside.entries.items) c.in_ok-extend_from_slice.ensures.items
    ∙ trees-append c.self.inside.text.items c.args.bytes.now c.self.inside.entries.items c.self.invariant.0.named
    ∙ ap (λ (a : Arena). trees a.text a.entries) c.self.view_is
