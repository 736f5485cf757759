use Rattle.kr_ast.specs.Arena.{root}
use Rattle.kr_sources.proofs.parsed.Goals as goal

pub returns-clause-shaped : goal.returns-clause-shaped
returns-clause-shaped c = c.shape_law.ensures c.args.tokens.now.list (root c.in_ok-tree.tree) c.in_ok-tree.ensures.derived
