use Rattle.std.proofs.Common.{arith}
use Rattle.kr_ast.specs.Arena.{root}
use Rattle.korat_top_files.proofs.Small.{few_tokens}
use Rattle.korat_top_files.proofs.find.tree_of.Goals as goal

pub returns-clause-small : goal.returns-clause-small
returns-clause-small c =
    let few = few_tokens c.args.number c.args.bytes.now c.in_ok-tokens.tokens.list c.in_ok-tokens.ensures.tokens.spelled in
    omega (arith, few, c.requires.short, c.in_ok-tree.ensures.small)

pub returns-clause-shaped : goal.returns-clause-shaped
returns-clause-shaped c = c.shape_law.ensures c.in_ok-tokens.tokens.list (root c.in_ok-tree.tree) c.in_ok-tree.ensures.derived
