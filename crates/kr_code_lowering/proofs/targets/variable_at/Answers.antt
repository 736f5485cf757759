use Rattle.kr_ast.specs.Arena.{tree_in}
use Rattle.kr_types_meaning.specs.Running.{running}
use Rattle.kr_code_lowering.specs.Sites.{arena_at, scope_at}
use Rattle.kr_code_lowering.proofs.Variables.{no_target, not_written}
use Rattle.kr_code_lowering.proofs.targets.variable_at.Goals as goal

pub returns-in_default-clause-target : goal.returns-in_default-clause-target
returns-in_default-clause-target c =
    let p = c.args.program.now in
    let r = scope_at p c.args.site in
    not_written p r c.args.at c.entry-entry.result c.entry-entry.ensures c.args.names.now (no_target (running r) (arena_at p c.args.at).text (tree_in (arena_at p c.args.at)) c.entry-entry.result.place c.entry-entry.result.node c.in_default.not-Variable c.in_default.not-FieldAccess c.in_default.not-ArrayAccess)
