use Rattle.std.proofs.Common.{sym, ◌∙◌}
use Rattle.kr_ast.specs.Arena.{tree_in}
use Rattle.kr_code_lowering.specs.Sites.{arena_at}
use Rattle.kr_code_lowering.proofs.Growth.{grown_none}
use Rattle.kr_code_lowering.proofs.Noded.{catch_node, declarator_node, expression_node, statement_node}
use Rattle.kr_code_lowering.proofs.nodes.node_at.Goals as goal

pub returns-in_ok-declarator-in-Declarator-clause-resolves : goal.returns-in_ok-declarator-in-Declarator-clause-resolves
returns-in_ok-declarator-in-Declarator-clause-resolves c =
    declarator_node c.args.program.now c.requires.program c.args.arrays.now c.args.site c.entry-entry.result c.entry-entry.ensures c.args.names.now c.args.links.now c.in_ok-declarator-in-Declarator.declarator c.in-Declarator.name c.in-Declarator.initial c.in-Declarator.is c.in_ok-declarator-in-Declarator.ensures

pub returns-in-Catch-clause-resolves : goal.returns-in-Catch-clause-resolves
returns-in-Catch-clause-resolves c =
    catch_node c.args.program.now c.requires.program c.args.arrays.now c.args.site c.entry-entry.result c.entry-entry.ensures c.args.names.now c.args.links.now c.catch_at.result c.in-Catch.declared c.in-Catch.body c.in-Catch.is c.catch_at.ensures

pub returns-in_ok-statement_at-in_default : goal.returns-in_ok-statement_at-in_default
returns-in_ok-statement_at-in_default c =
    let p = c.args.program.now in
    let s = c.args.site in
    let e = c.entry-entry.result in
    let none = sym (c.is_no_expression.ensures (arena_at p s).text (tree_in (arena_at p s)) e.place) ∙ c.if-is_no_expression.true in
    record {
      names = grown_none c.args.names.now;
      links = c.in_ok-statement_at-in_default.ensures.grown;
      resolves = statement_node p c.requires.program c.args.arrays.now s e c.entry-entry.ensures c.args.names.now c.statement_at.new.links c.in_ok-statement_at-in_default.field-0 none c.in_default.not-Declarator c.in_default.not-Catch (c.in_ok-statement_at-in_default.ensures.does c.args.names.now);
    }

pub returns-in_ok-expression_at-in_default : goal.returns-in_ok-expression_at-in_default
returns-in_ok-expression_at-in_default c =
    let p = c.args.program.now in
    let s = c.args.site in
    let e = c.entry-entry.result in
    let some = sym (c.is_no_expression.ensures (arena_at p s).text (tree_in (arena_at p s)) e.place) ∙ c.if-is_no_expression.false in
    record {
      names = c.in_ok-expression_at-in_default.ensures.names;
      links = c.in_ok-expression_at-in_default.ensures.links;
      resolves = expression_node p c.requires.program c.args.arrays.now s e c.entry-entry.ensures c.expression_at.new.names c.expression_at.new.links c.in_ok-expression_at-in_default.field-0 some c.in_default.not-Declarator c.in_default.not-Catch c.in_ok-expression_at-in_default.ensures.resolves;
    }
