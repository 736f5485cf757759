use Rattle.std.proofs.Common.{sym, ◌∙◌}
use Rattle.kr_ast.specs.Arena.{tree_in}
use Rattle.kr_code_lowering.specs.Sites.{arena_at}
use Rattle.kr_code_lowering.proofs.Performed.{no_other_statement, no_statement_does, plain_does}
use Rattle.kr_code_lowering.proofs.statements.statement_at.Goals as goal

pub returns-then-is_plain-clause-does : goal.returns-then-is_plain-clause-does
returns-then-is_plain-clause-does c = λ names.
    plain_does c.args.program.now c.requires.program c.args.site c.entry-entry.result c.entry-entry.ensures names c.args.links.now c.plain_statement.result (sym c.is_plain.ensures ∙ c.if-is_plain.true) c.plain_statement.ensures

pub returns-in-Return-clause-does : goal.returns-in-Return-clause-does
returns-in-Return-clause-does c = λ names. c.return_statement.ensures names c.args.links.now

pub returns-in_default-clause-does : goal.returns-in_default-clause-does
returns-in_default-clause-does c = λ names.
    let p = c.args.program.now in
    let s = c.args.site in
    let e = c.entry-entry.result in
    no_statement_does p c.requires.program s e c.entry-entry.ensures names c.args.links.now
    (no_other_statement (arena_at p s).text (tree_in (arena_at p s)) e.place e.node (sym c.is_plain.ensures ∙ c.if-is_plain.false) c.in_default.not-Block c.in_default.not-Try c.in_default.not-Local c.in_default.not-For c.in_default.not-Return)
