use Rattle.std.proofs.Common.{rules, ◌<◌, length, sym, ◌∙◌, arith}
use denote.Enum.Bare.{same_true, same_false}
use Rattle.kr_parse_grammar.specs.contracts.terminal.Terminal.{the_type}
use Rattle.kr_parse.proofs.Ahead.{terminal_ahead}
use Rattle.kr_parse.proofs.cursor.Cursor.is_at.Goals as goal

pub returns-then-self-len-clause-yes : goal.returns-then-self-len-clause-yes
returns-then-self-len-clause-yes c =
    λ e.
    let l : c.args.self.at < length c.args.tokens.now.list = omega (arith, c.len.ensures) in
    let k = c.requires.next ∙ terminal_ahead c.args.tokens.now c.args.self.at l in
    (l, sym k ∙ same_true the_type (search rules) c.args.self.next c.args.terminal (sym c.eq.ensures ∙ e))

pub returns-then-self-len-clause-no : goal.returns-then-self-len-clause-no
returns-then-self-len-clause-no c =
    λ e l h.
    let k = c.requires.next ∙ terminal_ahead c.args.tokens.now c.args.self.at l in
    same_false the_type c.args.self.next c.args.terminal (sym c.eq.ensures ∙ e) (k ∙ h)
