use Rattle.std.proofs.Common.{sym, ap, ◌∙◌}
use Rattle.std.proofs.lemmas.Slice.Eq.{bytes_eq-Decides}
use Rattle.kr_lex.specs.Lexemes.{Lexeme}
use Rattle.kr_parse.proofs.Ahead.{same_token}
use Rattle.kr_parse.proofs.cursor.Cursor.is_spelled.Goals as goal

pub returns-then-is_at-clause-yes : goal.returns-then-is_at-clause-yes
returns-then-is_at-clause-yes c =
    λ e.
    let h = c.is_at.ensures.yes c.if-is_at.true in
    let same = same_token c.args.tokens.now c.args.self.at h.0 in
    let text = (bytes_eq-Decides c.text.result.now c.spelling.result.now).0 (sym c.eq.ensures ∙ e) in
    (h.0, (h.1, sym (c.text.ensures ∙ ap (λ (a : Lexeme). a.text) same) ∙ text ∙ c.spelling.ensures))
