use Rattle.std.proofs.Common.{◌≡◌, ◌≤◌, length, sym, ap, subst, ◌∙◌, false, true, arith}
use Rattle.kr_base.specs.declared.place.Place.{Place}
use Rattle.kr_lex.specs.Lexemes.{Lexeme}
use Rattle.kr_parse_grammar.specs.declared.terminal.Terminal.TheVariants.{Outside}
use Rattle.kr_parse_grammar.specs.Terminals.{terminal_of}
use Rattle.kr_parse.specs.Refusals.{IsLeastDead, token_at}
use Rattle.kr_parse.proofs.Ahead.{same_token}
use Rattle.kr_parse.proofs.Standing.{least_inside, least_outside, least_end}
use Rattle.kr_parse.proofs.cursor.dead.Goals as goal

pub returns-then-at-len : goal.returns-then-at-len
returns-then-at-len c =
    let l : length c.args.tokens.now.list ≤ c.args.at = omega (arith, c.len.ensures) in
    let h = least_end c.args.tokens.now c.args.at c.requires l in
    subst (λ (p : Place). IsLeastDead c.args.tokens.now p false) (sym c.end.ensures) h

pub returns-in-Outside : goal.returns-in-Outside
returns-in-Outside c =
    let same = same_token c.args.tokens.now c.args.at (omega (arith, c.len.ensures)) in
    let e : terminal_of (token_at c.args.tokens.now c.args.at).kind ≡ Outside =
    sym (ap (λ (a : Lexeme). terminal_of a.kind) same) ∙ sym (ap terminal_of c.kind.ensures) ∙ sym c.terminal_of.ensures ∙ c.in-Outside.is in
    let p = c.place.ensures ∙ ap (λ (a : Lexeme). a.place) same in
    subst (λ (p : Place). IsLeastDead c.args.tokens.now p true) (sym p) (least_outside c.args.tokens.now c.args.at c.requires e)

pub returns-in_default : goal.returns-in_default
returns-in_default c =
    let same = same_token c.args.tokens.now c.args.at (omega (arith, c.len.ensures)) in
    let e = c.terminal_of.ensures ∙ ap terminal_of c.kind.ensures ∙ ap (λ (a : Lexeme). terminal_of a.kind) same in
    let p = c.place-in_default.ensures ∙ ap (λ (a : Lexeme). a.place) same in
    subst (λ (p : Place). IsLeastDead c.args.tokens.now p false) (sym p)
    (least_inside c.args.tokens.now c.args.at c.requires (λ k. c.in_default.not-Outside (e ∙ k)))
