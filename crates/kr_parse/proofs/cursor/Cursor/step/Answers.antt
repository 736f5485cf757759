use Rattle.std.proofs.Common.{◌≡◌, ◌+◌, ◌<◌, true, sym, ap, ◌∙◌, arith, subst, ℕ}
use Rattle.kr_lex.specs.Lexemes.{Lexeme}
use Rattle.kr_parse.specs.Refusals.{is_opening, token_at}
use Rattle.kr_parse.specs.Steps.{IsStanding, depth_behind}
use Rattle.kr_parse.proofs.Ahead.{same_token}
use Rattle.kr_parse.proofs.Standing.{standing_next}
use Rattle.kr_parse.proofs.cursor.Cursor.step.Goals.{else-self-ge-OPEN_BRACKETS-via-then-self-ge-OPEN_BRACKETS+else-is_opening, else-self-ge-OPEN_BRACKETS-via-else-self-ge-OPEN_BRACKETS}
use Rattle.kr_parse.proofs.cursor.Cursor.step.Goals as goal

pub returns-clause-standing : goal.returns-clause-standing
returns-clause-standing c =
    let ts = c.args.tokens.now in
    let at = c.args.self.now.at in
    let same = same_token ts at c.requires.within in
    let room : is_opening (token_at ts at).kind ≡ true → c.args.self.now.depth < 64 =
    λ o. elim c.else-self-ge-OPEN_BRACKETS.branch [
      | else-self-ge-OPEN_BRACKETS-via-then-self-ge-OPEN_BRACKETS+else-is_opening w ↦ (let h = w.is_opening.ensures in let k = w.if-is_opening.false in let e = c.kind-kind.ensures in cc)
      | else-self-ge-OPEN_BRACKETS-via-else-self-ge-OPEN_BRACKETS w ↦ (let h = w.if-self-ge-OPEN_BRACKETS.false in omega arith)
    ] in
    let next = standing_next ts at c.args.self.now.depth c.args.self.now.next c.ahead-self.result c.requires.within c.requires.standing c.ahead-self.ensures room in
    let e = c.depth_behind-self.ensures ∙ ap (λ k. depth_behind k c.args.self.now.depth) (c.kind-kind.ensures ∙ ap (λ (a : Lexeme). a.kind) same) in
    subst (λ (n : ℕ). IsStanding ts (record { at = at + 1; depth = n; next = c.ahead-self.result })) (sym e) next
