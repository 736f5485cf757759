use Rattle.std.proofs.Common.{◌≡◌, ◌-◌, drop, ap, sym, ◌∙◌, arith}
use Rattle.std.proofs.lemmas.List.{take_rest, drop-drop}
use Rattle.kr_lex.specs.ContractLines.{has_block}
use Rattle.kr_lex.proofs.lexer.clear_from.Goals as goal

pub returns-in-Some-clause-clear : goal.returns-in-Some-clause-clear
returns-in-Some-clause-clear c k l m =
    let bytes = c.args.bytes.now in
    let at = c.args.progress.cursor.at in
    let found = rw (take_rest bytes at) at c.in-Some.ensures.found in
    let e : drop (k - at) (drop at bytes) ≡ drop k bytes = drop-drop (k - at) at bytes ∙ ap (λ j. drop j bytes) (omega (arith, l)) in
    ap has_block (sym e) ∙ found (k - at) (omega (arith, l, m))
