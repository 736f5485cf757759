use Rattle.std.proofs.Common.{◌≡◌, ◌+◌, length, drop, ap, refl, sym, ◌∙◌, arith}
use Rattle.std.proofs.lemmas.List.{take_rest, drop-drop}
use Rattle.std.proofs.lemmas.Bool.{both_ways}
use Rattle.kr_lex.specs.ContractLines.{contract_spelling, code_of, last_solid}
use Rattle.kr_lex.proofs.Lines.{none_without_word, none_unclosed, head_there}
use Rattle.kr_lex.proofs.contract.contract_head.Goals as goal

pub returns-in-None-clause-none : goal.returns-in-None-clause-none
returns-in-None-clause-none c =
    let text = c.args.text.now in
    let n = c.blank_len-word.result in
    let behind : drop (3 + n) text ≡ drop n (drop 3 text) = sym (drop-drop n 3 text) in
    none_without_word text n (rw (take_rest text 3) at c.blank_len-word.ensures) (rw (take_rest text (3 + n), behind) at c.in-None.ensures.none)

pub returns-then-is_closed-clause-found : goal.returns-then-is_closed-clause-found
returns-then-is_closed-clause-found c =
    let text = c.args.text.now in
    let n = c.blank_len-word.result in
    let kind = c.in-Some.kind in
    let end = 3 + n + length c.contract_spelling.result.now in
    let behind : drop (3 + n) text ≡ drop n (drop 3 text) = sym (drop-drop n 3 text) in
    head_there text n (rw (take_rest text 3) at c.blank_len-word.ensures) kind (3 + n) end c.requires.begins c.requires.clear
    (rw (take_rest text (3 + n), behind) at c.in-Some.ensures.found) refl (ap (λ s. 3 + n + length s) c.contract_spelling.ensures)
    (ap (λ t. last_solid 0 (code_of t)) (sym (take_rest text end)) ∙ c.is_closed.ensures.0 c.if-is_closed.true)

pub returns-else-is_closed-clause-none : goal.returns-else-is_closed-clause-none
returns-else-is_closed-clause-none c =
    let text = c.args.text.now in
    let n = c.blank_len-word.result in
    let kind = c.in-Some.kind in
    let end = 3 + n + length c.contract_spelling.result.now in
    let len = length (contract_spelling kind) in
    let behind : drop (3 + n) text ≡ drop n (drop 3 text) = sym (drop-drop n 3 text) in
    let rest : drop len (drop n (drop 3 text)) ≡ drop end text =
    drop-drop len n (drop 3 text) ∙ (drop-drop (n + len) 3 text ∙ ap (λ k. drop k text) (omega (arith, ap length c.contract_spelling.ensures))) in
    none_unclosed text n (rw (take_rest text 3) at c.blank_len-word.ensures) kind (rw (take_rest text (3 + n), behind) at c.in-Some.ensures.found)
    (λ z. both_ways c.is_closed.result c.if-is_closed.false (c.is_closed.ensures.1 (ap (λ t. last_solid 0 (code_of t)) (take_rest text end ∙ sym rest) ∙ z)))
