use Rattle.std.proofs.Common.{take, arith}
use Rattle.std.proofs.lemmas.List.{length-take-le}
use Rattle.std.proofs.lemmas.Bool.{both_ways}
use Rattle.kr_lex.specs.Spells.{anywhere}
use Rattle.kr_lex.proofs.Numbers.{long_some}
use Rattle.kr_lex.proofs.Longest.{number_longest, long_longest, number_bad}
use Rattle.kr_lex.proofs.piece.number.Goals as goal

pub returns-then-is_number : goal.returns-then-is_number
returns-then-is_number c =
    let text = c.args.text.now in
    let n = c.word_len-len.result in
    let w = c.word_len-len.ensures in
    let h = c.is_number.ensures.0 c.if-is_number.true in
    (omega (arith, h.some, length-take-le n text w.within), w.within, anywhere (number_longest text n w c.requires h))

pub returns-then-is_long_number : goal.returns-then-is_long_number
returns-then-is_long_number c =
    let text = c.args.text.now in
    let n = c.word_len-len.result in
    let w = c.word_len-len.ensures in
    let h = c.is_long_number.ensures.0 c.if-is_long_number.true in
    (omega (arith, long_some (take n text) h, length-take-le n text w.within), w.within, anywhere (long_longest text n w c.requires h))

pub returns-else-is_long_number : goal.returns-else-is_long_number
returns-else-is_long_number c =
    number_bad c.args.text.now c.word_len-len.result c.word_len-len.ensures c.requires (λ h. both_ways c.is_number.result c.if-is_number.false (c.is_number.ensures.1 h))
    (λ h. both_ways c.is_long_number.result c.if-is_long_number.false (c.is_long_number.ensures.1 h))
