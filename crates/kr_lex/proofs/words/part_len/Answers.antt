use Rattle.std.proofs.Common.{◌≡◌, ◌<◌, length, sym, ◌∙◌, Some}
use Rattle.bstr.specs.Utf8.{decoded}
use Rattle.kr_lex.proofs.Fronts.{length_none, length_some, part_len_some, part_len_none, part_len_empty, no_part_ascii, part_decoded, no_part_decoded, no_part_none}
use Rattle.kr_lex.proofs.words.part_len.Goals as goal

pub returns-then-is_empty : goal.returns-then-is_empty
returns-then-is_empty c = part_len_empty c.args.text.now (length_none (length c.args.text.now) c.is_empty.result c.is_empty.ensures c.if-is_empty.true)

pub returns-else-is_part : goal.returns-else-is_part
returns-else-is_part c =
    let l : 0 < length c.args.text.now = length_some (length c.args.text.now) c.is_empty.result c.is_empty.ensures c.if-is_empty.false in
    part_len_none c.args.text.now (no_part_ascii c.args.text.now l c.if-first-lt128.true (sym c.is_part.ensures ∙ c.if-is_part.false))

pub returns-then-is_part-2 : goal.returns-then-is_part-2
returns-then-is_part-2 c =
    let e : (decoded c.args.text.now).char ≡ Some c.in-Some-default.c = sym c.decode.ensures.char ∙ c.in-Some-default.is-0 in
    rw c.decode.ensures.size (part_len_some c.args.text.now _ (part_decoded c.args.text.now c.in-Some-default.c e (sym c.is_part-in-Some-default.ensures ∙ c.if-is_part-2.true)))

pub returns-else-is_part-2 : goal.returns-else-is_part-2
returns-else-is_part-2 c =
    let e : (decoded c.args.text.now).char ≡ Some c.in-Some-default.c = sym c.decode.ensures.char ∙ c.in-Some-default.is-0 in
    part_len_none c.args.text.now (no_part_decoded c.args.text.now c.in-Some-default.c e (sym c.is_part-in-Some-default.ensures ∙ c.if-is_part-2.false))

pub returns-in-None-default : goal.returns-in-None-default
returns-in-None-default c = part_len_none c.args.text.now (no_part_none c.args.text.now (sym c.decode.ensures.char ∙ c.in-None-default.is-0))
