use Rattle.std.proofs.Common.{◌≡◌, slice_index, ap, sym, ◌∙◌}
use Rattle.std.proofs.lemmas.Str.{char_from_byte}
use Rattle.kr_lex.specs.Characters.{is_start}
use Rattle.kr_lex.proofs.Fronts.{char_some, decoded_char, decoded_none, starts_iff}
use Rattle.kr_lex.proofs.piece.starts_name.Goals as goal

pub bounds-text-0 : goal.bounds-text-0
bounds-text-0 c = char_some c.args.text.now c.requires.rest c.requires.char c.requires.spelled

pub returns-then-first-lt128 : goal.returns-then-first-lt128
returns-then-first-lt128 c =
    let h = c.requires in
    let text = c.args.text.now in
    let same : h.char ≡ slice_index text 0 = char_from_byte text h.rest h.char h.spelled c.if-first-lt128.true (char_some text h.rest h.char h.spelled) in
    starts_iff text h c.is_start.result (c.is_start.ensures ∙ ap is_start (sym same))

pub returns-in-Some-default : goal.returns-in-Some-default
returns-in-Some-default c =
    let h = c.requires in
    let text = c.args.text.now in
    let same : h.char ≡ c.in-Some-default.c = decoded_char text h.rest h.char c.in-Some-default.c (sym c.decode.ensures.char ∙ c.in-Some-default.is-0) h.scalar h.spelled in
    starts_iff text h c.is_start-in-Some-default.result (c.is_start-in-Some-default.ensures ∙ ap is_start (sym same))

pub returns-in-None-default : goal.returns-in-None-default
returns-in-None-default c =
    let h = c.requires in
    absurd (decoded_none c.args.text.now h.rest h.char (sym c.decode.ensures.char ∙ c.in-None-default.is-0) h.scalar h.spelled)
