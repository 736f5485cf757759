use Rattle.std.proofs.Common.{◌≡◌, ◌<◌, [], ◌∷◌, length, slice_index, take, sym, ◌∙◌, arith}
use Rattle.std.proofs.lemmas.List.{take_more}
use Rattle.kr_lex.specs.Gaps.{white}
use Rattle.kr_lex.proofs.Fronts.{char_some}
use Rattle.kr_lex.proofs.piece.plain_piece.Goals as goal

pub bounds-text-0 : goal.bounds-text-0
bounds-text-0 c = char_some c.args.text.now c.requires.character.rest c.requires.character.char c.requires.character.spelled

pub returns-then-is_white : goal.returns-then-is_white
returns-then-is_white c =
    let text = c.args.text.now in
    let some : 0 < length text = char_some text c.requires.character.rest c.requires.character.char c.requires.character.spelled in
    let front : take 1 text ≡ slice_index text 0 ∷ [] = take_more text 0 0 some in
    (omega arith, some, white (slice_index text 0) front (sym c.is_white.ensures ∙ c.if-is_white.true))
