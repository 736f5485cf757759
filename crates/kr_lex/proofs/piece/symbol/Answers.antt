use Rattle.std.proofs.Common.{◌≡◌, ◌+◌, false, length, drop, refl, ap, ◌∙◌, arith, length-append}
use Rattle.std.proofs.lemmas.Bool.{both_ways}
use Rattle.kr_lex.specs.Spelling.{spelling}
use Rattle.kr_lex.specs.Spells.{anywhere}
use Rattle.kr_lex.proofs.Fronts.{char_some}
use Rattle.kr_lex.proofs.Longest.{fixed_longest, stray}
use Rattle.kr_lex.proofs.piece.symbol.Goals as goal

pub longest_fixed-requires : goal.longest_fixed-requires
longest_fixed-requires c = char_some c.args.text.now c.requires.character.rest c.requires.character.char c.requires.character.spelled

pub returns-in-Some : goal.returns-in-Some
returns-in-Some c =
    let text = c.args.text.now in
    let kind = c.in-Some.kind in
    let h = c.in-Some.ensures.found in
    let size : length c.spelling.result.now ≡ length (spelling kind) = ap length c.spelling.ensures in
    let whole : length text ≡ length (spelling kind) + length (drop (length (spelling kind)) text) =
    ap length h.spelled ∙ length-append (spelling kind) (drop (length (spelling kind)) text) in
    (omega (arith, h.some, size), omega (arith, whole, size), anywhere (fixed_longest text c.requires kind (length c.spelling.result.now) size h))

pub returns-else-begins_escape : goal.returns-else-begins_escape
returns-else-begins_escape c = (
  stray c.args.text.now c.requires c.in-None.ensures.none (λ e. both_ways c.begins_escape.result c.if-begins_escape.false (c.begins_escape.ensures.1 e)),
  λ i kind part rest e t. both_ways false refl i,
)
