use Rattle.std.proofs.Common.{◌<◌, length, take, refl, arith}
use Rattle.std.proofs.lemmas.List.{length-take-le}
use Rattle.kr_lex.specs.declared.kind.Kind.TheVariants as kinds
use Rattle.kr_lex.specs.Words.{name, fixed}
use Rattle.kr_lex.specs.Spells.{anywhere}
use Rattle.kr_lex.proofs.Longest.{word_name, word_some, name_longest}
use Rattle.kr_lex.proofs.piece.name.Goals as goal

pub fixed_word-requires : goal.fixed_word-requires
fixed_word-requires c =
    let w = c.word_len-len.ensures in
    omega (arith, word_some c.args.text.now c.word_len-len.result w c.requires, length-take-le c.word_len-len.result c.args.text.now w.within)

pub returns-in-Some : goal.returns-in-Some
returns-in-Some c =
    let text = c.args.text.now in
    let n = c.word_len-len.result in
    let w = c.word_len-len.ensures in
    let some : 0 < n = word_some text n w c.requires in
    let long : 0 < length (take n text) = omega (arith, some, length-take-le n text w.within) in
    (some, w.within, anywhere (name_longest text n w c.in-Some.kind c.requires (fixed long c.in-Some.ensures.found)))

pub returns-in-None : goal.returns-in-None
returns-in-None c =
    let text = c.args.text.now in
    let n = c.word_len-len.result in
    let w = c.word_len-len.ensures in
    (word_some text n w c.requires, w.within, anywhere (name_longest text n w kinds.Identifier c.requires (name refl (word_name text n w c.requires) c.in-None.ensures.none)))
