use Rattle.std.proofs.Common.{arith}
use Rattle.std.proofs.lemmas.List.{drop_all, take_rest}
use Rattle.kr_lex.proofs.Fronts.{ends_nothing, word_more}
use Rattle.kr_lex.proofs.words.word_len.Goals as goal

pub loop-len-preserved : goal.loop-len-preserved
loop-len-preserved c =
    let h = c.loop-len.invariant in
    word_more c.args.text.now h.1.0 c.loop-len.len c.part_len-more.result h.0 h.1.1 h.1.2 (rw (take_rest c.args.text.now c.loop-len.len) at (c.part_len-more.ensures.some (omega arith)))

pub returns : goal.returns
returns c =
    let h = c.loop-len.invariant in
    record {
      chars = h.1.0;
      parts = h.1.1;
      spelled = h.1.2;
      longest = rw (drop_all c.loop-len.len c.args.text.now c.loop-len-test.false) ends_nothing;
      within = h.0;
    }
