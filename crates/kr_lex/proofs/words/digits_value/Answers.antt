use Rattle.std.proofs.Common.{arith}
use Rattle.kr_lex.proofs.Numbers.{value_more}
use Rattle.kr_lex.proofs.words.digits_value.Goals as goal

pub overflow_mul-value : goal.overflow_mul-value
overflow_mul-value c =
    let more = value_more c.args.word.now c.loop-b.b-index c.loop-b.value c.requires c.loop-b-test.true c.loop-b.invariant in omega (arith, more.2)

pub overflow_sub-value : goal.overflow_sub-value
overflow_sub-value c = (value_more c.args.word.now c.loop-b.b-index c.loop-b.value c.requires c.loop-b-test.true c.loop-b.invariant).0

pub overflow_add-value : goal.overflow_add-value
overflow_add-value c =
    let more = value_more c.args.word.now c.loop-b.b-index c.loop-b.value c.requires c.loop-b-test.true c.loop-b.invariant in omega (arith, more.2)

pub loop-b-preserved : goal.loop-b-preserved
loop-b-preserved c = (value_more c.args.word.now c.loop-b.b-index c.loop-b.value c.requires c.loop-b-test.true c.loop-b.invariant).1
