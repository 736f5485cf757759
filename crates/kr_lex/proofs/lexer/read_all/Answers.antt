use Rattle.kr_lex.proofs.Steps.{nothing_read, encoding_at_end}
use Rattle.kr_lex.proofs.lexer.read_all.Goals as goal

pub loop-progress-init : goal.loop-progress-init
loop-progress-init c = rw c.requires.empty (nothing_read c.args.file c.args.bytes.now c.args.valid c.start-progress.result c.start-progress.ensures)

pub returns-then-valid-bytes-clause-refused : goal.returns-then-valid-bytes-clause-refused
returns-then-valid-bytes-clause-refused c =
    encoding_at_end c.args.file c.args.bytes.now c.args.valid c.loop-progress.items.items c.loop-progress.progress c.place.result c.requires.valid c.loop-progress.invariant
    c.loop-progress-test.false c.if-valid-bytes.true c.place.ensures
