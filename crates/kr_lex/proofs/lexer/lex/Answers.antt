use Rattle.kr_lex.proofs.Steps.{all_read}
use Rattle.kr_lex.proofs.lexer.lex.Goals as goal

pub returns-clause-tokens : goal.returns-clause-tokens
returns-clause-tokens c =
    let bytes = c.args.bytes.now in
    let items = c.read_all.new.items.items in
    rw (c.new.ensures, c.in_ok-source.ensures)
    (all_read c.args.file bytes c.valid_len-valid.result items c.in_ok-progress.progress c.place.result c.valid_len-valid.ensures c.in_ok-progress.ensures.read c.in_ok-progress.ensures.whole c.place.ensures)
