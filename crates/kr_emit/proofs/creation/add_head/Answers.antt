use Rattle.kr_emit_meaning.specs.Builders.{local_text}
use Rattle.kr_emit.proofs.Lines.{head_added}
use Rattle.kr_text.specs.Lines.{line_bytes}
use Rattle.kr_emit.proofs.creation.add_head.Goals as goal

pub returns : goal.returns
returns c =
    let kind = c.args.kind in
    head_added c.add_all-2.result (line_bytes c.args.line.now) (line_bytes c.add_all.new.line) (line_bytes c.add_local.new.line) (line_bytes c.add_all-2.new.line) kind.outer.now kind.dot.now kind.name.now c.args.brackets.now (local_text c.args.objects.now c.args.object)
    c.in_ok-add_all.ensures c.in_ok-add_local.ensures c.add_all-2.ensures
