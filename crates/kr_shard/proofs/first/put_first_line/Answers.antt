use Rattle.std.proofs.Common.{◌++◌, refl, append_assoc}
use Rattle.std.specs.Prelude.{codes}
use Rattle.kr_base.specs.Writing.{stopped_then, stopped_early, added_then, writes_exit, writes_then}
use Rattle.kr_shard.specs.Texts.{from_text, to_text}
use Rattle.kr_shard.proofs.first.put_first_line.Goals as goal

pub returns-in_err-put_head : goal.returns-in_err-put_head
returns-in_err-put_head g c =
    let head = codes "shard " ++ from_text c.args.after.now in
    let tail = codes " " ++ to_text c.args.upto.now in
    writes_exit c.from_residual.result c.from_residual.ensures.0
    (stopped_early (tail ++ codes "\n") c.in_err-put_head.ensures (append_assoc head tail (codes "\n")))

pub returns-in_err-put_tail : goal.returns-in_err-put_tail
returns-in_err-put_tail g c =
    writes_exit c.from_residual-in_err-put_tail.result c.from_residual-in_err-put_tail.ensures.0
    (stopped_early (codes "\n") (stopped_then c.in_ok-put_head.ensures c.in_err-put_tail.ensures refl) refl)

pub returns : goal.returns
returns g c = writes_then c.put_all.new.out (codes "\n") c.put_all.result (added_then c.in_ok-put_head.ensures c.in_ok-put_tail.ensures refl) c.put_all.ensures refl
