use Rattle.std.proofs.Common.{◌++◌, refl, append_assoc}
use Rattle.std.specs.Prelude.{codes}
use Rattle.kr_base.specs.Cuts.{cut_text}
use Rattle.kr_base.specs.Writing.{stopped_then, stopped_early, added_then, writes_exit, writes_then}
use Rattle.kr_shard.proofs.faults.put_gap.Goals as goal

pub returns-in_err-put_cut : goal.returns-in_err-put_cut
returns-in_err-put_cut g c =
    let head = codes "gap " ++ cut_text c.args.to.now in
    let tail = codes " " ++ cut_text c.args.from.now in
    writes_exit c.from_residual.result c.from_residual.ensures.0
    (stopped_early (tail ++ codes "\n") c.in_err-put_cut.ensures (append_assoc head tail (codes "\n")))

pub returns-in_err-put_cut-2 : goal.returns-in_err-put_cut-2
returns-in_err-put_cut-2 g c =
    writes_exit c.from_residual-in_err-put_cut-2.result c.from_residual-in_err-put_cut-2.ensures.0
    (stopped_early (codes "\n") (stopped_then c.in_ok-put_cut.ensures c.in_err-put_cut-2.ensures refl) refl)

pub returns : goal.returns
returns g c = writes_then c.put_all.new.out (codes "\n") c.put_all.result (added_then c.in_ok-put_cut.ensures c.in_ok-put_cut-2.ensures refl) c.put_all.ensures refl
