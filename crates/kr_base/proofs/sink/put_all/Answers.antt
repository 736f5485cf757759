use Rattle.std.proofs.Common.{◌++◌, take, sym, refl, append-nil, ap, ◌∙◌, arith}
use Rattle.std.proofs.lemmas.Grind.{common_steps}
use Rattle.kr_base.specs.Writing.{stopped_then, stopped_early, added_then, writes_exit}
use Rattle.kr_base.proofs.sink.put_all.Goals as goal

pub returns-in_err-count : goal.returns-in_err-count
returns-in_err-count g c =
    writes_exit c.from_residual.result c.from_residual.ensures.0
    (stopped_early c.loop-rest.rest.now (stopped_then c.loop-rest.invariant.2 c.in_err-count.ensures refl)
    (c.loop-rest.invariant.1 ∙ ap (λ u. u ++ c.loop-rest.rest.now) (sym (append-nil c.loop-rest.invariant.0))))

pub loop-rest-preserved : goal.loop-rest-preserved
loop-rest-preserved g c =
    let h = c.in_ok-count.ensures in
    (c.loop-rest.invariant.0 ++ take c.in_ok-count.count c.loop-rest.rest.now, grind (arith, common_steps), added_then c.loop-rest.invariant.2 h.2 refl)
