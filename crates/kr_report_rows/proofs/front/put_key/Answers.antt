use Rattle.std.proofs.Common.{◌≡◌, ◌++◌, ◌+◌, drop, get_or, refl, decimal, arith}
use Rattle.std.specs.Prelude.{flat_map}
use Rattle.std.proofs.lemmas.Grind.{common_steps}
use Rattle.kr_base.specs.Cuts.{cut_text, dotted}
use Rattle.kr_base.specs.Writing.{stopped_then, stopped_early, added_then, writes_exit}
use Rattle.kr_base.proofs.Texts.{sent_more}
use Rattle.kr_report_rows.proofs.front.put_key.Goals as goal

pub returns-in_err-put_number : goal.returns-in_err-put_number
returns-in_err-put_number g c =
    let whole : cut_text c.args.key.now ≡ decimal c.in-Some.first.now ++ flat_map dotted c.in-Some.rest.now = grind (arith, common_steps, c.numbers.ensures) in
    writes_exit c.from_residual.result c.from_residual.ensures.0
    (stopped_early (flat_map dotted c.in-Some.rest.now) c.in_err-put_number.ensures whole)

pub returns-in_err-put_dotted : goal.returns-in_err-put_dotted
returns-in_err-put_dotted g c =
    let i = c.loop-number.number-index in
    let rest = c.in-Some.rest.now in
    writes_exit c.from_residual-in_err-put_dotted.result c.from_residual-in_err-put_dotted.ensures.0
    (stopped_early (flat_map dotted (drop (i + 1) rest)) (stopped_then c.loop-number.invariant.2 c.in_err-put_dotted.ensures refl)
    (sent_more dotted (cut_text c.args.key.now) rest i 0 c.loop-number.invariant.0 c.loop-number-test.true c.loop-number.invariant.1))

pub loop-number-preserved : goal.loop-number-preserved
loop-number-preserved g c =
    let i = c.loop-number.number-index in
    let rest = c.in-Some.rest.now in
    let sent = c.loop-number.invariant.0 in (
      sent ++ dotted (get_or rest i 0),
      sent_more dotted (cut_text c.args.key.now) rest i 0 sent c.loop-number-test.true c.loop-number.invariant.1,
      added_then c.loop-number.invariant.2 c.in_ok-put_dotted.ensures refl,
    )
