use Rattle.std.proofs.Common.{arith, refl, sym, false}
use Rattle.kr_core.specs.Steps.{scanned}
use Rattle.kr_trace.specs.Chains.{with}
use Rattle.kr_trace.proofs.Numbered.{beyond, written_at}
use Rattle.kr_trace.proofs.nodes.scan_to.Goals as goal

pub returns-then-number-len : goal.returns-then-number-len
returns-then-number-len c =
    let nodes = c.args.nodes.now in
    written_at nodes.items c.args.number (with (scanned c.args.reach c.args.rows c.args.tried false)) c.index_mut.result.now _ (omega (arith, c.if-number-len.true, c.len.ensures, nodes.ok.0)) c.index_mut.ensures.value
    (cc (c.owner_behind-segment.ensures, c.saturating_add-segment.ensures, c.saturating_add-segment-then-number-len.ensures))

pub returns-else-number-len : goal.returns-else-number-len
returns-else-number-len c =
    let nodes = c.args.nodes.now in
    sym (beyond nodes.items c.args.number (with (scanned c.args.reach c.args.rows c.args.tried false)) (omega (arith, c.if-number-len.false, c.len.ensures, nodes.ok.0)))
