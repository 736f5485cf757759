use Rattle.std.proofs.Common.{◌-◌, ◌<◌, ◌∙◌, length, subst, arith}
use Rattle.std.proofs.Math.ListN.{length-set}
use Rattle.kr_types_scopes.specs.declared.within.Within.{Within}
use Rattle.kr_types_scopes.specs.Newest.{IsStart}
use Rattle.kr_types_scopes.proofs.Begun.{more_starts}
use Rattle.kr_types_scopes.proofs.starts.starts_of.Goals as goal

pub loop-at-init : goal.loop-at-init
loop-at-init c = record {
  bound = omega (arith, c.nodes-nodes.ensures.count);
  long = omega (arith, c.in_ok-starts.ensures.len, c.nodes-nodes.ensures.count);
  noted = c.new-newest.ensures c.args.tree.now c.args.bindings.now;
  starts = λ i le lt. absurd (omega (arith, le, lt, c.nodes-nodes.ensures.count));
}

pub overflow_cast-branch : goal.overflow_cast-branch
overflow_cast-branch c = omega (arith, c.in_ok-starts-2.ensures.within, c.if-bindings-ge4294967295.false)

pub loop-at-preserved : goal.loop-at-preserved
loop-at-preserved c =
    let inv = c.loop-at.invariant in
    let i = c.loop-at.at - 1 in
    let s = c.in_ok-starts-2.field-0 in
    let lt : i < length c.loop-at.starts.items = omega (arith, inv.bound, inv.long, c.loop-at-test.true) in
    record {
      bound = omega (arith, inv.bound);
      long = length-set c.loop-at.starts.items i s ∙ inv.long;
      noted = c.in_ok-starts-2.ensures.noted;
      starts = more_starts c.args.tree.now c.args.bindings.now c.args.within.now.items c.loop-at.starts.items c.loop-at.at i s (omega (arith, c.loop-at-test.true)) lt inv.starts
          (subst (λ (w : Within). IsStart c.args.tree.now c.args.bindings.now w.top i s) c.at-top.ensures c.in_ok-starts-2.ensures.start);
    }
