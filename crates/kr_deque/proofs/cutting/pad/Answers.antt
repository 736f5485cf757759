use Rattle.std.proofs.Common.{◌≡◌, [], ◌∷◌, ◌∙◌, ap, length, length-append, arith}
use Rattle.kr_deque.proofs.Cuts.{filled_step, filled_all}
use Rattle.kr_deque.proofs.cutting.pad.Goals as goal

pub loop-alloc-preserved : goal.loop-alloc-preserved
loop-alloc-preserved c =
    let s = c.loop-alloc.invariant in
    let items = c.in_ok-push.ensures.items in
    let a = ap length items in
    let b = length-append c.loop-alloc.spans.items (c.new.result ∷ []) in
    let d = c.loop-alloc-test.true in
    let e = c.len.ensures in
    let f = c.loop-alloc.spans.ok.0 in (
      omega (arith, a, b, s.0),
      omega (arith, a, b, d, e, f),
      filled_step c.args.spans.now.items c.loop-alloc.spans.items c.push.new.self.items c.new.result items c.new.ensures.items s.0 s.2,
    )

pub returns : goal.returns
returns c =
    let s = c.loop-alloc.invariant in
    let d = c.loop-alloc-test.false in
    let e = c.len.ensures in
    let f = c.loop-alloc.spans.ok.0 in
    let n : length c.loop-alloc.spans.items ≡ c.args.count = omega (arith, d, e, f, s.1) in
    s.2 ∙ filled_all c.args.spans.now.items (length c.loop-alloc.spans.items) c.args.count n
