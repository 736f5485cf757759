use Rattle.std.proofs.Common.{arith}
use Rattle.std.specs.Prelude.{None}
use Rattle.kr_classes_members.specs.Shown.{method_shown}
use Rattle.kr_code_bodies.specs.Tabled.{IsOverrider}
use Rattle.kr_code_bodies.proofs.Rows.{column_more, whole_row}
use Rattle.kr_code_bodies.proofs.Nowhere.{overrider_past}
use Rattle.kr_code_bodies.proofs.dispatch.dispatch_row.Goals as goal

pub loop-class-preserved : goal.loop-class-preserved
loop-class-preserved c =
    let files = c.args.trees.now in
    column_more None (IsOverrider files (method_shown files c.args.method)) c.loop-class.class c.loop-class.row.items _ c.overrider.result c.loop-class.invariant c.in_ok-push.ensures.items c.overrider.ensures

pub returns : goal.returns
returns c =
    let files = c.args.trees.now in
    let count = c.len-count.ensures.all files c.requires.members in
    whole_row None (IsOverrider files (method_shown files c.args.method)) c.loop-class.class c.loop-class.row.items c.loop-class.invariant (λ d l. overrider_past files d (omega (arith, l, count)) (method_shown files c.args.method))
