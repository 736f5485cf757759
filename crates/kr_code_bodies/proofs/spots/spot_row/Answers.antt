use Rattle.std.proofs.Common.{arith}
use Rattle.std.specs.Prelude.{None}
use Rattle.kr_classes_members.specs.Shown.{field_shown}
use Rattle.kr_code_bodies.specs.Tabled.{IsSpot}
use Rattle.kr_code_bodies.proofs.Rows.{column_more, whole_row}
use Rattle.kr_code_bodies.proofs.Nowhere.{spot_past}
use Rattle.kr_code_bodies.proofs.spots.spot_row.Goals as goal

pub loop-class-preserved : goal.loop-class-preserved
loop-class-preserved c =
    let files = c.args.trees.now in
    column_more None (IsSpot files (field_shown files c.args.field)) c.loop-class.class c.loop-class.row.items _ c.spot.result c.loop-class.invariant c.in_ok-push.ensures.items c.spot.ensures

pub returns : goal.returns
returns c =
    let files = c.args.trees.now in
    let count = c.requires.fields.count in
    whole_row None (IsSpot files (field_shown files c.args.field)) c.loop-class.class c.loop-class.row.items c.loop-class.invariant (λ d l. spot_past files d (omega (arith, l, count)) (field_shown files c.args.field))
