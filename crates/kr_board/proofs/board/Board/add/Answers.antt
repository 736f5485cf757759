use Rattle.std.proofs.Common.{◌≡◌, ◌+◌, ◌-◌, ◌^◌, ◌≤◌, ◌++◌, ◌∷◌, [], ◌∙◌, true, sym, ap, subst, refl, arith, length, List, vec_len, vec_capacity}
use Rattle.kr_survey.specs.Joins.{lists, joined}
use Rattle.kr_core.specs.declared.segment.Segment.{Segment}
use Rattle.kr_core.specs.declared.event.Event.{Event}
use Rattle.kr_core.specs.Steps.{fits}
use Rattle.kr_board.specs.Held.{Held}
use Rattle.kr_board.specs.Boards.{Adds}
use Rattle.kr_board.specs.Windows.{Admits}
use Rattle.kr_board.proofs.Adding.{within_there, within_same, kept_there, Grows, pushed_len, pushed_items, added_sound}
use Rattle.kr_board.proofs.Windows.{stays_in_window}
use Rattle.kr_board.proofs.board.Board.add.Goals as goal

pub make_room-requires : goal.make_room-requires
make_room-requires g c = within_there c.self.inside.core c.self.inside.kept.items c.self.inside.log c.edit_of-edit.result c.args.logged c.self.invariant.0 c.edit_of-edit.ensures

pub write-requires-clause-within : goal.write-requires-clause-within
write-requires-clause-within g c =
    within_same c.self.inside.kept.items c.make_room.new.kept.items c.edit_of-edit.result c.make_room.ensures.same
    (within_there c.self.inside.core c.self.inside.kept.items c.self.inside.log c.edit_of-edit.result c.args.logged c.self.invariant.0 c.edit_of-edit.ensures)

pub invariant_of-self-in-Ok-apply : goal.invariant_of-self-in-Ok-apply
invariant_of-self-in-Ok-apply g c =
    let core = c.self.inside.core in
    let fit : fits core c.args.event ≡ true = subst (λ (o : Held g.row.R.Denot). fits o.core c.args.event ≡ true) (sym c.self.view_is) c.requires.fits in
    let few : length c.args.rows.items ≤ (2 ^ 64 - 1) - length (joined (lists c.self.inside.kept.items)) =
    subst (λ (o : Held g.row.R.Denot). length c.args.rows.items ≤ (2 ^ 64 - 1) - length (joined o.kept)) (sym c.self.view_is) c.requires.few in
    let n : length c.segments.result.now ≡ length core.segments = ap (λ (ss : List Segment). length ss) c.segments.ensures in
    let mid = c.make_log_room.new.log in
    let room : vec_len mid + (length core.segments + 2) ≤ vec_capacity mid = omega (arith, c.in-Ok.ensures.room, n) in
    let grows : Grows c.self.inside.log mid c.push.new.self (length core.segments) =
    pushed_len c.self.inside.log mid c.push.new.self (length core.segments) c.push.result c.make_log_room.ensures.len room c.push.ensures.len c.push.ensures.succeeds c.push.ensures.capacity in
    let is = kept_there core c.self.inside.kept.items c.make_room.new.kept.items c.write.new.kept.items c.self.inside.log c.edit_of-edit.result c.args.event c.args.logged c.args.rows.items c.self.invariant.0 c.edit_of-edit.ensures c.requires.same fit c.requires.kind c.make_room.ensures.same c.write.ensures in
    let old : Held g.row.R.Denot = record { core = core; kept = lists c.self.inside.kept.items; log = c.self.inside.log.items; window = c.self.inside.window } in
    let admits : Admits old c.args.event (length c.args.rows.items) = subst (λ (o : Held g.row.R.Denot). Admits o c.args.event (length c.args.rows.items)) (sym c.self.view_is) c.requires.admits in (
      added_sound core (lists c.self.inside.kept.items) c.self.inside.log mid c.push.new.self c.args.event c.in-Ok-apply.reply c.apply.new.self c.args.rows.items (lists c.write.new.kept.items) c.self.invariant.0 c.in-Ok-apply.ensures.step is c.requires.brings few grows,
      stays_in_window old c.args.event c.args.rows.items (lists c.write.new.kept.items) c.self.invariant.0.counted is c.self.invariant.1 admits,
    )

pub returns-in-Ok-apply-clause-added : goal.returns-in-Ok-apply-clause-added
returns-in-Ok-apply-clause-added g c =
    let core = c.self.inside.core in
    let fit : fits core c.args.event ≡ true = subst (λ (o : Held g.row.R.Denot). fits o.core c.args.event ≡ true) (sym c.self.view_is) c.requires.fits in
    let n : length c.segments.result.now ≡ length core.segments = ap (λ (ss : List Segment). length ss) c.segments.ensures in
    let mid = c.make_log_room.new.log in
    let room : vec_len mid + (length core.segments + 2) ≤ vec_capacity mid = omega (arith, c.in-Ok.ensures.room, n) in
    let is = kept_there core c.self.inside.kept.items c.make_room.new.kept.items c.write.new.kept.items c.self.inside.log c.edit_of-edit.result c.args.event c.args.logged c.args.rows.items c.self.invariant.0 c.edit_of-edit.ensures c.requires.same fit c.requires.kind c.make_room.ensures.same c.write.ensures in
    let old : Held g.row.R.Denot = record { core = core; kept = lists c.self.inside.kept.items; log = c.self.inside.log.items; window = c.self.inside.window } in
    let new : Held g.row.R.Denot = record { core = c.apply.new.self; kept = lists c.write.new.kept.items; log = c.push.new.self.items; window = c.self.inside.window } in
    let logged : c.push.new.self.items ≡ c.self.inside.log.items ++ c.args.event ∷ [] =
    pushed_items mid c.push.new.self (length core.segments) c.args.logged c.push.result room c.push.ensures.items c.push.ensures.succeeds
    ∙ (ap (λ (es : List Event). es ++ c.args.logged ∷ []) c.make_log_room.ensures.items ∙ ap (λ (e : Event). c.self.inside.log.items ++ e ∷ []) c.requires.same) in
    let adds : Adds old c.args.event c.in-Ok-apply.reply c.args.rows.items new = record { step = c.in-Ok-apply.ensures.step; kept = is; logged = logged; window = refl } in
    subst (λ (o : Held g.row.R.Denot). Adds o c.args.event c.in-Ok-apply.reply c.args.rows.items new) c.self.view_is adds
