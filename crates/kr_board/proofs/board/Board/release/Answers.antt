use Rattle.std.proofs.Common.{[], refl, subst}
use Rattle.kr_survey.specs.Joins.{lists}
use Rattle.kr_core.specs.declared.event.Event.TheVariants.{GiveUp}
use Rattle.kr_core.specs.declared.event.Reply.TheVariants.{Noted}
use Rattle.kr_board.specs.Held.{Held}
use Rattle.kr_board.specs.Boards.{Adds}
use Rattle.kr_board.proofs.Releasing.{released_sound, released_room}
use Rattle.kr_board.proofs.board.Board.release.Goals as goal
use Rattle.kr_core.proofs.Places.{inserted}

pub invariant_of-self : goal.invariant_of-self
invariant_of-self g c = (released_sound c.self.inside.core _ c.self.inside.log c.push.new.self c.args.seat c.args.segment _ c.give_up_in.new.core c.push.result c.self.invariant.0 c.give_up_in.ensures c.push.ensures.len c.push.ensures.succeeds c.push.ensures.capacity, c.self.invariant.1)

pub returns : goal.returns
returns g c =
    let old : Held g.row.R.Denot = record { core = c.self.inside.core; kept = lists c.self.inside.kept.items; log = c.self.inside.log.items; window = c.self.inside.window } in
    let new : Held g.row.R.Denot = record { core = c.give_up_in.new.core; kept = lists c.self.inside.kept.items; log = c.push.new.self.items; window = c.self.inside.window } in
    let place = released_room c.self.inside.core c.args.seat c.args.segment Noted c.give_up_in.new.core c.self.inside.log c.self.invariant.0.room c.give_up_in.ensures in
    let adds : Adds old (GiveUp c.args.seat c.args.segment) Noted [] new = record {
      step = c.give_up_in.ensures;
      kept = refl;
      logged = inserted c.push.result c.push.new.self.items _ c.self.inside.log.items c.push.ensures.items (c.push.ensures.succeeds place);
      window = refl;
    } in
    subst (λ (o : Held g.row.R.Denot). Adds o (GiveUp c.args.seat c.args.segment) Noted [] new) c.self.view_is adds
