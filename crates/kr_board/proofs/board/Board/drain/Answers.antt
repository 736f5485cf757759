use Rattle.std.proofs.Common.{◌≡◌, ◌+◌, ◌≤◌, ◌++◌, ◌∷◌, [], ◌∙◌, ℕ, List, ap, sym, subst, arith, length, refl, vec_len, vec_capacity}
use Rattle.kr_survey.specs.Joins.{lists, joined}
use Rattle.kr_core.specs.declared.segment.Segment.{Segment}
use Rattle.kr_core.specs.declared.event.Event.{Event}
use Rattle.kr_core.specs.declared.event.Event.TheVariants.{Drain}
use Rattle.kr_core.specs.declared.event.Reply.TheVariants.{Noted}
use Rattle.kr_core.specs.Beside.{fronts}
use Rattle.kr_board.specs.Held.{Held}
use Rattle.kr_board.specs.Boards.{Adds}
use Rattle.kr_board.specs.Closing.{front_rows}
use Rattle.kr_board.proofs.Adding.{lists_aligned, Grows, pushed_len, pushed_items, added_sound}
use Rattle.kr_board.proofs.Draining.{gone-fewer, front-count, are_next, drain_stays}
use Rattle.kr_board.proofs.Drained.{drained_left, drained_front}
use Rattle.kr_board.proofs.Windows.{stays_in_window}
use Rattle.kr_board.proofs.board.Board.drain.Goals as goal

pub take_front-front-requires-clause-within : goal.take_front-front-requires-clause-within
take_front-front-requires-clause-within g c =
    let fewer = gone-fewer c.self.inside.core.segments c.self.invariant.0.core_kept.some in
    let same = lists_aligned c.self.inside.core c.self.inside.kept.items c.self.inside.log c.self.invariant.0 in
    omega (arith, fewer, same, c.gone_count-gone.ensures)

pub take_front-front-requires-clause-room : goal.take_front-front-requires-clause-room
take_front-front-requires-clause-room g c =
    let fewer = gone-fewer c.self.inside.core.segments c.self.invariant.0.core_kept.some in
    let n : length c.segments-count.result.now ≡ length c.self.inside.core.segments = ap (λ (ss : List Segment). length ss) c.segments-count.ensures in
    omega (arith, fewer, n, c.gone_count-gone.ensures, c.in_ok-front.ensures.exact)

pub invariant_of-self-2 : goal.invariant_of-self-2
invariant_of-self-2 g c =
    let core = c.self.inside.core in
    let kept = lists c.self.inside.kept.items in
    let k = c.self.invariant.0 in
    let n : length c.segments.result.now ≡ length core.segments = ap (λ (ss : List Segment). length ss) c.segments.ensures in
    let mid = c.make_log_room.new.log in
    let room : vec_len mid + (length core.segments + 2) ≤ vec_capacity mid = omega (arith, c.in_ok-make_log_room.ensures.room, n) in
    let none : List g.row.R.Denot = [] in
    let grows : Grows c.self.inside.log mid c.push.new.self (length core.segments) =
    pushed_len c.self.inside.log mid c.push.new.self (length core.segments) c.push.result c.make_log_room.ensures.len room c.push.ensures.len c.push.ensures.succeeds c.push.ensures.capacity in
    let is = drained_left core kept (lists c.take_front-front.new.kept.items) c.self.inside.log c.gone_count-gone.result k c.gone_count-gone.ensures c.take_front-front.ensures.left in
    let old : Held g.row.R.Denot = record { core = core; kept = kept; log = c.self.inside.log.items; window = c.self.inside.window } in (
      added_sound core kept c.self.inside.log mid c.push.new.self (Drain c.front_rows-rows.result) Noted c.drain_in.new.core none (lists c.take_front-front.new.kept.items) k c.drain_in.ensures is refl (omega arith) grows,
      stays_in_window old (Drain c.front_rows-rows.result) none (lists c.take_front-front.new.kept.items) k.counted is c.self.invariant.1 tt,
    )

pub returns-clause-rows : goal.returns-clause-rows
returns-clause-rows g c =
    let old : Held g.row.R.Denot = record { core = c.self.inside.core; kept = lists c.self.inside.kept.items; log = c.self.inside.log.items; window = c.self.inside.window } in
    let front : lists c.take_front-front.result.items ≡ fronts c.self.inside.core.segments (lists c.self.inside.kept.items) =
    drained_front c.self.inside.core (lists c.self.inside.kept.items) (lists c.take_front-front.result.items) c.self.inside.log c.gone_count-gone.result c.self.invariant.0 c.gone_count-gone.ensures c.take_front-front.ensures.taken in
    let here : c.new.result ≡ front_rows old = c.new.ensures ∙ ap (λ (ls : List (List g.row.R.Denot)). joined ls) front in
    here ∙ ap (λ (o : Held g.row.R.Denot). front_rows o) c.self.view_is

pub returns-clause-event : goal.returns-clause-event
returns-clause-event g c =
    let core = c.self.inside.core in
    let kept = lists c.self.inside.kept.items in
    let k = c.self.invariant.0 in
    let n : length c.segments.result.now ≡ length core.segments = ap (λ (ss : List Segment). length ss) c.segments.ensures in
    let mid = c.make_log_room.new.log in
    let room : vec_len mid + (length core.segments + 2) ≤ vec_capacity mid = omega (arith, c.in_ok-make_log_room.ensures.room, n) in
    let old : Held g.row.R.Denot = record { core = c.self.inside.core; kept = lists c.self.inside.kept.items; log = c.self.inside.log.items; window = c.self.inside.window } in
    let front : lists c.take_front-front.result.items ≡ fronts c.self.inside.core.segments (lists c.self.inside.kept.items) =
    drained_front c.self.inside.core (lists c.self.inside.kept.items) (lists c.take_front-front.result.items) c.self.inside.log c.gone_count-gone.result c.self.invariant.0 c.gone_count-gone.ensures c.take_front-front.ensures.taken in
    let here : c.new.result ≡ front_rows old = c.new.ensures ∙ ap (λ (ls : List (List g.row.R.Denot)). joined ls) front in
    let none : List g.row.R.Denot = [] in
    let new : Held g.row.R.Denot = record { core = c.drain_in.new.core; kept = lists c.take_front-front.new.kept.items; log = c.push.new.self.items; window = c.self.inside.window } in
    let is = drained_left core kept (lists c.take_front-front.new.kept.items) c.self.inside.log c.gone_count-gone.result k c.gone_count-gone.ensures c.take_front-front.ensures.left in
    let logged : c.push.new.self.items ≡ c.self.inside.log.items ++ Drain c.front_rows-rows.result ∷ [] =
    pushed_items mid c.push.new.self (length core.segments) (Drain c.front_rows-rows.result) c.push.result room c.push.ensures.items c.push.ensures.succeeds
    ∙ ap (λ (es : List Event). es ++ Drain c.front_rows-rows.result ∷ []) c.make_log_room.ensures.items in
    let count : c.front_rows-rows.result ≡ length c.new.result = c.front_rows-rows.ensures ∙ (front-count core kept c.self.inside.log k ∙ ap (λ (l : List g.row.R.Denot). length l) (sym here)) in
    let adds : Adds old (Drain c.front_rows-rows.result) Noted none new = record { step = c.drain_in.ensures; kept = is; logged = logged; window = refl } in
    subst (λ (o : Held g.row.R.Denot). Adds o (Drain (length c.new.result)) Noted none new) c.self.view_is (subst (λ (m : ℕ). Adds old (Drain m) Noted none new) count adds)

pub returns-clause-next : goal.returns-clause-next
returns-clause-next g c =
    let old : Held g.row.R.Denot = record { core = c.self.inside.core; kept = lists c.self.inside.kept.items; log = c.self.inside.log.items; window = c.self.inside.window } in
    let front : lists c.take_front-front.result.items ≡ fronts c.self.inside.core.segments (lists c.self.inside.kept.items) =
    drained_front c.self.inside.core (lists c.self.inside.kept.items) (lists c.take_front-front.result.items) c.self.inside.log c.gone_count-gone.result c.self.invariant.0 c.gone_count-gone.ensures c.take_front-front.ensures.taken in
    let here : c.new.result ≡ front_rows old = c.new.ensures ∙ ap (λ (ls : List (List g.row.R.Denot)). joined ls) front in
    are_next c.args.self.now c.new.result (here ∙ ap (λ (o : Held g.row.R.Denot). front_rows o) c.self.view_is)

pub returns-clause-stays : goal.returns-clause-stays
returns-clause-stays g c =
    let old : Held g.row.R.Denot = record { core = c.self.inside.core; kept = lists c.self.inside.kept.items; log = c.self.inside.log.items; window = c.self.inside.window } in
    let front : lists c.take_front-front.result.items ≡ fronts c.self.inside.core.segments (lists c.self.inside.kept.items) =
    drained_front c.self.inside.core (lists c.self.inside.kept.items) (lists c.take_front-front.result.items) c.self.inside.log c.gone_count-gone.result c.self.invariant.0 c.gone_count-gone.ensures c.take_front-front.ensures.taken in
    let here : c.new.result ≡ front_rows old = c.new.ensures ∙ ap (λ (ls : List (List g.row.R.Denot)). joined ls) front in
    drain_stays c.args.self.now c.new.result Noted _ (here ∙ ap (λ (o : Held g.row.R.Denot). front_rows o) c.self.view_is) (returns-clause-event g c)
