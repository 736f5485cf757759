use Rattle.std.proofs.Common.{◌≡◌, ◌<◌, ◌++◌, ◌∷◌, [], ◌∙◌, ℕ, List, Vec, Global, ap, arith, length, refl, subst, vec_len, vec_capacity}
use Rattle.kr_survey.specs.Joins.{lists}
use Rattle.kr_board.proofs.Lists.{length-lists}
use Rattle.kr_board.proofs.Fronts.{Moved, moves_on, some_left, last_taken, last_left}
use Rattle.kr_board.proofs.edits.take_front.Goals as goal
use Rattle.kr_core.proofs.Places.{inserted}

pub loop-i-init : goal.loop-i-init
loop-i-init g c =
    let l = length-lists c.args.kept.now.items in
    record {
      taken = ap lists c.requires.none;
      left = refl;
      within = omega (arith, l, c.requires.within);
      len = c.args.front.ok.0 ∙ ap (λ (ks : List (Vec g.row.R.Denot Global)). length ks) c.requires.none;
      room = c.requires.room;
    }

pub move_first-requires-clause-some : goal.move_first-requires-clause-some
move_first-requires-clause-some g c =
    some_left (lists c.args.kept.now.items) c.args.gone c.loop-i.i c.loop-i.kept.items c.loop-i.front c.loop-i.invariant (omega (arith, c.loop-i-test.true))

pub loop-i-preserved : goal.loop-i-preserved
loop-i-preserved g c =
    moves_on (lists c.args.kept.now.items) c.args.gone c.loop-i.i c.loop-i.kept.items c.move_first.new.kept.items c.loop-i.front c.move_first.new.front c.loop-i.invariant c.move_first.ensures.moved c.move_first.ensures.len c.move_first.ensures.capacity

pub replace_first-last-requires : goal.replace_first-last-requires
replace_first-last-requires g c =
    some_left (lists c.args.kept.now.items) c.args.gone c.loop-i.i c.loop-i.kept.items c.loop-i.front c.loop-i.invariant (omega (arith, c.loop-i.auto.i-end))

pub returns-clause-taken : goal.returns-clause-taken
returns-clause-taken g c =
    let old = lists c.args.kept.now.items in
    let end : c.loop-i.i ≡ c.args.gone = omega (arith, c.loop-i-test.false, c.loop-i.auto.i-end) in
    let m : Moved old c.args.gone c.args.gone c.loop-i.kept.items c.loop-i.front = subst (λ (k : ℕ). Moved old c.args.gone k c.loop-i.kept.items c.loop-i.front) end c.loop-i.invariant in
    let ml = m.len in
    let mr = m.room in
    let place : vec_len c.loop-i.front < vec_capacity c.loop-i.front = omega (arith, ml, mr) in
    last_taken old c.args.gone c.loop-i.kept.items c.loop-i.front c.push.new.self c.replace_first-last.result m c.replace_first-last.ensures.was
    (inserted c.push.result c.push.new.self.items (c.loop-i.front.items ++ c.replace_first-last.result ∷ []) c.loop-i.front.items c.push.ensures.items (c.push.ensures.succeeds place))

pub returns-clause-left : goal.returns-clause-left
returns-clause-left g c =
    let old = lists c.args.kept.now.items in
    let end : c.loop-i.i ≡ c.args.gone = omega (arith, c.loop-i-test.false, c.loop-i.auto.i-end) in
    let m : Moved old c.args.gone c.args.gone c.loop-i.kept.items c.loop-i.front = subst (λ (k : ℕ). Moved old c.args.gone k c.loop-i.kept.items c.loop-i.front) end c.loop-i.invariant in
    last_left old c.args.gone c.loop-i.kept.items c.replace_first-last.new.kept.items c.loop-i.front c.replace_first-last.result c.new.result m c.replace_first-last.ensures.was c.replace_first-last.ensures.now c.new.ensures.items
