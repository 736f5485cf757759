use Rattle.std.proofs.Common.{◌∷◌, sym, arith}
use Rattle.kr_survey.specs.Joins.{lists}
use Rattle.kr_deque_hands.proofs.Made.{built_count, removed, given_ok, not_zero}
use Rattle.kr_deque_hands.proofs.work.Work.start.Goals as goal

pub finish-requires-clause-some : goal.finish-requires-clause-some
finish-requires-clause-some g c =
    let n = built_count c.remove-first.result.items c.remove-first.new.self.items c.in_ok-building.building c.in_ok-building.ensures in
    let o = c.remove-first.new.self.ok.0 in
    let l = c.len-count.ensures in
    let p = not_zero _ c.if-count-eq0.false in
    omega (arith, n, o, l, p)

pub finish-requires-clause-few : goal.finish-requires-clause-few
finish-requires-clause-few g c =
    let n = built_count c.remove-first.result.items c.remove-first.new.self.items c.in_ok-building.building c.in_ok-building.ensures in
    let o = c.remove-first.new.self.ok.0 in
    let s = c.args.spans.ok.0 in
    let l = c.remove-first.ensures.len in
    let most = c.requires.count.1 in
    omega (arith, n, o, s, l, most)

pub returns-clause-given : goal.returns-clause-given
returns-clause-given g c =
    let first = c.remove-first.result in
    let rest = c.remove-first.new.self.items in
    given_ok c.finish.result (first.items ∷ lists rest) (lists c.args.spans.items) (sym (removed c.args.spans.items first rest c.requires.count.0 c.remove-first.ensures.value c.remove-first.ensures.by_index.2))
    (c.finish.ensures.given (first.items ∷ lists rest) c.in_ok-building.ensures)
