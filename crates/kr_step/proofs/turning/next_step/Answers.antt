use Rattle.std.proofs.Common.{refl, arith}
use Rattle.kr_step.proofs.Limits.{ends, front_is_allowed, front_is_in, front_of, last_of, last_open, opens_to}
use Rattle.kr_step.proofs.turning.next_step.Goals as goal

pub limit_above-requires-clause-path : goal.limit_above-requires-clause-path
limit_above-requires-clause-path g c =
    let S = g.C.Slots.space c.args.candidates.now in
    let path = c.args.path.now in
    let e = ends path c.if-count-eq0.false in
    (front_is_in S path (front_of path) (last_of path) e c.requires.path).0

pub limit_above-requires-clause-allowed : goal.limit_above-requires-clause-allowed
limit_above-requires-clause-allowed g c =
    let S = g.C.Slots.space c.args.candidates.now in
    let path = c.args.path.now in
    let e = ends path c.if-count-eq0.false in
    front_is_allowed S path (front_of path) (last_of path) e c.requires.allowed

pub limit_above-requires-clause-slot : goal.limit_above-requires-clause-slot
limit_above-requires-clause-slot g c =
    let S = g.C.Slots.space c.args.candidates.now in
    let path = c.args.path.now in
    let e = ends path c.if-count-eq0.false in
    (front_is_in S path (front_of path) (last_of path) e c.requires.path).1

pub limit_above-requires-clause-known : goal.limit_above-requires-clause-known
limit_above-requires-clause-known g c =
    let S = g.C.Slots.space c.args.candidates.now in
    let path = c.args.path.now in
    let e = ends path c.if-count-eq0.false in
    last_open S path (front_of path) (last_of path) c.args.limit.now e c.requires.opens

pub returns-then-index-limit-clause-opens : goal.returns-then-index-limit-clause-opens
returns-then-index-limit-clause-opens g c =
    let S = g.C.Slots.space c.args.candidates.now in
    let path = c.args.path.now in
    let e = ends path c.if-count-eq0.false in
    opens_to S path (front_of path) (last_of path) c.limit_above.result e c.limit_above.ensures

pub returns-else-index-limit-clause-opens : goal.returns-else-index-limit-clause-opens
returns-else-index-limit-clause-opens g c =
    let S = g.C.Slots.space c.args.candidates.now in
    let path = c.args.path.now in
    let e = ends path c.if-count-eq0.false in
    opens_to S path (front_of path) (last_of path) c.limit_above.result e c.limit_above.ensures

pub returns-then-index-limit-clause-next : goal.returns-then-index-limit-clause-next
returns-then-index-limit-clause-next g c =
    let path = c.args.path.now in
    let e = ends path c.if-count-eq0.false in
    let below = c.if-index-limit.true in
    record { front = front_of path; index = (last_of path).1; path_is = e; next = refl; below = omega (arith, below) }
